-- A firm and its mirror, which gives each bundle of the positions that are not given the greatest value of a bundle
-- that has it: what is locally best without such positions in the mirror is best for the firm.
use Rattle.std.proofs.Common.{◌≡◌, ℕ, ◌<◌, ◌≤◌, Bool, true, false, not, ◌&&◌, if◌then◌else◌, Option, Some, refl, sym, ap, ◌∙◌, arith, inl, inr, ℤ, ◌≤ℤ◌}
use Rattle.std.proofs.lemmas.Int.{ints}
use Rattle.std.proofs.lemmas.Bool.{cases_Bool, cases_eq, cases_lt}
use Rattle.std.proofs.lemmas.Option.{same_Some}
use Rattle.tn_base.specs.Sets.{has, minus}
use Rattle.tn_base.specs.Firm.{Firm, HasOwnBundles, IsBest}
use Rattle.tn_base.specs.Exchange.{MeetsExchange}
use Rattle.tn_base.proofs.SetLemmas.{same_set, has-zero, has-minus}
use Rattle.tn_base.proofs.FirmLemmas.{minus-toggle_in, minus-toggle_out}
use Rattle.tn_firm_laws.specs.Places.{trade_level, level, toggle_at, move}
use Rattle.tn_firm_laws.proofs.PlaceLemmas.{level-trade, toggle_at-trade, toggle_at-null, places}
use Rattle.tn_firm_laws.proofs.ExchangeLemmas.{exchange_to_places}
use Rattle.tn_firm_laws.proofs.LocalLemmas.{IsUnmoved, best_from_unmoved}

-- each bundle of the firm has at most the value of its part beside the given positions, and each value of the mirror is
-- one of such a bundle; the given positions are the best bundle of themselves
pub record IsMirror (firm : Firm) (mirror : ℕ → Option ℤ) (given : ℕ) (value : ℤ) : Type 0 where
  pub covers : (y : ℕ) (u : ℤ) → firm.worth y ≡ Some u → (v : ℤ) × (mirror (minus y given) ≡ Some v) × (u ≤ℤ v)
  pub reached : (x : ℕ) (v : ℤ) → mirror x ≡ Some v → (y : ℕ) × (minus y given ≡ x) × (firm.worth y ≡ Some v)
  pub is : firm.worth given ≡ Some value
  pub most : (y : ℕ) (u : ℤ) → minus y given ≡ 0 → firm.worth y ≡ Some u → u ≤ℤ value

-- a set without itself is empty
pub minus-self : (x : ℕ) → minus x x ≡ 0
minus-self x = same_set (minus x x) 0 (λ k. has-minus x x k ∙ by_case (has x k) ∙ sym (has-zero k))
  where
    by_case : (b : Bool) → (b && not b) ≡ false
    by_case true = refl
    by_case false = refl

-- without anything in it, the mirror has the value of the given positions
pub mirror-empty : (firm : Firm) (mirror : ℕ → Option ℤ) (given : ℕ) (value : ℤ) → IsMirror firm mirror given value
    → mirror 0 ≡ Some value
mirror-empty firm mirror given value is_mirror =
    let found = is_mirror.covers given value is_mirror.is in
    let at : mirror 0 ≡ Some found.0 = ap mirror (sym (minus-self given)) ∙ found.1 in
    let back = is_mirror.reached 0 found.0 at in
    let high = is_mirror.most back.0 found.0 back.1 back.2 in
    let low = found.2 in
    let same : found.0 ≡ value = omega (arith, ints, high, low) in
    at ∙ ap (λ (z : ℤ). Some z) same

-- the given positions are best exactly where nothing is best in the mirror
pub best_in_mirror : (firm : Firm) (mirror : ℕ → Option ℤ) (given : ℕ) (value : ℤ) → IsMirror firm mirror given value
    → IsBest firm.worth given value → IsBest mirror 0 value
best_in_mirror firm mirror given value is_mirror best = record {
  is = mirror-empty firm mirror given value is_mirror;
  most = λ x v x_is. let back = is_mirror.reached x v x_is in best.most back.0 v back.2;
}

-- ---- places

-- where a place of the firm is moved in the mirror: at null where it is given
place_in_mirror : ℕ → ℕ → ℕ → ℕ
place_in_mirror n given i = if has given i then n else i

minus-toggle_at : (n given x i : ℕ) → minus (toggle_at n x i) given
    ≡ toggle_at n (minus x given) (place_in_mirror n given i)
unfolding place_in_mirror
minus-toggle_at n given x i = elim (cases_lt i n) [
  | inr p ↦
      ap (λ (y : ℕ). minus y given) (toggle_at-null n x i p)
      ∙ sym (toggle_at-null n (minus x given) (if has given i then n else i) (high (has given i) p))
  | inl p ↦ ap (λ (y : ℕ). minus y given) (toggle_at-trade n x i p) ∙ elim (cases_Bool (has given i)) [
    | inl e ↦
        minus-toggle_out x given i e
        ∙ sym (ap (λ (b : Bool). toggle_at n (minus x given) (if b then n else i)) e
        ∙ toggle_at-null n (minus x given) n (omega arith))
    | inr e ↦
        minus-toggle_in x given i e
        ∙ sym (ap (λ (b : Bool). toggle_at n (minus x given) (if b then n else i)) e
        ∙ toggle_at-trade n (minus x given) i p)
  ]
]
  where
    high : (b : Bool) → n ≤ i → n ≤ (if b then n else i)
    high true p = omega arith
    high false p = p

minus-move : (n given i j : ℕ) → minus (move n given i j) given
    ≡ move n 0 (place_in_mirror n given i) (place_in_mirror n given j)
unfolding move
minus-move n given i j =
    minus-toggle_at n given (toggle_at n given i) j
    ∙ ap (λ (x : ℕ). toggle_at n x (place_in_mirror n given j))
    (minus-toggle_at n given given i ∙ ap (λ (x : ℕ). toggle_at n x (place_in_mirror n given i)) (minus-self given))

place_within : (n given i : ℕ) → i ≤ n → place_in_mirror n given i ≤ n
unfolding place_in_mirror
place_within n given i within = by_case (has given i)
  where
    by_case : (b : Bool) → (if b then n else i) ≤ n
    by_case true = omega arith
    by_case false = within

-- a place of the mirror below null is the same, isn't given, and has the same level as where nothing is on
same_place : (n given i : ℕ) → place_in_mirror n given i < n → (place_in_mirror n given i ≡ i) × (has given i ≡ false)
unfolding place_in_mirror
same_place n given i below = by_case (has given i) below
  where
    by_case : (b : Bool) → (if b then n else i) < n → ((if b then n else i) ≡ i) × (b ≡ false)
    by_case true p = absurd (omega (arith, p))
    by_case false p = (refl, refl)

same_level : (n buys given i : ℕ) → i < n → has given i ≡ false → level n buys 0 i ≡ level n buys given i
unfolding trade_level
same_level n buys given i below away =
    level-trade n buys 0 i below
    ∙ ap (λ (h : Bool). if has buys i then (if h then 1 else 0) else (if h then 0 else 1)) (has-zero i ∙ sym away)
    ∙ sym (level-trade n buys given i below)

can_be : (n buys given wanted i : ℕ) → (i < n → level n buys given i ≡ wanted) → place_in_mirror n given i < n
    → level n buys 0 (place_in_mirror n given i) ≡ wanted
can_be n buys given wanted i can below =
    let there = same_place n given i below in
    let inside : i < n = (let e = there.0 in omega (arith, below, e)) in
    ap (level n buys 0) there.0 ∙ same_level n buys given i inside there.1 ∙ can inside

-- ---- local to global

-- where no move improves on nothing in the mirror, none improves on the given positions
unmoved_from_mirror : (firm : Firm) (mirror : ℕ → Option ℤ) (given : ℕ) (value : ℤ) → IsMirror firm mirror given value
    → IsUnmoved (record { count = firm.count; buys = firm.buys; worth = mirror }) 0 value → IsUnmoved firm given value
unmoved_from_mirror firm mirror given value is_mirror unmoved i j other i_within j_within apart rises falls y_is =
    let there = is_mirror.covers (move firm.count given i j) other y_is in
    let at : mirror (move firm.count 0 (place_in_mirror firm.count given i) (place_in_mirror firm.count given j))
    ≡ Some there.0 =
    ap mirror (sym (minus-move firm.count given i j)) ∙ there.1 in
    let low = there.2 in
    elim (cases_eq (place_in_mirror firm.count given i) (place_in_mirror firm.count given j)) [
      | inl e ↦
          let stays : move firm.count 0 (place_in_mirror firm.count given i) (place_in_mirror firm.count given j) ≡ 0 =
          ap (move firm.count 0 (place_in_mirror firm.count given i)) (sym e)
          ∙ (places firm.count firm.buys).same 0 (place_in_mirror firm.count given i) in
          let same : there.0 ≡ value =
          same_Some there.0 value (sym at ∙ ap mirror stays ∙ mirror-empty firm mirror given value is_mirror) in
          omega (arith, ints, low, same)
      | inr d ↦
          let high = unmoved (place_in_mirror firm.count given i) (place_in_mirror firm.count given j) there.0
          (place_within firm.count given i i_within) (place_within firm.count given j j_within) d
          (can_be firm.count firm.buys given 0 i rises) (can_be firm.count firm.buys given 1 j falls) at in
          omega (arith, ints, low, high)
    ]

-- so the given positions are best
pub best_from_unmoved_mirror : (firm : Firm) (mirror : ℕ → Option ℤ) (given : ℕ) (value : ℤ) → HasOwnBundles firm
    → MeetsExchange firm
    → IsMirror firm mirror given value
    → IsUnmoved (record { count = firm.count; buys = firm.buys; worth = mirror }) 0 value
    → IsBest firm.worth given value
best_from_unmoved_mirror firm mirror given value own meets is_mirror unmoved =
    best_from_unmoved firm own (exchange_to_places firm own meets) given value is_mirror.is
    (unmoved_from_mirror firm mirror given value is_mirror unmoved)
