-- The contract on a trade, and what a firm has signed.
use Rattle.std.proofs.Common.{◌≡◌, ◌≢◌, ℕ, zero, suc, ◌+◌, ◌<◌, ◌≤◌, Bool, true, false, ◌&&◌, ◌||◌, if◌then◌else◌, List, [], ◌∷◌, length, take, slice_get, Option, Some, None, option_map, refl, sym, ap, ◌∙◌, subst, arith, inl, inr, ℤ, pos, ◌+ℤ◌, ◌*ℤ◌, neg_ℤ, not}
use Rattle.std.specs.List.{All}
use Rattle.std.proofs.lemmas.Int.{ints}
use mathlib.Core.Path.{fun_ext}
use Rattle.std.proofs.lemmas.Bool.{cases_eq, cases_lt, eq-eqb, ne_eqb, lt-ltb, or_left, or_right, or_cases, and_parts}
use Rattle.std.proofs.lemmas.Option.{same_Some, slice_get_within, get_or_from_slice_get}
use Rattle.std.proofs.lemmas.List.{get_or-set_same, get_or-set_other, get_or-take, get_or_past}
use Rattle.std.proofs.lemmas.List.Elements.{All-set}
use Rattle.std.proofs.Math.ListN.{set, length-set}
use Rattle.tn_base.specs.Arcs.{IsAtMost}
use Rattle.tn_base.specs.Sets.{has, toggle, set_of, union, minus}
use Rattle.tn_base.specs.Firm.{Firm, payments, utility}
use Rattle.tn_base.proofs.SetLemmas.{same_set, has-set_of, has-union, has-minus}
use Rattle.tn_base.proofs.SumLemmas.{sum_over-same_terms}
use Rattle.tn_model.specs.declared.ends.Ends.{Ends}
use Rattle.tn_model.specs.declared.contract.Contract.{Contract}
use Rattle.tn_model.specs.Network.{own, part}
use Rattle.tn_market.specs.Equilibrium.{prices_at}
use Rattle.tn_market.specs.Widths.{most_own}
use Rattle.tn_model.specs.Limits.{most_numerator}
use Rattle.tn_market.specs.Best.{IsSubset, IsBetween, GivesBest}
use Rattle.tn_model.specs.Prices.{price_at}
use Rattle.tn_market.specs.Signed.{is_signed, signed, signed_price, signed_bundle, contract_utility}
use Rattle.tn_outcome_laws.proofs.SignedLemmas.{no_price}
use Rattle.tn_residual.specs.Held.{contract_price, HoldsSigned, GivesPart}

-- ---- the contract on a trade

-- none of the first k contracts is on trade t
abbrev pub NoneOn : List Contract → ℕ → ℕ → Type 0
NoneOn contracts t k = (j : ℕ) (contract : Contract) → j < k → slice_get contracts j ≡ Some contract
    → contract.trade ≢ t

skipped : (first : Contract) (contracts : List Contract) (t : ℕ) → first.trade ≢ t
    → contract_price (first ∷ contracts) t ≡ contract_price contracts t
skipped first contracts t apart =
    ap (λ (b : Bool). if b || is_signed contracts t then Some (if b then first.price else signed_price contracts t)
    else None) (ne_eqb first.trade t apart)

pub price_found : (contracts : List Contract) (t k : ℕ) (contract : Contract) → NoneOn contracts t k
    → slice_get contracts k ≡ Some contract → contract.trade ≡ t
    → contract_price contracts t ≡ Some contract.price
price_found [] t k contract none is trade = absurd (cc is)
price_found (first ∷ contracts) t zero contract none is trade =
    let same = same_Some first contract is in
    ap (λ (b : Bool). if b || is_signed contracts t then Some (if b then first.price else signed_price contracts t)
    else None)
    (eq-eqb first.trade t (ap (λ (c : Contract). c.trade) same ∙ trade))
    ∙ ap (λ (c : Contract). Some c.price) same
price_found (first ∷ contracts) t (suc k) contract none is trade =
    skipped first contracts t (none 0 first (omega arith) refl)
    ∙ price_found contracts t k contract (λ j other below other_is. none (suc j) other (omega (arith, below)) other_is)
    is trade

pub price_none : (contracts : List Contract) (t : ℕ) → NoneOn contracts t (length contracts)
    → contract_price contracts t ≡ None
price_none [] t none = refl
price_none (first ∷ contracts) t none =
    skipped first contracts t (none 0 first (omega arith) refl)
    ∙ price_none contracts t (λ j other below other_is. none (suc j) other (omega (arith, below)) other_is)

-- what it says of a trade: there is such a contract
pub price_is : (contracts : List Contract) (t : ℕ) (price : ℤ) → contract_price contracts t ≡ Some price
    → (k : ℕ) × (contract : Contract) × (slice_get contracts k ≡ Some contract) × (contract.trade ≡ t)
    × (contract.price ≡ price)
price_is [] t price is = absurd (cc is)
price_is (first ∷ contracts) t price is = elim (cases_eq first.trade t) [
  | inl e ↦ (
    0,
    first,
    refl,
    e,
    same_Some _ _ (sym (ap (λ (b : Bool). if b || is_signed contracts t
        then Some (if b then first.price else signed_price contracts t) else None) (eq-eqb first.trade t e)) ∙ is),
  )
  | inr d ↦ let found = price_is contracts t price (sym (skipped first contracts t d) ∙ is) in
      (suc found.0, found.1, found.2, found.3, found.4)
]

pub price_some : (contracts : List Contract) (t : ℕ) (price : ℤ) → contract_price contracts t ≡ Some price
    → (is_signed contracts t ≡ true) × (signed_price contracts t ≡ price)
price_some contracts t price is = by_case (is_signed contracts t) is
  where
    by_case : (b : Bool) → (if b then Some (signed_price contracts t) else None) ≡ Some price → (b ≡ true)
        × (signed_price contracts t ≡ price)
    by_case true e = (refl, same_Some _ _ e)
    by_case false e = absurd (cc e)

pub price_not : (contracts : List Contract) (t : ℕ) → contract_price contracts t ≡ None → is_signed contracts t ≡ false
price_not contracts t is = by_case (is_signed contracts t) is
  where
    by_case : (b : Bool) → (if b then Some (signed_price contracts t) else None) ≡ None → b ≡ false
    by_case true e = absurd (cc e)
    by_case false e = refl

-- ---- what a firm has signed

-- whether a position is signed
on_signed : (trades : List Ends) (contracts : List Contract) (f k : ℕ) → own trades f k < length trades
    → has (signed (length trades) contracts) (own trades f k) ≡ is_signed contracts (own trades f k)
on_signed trades contracts f k inside =
    has-set_of (is_signed contracts) (length trades) (own trades f k)
    ∙ ap (λ (b : Bool). b && is_signed contracts (own trades f k)) (lt-ltb (own trades f k) (length trades) inside)

pub none_held : (trades : List Ends) (contracts : List Contract) (f held : ℕ) (list : List ℤ) → held ≡ 0
    → length list ≡ most_own → All (λ p. p ≡ pos 0) list
    → HoldsSigned trades contracts f 0 held list
unfolding set_of
none_held trades contracts f held list empty counted zeros = record {
  bundle = empty;
  counted = counted;
  small = λ k d below. subst (λ (z : ℤ). IsAtMost z most_numerator) (sym (zeros k d below)) (record {
    low =
        omega (arith, ints);
    high = omega (arith, ints);
  });
  each = λ k below. absurd (omega (arith, below));
  rest = λ k above. elim (cases_lt k (length list)) [
    | inl p ↦ zeros k (pos 0) p
    | inr p ↦
        get_or_past list k (pos 0) p
  ];
}

-- the bundle with one more position, which is signed or not
next_bundle : (trades : List Ends) (contracts : List Contract) (f k held : ℕ)
    → held ≡ part trades f k (signed (length trades) contracts) → own trades f k < length trades
    → (if is_signed contracts (own trades f k) then toggle held k else held)
    ≡ part trades f (k + 1) (signed (length trades) contracts)
unfolding set_of
next_bundle trades contracts f k held is inside =
    let next : k + 1 ≡ suc k = omega arith in
    ap (λ (x : ℕ). if is_signed contracts (own trades f k) then toggle x k else x) is
    ∙ ap (λ (b : Bool). if b then toggle (part trades f k (signed (length trades) contracts)) k
    else part trades f k (signed (length trades) contracts)) (sym (on_signed trades contracts f k inside))
    ∙ sym (ap (λ (n : ℕ). part trades f n (signed (length trades) contracts)) next)

-- one more position, which is signed
pub one_held : (trades : List Ends) (contracts : List Contract) (f k t held : ℕ) (price : ℤ) (list : List ℤ)
    → HoldsSigned trades contracts f k held list → k < most_own
    → t ≡ own trades f k → t < length trades → contract_price contracts t ≡ Some price
    → All (λ contract. IsAtMost contract.price most_numerator) contracts
    → HoldsSigned trades contracts f (k + 1) (toggle held k) (set list k price)
one_held trades contracts f k t held price list before inside at within is small =
    let says = price_some contracts t price is in
    let there = price_is contracts t price is in
    let wide : k < length list = omega (arith, inside, before.counted) in
    let own_signed : is_signed contracts (own trades f k) ≡ true = ap (is_signed contracts) (sym at) ∙ says.0 in
    record {
      bundle =
          sym (ap (λ (b : Bool). if b then toggle held k else held) own_signed)
          ∙ next_bundle trades contracts f k held before.bundle (omega (arith, at, within));
      counted = length-set list k price ∙ before.counted;
      small = All-set (λ z. IsAtMost z most_numerator) list k price (price_small price there) before.small;
      each = λ i below. elim (cases_eq i k) [
        | inl e ↦ subst (λ (n : ℕ). price_at (set list k price) n ≡ signed_price contracts (own trades f n)) (sym e)
            (get_or-set_same list k price (pos 0) wide ∙ sym says.1 ∙ ap (signed_price contracts) at)
        | inr d ↦ get_or-set_other list k i price (pos 0) d ∙ before.each i (omega (arith, below, d))
      ];
      rest = λ i above. get_or-set_other list k i price (pos 0) (λ e. omega (arith, above, e))
          ∙ before.rest i (omega (arith, above));
    }
  where
    price_small : (price : ℤ) → (j : ℕ) × (contract : Contract) × (slice_get contracts j ≡ Some contract)
        × (contract.trade ≡ t) × (contract.price ≡ price) → IsAtMost price most_numerator
    price_small price there =
        subst (λ (z : ℤ). IsAtMost z most_numerator) (ap (λ (c : Contract). c.price)
        (get_or_from_slice_get contracts there.0 there.1 there.1 there.2) ∙ there.4)
        (small there.0 there.1 (slice_get_within contracts there.0 there.1 there.2))

-- one more, which isn't
pub none_more : (trades : List Ends) (contracts : List Contract) (f k t held : ℕ) (list : List ℤ)
    → HoldsSigned trades contracts f k held list
    → t ≡ own trades f k → t < length trades → contract_price contracts t ≡ None
    → HoldsSigned trades contracts f (k + 1) held list
none_more trades contracts f k t held list before at within is =
    let unsigned : is_signed contracts (own trades f k) ≡ false =
    ap (is_signed contracts) (sym at) ∙ price_not contracts t is in
    record {
      bundle =
          sym (ap (λ (b : Bool). if b then toggle held k else held) unsigned)
          ∙ next_bundle trades contracts f k held before.bundle (omega (arith, at, within));
      counted = before.counted;
      small = before.small;
      each = λ i below. elim (cases_eq i k) [
        | inl e ↦ before.rest i (omega (arith, e)) ∙ sym (ap (λ (n : ℕ). signed_price contracts (own trades f n)) e
            ∙ no_price contracts (own trades f k) unsigned)
        | inr d ↦ before.each i (omega (arith, below, d))
      ];
      rest = λ i above. before.rest i (omega (arith, above));
    }

-- and what is best at them is best at the contracts' prices
pub held_utility : (trades : List Ends) (over : ℤ) (contracts : List Contract) (f : ℕ) (firm : Firm) (n held : ℕ)
    (list : List ℤ) → n ≡ firm.count → firm.count ≤ most_own
    → HoldsSigned trades contracts f firm.count held list
    → utility over (price_at (take n list)) firm ≡ contract_utility trades over contracts f firm
held_utility trades over contracts f firm n held list counted few holds = fun_ext (λ x.
    ap (λ (z : ℤ). option_map (λ a. over *ℤ a +ℤ z) (firm.worth x))
    (sum_over-same_terms (payments firm.buys (price_at (take n list)))
    (payments firm.buys (prices_at trades (signed_price contracts) f)) x firm.count (λ k below member.
    ap (λ (z : ℤ). if has firm.buys k then neg_ℤ z else z) (get_or-take n list k (pos 0) (omega (arith, below, counted))
    ∙ holds.each k below))))

-- so the best bundle at them is that at the contracts' prices, with the reduced worth
pub best_at_held : {V : Type 0} (firm_of : V → Firm) (firms : List V) (trades : List Ends) (over : ℤ)
    (contracts : List Contract) (f n held x : ℕ) (list : List ℤ) (found : Option (ℕ × ℤ))
    (v : V) → slice_get firms f ≡ Some v → n ≡ (firm_of v).count → (firm_of v).count ≤ most_own
    → HoldsSigned trades contracts f (firm_of v).count held list
    → GivesBest x held (utility over (price_at (take n list)) (firm_of v)) found → (w : V) → slice_get firms f ≡ Some w
    → GivesBest x (signed_bundle trades contracts f (firm_of w)) (contract_utility trades over contracts f (firm_of w))
    found
best_at_held {V} firm_of firms trades over contracts f n held x list found v is counted few holds best w other_is =
    subst (λ (z : V). GivesBest x (signed_bundle trades contracts f (firm_of z))
    (contract_utility trades over contracts f (firm_of z)) found)
    (same_Some v w (sym is ∙ other_is))
    (subst (λ (y : ℕ). GivesBest x y (contract_utility trades over contracts f (firm_of v)) found) holds.bundle
    (subst (λ (u : ℕ → Option ℤ). GivesBest x held u found)
    (held_utility trades over contracts f (firm_of v) n held list counted few holds) best))

-- ---- the part of a best bundle

union_inside : (x given part : ℕ) → IsSubset part given → IsBetween x given (union x part)
union_inside x given part inside = (
  λ k there. has-union x part k ∙ or_left (has x k) (has part k) there,
  λ k there. has-union x given k ∙ elim (or_cases (has x k) (has part k) (sym (has-union x part k) ∙ there)) [
    | inl e ↦ or_left (has x k) (has given k) e
    | inr e ↦ or_right (has x k) (has given k) (inside k e)
  ],
)

rest_inside : (x given y : ℕ) → IsBetween x given y → IsSubset (minus y x) given
rest_inside x given y between k there =
    let parts = and_parts (has y k) (not (has x k)) (sym (has-minus y x k) ∙ there) in
    elim (or_cases (has x k) (has given k) (sym (has-union x given k) ∙ between.1 k parts.0)) [
      | inl e ↦ absurd (let no = parts.1 in let isnt = ap not e in cc (no, isnt))
      | inr e ↦ e
    ]

union_rest : (x given y : ℕ) → IsBetween x given y → union x (minus y x) ≡ y
union_rest x given y between =
    same_set (union x (minus y x)) y (λ k. has-union x (minus y x) k ∙ ap (λ (b : Bool). has x k || b) (has-minus y x k)
    ∙ by_case (has x k) (has y k) (between.0 k))
  where
    by_case : (a b : Bool) → (a ≡ true → b ≡ true) → (a || (b && not a)) ≡ b
    by_case true b f = sym (f refl)
    by_case false true f = refl
    by_case false false f = refl

pub part_of_best : (x given : ℕ) (value_of : ℕ → Option ℤ) (found : Option (ℕ × ℤ)) → GivesBest x given value_of found
    → GivesPart x given value_of (option_map (λ p. (minus p.0 x, p.1)) found)
part_of_best x given value_of None none = λ part inside. none (union x part) (union_inside x given part inside)
part_of_best x given value_of (Some p) best = record {
  inside = rest_inside x given p.0 best.between;
  is = ap value_of (union_rest x given p.0 best.between) ∙ best.is;
  most = λ part other inside is. best.most (union x part) other (union_inside x given part inside) is;
}

-- its utility is the bundle's
pub same_utility : (x : ℕ) (found : Option (ℕ × ℤ))
    → option_map (λ (p : ℕ × ℤ). p.1) (option_map (λ (p : ℕ × ℤ). (minus p.0 x, p.1)) found)
    ≡ option_map (λ (p : ℕ × ℤ). p.1) found
same_utility x None = refl
same_utility x (Some p) = refl
