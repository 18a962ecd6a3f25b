-- Firms to which their trades are independent of each other.
use Rattle.std.proofs.Common.{◌≡◌, ℕ, suc, ◌^◌, ◌<◌, ◌≤◌, nat_lt, sym, ap, subst, arith, inl, inr, cond, ℤ}
use Rattle.std.specs.Prelude.{Some, None}
use Rattle.std.proofs.lemmas.Bool.{cases_lt, lt-ltb, ltb-true}
use Rattle.std.proofs.lemmas.Option.{cond_some}
use Rattle.std.proofs.lemmas.Int.{ints}
use Rattle.tn_base.specs.Sets.{sum_over}
use Rattle.tn_base.specs.Firm.{HasOwnBundles}
use Rattle.tn_base.specs.Exchange.{MeetsExchange}
use Rattle.tn_base.proofs.SetLemmas.{toggle_within}
use Rattle.tn_firm_laws.specs.Places.{level, toggle_at, move, ExchangesOverPlaces}
use Rattle.tn_firm_laws.specs.Additive.{additive}
use Rattle.tn_firm_laws.proofs.PlaceLemmas.{toggle_at-trade, toggle_at-null, places}
use Rattle.tn_firm_laws.proofs.DistanceLemmas.{above_or_none, levels_same}
use Rattle.tn_firm_laws.proofs.KeepLemmas.{sum_over-move}
use Rattle.tn_firm_laws.proofs.ExchangeLemmas.{exchange_from_places}

-- where some place is on the up side, some place is on the down side
pub down_from_up : (n buys x y i : ℕ) → i ≤ n → level n buys y i < level n buys x i
    → (j : ℕ) × (j ≤ n) × (level n buys x j < level n buys y j)
down_from_up n buys x y i i_within i_up = elim (above_or_none (level n buys y) (level n buys x) (suc n)) [
  | inl found ↦ (found.0, let p = found.1 in omega (arith, p), found.2)
  | inr none ↦
      let same = levels_same n (level n buys) (move n) (places n buys) y x none i (omega (arith, i_within)) in
      absurd (omega (arith, same, i_up))
]

-- toggled at a place, a bundle of own positions stays one
toggle_at-within : (n x i : ℕ) → x < 2 ^ n → toggle_at n x i < 2 ^ n
toggle_at-within n x i below = elim (cases_lt i n) [
  | inl p ↦ subst (λ (y : ℕ). y < 2 ^ n) (sym (toggle_at-trade n x i p)) (toggle_within x i n below p)
  | inr p ↦ subst (λ (y : ℕ). y < 2 ^ n) (sym (toggle_at-null n x i p)) below
]

-- a moved bundle of own positions is one
pub move-within : (n x i j : ℕ) → x < 2 ^ n → move n x i j < 2 ^ n
unfolding move
move-within n x i j below = toggle_at-within n (toggle_at n x i) j (toggle_at-within n x i below)

-- the worth of a bundle of own positions
additive_worth : (count buys : ℕ) (c : ℕ → ℤ) (x : ℕ) → x < 2 ^ count
    → (additive count buys c).worth x ≡ Some (sum_over c count x)
additive_worth count buys c x below = ap (λ b. cond b (Some (sum_over c count x)) None) (lt-ltb x (2 ^ count) below)

-- and no other bundle has one
additive_within : (count buys : ℕ) (c : ℕ → ℤ) (x : ℕ) (a : ℤ) → (additive count buys c).worth x ≡ Some a
    → (x < 2 ^ count) × (sum_over c count x ≡ a)
additive_within count buys c x a x_is =
    let parts = cond_some (nat_lt x (2 ^ count)) (sum_over c count x) a x_is in
    (ltb-true x (2 ^ count) parts.0, parts.1)

-- a partner is any place of the down side: the sums stay together the same
exchange-additive : (count buys : ℕ) (c : ℕ → ℤ) → ExchangesOverPlaces (additive count buys c)
exchange-additive count buys c x y a b x_is y_is i i_within i_up =
    let first = additive_within count buys c x a x_is in
    let second = additive_within count buys c y b y_is in
    let found = down_from_up count buys x y i i_within i_up in
    record {
      at = found.0;
      is_place = found.1;
      is_down = found.2;
      enough = record {
        first = sum_over c count (move count x i found.0);
        second = sum_over c count (move count y i found.0);
        first_is = additive_worth count buys c _ (move-within count x i found.0 first.0);
        second_is = additive_worth count buys c _ (move-within count y i found.0 second.0);
        enough =
            let sums = sum_over-move c count buys x y i found.0 i_up found.2 in
            omega (arith, ints, sums, first.1, second.1);
      };
    }

-- a firm to which its trades are independent of each other meets exchange
pub meets-additive : (count buys : ℕ) (c : ℕ → ℤ) → HasOwnBundles (additive count buys c)
    × MeetsExchange (additive count buys c)
meets-additive count buys c =
    let own : HasOwnBundles (additive count buys c) = λ x a x_is. (additive_within count buys c x a x_is).0 in
    (own, exchange_from_places (additive count buys c) own (exchange-additive count buys c))
