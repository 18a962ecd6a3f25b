-- Local to global: a bundle that no move at two places improves is best.
use Rattle.std.proofs.Common.{◌≡◌, ◌≢◌, ℕ, zero, suc, ◌^◌, ◌<◌, ◌≤◌, Bool, true, false, refl, sym, ap, ◌∙◌, subst, arith, ◌↔◌, inl, inr, if◌then◌else◌, ℤ, pos}
use Rattle.std.specs.Prelude.{◌≤ℤ◌, Option, Some}
use Rattle.std.proofs.lemmas.Bool.{cases_lt}
use Rattle.std.proofs.lemmas.Option.{same_Some}
use Rattle.std.proofs.lemmas.Int.{ints}
use Rattle.tn_base.specs.Sets.{has, toggle}
use Rattle.tn_base.specs.Firm.{Firm, HasOwnBundles, IsBest, utility, payments, plus_sum}
use Rattle.tn_base.specs.Exchange.{MeetsExchange}
use Rattle.tn_base.proofs.SetLemmas.{same_below}
use Rattle.tn_firm_laws.specs.Places.{trade_level, level, move, CanRise, CanFall, ExchangesOverPlaces}
use Rattle.tn_firm_laws.specs.Local.{IsLocallyBest, IsUnimproved}
use Rattle.tn_firm_laws.proofs.PlaceLemmas.{level-trade, move-both, move-to_null, move-from_null, places}
use Rattle.tn_firm_laws.proofs.ExchangeLemmas.{exchange_to_places}
use Rattle.tn_firm_laws.proofs.KeepLemmas.{meets-plus_sum}
use Rattle.tn_firm_laws.proofs.DistanceLemmas.{above_or_none, up_moves, up_apart_down, gap, levels_same, gap-nearer}

-- no move that raises one place and lowers another has more
abbrev pub IsUnmoved : Firm → ℕ → ℤ → Type 0
IsUnmoved firm x value = (i j : ℕ) (other : ℤ) → i ≤ firm.count → j ≤ firm.count → i ≢ j
    → CanRise firm.count (level firm.count firm.buys x) i → CanFall firm.count (level firm.count firm.buys x) j
    → firm.worth (move firm.count x i j) ≡ Some other → other ≤ℤ value

-- a trade of the same level in two bundles is a member of both or of neither
has_same : (n buys x y k : ℕ) → k < n → level n buys x k ≡ level n buys y k → has x k ≡ has y k
unfolding trade_level
has_same n buys x y k below same =
    by (has buys k) (has x k) (has y k) (sym (level-trade n buys x k below) ∙ same ∙ level-trade n buys y k below)
  where
    by : (b h g : Bool) → ◌≡◌ {A = ℕ} (if b then (if h then 1 else 0) else (if h then 0 else 1)) (if b
        then (if g then 1 else 0) else (if g then 0 else 1)) → h ≡ g
    by true true true e = refl
    by true true false e = absurd (omega (arith, e))
    by true false true e = absurd (omega (arith, e))
    by true false false e = refl
    by false true true e = refl
    by false true false e = absurd (omega (arith, e))
    by false false true e = absurd (omega (arith, e))
    by false false false e = refl

-- bundles of own positions with the same levels are the same
pub same_from_levels : (n buys x y : ℕ) → x < 2 ^ n → y < 2 ^ n
    → ((k : ℕ) → k < n → level n buys x k ≡ level n buys y k) → x ≡ y
same_from_levels n buys x y x_below y_below same =
    same_below x y n x_below y_below (λ k h. has_same n buys x y k h (same k h))

-- by recursion on the distance: a possible bundle has at most the value
no_more_within : (firm : Firm) → HasOwnBundles firm → ExchangesOverPlaces firm → (x : ℕ) (value : ℤ)
    → firm.worth x ≡ Some value
    → IsUnmoved firm x value → (d y : ℕ) (other : ℤ) → firm.worth y ≡ Some other
    → gap firm.count (level firm.count firm.buys x) (level firm.count firm.buys y) < d → other ≤ℤ value
no_more_within firm own over x value x_is unmoved zero y other y_is near = absurd (omega (arith, near))
no_more_within firm own over x value x_is unmoved (suc d) y other y_is near =
    elim (above_or_none (level firm.count firm.buys x) (level firm.count firm.buys y) (suc firm.count)) [
      | inl found ↦
          let i_within : found.0 ≤ firm.count = (let p = found.1 in omega (arith, p)) in
          let swap = over x y value other x_is y_is found.0 i_within found.2 in
          let are = places firm.count firm.buys in
          let up = up_moves firm.count (level firm.count firm.buys) (move firm.count) are x y found.0 found.2 in
          let down = up_moves firm.count (level firm.count firm.buys) (move firm.count) are y x swap.at swap.is_down in
          let apart = up_apart_down (level firm.count firm.buys x) (level firm.count firm.buys y) found.0 swap.at
          found.2 swap.is_down in
          let first_most : swap.enough.first ≤ℤ value =
          unmoved swap.at found.0 swap.enough.first swap.is_place i_within (λ e. apart (sym e)) down.0 up.1
          (ap firm.worth (are.order x swap.at found.0) ∙ swap.enough.first_is) in
          let nearer =
          gap-nearer firm.count (level firm.count firm.buys) (move firm.count) are x y found.0 swap.at i_within
          swap.is_place found.2 swap.is_down in
          let second_most : swap.enough.second ≤ℤ value =
          no_more_within firm own over x value x_is unmoved d (move firm.count y found.0 swap.at) swap.enough.second
          swap.enough.second_is
          (omega (arith, nearer, near)) in
          let enough = swap.enough.enough in
          omega (arith, ints, first_most, second_most, enough)
      | inr none ↦
          let same = levels_same firm.count (level firm.count firm.buys) (move firm.count) (places firm.count firm.buys)
          x y none in
          let e : x ≡ y =
          same_from_levels firm.count firm.buys x y (own x value x_is) (own y other y_is)
          (λ k h. same k (omega (arith, h))) in
          let equal : other ≡ value = same_Some other value (sym y_is ∙ ap firm.worth (sym e) ∙ x_is) in
          omega (arith, ints, equal)
    ]

-- a possible bundle that no move improves is best
pub best_from_unmoved : (firm : Firm) → HasOwnBundles firm → ExchangesOverPlaces firm → (x : ℕ) (value : ℤ)
    → firm.worth x ≡ Some value
    → IsUnmoved firm x value → IsBest firm.worth x value
best_from_unmoved firm own over x value x_is unmoved = record {
  is = x_is;
  most = λ y other y_is. no_more_within firm own over x value x_is unmoved
      (suc (gap firm.count (level firm.count firm.buys x) (level firm.count firm.buys y))) y other y_is (omega arith);
}

-- moves at two places are single toggles and pairs of a raising and a lowering one
pub unmoved_from_unimproved : (firm : Firm) (x : ℕ) (value : ℤ) → IsUnimproved firm.count firm.buys firm.worth x value
    → IsUnmoved firm x value
unmoved_from_unimproved firm x value un i j other i_within j_within apart rise fall is = elim (cases_lt i firm.count) [
  | inl p ↦ elim (cases_lt j firm.count) [
    | inl q ↦ un.pair i j other p q
        (sym (level-trade firm.count firm.buys x i p) ∙ rise p) (sym (level-trade firm.count firm.buys x j q) ∙ fall q)
        (ap firm.worth (sym (move-both firm.count x i j p q)) ∙ is)
    | inr q ↦
        let e : j ≡ firm.count = omega (arith, j_within, q) in
        un.single i other p (ap firm.worth (sym (move-to_null firm.count x i p))
        ∙ ap (λ (k : ℕ). firm.worth (move firm.count x i k)) (sym e) ∙ is)
  ]
  | inr p ↦
      let e : i ≡ firm.count = omega (arith, i_within, p) in
      let q : j < firm.count = omega (arith, j_within, e, apart) in
      un.single j other q (ap firm.worth (sym (move-from_null firm.count x j q))
      ∙ ap (λ (k : ℕ). firm.worth (move firm.count x k j)) (sym e) ∙ is)
]

-- a locally best bundle is unimproved
pub unimproved_from_locally_best : (count buys : ℕ) (value_of : ℕ → Option ℤ) (x : ℕ) (value : ℤ)
    → IsLocallyBest count value_of x value → IsUnimproved count buys value_of x value
unimproved_from_locally_best count buys value_of x value local = record {
  single = local.single;
  pair = λ i j other p q low high. local.pair i j other p q (λ e. apart i j low high e);
}
  where
    apart : (i j : ℕ) → trade_level buys x i ≡ 0 → trade_level buys x j ≡ 1 → i ≢ j
    apart i j low high e = let low' : trade_level buys x j ≡ 0 = subst (λ (k : ℕ). trade_level buys x k ≡ 0) e low in
        omega (arith, low', high)

-- a best bundle is unimproved
pub unimproved_from_best : (count buys : ℕ) (value_of : ℕ → Option ℤ) (x : ℕ) (value : ℤ) → IsBest value_of x value
    → IsUnimproved count buys value_of x value
unimproved_from_best count buys value_of x value best = record {
  single = λ i other p is. best.most (toggle x i) other is;
  pair = λ i j other p q low high is. best.most (toggle (toggle x i) j) other is;
}

-- where a firm meets exchange, an unimproved bundle is best
pub best_from_unimproved : (firm : Firm) → HasOwnBundles firm → MeetsExchange firm → (x : ℕ) (value : ℤ)
    → firm.worth x ≡ Some value
    → IsUnimproved firm.count firm.buys firm.worth x value → IsBest firm.worth x value
best_from_unimproved firm own meets x value x_is un =
    best_from_unmoved firm own (exchange_to_places firm own meets) x value x_is
    (unmoved_from_unimproved firm x value un)

-- and so is a locally best one
pub local_to_global : (firm : Firm) → HasOwnBundles firm → MeetsExchange firm → (x : ℕ) (value : ℤ)
    → firm.worth x ≡ Some value
    → IsLocallyBest firm.count firm.worth x value → IsBest firm.worth x value
local_to_global firm own meets x value x_is local =
    best_from_unimproved firm own meets x value x_is (unimproved_from_locally_best firm.count firm.buys firm.worth x
    value local)

-- at every scale of at least 0 and at all prices
pub local_is_global : (firm : Firm) → HasOwnBundles firm → MeetsExchange firm → (scale : ℤ) (prices : ℕ → ℤ)
    → pos 0 ≤ℤ scale
    → (x : ℕ) (value : ℤ) → utility scale prices firm x ≡ Some value
    → IsBest (utility scale prices firm) x value ↔ IsUnimproved firm.count firm.buys (utility scale prices firm) x value
local_is_global firm own meets scale prices from_zero x value x_is =
    let priced = meets-plus_sum firm scale (payments firm.buys prices) from_zero own meets in (
      unimproved_from_best firm.count firm.buys (utility scale prices firm) x value,
      best_from_unimproved (plus_sum scale (payments firm.buys prices) firm) priced.0 priced.1 x value x_is,
    )
