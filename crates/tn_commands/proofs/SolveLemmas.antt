-- From an equilibrium that was found to the answer about it.
use Rattle.std.proofs.Common.{◌≡◌, ℕ, suc, ◌+◌, ◌*◌, ◌<◌, ◌≤◌, Bool, if◌then◌else◌, inl, inr, ◌^◌, ℤ, pos, ◌+ℤ◌, List, [], ◌∷◌, ◌++◌, length, map, take, slice_get, Option, None, option_map, refl, sym, ap, ◌∙◌, subst, arith}
use Rattle.std.specs.Prelude.{All, Some, IsSome, get_or, option_and_then}
use Rattle.std.proofs.lemmas.Bool.{cases_lt, le-leb, lt-leb}
use Rattle.std.proofs.lemmas.Int.{ints}
use Rattle.std.proofs.lemmas.List.{take_all}
use Rattle.std.proofs.Math.Seq.{take-suc}
use Rattle.tn_base.specs.Arcs.{IsAtMost}
use Rattle.tn_base.specs.Firm.{Firm}
use Rattle.tn_model.specs.declared.ends.Ends.{Ends}
use Rattle.tn_model.specs.Prices.{price_at}
use Rattle.tn_model.specs.Network.{IsNetwork, part, trades_on}
use Rattle.tn_market.specs.Equilibrium.{IsEquilibrium, surplus_from, surplus_of}
use Rattle.tn_market.specs.Graph.{ArePossible}
use Rattle.tn_firm.specs.declared.value.FirmValue.{FirmValue}
use Rattle.tn_firm.specs.Firms.{firm_of}
use Rattle.tn_commands.specs.Solve.{IsSolved}
use Rattle.tn_commands.specs.Limits.{most_answered_trades}
use Rattle.tn_model.specs.Limits.{most_price, most_worth_among}
use Rattle.tn_commands.proofs.CheckLemmas.{implied_by}

-- the first prices with one more
pub one_more_price : (prices done next : List ℤ) (t : ℕ) (price : ℤ) → t < length prices → done ≡ take t prices
    → price ≡ price_at prices t → next ≡ done ++ price ∷ [] → next ≡ take (t + 1) prices
one_more_price prices done next t price below so_far is pushed =
    pushed ∙ (λ i. so_far i ++ is i ∷ []) ∙ sym (take-suc prices t (pos 0) below)
    ∙ ap (λ n. take n prices) (let same : suc t ≡ t + 1 = omega arith in same)

-- all of them
pub all_prices : (prices done : List ℤ) (t count : ℕ) → done ≡ take t prices → length prices ≡ count → count ≤ t
    → done ≡ prices
all_prices prices done t count so_far counted end = so_far ∙ take_all t prices (omega (arith, counted, end))

-- the cost of a cycle through every trade, each at twice the greatest worth among so many, is within the limit of prices
cycle_cost : (trades : ℕ) → trades ≤ most_answered_trades → (trades + 1) * (2 * most_worth_among trades) ≤ most_price
unfolding most_worth_among
cycle_cost trades few = elim (cases_lt 128 trades) [
  | inl many ↦ subst (λ (b : Bool). (trades + 1) * (2 * (if b then 124 * 10 ^ 9 else 124 * 10 ^ 7)) ≤ most_price)
      (sym (lt-leb trades 128 many)) (omega (arith, few))
  | inr small ↦ subst (λ (b : Bool). (trades + 1) * (2 * (if b then 124 * 10 ^ 9 else 124 * 10 ^ 7)) ≤ most_price)
      (sym (le-leb trades 128 small)) (omega (arith, small))
]

-- so a number that is no greater is
pub cost_within : (trades : ℕ) (z : ℤ) → trades ≤ most_answered_trades
    → IsAtMost z ((trades + 1) * (2 * most_worth_among trades)) → IsAtMost z most_price
cost_within trades z few small =
    let most = cycle_cost trades few in
    let low = small.low in
    let high = small.high in
    record { low = omega (arith, ints, most, low); high = omega (arith, ints, most, high) }

-- prices of a network of few trades of small firms are within the limit of prices
pub small_prices : (trades : ℕ) (prices : List ℤ) → trades ≤ most_answered_trades
    → All (λ p. IsAtMost p (2 * most_worth_among trades * trades)) prices → All (λ p. IsAtMost p most_price) prices
small_prices trades prices few small k d below =
    cost_within trades (get_or prices k d) few (wider (get_or prices k d) (most_worth_among trades) (small k d below))
  where
    wider : (z : ℤ) (worth : ℕ) → IsAtMost z (2 * worth * trades) → IsAtMost z ((trades + 1) * (2 * worth))
    wider z worth h =
        let e : (trades + 1) * (2 * worth) ≡ 2 * worth * trades + 2 * worth = grind arith in
        let low = h.low in
        let high = h.high in
        record { low = omega (arith, ints, e, low); high = omega (arith, ints, e, high) }

-- bundles that are possible have a surplus
possible_sum : (trades : List Ends) (on s : ℕ) (firms : List Firm)
    → ((f : ℕ) (firm : Firm) → slice_get firms f ≡ Some firm → IsSome (firm.worth (part trades (s + f) firm.count on)))
    → (z : ℤ) × (surplus_from trades on s firms ≡ Some z)
possible_sum trades on s [] possible = (pos 0, refl)
possible_sum trades on s (firm ∷ firms) possible =
    let at_first : s + 0 ≡ s = omega arith in
    let here = some_of (firm.worth (part trades s firm.count on))
    (subst (λ (n : ℕ). IsSome (firm.worth (part trades n firm.count on))) at_first (possible 0 firm refl)) in
    let rest = possible_sum trades on (s + 1) firms (λ f other is.
    subst (λ (n : ℕ). IsSome (other.worth (part trades n other.count on))) (let same : s + suc f ≡ (s + 1) + f =
    omega arith in same) (possible (suc f) other is)) in (
      here.0 +ℤ rest.0,
      ap (option_and_then (λ worth. option_map (λ more. worth +ℤ more) (surplus_from trades on (s + 1) firms))) here.1
          ∙ ap (option_map (λ more. here.0 +ℤ more)) rest.1,
    )
  where
    some_of : (o : Option ℤ) → IsSome o → (z : ℤ) × (o ≡ Some z)
    some_of (Some z) there = (z, refl)
    some_of None there = absurd (cc there)

pub possible_surplus : (firms : List Firm) (trades : List Ends) (on : ℕ) → ArePossible firms trades on
    → surplus_of firms trades on ≡ None → ⊥
possible_surplus firms trades on possible none =
    let sum = possible_sum trades on 0 firms (λ f firm is. subst
    (λ (n : ℕ). IsSome (firm.worth (part trades n firm.count on))) (let same : f ≡ 0 + f = omega arith in
    same) (possible f firm is)) in
    let is = sum.1 in
    cc (none, is)

-- the answer
pub solved_from : (firms : List FirmValue) (trades : List Ends) (set : ℕ) (listed : List ℕ) (prices : List ℤ)
    (surplus told : ℤ) (count : ℕ) → IsNetwork (map firm_of firms) trades → count ≡ length trades
    → listed ≡ trades_on set count → length prices ≡ length trades → told ≡ surplus
    → IsEquilibrium (map firm_of firms) trades (pos 1) set (price_at prices)
    → surplus_of (map firm_of firms) trades set ≡ Some surplus → IsSolved (map firm_of firms) trades listed prices told
solved_from firms trades set listed prices surplus told count network counted list_is one_each same equilibrium
    surplus_is = record {
      set = set;
      on_is = list_is ∙ ap (trades_on set) counted;
      one_each = one_each;
      equilibrium = equilibrium;
      surplus_is = surplus_is ∙ ap (λ (z : ℤ). Some z) (sym same);
      implied = implied_by (map firm_of firms) trades set (price_at prices) network equilibrium;
    }
