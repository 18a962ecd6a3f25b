-- What is best by counts is best in the unit network, and what has most surplus by counts has most there.
use Rattle.std.proofs.Common.{◌≡◌, ℕ, suc, ◌+◌, ◌^◌, ◌<◌, Bool, ◌==◌, ◌&&◌, nat_lt, if◌then◌else◌, List, [], ◌∷◌, length, slice_get, Option, Some, None, option_map, inl, inr, refl, sym, ap, ap₂, ◌∙◌, subst, arith, ℤ, ◌+ℤ◌, ◌*ℤ◌}
use Rattle.std.specs.Prelude.{◌↔◌, option_and_then}
use Rattle.std.proofs.lemmas.Bool.{and_parts, lt-ltb}
use Rattle.std.proofs.lemmas.Option.{none-some}
use Rattle.tn_base.specs.Firm.{Firm, IsBest}
use Rattle.tn_base.specs.Options.{both}
use Rattle.tn_base.specs.Sets.{has, sum_over}
use Rattle.tn_base.proofs.SetLemmas.{has-set_of, set_of_within}
use Rattle.tn_model.specs.Network.{own, part}
use Rattle.tn_market.specs.Equilibrium.{IsEfficient, IsEquilibrium, surplus_from, surplus_of, utility_at}
use Rattle.tn_counts.specs.Counts.{AreCounts, CountFirm, IsBestCount, IsEfficientByCounts, IsEquilibriumByCounts, count_surplus, count_utility}
use Rattle.tn_counts.specs.declared.trade.UnitTrade.{UnitTrade}
use Rattle.tn_unit_laws.specs.Laws.{CountsAreOfSets, EfficientByCounts, EquilibriaByCountsAreEquilibria, FitByCounts}
use Rattle.tn_unit_laws.specs.Units.{HasCounts, counts_of, first_units, own_units, price_of_unit, trade_of, twins_before, unit_count, unit_firm, unit_firms, unit_firms_from, unit_trades, units_on}
use Rattle.tn_unit_laws.proofs.CountLemmas.{count-first, count-most, count-same, count-twins, trade_of-within}
use Rattle.tn_unit_laws.proofs.UnitLemmas.{comes_from, unit_firm_at}
use Rattle.tn_unit_laws.proofs.BundleLemmas.{counts_of_part}
use Rattle.tn_unit_laws.proofs.PaymentLemmas.{gets_at, own_below}
use Rattle.tn_unit_laws.proofs.KindLemmas.{AreKinds, IsOfKinds, best_by_kinds}

-- ---- the counts of sets

pub units_within : (trades : List UnitTrade) (on : ℕ) → AreCounts trades (units_on trades on)
units_within trades on t below =
    let most = count-most (λ u. has on u && t == trade_of trades u) (λ u. t == trade_of trades u) (unit_count trades)
    (λ u inside e. (and_parts (has on u) (t == trade_of trades u) e).1) in
    let twins = count-twins trades t in
    omega (arith, most, twins)

pub first_have : (trades : List UnitTrade) (counts : ℕ → ℕ) → AreCounts trades counts
    → HasCounts trades (first_units trades counts) counts
first_have trades counts within t below =
    let there = count-same (λ u. has (first_units trades counts) u && t == trade_of trades u)
    (λ u. nat_lt (twins_before trades u) (counts (trade_of trades u)) && t == trade_of trades u) (unit_count trades)
    (λ u inside. ap (λ (b : Bool). b && t == trade_of trades u)
    (has-set_of (λ v. nat_lt (twins_before trades v) (counts (trade_of trades v))) (unit_count trades) u
    ∙ ap (λ (b : Bool). b && nat_lt (twins_before trades u) (counts (trade_of trades u)))
    (lt-ltb u (unit_count trades) inside))) in
    let least = count-first (trade_of trades) counts t (unit_count trades) in
    let units = count-twins trades t in
    let few = within t below in
    elim least [
      | inl all ↦ let less = all.0 in let is = all.1 in omega (arith, there, units, few, less, is)
      | inr full ↦ let is = full.1 in omega (arith, there, is)
    ]

pub counts_of_sets : CountsAreOfSets
counts_of_sets = record { first = first_have; within = units_within }

-- ---- equilibria

-- each trade is the kind of its twins
twins_are_kinds : (trades : List UnitTrade) → AreKinds trades trades (trade_of trades)
twins_are_kinds trades = record {
  seller = λ u below inside. refl;
  buyer = λ u below inside. refl;
  size = λ t below. count-twins trades t;
}

-- so what is best by counts is best
best_by_counts : (firms : List CountFirm) (trades : List UnitTrade) (fit : FitByCounts firms trades) (f : ℕ)
    (firm : CountFirm) (is : slice_get firms f ≡ Some firm) (scale : ℤ) (prices : ℕ → ℤ) (on : ℕ) (counts : ℕ → ℕ)
    (value : ℤ) → HasCounts trades on counts
    → IsBestCount trades (count_utility trades scale prices f firm) counts value
    ↔ IsBest (utility_at (unit_trades trades) scale (price_of_unit trades prices) f (unit_firm trades f firm))
    (part (unit_trades trades) f (own_units trades f) on) value
best_by_counts firms trades fit f firm is scale prices on counts value have =
    let kinds = best_by_kinds firms trades fit f firm is firms trades fit firm is (trade_of trades) (twins_are_kinds trades)
    scale prices (price_of_unit trades prices) (λ u below inside. refl) (λ x of. refl) on counts value have
    (all_of (part (unit_trades trades) f (own_units trades f) on)) in (
      (λ best.
          let found = kinds.0 best in
          record { is = found.is; most = λ y other at. found.most y other (all_of y) at }),
      (λ best. kinds.1 (record { is = best.is; most = λ y other of at. best.most y other at })),
    )
  where
    all_of : (x : ℕ) → IsOfKinds trades trades (trade_of trades) f x
    all_of x k below there =
        trade_of-within trades (own (unit_trades trades) f k) (own_below firms trades fit f firm is k below)

any_set : (firms : List CountFirm) (trades : List UnitTrade) (scale : ℤ) (counts : ℕ → ℕ) (prices : ℕ → ℤ) (on : ℕ)
    → FitByCounts firms trades → HasCounts trades on counts
    → IsEquilibriumByCounts firms trades scale counts prices
    ↔ IsEquilibrium (unit_firms trades firms) (unit_trades trades) scale on (price_of_unit trades prices)
any_set firms trades scale counts prices on fit have = (
  (λ equal f unit at.
      let from = comes_from trades 0 firms f f unit (omega arith) at in
      let best = equal f from.firm from.is in (
        best.0,
        subst (λ (one : Firm). IsBest (utility_at (unit_trades trades) scale (price_of_unit trades prices) f one)
            (part (unit_trades trades) f one.count on) best.0) from.same
            ((best_by_counts firms trades fit f from.firm from.is scale prices on counts best.0 have).0 best.1),
      )),
  (λ equal f firm at.
      let best = equal f (unit_firm trades f firm) (unit_firm_at trades 0 firms f f firm (omega arith) at) in
      (best.0, (best_by_counts firms trades fit f firm at scale prices on counts best.0 have).1 best.1)),
)

pub equilibria_are_equilibria : EquilibriaByCountsAreEquilibria
equilibria_are_equilibria = record {
  first = λ firms trades scale counts prices fit within. any_set firms trades scale counts prices
      (first_units trades counts) fit (first_have trades counts within);
  any = any_set;
}

-- ---- surplus

module _ (all : List CountFirm) (trades : List UnitTrade) (fit : FitByCounts all trades) (on : ℕ) where
  own_worth : (f : ℕ) (firm : CountFirm) → slice_get all f ≡ Some firm
      → (unit_firm trades f firm).worth (part (unit_trades trades) f (own_units trades f) on)
      ≡ firm.worth (units_on trades on)
  own_worth f firm is =
      ap (λ (b : Bool). if b then firm.worth (counts_of trades f (part (unit_trades trades) f (own_units trades f) on))
      else None) (lt-ltb (part (unit_trades trades) f (own_units trades f) on) (2 ^ own_units trades f)
      (set_of_within (λ k. has on (own (unit_trades trades) f k)) (own_units trades f)))
      ∙ fit.own f firm is (counts_of trades f (part (unit_trades trades) f (own_units trades f) on)) (units_on trades on)
      (λ t below mine. counts_of_part all trades fit f firm is on t mine)

  surplus_is : (s : ℕ) (firms : List CountFirm)
      → ((i f : ℕ) (firm : CountFirm) → f ≡ s + i → slice_get firms i ≡ Some firm → slice_get all f ≡ Some firm)
      → surplus_from (unit_trades trades) on s (unit_firms_from trades s firms)
      ≡ count_surplus firms (units_on trades on)
  surplus_is s [] known = refl
  surplus_is s (firm ∷ firms) known =
      ap₂ (λ (o p : Option ℤ). option_and_then (λ worth. option_map (λ rest. worth +ℤ rest) p) o)
      (own_worth s firm (known 0 s firm (omega arith) refl))
      (surplus_is (s + 1) firms (λ i f one at is. known (suc i) f one (omega (arith, at)) is))
      ∙ joined (firm.worth (units_on trades on)) (count_surplus firms (units_on trades on))
    where
      joined : (o p : Option ℤ) → option_and_then (λ worth. option_map (λ rest. worth +ℤ rest) p) o ≡ both o p
      joined None p = refl
      joined (Some a) None = refl
      joined (Some a) (Some b) = refl

pub surplus_of_counts : (firms : List CountFirm) (trades : List UnitTrade) (on : ℕ) → FitByCounts firms trades
    → surplus_of (unit_firms trades firms) (unit_trades trades) on ≡ count_surplus firms (units_on trades on)
surplus_of_counts firms trades on fit =
    surplus_is firms trades fit on 0 firms (λ i f firm at is.
    let same : i ≡ f = omega (arith, at) in ap (slice_get firms) (sym same) ∙ is)

-- counts that are the same of each trade have the same surplus
pub same_surplus : (firms : List CountFirm) (trades : List UnitTrade) (counts others : ℕ → ℕ) → FitByCounts firms trades
    → ((t : ℕ) → t < length trades → counts t ≡ others t)
    → count_surplus firms counts ≡ count_surplus firms others
same_surplus all trades counts others fit same =
    by 0 all (λ i f firm at is. let here : i ≡ f = omega (arith, at) in ap (slice_get all) (sym here) ∙ is)
  where
    by : (s : ℕ) (firms : List CountFirm)
        → ((i f : ℕ) (firm : CountFirm) → f ≡ s + i → slice_get firms i ≡ Some firm → slice_get all f ≡ Some firm)
        → count_surplus firms counts ≡ count_surplus firms others
    by s [] known = refl
    by s (firm ∷ firms) known =
        ap₂ both (fit.own s firm (known 0 s firm (omega arith) refl) counts others (λ t below mine. same t below))
        (by (s + 1) firms (λ i f one at is. known (suc i) f one (omega (arith, at)) is))

efficient_is : (firms : List CountFirm) (trades : List UnitTrade) (on : ℕ) → FitByCounts firms trades
    → IsEfficientByCounts firms trades (units_on trades on)
    ↔ IsEfficient (unit_firms trades firms) (unit_trades trades) on
efficient_is firms trades on fit = (
  (λ efficient. (
    efficient.0,
    record {
      is = surplus_of_counts firms trades on fit ∙ efficient.1.is;
      most = λ set other at. efficient.1.most (units_on trades set) other (units_within trades set)
          (sym (surplus_of_counts firms trades set fit) ∙ at);
    },
  )),
  (λ efficient. (
    efficient.0,
    record {
      within = units_within trades on;
      is = sym (surplus_of_counts firms trades on fit) ∙ efficient.1.is;
      most = λ others other within at. efficient.1.most (first_units trades others) other
          (surplus_of_counts firms trades (first_units trades others) fit
          ∙ same_surplus firms trades (units_on trades (first_units trades others)) others fit
          (first_have trades others within) ∙ at);
    },
  )),
)

pub efficient_is_by_counts : EfficientByCounts
efficient_is_by_counts = record { surplus = surplus_of_counts; efficient = efficient_is }

-- where counts are impossible for a firm, no prices make a set with these counts an equilibrium
pub no_bundle : (firms : List CountFirm) (trades : List UnitTrade) → FitByCounts firms trades → (f : ℕ) (firm : CountFirm)
    → slice_get firms f ≡ Some firm → (on : ℕ) (counts : ℕ → ℕ) → HasCounts trades on counts → firm.worth counts ≡ None
    → (scale : ℤ) (prices : ℕ → ℤ)
    → IsEquilibrium (unit_firms trades firms) (unit_trades trades) scale on prices → ⊥
no_bundle firms trades fit f firm is on counts have none scale prices equal =
    let best = equal f (unit_firm trades f firm) (unit_firm_at trades 0 firms f f firm (omega arith) is) in
    let worth = own_worth firms trades fit on f firm is
    ∙ fit.own f firm is (units_on trades on) counts (λ t below mine. have t below) ∙ none in
    by (λ a. scale *ℤ a +ℤ sum_over (gets_at trades f prices) (own_units trades f)
    (part (unit_trades trades) f (own_units trades f) on))
    ((unit_firm trades f firm).worth (part (unit_trades trades) f (own_units trades f) on)) worth best.0 best.1.is
  where
    by : (g : ℤ → ℤ) (o : Option ℤ) → o ≡ None → (value : ℤ) → option_map g o ≡ Some value → ⊥
    by g o no_worth value at = absurd (none-some value (sym (ap (option_map g) no_worth) ∙ at))
