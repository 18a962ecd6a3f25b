-- Least walks from null and to null are the highest and the lowest prices.
use Rattle.std.proofs.Common.{◌≡◌, ◌≢◌, ℕ, zero, suc, ◌<◌, Bool, true, false, ◌==◌, if◌then◌else◌, List, ◌∷◌, length, Option, Some, None, refl, sym, ap, ◌∙◌, subst, arith, inl, inr, ℤ, pos, ◌+ℤ◌, ◌-ℤ◌, ◌*ℤ◌, ◌≤ℤ◌}
use Rattle.std.specs.Prelude.{neg_ℤ, ◌<ℤ◌, option_map}
use Rattle.std.proofs.lemmas.Int.{ints, by_lt_z}
use Rattle.std.proofs.lemmas.Bool.{cases_eq}
use Rattle.std.proofs.Math.IntN.{*ℤ-zero, *ℤ-one, *ℤ_comm}
use Rattle.tn_base.specs.Arcs.{AreBetweenNodes}
use Rattle.tn_base.specs.Walks.{HasNoNegativeCycle, KeepsArcs}
use Rattle.tn_cycle.specs.Answers.{IsLeastPath, LeadsLeast}
use Rattle.tn_cycle.proofs.LabelLemmas.{none_negative_kept}
use Rattle.tn_cycle.proofs.WalkLemmas.{apart_from_different, avoids-cons}
use Rattle.tn_links.specs.declared.link.Link.{Link}
use Rattle.tn_links.specs.Lots.{link_arc, pushed}
use Rattle.tn_links.specs.LotLemmas.{between-link_arc}
use Rattle.tn_links.specs.Totals.{total}
use Rattle.tn_links.proofs.RoundLemmas.{few_units, is_pushed}
use Rattle.tn_links.proofs.StepLemmas.{IsStepped}
use Rattle.tn_links.proofs.TotalLemmas.{times-minus}
use Rattle.tn_counts.specs.Counts.{IsEquilibriumByCounts}
use Rattle.tn_counts.specs.Laminar.{firms_of}
use Rattle.tn_counts.specs.Ranges.{IsHighestByCounts, IsLowestByCounts, IsPriceByCounts, IsSettled, LeadFromNull, LeadToNull, NoneIsAbove, NoneIsBelow, PricesAreLeastWalks}
use Rattle.tn_counts.specs.Tree.{null_node, price_by, sold_at, trade_node}
use Rattle.tn_counts.specs.declared.market.UnitMarket.{UnitMarket}
use Rattle.tn_counts.proofs.BoundLemmas.{IsUneven, uneven_bound}
use Rattle.tn_counts.proofs.ReachLemmas.{AreCosts, beside_null, beside_other, from_costs, raised, raised_keeps, raised_none, raised_null, raised_some, to_costs, turned_keeps}
use Rattle.tn_counts.proofs.SurplusLemmas.{equilibrium_same, flow_of, labels_equilibrium}

-- ---- numbers of at least 0 in a sum

terms_below : (f : ℕ → ℤ) (n : ℕ) → ((k : ℕ) → k < n → pos 0 ≤ℤ f k) → (pos 0 ≤ℤ total f n)
    × ((k : ℕ) → k < n → f k ≤ℤ total f n)
unfolding total
terms_below f zero least = (omega (arith, ints), λ k below. absurd (omega (arith, below)))
terms_below f (suc n) least =
    let rest = terms_below f n (λ k below. least k (omega (arith, below))) in
    let sum = rest.0 in
    let last = least n (omega arith) in (
      omega (arith, ints, sum, last),
      λ k below. elim (cases_eq k n) [
        | inl same ↦ let here = ap f same in omega (arith, ints, here, sum)
        | inr other ↦ let before = rest.1 k (omega (arith, below, other)) in omega (arith, ints, before, last)
      ],
    )

module _ (market : UnitMarket) (links : List Link) (levels : List ℕ) (label : ℕ → ℤ)
    (settled : IsSettled market links levels label) where
  abbrev null : ℕ
  null = null_node market

  abbrev arc : ℕ → ℕ → Option ℤ
  arc = link_arc links levels 1

  between : AreBetweenNodes (suc null) arc
  between = between-link_arc (suc null) links levels 1
      (flow_of market links levels settled.market_is settled.of settled.kept).plain

  none : HasNoNegativeCycle arc
  none = none_negative_kept arc label settled.keeps

  -- a lot along a walk that meets no node twice
  stepped_along : (u w : ℕ) (listed : List ℕ) (cost : ℤ) → u ≢ w → (path : IsLeastPath arc u w listed cost)
      → IsStepped links levels (pushed links 1 levels u path.inner w) 1 u w cost
  stepped_along u w listed cost other path =
      is_pushed links 1 levels u path.inner w cost
      (few_units (suc null) links (flow_of market links levels settled.market_is settled.of settled.kept).plain)
      settled.kept.within (apart_from_different (u ∷ path.inner) path.different)
      (avoids-cons w u path.inner other path.ends) path.least.walk

  pub off_null : (t : ℕ) → t < length market.trades.items → null ≢ trade_node market t
  off_null t below = λ e. omega (arith, e, below)

  pub from_uneven : (t : ℕ) (listed : List ℕ) (cost : ℤ) → t < length market.trades.items
      → (path : IsLeastPath arc null (trade_node market t) listed cost)
      → IsUneven market links levels (pushed links 1 levels null path.inner (trade_node market t)) label t (pos 1) cost
  from_uneven t listed cost below path =
      let steps = stepped_along null (trade_node market t) listed cost (off_null t below) path in
      record {
        settled = settled;
        below = below;
        shifted = record {
          one_each = steps.one_each ∙ settled.kept.one_each;
          within = steps.within;
          balanced = λ v. let here = steps.balanced v in let was = settled.kept.kept v in omega (arith, ints, here, was);
        };
        gained = steps.gained;
      }

  pub to_uneven : (t : ℕ) (listed : List ℕ) (cost : ℤ) → t < length market.trades.items
      → (path : IsLeastPath arc (trade_node market t) null listed cost)
      → IsUneven market links levels (pushed links 1 levels (trade_node market t) path.inner null) label t
      (pos 0 -ℤ pos 1) cost
  to_uneven t listed cost below path =
      let steps = stepped_along (trade_node market t) null listed cost (λ e. off_null t below (sym e)) path in
      record {
        settled = settled;
        below = below;
        shifted = record {
          one_each = steps.one_each ∙ settled.kept.one_each;
          within = steps.within;
          balanced = λ v. let here = steps.balanced v in let was = settled.kept.kept v in
              by (v == null) (v == trade_node market t) _ _ here was;
        };
        gained = steps.gained;
      }
    where
      by : (n k : Bool) (after before : ℤ) → after ≡ before +ℤ ((if n then pos 1 else pos 0) -ℤ (if k then pos 1 else pos 0))
          → before ≡ pos 0
          → after ≡ (if k then pos 0 -ℤ pos 1 else pos 0) -ℤ (if n then pos 0 -ℤ pos 1 else pos 0)
      by true true after before here was = omega (arith, ints, here, was)
      by true false after before here was = omega (arith, ints, here, was)
      by false true after before here was = omega (arith, ints, here, was)
      by false false after before here was = omega (arith, ints, here, was)

  -- no equilibrium has a price above the cost of such a walk
  none_above : (t : ℕ) (listed : List ℕ) (cost : ℤ) → t < length market.trades.items
      → IsLeastPath arc null (trade_node market t) listed cost → NoneIsAbove (firms_of market) market.trades.items t cost
  none_above t listed cost below path scale counts prices least equal =
      let bound = uneven_bound market links levels (pushed links 1 levels null path.inner (trade_node market t)) label t
      4194305 (pos 1) cost (from_uneven t listed cost below path)
      (record { within = omega arith; is = omega (arith, ints) }) scale counts prices least equal in
      let one = *ℤ-one (prices t) in
      omega (arith, ints, bound, one)

  none_below : (t : ℕ) (listed : List ℕ) (cost : ℤ) → t < length market.trades.items
      → IsLeastPath arc (trade_node market t) null listed cost
      → NoneIsBelow (firms_of market) market.trades.items t (neg_ℤ cost)
  none_below t listed cost below path scale counts prices least equal =
      let bound = uneven_bound market links levels (pushed links 1 levels (trade_node market t) path.inner null) label t
      4194303 (pos 0 -ℤ pos 1) cost (to_uneven t listed cost below path)
      (record { within = omega arith; is = omega (arith, ints) }) scale counts prices least equal in
      let parts = times-minus (prices t) (pos 0) (pos 1) in
      let none = *ℤ-zero (prices t) in
      let one = *ℤ-one (prices t) in
      let negative : neg_ℤ cost ≡ pos 0 -ℤ cost = omega (arith, ints) in
      let times = ap (λ (z : ℤ). scale *ℤ z) negative in
      let split = times-minus scale (pos 0) cost in
      let zero_is = *ℤ-zero scale in
      omega (arith, ints, bound, parts, none, one, times, split, zero_is)

  -- labels that keep the graph have prices
  priced : (other : ℕ → ℤ) (t : ℕ) (price : ℤ) → KeepsArcs arc other → other null ≡ pos 0
      → other (trade_node market t) ≡ price → IsPriceByCounts (firms_of market) market.trades.items t price
  priced other t price keeps at_null is = record {
    counts = sold_at market levels;
    prices = price_by market other;
    equilibrium = labels_equilibrium market links levels other settled.market_is settled.of settled.kept keeps;
    is = omega (arith, ints, at_null, is);
  }

  equal_at : (other : ℕ → ℤ) (prices : ℕ → ℤ) → KeepsArcs arc other → other null ≡ pos 0
      → ((t : ℕ) → t < length market.trades.items → other (trade_node market t) ≡ prices t)
      → IsEquilibriumByCounts (firms_of market) market.trades.items (pos 1) (sold_at market levels) prices
  equal_at other prices keeps at_null are =
      equilibrium_same market (sold_at market levels) (sold_at market levels) (price_by market other) prices
      (λ t below. refl) (λ t below. let is = are t below in omega (arith, ints, at_null, is))
      (labels_equilibrium market links levels other settled.market_is settled.of settled.kept keeps)

  -- the labels' own price
  own_above : (t : ℕ) (low : ℤ) → NoneIsBelow (firms_of market) market.trades.items t low
      → low ≤ℤ (label (trade_node market t) -ℤ label null)
  own_above t low bound =
      let kept = bound (pos 1) (sold_at market levels) (price_by market label) (omega (arith, ints))
      (labels_equilibrium market links levels label settled.market_is settled.of settled.kept settled.keeps) in
      let one = *ℤ-one low in
      let turned = *ℤ_comm low (pos 1) in
      omega (arith, ints, kept, one, turned)

  own_below : (t : ℕ) (high : ℤ) → NoneIsAbove (firms_of market) market.trades.items t high
      → (label (trade_node market t) -ℤ label null) ≤ℤ high
  own_below t high bound =
      let kept = bound (pos 1) (sold_at market levels) (price_by market label) (omega (arith, ints))
      (labels_equilibrium market links levels label settled.market_is settled.of settled.kept settled.keeps) in
      let one = *ℤ-one high in
      let turned = *ℤ_comm high (pos 1) in
      omega (arith, ints, kept, one, turned)

  module _ (walks : ℕ → List ℕ) (costs : ℕ → Option ℤ) (lead : LeadFromNull market links levels walks costs) where
    costs_from : AreCosts arc null (beside_null null costs)
    costs_from = from_costs (suc null) arc null walks costs between none lead

    at_trade : (t : ℕ) → t < length market.trades.items
        → beside_null null costs (trade_node market t) ≡ costs (trade_node market t)
    at_trade t below = beside_other null costs (trade_node market t) (λ e. off_null t below (sym e))

    path_at : (t : ℕ) (cost : ℤ) → t < length market.trades.items → costs (trade_node market t) ≡ Some cost
        → IsLeastPath arc null (trade_node market t) (walks (trade_node market t)) cost
    path_at t cost below is =
        subst (λ (o : Option ℤ). LeadsLeast arc null (trade_node market t) (walks (trade_node market t)) o) is
        (lead (trade_node market t) (omega (arith, below)))

    highest_is : (t : ℕ) → t < length market.trades.items
        → IsHighestByCounts (firms_of market) market.trades.items t (costs (trade_node market t))
    highest_is t below = by (costs (trade_node market t)) refl
      where
        by : (o : Option ℤ) → costs (trade_node market t) ≡ o → IsHighestByCounts (firms_of market) market.trades.items t o
        by None is = λ bound.
            let own : ℤ = label (trade_node market t) -ℤ label null in
            by_lt_z own (bound +ℤ pos 1)
            (λ less. above bound ((bound +ℤ pos 1) -ℤ own) (omega (arith, ints, less)) (omega (arith, ints)) is)
            (λ most. above bound (pos 0) (omega (arith, ints)) (omega (arith, ints, most)) is)
          where
            above : (bound more : ℤ) → pos 0 ≤ℤ more
                → bound <ℤ ((label (trade_node market t) -ℤ label null) +ℤ more)
                → costs (trade_node market t) ≡ None
                → (price : ℤ) × IsPriceByCounts (firms_of market) market.trades.items t price × (bound <ℤ price)
            above bound more positive over gone = (
              (label (trade_node market t) -ℤ label null) +ℤ more,
              priced (raised (beside_null null costs) null label more) t
                  ((label (trade_node market t) -ℤ label null) +ℤ more)
                  (raised_keeps arc null (beside_null null costs) label more costs_from settled.keeps)
                  (raised_null arc null (beside_null null costs) label more costs_from positive)
                  (raised_none null (beside_null null costs) label more (trade_node market t)
                  (at_trade t below ∙ gone)),
              over,
            )
        by (Some cost) is =
            let most = none_above t (walks (trade_node market t)) cost below (path_at t cost below is) in
            let own = own_below t cost most in
            let more : ℤ = cost -ℤ (label (trade_node market t) -ℤ label null) in (
              priced (raised (beside_null null costs) null label more) t cost
                  (raised_keeps arc null (beside_null null costs) label more costs_from settled.keeps)
                  (raised_null arc null (beside_null null costs) label more costs_from (omega (arith, ints, own)))
                  (raised_some null (beside_null null costs) label more (trade_node market t) cost
                  (at_trade t below ∙ is) (omega (arith, ints))),
              most,
            )

    highs_are : (high : ℕ → ℤ)
        → ((t : ℕ) → t < length market.trades.items → costs (trade_node market t) ≡ Some (high t))
        → IsEquilibriumByCounts (firms_of market) market.trades.items (pos 1) (sold_at market levels) high
    highs_are high are =
        let gap : ℕ → ℤ = λ t. high t -ℤ (label (trade_node market t) -ℤ label null) in
        let more : ℤ = total gap (length market.trades.items) in
        let terms = terms_below gap (length market.trades.items) (λ t below.
        let own = own_below t (high t) (none_above t (walks (trade_node market t)) (high t) below
        (path_at t (high t) below (are t below))) in omega (arith, ints, own)) in
        equal_at (raised (beside_null null costs) null label more) high
        (raised_keeps arc null (beside_null null costs) label more costs_from settled.keeps)
        (raised_null arc null (beside_null null costs) label more costs_from terms.0)
        (λ t below. raised_some null (beside_null null costs) label more (trade_node market t) (high t)
        (at_trade t below ∙ are t below) (let least = terms.1 t below in omega (arith, ints, least)))

  module _ (walks : ℕ → List ℕ) (costs : ℕ → Option ℤ) (lead : LeadToNull market links levels walks costs) where
    costs_to : AreCosts (λ u v. arc v u) null (beside_null null costs)
    costs_to = to_costs (suc null) arc null walks costs between none lead

    to_trade : (t : ℕ) → t < length market.trades.items
        → beside_null null costs (trade_node market t) ≡ costs (trade_node market t)
    to_trade t below = beside_other null costs (trade_node market t) (λ e. off_null t below (sym e))

    path_from : (t : ℕ) (cost : ℤ) → t < length market.trades.items → costs (trade_node market t) ≡ Some cost
        → IsLeastPath arc (trade_node market t) null (walks (trade_node market t)) cost
    path_from t cost below is =
        subst (λ (o : Option ℤ). LeadsLeast arc (trade_node market t) null (walks (trade_node market t)) o) is
        (lead (trade_node market t) (omega (arith, below)))

    -- labels as low as the costs let them be
    abbrev lowered : ℤ → ℕ → ℤ
    lowered more v = neg_ℤ (raised (beside_null null costs) null (λ w. neg_ℤ (label w)) more v)

    lowered_keeps : (more : ℤ) → KeepsArcs arc (lowered more)
    lowered_keeps more =
        turned_keeps (λ u v. arc v u) (raised (beside_null null costs) null (λ w. neg_ℤ (label w)) more)
        (raised_keeps (λ u v. arc v u) null (beside_null null costs) (λ w. neg_ℤ (label w)) more costs_to
        (turned_keeps arc label settled.keeps))

    lowered_null : (more : ℤ) → pos 0 ≤ℤ more → lowered more null ≡ pos 0
    lowered_null more positive =
        ap neg_ℤ (raised_null (λ u v. arc v u) null (beside_null null costs) (λ w. neg_ℤ (label w)) more costs_to positive)

    lowest_is : (t : ℕ) → t < length market.trades.items
        → IsLowestByCounts (firms_of market) market.trades.items t (option_map neg_ℤ (costs (trade_node market t)))
    lowest_is t below = by (costs (trade_node market t)) refl
      where
        by : (o : Option ℤ) → costs (trade_node market t) ≡ o
            → IsLowestByCounts (firms_of market) market.trades.items t (option_map neg_ℤ o)
        by None is = λ bound.
            let own : ℤ = neg_ℤ (label (trade_node market t)) -ℤ neg_ℤ (label null) in
            by_lt_z own (neg_ℤ bound +ℤ pos 1)
            (λ less. above bound ((neg_ℤ bound +ℤ pos 1) -ℤ own) (omega (arith, ints, less)) (omega (arith, ints)) is)
            (λ most. above bound (pos 0) (omega (arith, ints)) (omega (arith, ints, most)) is)
          where
            above : (bound more : ℤ) → pos 0 ≤ℤ more
                → neg_ℤ bound <ℤ ((neg_ℤ (label (trade_node market t)) -ℤ neg_ℤ (label null)) +ℤ more)
                → costs (trade_node market t) ≡ None
                → (price : ℤ) × IsPriceByCounts (firms_of market) market.trades.items t price × (price <ℤ bound)
            above bound more positive over gone = (
              neg_ℤ ((neg_ℤ (label (trade_node market t)) -ℤ neg_ℤ (label null)) +ℤ more),
              priced (lowered more) t (neg_ℤ ((neg_ℤ (label (trade_node market t)) -ℤ neg_ℤ (label null)) +ℤ more))
                  (lowered_keeps more) (lowered_null more positive)
                  (ap neg_ℤ (raised_none null (beside_null null costs) (λ w. neg_ℤ (label w)) more (trade_node market t)
                  (to_trade t below ∙ gone))),
              omega (arith, ints, over),
            )
        by (Some cost) is =
            let least = none_below t (walks (trade_node market t)) cost below (path_from t cost below is) in
            let own = own_above t (neg_ℤ cost) least in
            let more : ℤ = cost -ℤ (neg_ℤ (label (trade_node market t)) -ℤ neg_ℤ (label null)) in (
              priced (lowered more) t (neg_ℤ cost) (lowered_keeps more) (lowered_null more (omega (arith, ints, own)))
                  (ap neg_ℤ (raised_some null (beside_null null costs) (λ w. neg_ℤ (label w)) more (trade_node market t)
                  cost (to_trade t below ∙ is) (omega (arith, ints)))),
              least,
            )

    lows_are : (low : ℕ → ℤ)
        → ((t : ℕ) → t < length market.trades.items → costs (trade_node market t) ≡ Some (neg_ℤ (low t)))
        → IsEquilibriumByCounts (firms_of market) market.trades.items (pos 1) (sold_at market levels) low
    lows_are low are =
        let gap : ℕ → ℤ = λ t. neg_ℤ (low t) -ℤ (neg_ℤ (label (trade_node market t)) -ℤ neg_ℤ (label null)) in
        let more : ℤ = total gap (length market.trades.items) in
        let terms = terms_below gap (length market.trades.items) (λ t below.
        let own = own_above t (neg_ℤ (neg_ℤ (low t))) (none_below t (walks (trade_node market t)) (neg_ℤ (low t)) below
        (path_from t (neg_ℤ (low t)) below (are t below))) in omega (arith, ints, own)) in
        equal_at (lowered more) low (lowered_keeps more) (lowered_null more terms.0)
        (λ t below. let one = raised_some null (beside_null null costs) (λ w. neg_ℤ (label w)) more (trade_node market t)
        (neg_ℤ (low t)) (to_trade t below ∙ are t below) (let least = terms.1 t below in omega (arith, ints, least)) in
        omega (arith, ints, one))

pub prices_walks : PricesAreLeastWalks
prices_walks = record {
  highest = λ market links levels label walks costs settled lead t below.
      highest_is market links levels label settled walks costs lead t below;
  lowest = λ market links levels label walks costs settled lead t below.
      lowest_is market links levels label settled walks costs lead t below;
  highs = λ market links levels label walks costs settled lead high are.
      highs_are market links levels label settled walks costs lead high are;
  lows = λ market links levels label walks costs settled lead low are.
      lows_are market links levels label settled walks costs lead low are;
}
