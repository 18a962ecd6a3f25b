-- What labels, or a negative cycle, say of the counts of a kept flow.
use Rattle.std.proofs.Common.{Option, Some, None, Bool, true, false, ◌==◌, if◌then◌else◌, ◌+ℤ◌, ◌≡◌, ℕ, suc, ◌+◌, ◌-◌, ◌<◌, List, [], ◌∷◌, length, map, get_or, slice_get, refl, sym, ap, ◌∙◌, subst, arith, ℤ, pos}
use Rattle.std.specs.Prelude.{All}
use Rattle.std.specs.List.{range_with_len}
use Rattle.std.proofs.lemmas.Int.{ints}
use Rattle.std.proofs.lemmas.List.Elements.{All-head, All-tail}
use Rattle.tn_base.specs.Arcs.{IsAtMost}
use Rattle.tn_base.specs.Walks.{IsCycle}
use Rattle.tn_cycle.specs.Answers.{AreLabels, IsNegative, label_in}
use Rattle.tn_cycle.proofs.WalkLemmas.{AreApart, apart_from_different, few_apart, walk_small}
use Rattle.tn_links.specs.declared.link.Link.{Link}
use Rattle.tn_links.specs.Flows.{IsKeptFlow}
use Rattle.tn_links.specs.LotLemmas.{between-link_arc}
use Rattle.tn_links.specs.Lots.{link_arc, pushed}
use Rattle.tn_links.proofs.RoundLemmas.{round_of}
use Rattle.tn_counts.specs.Laws.{IsGain}
use Rattle.tn_counts.specs.Markets.{IsUnitMarket}
use Rattle.tn_counts.specs.Tree.{AreLinksOf, null_node, price_by, sold_at}
use Rattle.tn_counts.specs.Widths.{most_unit_amount, most_unit_price}
use Rattle.tn_counts.specs.declared.market.UnitMarket.{UnitMarket}
use Rattle.tn_counts.proofs.SizeLemmas.{unit_arcs_small}
use Rattle.tn_counts.proofs.SurplusLemmas.{best_same, cycles_bar, cycles_more, equilibrium_same, firm_at, flow_of, labels_equilibrium, surplus_same, worth_same}
use Rattle.tn_counts.proofs.WideLemmas.{wide_market}
use Rattle.tn_tree.specs.declared.steps.UnitStep.{UnitStep}
use Rattle.tn_tree.specs.Steps.{AreOnce, entered, units_by}
use Rattle.tn_tree.specs.Supports.{AreGain, AreSupports, FindsNone, IsFirstUnable, IsUnsupported, SupportsByCounts}
use Rattle.tn_tree.specs.declared.support.UnitSupport.{UnitSupport}
use Rattle.tn_tree.specs.declared.support.UnitSupport.TheVariants.{Supported, Impossible, Cycle}
use Rattle.tn_counts.specs.Counts.{CountFirm, IsBestCount, count_utility, trade_at}
use Rattle.tn_counts.specs.Laminar.{firm_of}
use Rattle.tn_tree.specs.Levels.{ArePossible}
use Rattle.tn_tree.specs.Lists.{count_in, own_counts, price_in}
use Rattle.tn_tree.proofs.SolveLemmas.{arcs_small, prices_small, read_at, sized_by}
use Rattle.tn_tree.proofs.StepLemmas.{entered_known, entered_once, round_counts}

pub supports : (market : UnitMarket) (links : List Link) (levels : List ℕ) (labels : List ℤ) (nodes : ℕ)
    (prices : List ℤ) → IsUnitMarket market → AreLinksOf market [] links → IsKeptFlow links levels
    → AreLabels nodes (link_arc links levels 1) labels → nodes ≡ null_node market + 1
    → prices ≡ map (price_by market (label_in labels)) (range_with_len 0 (length market.trades.items))
    → AreSupports market (sold_at market levels) prices
supports market links levels labels nodes prices is of kept are sized priced = record {
  one_each = sized_by (price_by market (label_in labels)) prices (length market.trades.items)
      (length market.trades.items) priced refl;
  equilibrium = equilibrium_same market (sold_at market levels) (sold_at market levels) (price_by market (label_in labels))
      (price_in prices) (λ t below. refl)
      (λ t below. read_at (price_by market (label_in labels)) prices (length market.trades.items) t (pos 0) priced below)
      (labels_equilibrium market links levels (label_in labels) (wide_market market is) of kept are.keeps);
  small = prices_small market links levels labels nodes prices is of are sized priced;
}

pub inside_of : (market : UnitMarket) (links : List Link) (levels listed : List ℕ) (nodes count : ℕ) (cost : ℤ)
    → IsUnitMarket market → AreLinksOf market [] links → IsKeptFlow links levels
    → IsNegative nodes (link_arc links levels 1) listed cost count → All (λ v. v < suc (null_node market)) listed
inside_of market links levels listed nodes count cost is of kept found =
    (round_of (suc (null_node market)) nodes (link_arc links levels 1) listed cost count
    (between-link_arc (suc (null_node market)) links levels 1 (flow_of market links levels (wide_market market is) of kept).plain) found).inside

cycle_small : (market : UnitMarket) (links : List Link) (levels : List ℕ) (first : ℕ) (rest : List ℕ) (cost : ℤ)
    → IsUnitMarket market → AreLinksOf market [] links → All (λ v. v < suc (null_node market)) (first ∷ rest)
    → IsCycle (link_arc links levels 1) first rest cost → IsAtMost cost most_unit_price
unfolding AreApart
cycle_small market links levels first rest cost is of inside cycle =
    let nodes : ℕ = suc (null_node market) in
    let apart = apart_from_different (first ∷ rest) cycle.different in
    let few = few_apart nodes first rest (All-head (λ v. v < nodes) first rest inside)
    (All-tail (λ v. v < nodes) first rest inside) apart.0 apart.1 in
    let sets = is.few_sets in
    let firms = is.few_firms in
    let trades = is.few_trades in
    arcs_small (length rest) cost (omega (arith, few, sets, firms, trades))
    (walk_small (link_arc links levels 1) most_unit_amount (unit_arcs_small market links levels is of) first rest first cost
    cycle.walk)

pub gains : (market : UnitMarket) (links : List Link) (levels listed : List ℕ) (nodes count : ℕ) (cost : ℤ)
    (steps : List (Option UnitStep)) → IsUnitMarket market → AreLinksOf market [] links → IsKeptFlow links levels
    → IsNegative nodes (link_arc links levels 1) listed cost count
    → steps ≡ entered market (get_or listed (length listed - 1) 0) listed
    → AreGain market (sold_at market levels) steps cost × IsUnsupported market (sold_at market levels)
gains market links levels listed nodes count cost steps is of kept found made =
    let gain : IsGain links levels 1 found.first found.rest cost = record { negative = found.negative; cycle = found.cycle } in
    let flow = flow_of market links levels (wide_market market is) of kept in
    let all : List ℕ = found.first ∷ found.rest in
    let steps_are : steps ≡ entered market (get_or all (length all - 1) 0) all =
    made ∙ ap (λ (xs : List ℕ). entered market (get_or xs (length xs - 1) 0) xs) found.nodes_are in
    let inside = subst (All (λ v. v < suc (null_node market))) found.nodes_are
    (inside_of market links levels listed nodes count cost is of kept found) in (
      record {
        negative = found.negative;
        small = cycle_small market links levels found.first found.rest cost is of inside found.cycle;
        known = λ k step at. entered_known market (get_or all (length all - 1) 0) all inside k step
            (sym (ap (λ (xs : List (Option UnitStep)). slice_get xs k) steps_are) ∙ at);
        once = subst AreOnce (sym steps_are)
            (entered_once market (get_or all (length all - 1) 0) all (apart_from_different all found.cycle.different));
        after = sold_at market (pushed links 1 levels found.first found.rest found.first);
        stepped = λ t below.
            let round = round_counts market links levels found.first found.rest cost flow found.negative found.cycle t
            below in
            let same = ap (λ (xs : List (Option UnitStep)). units_by xs t) steps_are in
            omega (arith, ints, round, same);
        more = cycles_more market links levels 1 found.first found.rest cost (wide_market market is) of kept gain;
      },
      cycles_bar market links levels 1 found.first found.rest cost (wide_market market is) of kept gain,
    )

-- ---- counts that are the same of each trade

unsupported_same : (market : UnitMarket) (counts others : ℕ → ℕ)
    → ((t : ℕ) → t < length market.trades.items → counts t ≡ others t) → IsUnsupported market counts
    → IsUnsupported market others
unsupported_same market counts others same none scale prices least equal = none scale prices least (λ f firm at.
    let found = firm_at market f firm at in
    let best = equal f firm at in (
      best.0,
      subst (λ (one : CountFirm). IsBestCount market.trades.items
          (count_utility market.trades.items scale prices f one) counts best.0) (sym found.1)
          (best_same market scale prices f others counts best.0 (λ t below. sym (same t below))
          (subst (λ (one : CountFirm). IsBestCount market.trades.items
          (count_utility market.trades.items scale prices f one) others best.0) found.1 best.1)),
    ))

pub supports_same : (market : UnitMarket) (counts others : ℕ → ℕ) (support : UnitSupport)
    → ((t : ℕ) → t < length market.trades.items → counts t ≡ others t) → SupportsByCounts market counts support
    → SupportsByCounts market others support
supports_same market counts others (Supported prices) same are = record {
  one_each = are.one_each;
  equilibrium = equilibrium_same market counts others (price_in prices.items) (price_in prices.items) same
      (λ t below. refl) are.equilibrium;
  small = are.small;
}
supports_same market counts others (Impossible f) same first = record {
  known = first.known;
  none = sym (worth_same market f counts others same) ∙ first.none;
  earlier = λ g below. let before = first.earlier g below in
      (before.0, sym (worth_same market g counts others same) ∙ before.1);
}
supports_same market counts others (Cycle nodes cost) same cycle = (
  record {
    negative = cycle.0.negative;
    small = cycle.0.small;
    known = cycle.0.known;
    once = cycle.0.once;
    after = cycle.0.after;
    stepped = λ t below. cycle.0.stepped t below
        ∙ ap (λ (n : ℕ). pos n +ℤ units_by nodes.items t) (same t below);
    more = record {
      within = cycle.0.more.within;
      surplus = cycle.0.more.surplus;
      is = sym (surplus_same market counts others same) ∙ cycle.0.more.is;
      gained = cycle.0.more.gained;
    };
  },
  unsupported_same market counts others same cycle.1,
)

-- ---- the first firm for which counts are impossible

-- where as much is sold as bought each firm has the counts of all
worth_of : (market : UnitMarket) (counts : List ℕ) (f : ℕ)
    → (firm_of market f).worth (own_counts market.trades.items counts counts f) ≡ (firm_of market f).worth (count_in counts)
worth_of market counts f =
    worth_same market f (own_counts market.trades.items counts counts f) (count_in counts)
    (λ t below. by (f == (trade_at market.trades.items t).seller) (count_in counts t))
  where
    by : (b : Bool) (n : ℕ) → (if b then n else n) ≡ n
    by true n = refl
    by false n = refl

-- what each firm has by counts
pub record AreWorths (market : UnitMarket) (counts : List ℕ) (worths : List (Option ℤ)) : Type 0 where
  pub sized : length worths ≡ market.firms
  pub each : (f : ℕ) → f < market.firms
      → get_or worths f None ≡ (firm_of market f).worth (own_counts market.trades.items counts counts f)

pub possible_by : (market : UnitMarket) (counts : List ℕ) (worths : List (Option ℤ)) → AreWorths market counts worths
    → FindsNone worths None → ArePossible market (λ f. count_in counts)
possible_by market counts worths are found f below =
    let sized = are.sized in
    let here = found f (omega (arith, below, sized)) in
    (here.0, sym (worth_of market counts f) ∙ sym (are.each f below) ∙ here.1)

pub unable_by : (market : UnitMarket) (counts : List ℕ) (worths : List (Option ℤ)) (f : ℕ) → AreWorths market counts worths
    → FindsNone worths (Some f) → IsFirstUnable market (count_in counts) f
unable_by market counts worths f are found =
    let sized = are.sized in
    let inside = found.0 in
    let below : f < market.firms = omega (arith, inside, sized) in
    record {
      known = below;
      none = sym (worth_of market counts f) ∙ sym (are.each f below) ∙ found.1;
      earlier = λ g before.
          let here = found.2 g before in
          (here.0, sym (worth_of market counts g) ∙ sym (are.each g (omega (arith, before, below))) ∙ here.1);
    }
