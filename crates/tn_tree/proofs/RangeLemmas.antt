-- What least walks over the links of a market say in lists of ranges.
use Rattle.std.proofs.Common.{◌≡◌, ◌≢◌, ℕ, zero, suc, ◌+◌, ◌<◌, ◌⊎◌, inl, inr, List, [], ◌∷◌, ◌++◌, length, map, get_or, Option, Some, None, option_map, refl, sym, ap, ◌∙◌, subst, arith, ℤ, pos}
use Rattle.std.specs.Prelude.{All, IfSome, neg_ℤ, slice_get}
use Rattle.std.specs.List.{range_with_len}
use Rattle.std.proofs.lemmas.Int.{ints}
use Rattle.std.proofs.lemmas.List.{length-append}
use Rattle.std.proofs.lemmas.List.Elements.{All-cons}
use Rattle.std.proofs.lemmas.List.FromFn.{length-map-range_with_len}
use Rattle.std.proofs.lemmas.Option.{none-some, same_Some, slice_get-get_or, slice_get_within}
use Rattle.tn_base.specs.Arcs.{AreBetweenNodes, IsAtMost}
use Rattle.tn_cycle.specs.Answers.{AreLabels, LeadsLeast, distance_in, label_in, walk_in}
use Rattle.tn_cycle.specs.Reading.{Reading}
use Rattle.tn_cycle.proofs.WalkLemmas.{apart_from_different, avoids-cons, few_apart, walk_inside, walk_small}
use Rattle.tn_links.specs.declared.link.Link.{Link}
use Rattle.tn_links.specs.Flows.{IsKeptFlow}
use Rattle.tn_links.specs.LotLemmas.{between-link_arc}
use Rattle.tn_links.specs.Lots.{link_arc}
use Rattle.tn_counts.specs.Laminar.{firms_of}
use Rattle.tn_counts.specs.Markets.{IsUnitMarket}
use Rattle.tn_counts.specs.Ranges.{IsHighestByCounts, IsLowestByCounts, IsSettled, LeadFromNull, LeadToNull}
use Rattle.tn_counts.specs.Tree.{AreLinksOf, null_node, price_by, sold_at, trade_node}
use Rattle.tn_counts.specs.Widths.{most_unit_amount, most_unit_price}
use Rattle.tn_counts.specs.declared.market.UnitMarket.{UnitMarket}
use Rattle.tn_counts.proofs.PlaceLemmas.{item_at}
use Rattle.tn_counts.proofs.RangeLemmas.{prices_walks}
use Rattle.tn_counts.proofs.SizeLemmas.{unit_arcs_small}
use Rattle.tn_counts.proofs.SurplusLemmas.{equilibrium_same, flow_of, have_firms, labels_equilibrium}
use Rattle.tn_counts.proofs.WelfareLemmas.{equilibria_efficient}
use Rattle.tn_counts.proofs.WideLemmas.{wide_market}
use Rattle.tn_tree.specs.declared.range.UnitRange.{UnitRange}
use Rattle.tn_tree.specs.Lists.{count_in}
use Rattle.tn_tree.specs.declared.steps.UnitStep.{UnitStep}
use Rattle.tn_tree.specs.Ranges.{AreRangesBy, AreRangesByCounts, AreWalks, IsLowPath, IsRangeBy, IsRangeByCounts, IsSmallRange, IsWalk, KeepsWalks, ShowsHighest, ShowsLowest, high_steps, low_steps}
use Rattle.tn_tree.proofs.PathLemmas.{high_path, high_same, inside_walk, low_path, low_same}
use Rattle.tn_tree.proofs.SolveLemmas.{arcs_small, levels_read}

-- ---- one range after another

-- what a list has with one item more
pushed_item : {A : Type 0} (xs : List A) (x : A) (k : ℕ) (y : A) → slice_get (xs ++ x ∷ []) k ≡ Some y
    → (slice_get xs k ≡ Some y) ⊎ ((k ≡ length xs) × (x ≡ y))
pushed_item [] x zero y at = inr (refl, same_Some x y at)
pushed_item [] x (suc k) y at = absurd (none-some y at)
pushed_item (first ∷ xs) x zero y at = inl at
pushed_item (first ∷ xs) x (suc k) y at = elim (pushed_item xs x k y at) [
  | inl before ↦ inl before
  | inr last ↦ inr (ap suc last.0, last.1)
]

pub ranges_push : (market : UnitMarket) (from_null to_null : Reading) (place k : ℕ) (ranges after : List UnitRange)
    (range : UnitRange) → after ≡ ranges ++ range ∷ [] → AreRangesBy market from_null to_null place k ranges
    → IsRangeBy market from_null to_null (place + k) range → AreRangesBy market from_null to_null place (k + 1) after
ranges_push market from_null to_null place k ranges after range made are is = record {
  one_each = (let sized = are.one_each in let more = ap length made in let sum = length-append ranges (range ∷ []) in
      omega (arith, sized, more, sum));
  each = λ t one at. elim (pushed_item ranges range t one (sym (ap (λ (xs : List UnitRange). slice_get xs t) made) ∙ at)) [
    | inl before ↦ are.each t one before
    | inr last ↦
        let sized = are.one_each in
        let here = last.0 in
        let same : k ≡ t = omega (arith, sized, here) in
        subst (IsRangeBy market from_null to_null (place + t)) last.1
        (subst (λ (j : ℕ). IsRangeBy market from_null to_null (place + j) range) same is)
  ];
}

-- the same walks read by a finder that has listed some since
pub keeps-trans : (first second third : Reading) → KeepsWalks first second → KeepsWalks second third
    → KeepsWalks first third
keeps-trans first second third one two =
    record { distances = two.distances ∙ one.distances; walks = two.walks ∙ one.walks }

pub walks-same : (market : UnitMarket) (from_null to_null from_now to_now : Reading) (node : ℕ)
    → KeepsWalks from_null from_now → KeepsWalks to_null to_now → AreWalks market from_null to_null node
    → AreWalks market from_now to_now node
walks-same market from_null to_null from_now to_now node one two are = record {
  high = rw (one.distances, one.walks) are.high;
  low = rw (two.distances, two.walks) are.low;
  small = rw (two.distances) are.small;
}

pub range-same : (market : UnitMarket) (from_null to_null from_now to_now : Reading) (node : ℕ) (range : UnitRange)
    → KeepsWalks from_null from_now → KeepsWalks to_null to_now → IsRangeBy market from_now to_now node range
    → IsRangeBy market from_null to_null node range
range-same market from_null to_null from_now to_now node range one two is = record {
  low = rw (sym two.distances) is.low;
  low_path = rw (sym two.distances, sym two.walks) is.low_path;
  high = rw (sym one.distances) is.high;
  high_path = rw (sym one.distances, sym one.walks) is.high_path;
}

-- ---- costs of least walks are small

walk_cost_small : (market : UnitMarket) (links : List Link) (levels : List ℕ) (label : ℕ → ℤ) (u w : ℕ) (listed : List ℕ)
    (o : Option ℤ) → IsUnitMarket market → IsSettled market links levels label → u < suc (null_node market) → u ≢ w
    → w < suc (null_node market) → LeadsLeast (link_arc links levels 1) u w listed o
    → IfSome o (λ cost. IsAtMost cost most_unit_price)
walk_cost_small market links levels label u w listed None is settled u_inside other w_inside none = tt
walk_cost_small market links levels label u w listed (Some cost) is settled u_inside other w_inside path =
    let nodes : ℕ = suc (null_node market) in
    let arc : ℕ → ℕ → Option ℤ = link_arc links levels 1 in
    let between : AreBetweenNodes nodes arc = between-link_arc nodes links levels 1
    (flow_of market links levels settled.market_is settled.of settled.kept).plain in
    let few = few_apart nodes w (u ∷ path.inner) w_inside
    (All-cons (λ v. v < nodes) u path.inner u_inside (walk_inside nodes arc between u path.inner w cost path.least.walk))
    (avoids-cons w u path.inner other path.ends) (apart_from_different (u ∷ path.inner) path.different) in
    let sets = is.few_sets in
    let firms = is.few_firms in
    let trades = is.few_trades in
    let small = walk_small arc most_unit_amount (unit_arcs_small market links levels is settled.of) u
    path.inner w cost path.least.walk in
    arcs_small (length path.inner) cost (omega (arith, few, sets, firms, trades)) small

-- ---- what they say of prices

pub record AreFound (market : UnitMarket) (links : List Link) (levels : List ℕ) (label : ℕ → ℤ) (from_null to_null : Reading) :
    Type 0 where
  pub is : IsUnitMarket market
  pub settled : IsSettled market links levels label
  pub lead_from : LeadFromNull market links levels (walk_in from_null) (distance_in from_null)
  pub lead_to : LeadToNull market links levels (walk_in to_null) (distance_in to_null)

module _ (market : UnitMarket) (links : List Link) (levels : List ℕ) (label : ℕ → ℤ) (from_null to_null : Reading)
    (found : AreFound market links levels label from_null to_null) where
  pub low_small : (t : ℕ) → t < length market.trades.items
      → IfSome (distance_in to_null (trade_node market t)) (λ cost. IsAtMost cost most_unit_price)
  low_small t below =
      walk_cost_small market links levels label (trade_node market t) (null_node market)
      (walk_in to_null (trade_node market t)) (distance_in to_null (trade_node market t)) found.is found.settled
      (omega (arith, below)) (λ e. omega (arith, e, below)) (omega arith)
      (found.lead_to (trade_node market t) (omega (arith, below)))

  pub high_small : (t : ℕ) → t < length market.trades.items
      → IfSome (distance_in from_null (trade_node market t)) (λ cost. IsAtMost cost most_unit_price)
  high_small t below =
      walk_cost_small market links levels label (null_node market) (trade_node market t)
      (walk_in from_null (trade_node market t)) (distance_in from_null (trade_node market t)) found.is found.settled
      (omega arith) (λ e. omega (arith, e, below)) (omega (arith, below))
      (found.lead_from (trade_node market t) (omega (arith, below)))

  walk_of : (u w : ℕ) (listed : List ℕ) (o : Option ℤ) → u < suc (null_node market) → w < suc (null_node market)
      → LeadsLeast (link_arc links levels 1) u w listed o → IfSome o (λ c. IsWalk market listed)
  walk_of u w listed None first last none = tt
  walk_of u w listed (Some cost) first last path = record {
    two = (let nodes = ap length path.nodes_are in let sum = length-append path.inner (w ∷ []) in
        omega (arith, nodes, sum));
    inside = subst (All (λ v. v < suc (null_node market))) (sym path.nodes_are)
        (inside_walk market links levels label found.settled u w listed cost path first last path.inner path.nodes_are
        path.least.walk);
  }

  pub walks_read : (t : ℕ) → t < length market.trades.items → AreWalks market from_null to_null (trade_node market t)
  walks_read t below = record {
    high = walk_of (null_node market) (trade_node market t) (walk_in from_null (trade_node market t))
        (distance_in from_null (trade_node market t)) (omega arith) (omega (arith, below))
        (found.lead_from (trade_node market t) (omega (arith, below)));
    low = walk_of (trade_node market t) (null_node market) (walk_in to_null (trade_node market t))
        (distance_in to_null (trade_node market t)) (omega (arith, below)) (omega arith)
        (found.lead_to (trade_node market t) (omega (arith, below)));
    small = low_small t below;
  }

  module _ (counts : List ℕ) (ranges : List UnitRange) (n place : ℕ) (sized : n ≡ length market.trades.items)
      (at_place : place ≡ trade_node market 0)
      (counted : counts ≡ map (λ t. get_or levels (place + t) 0) (range_with_len 0 n))
      (are : AreRangesBy market from_null to_null place n ranges) where
    node_is : (t : ℕ) → place + t ≡ trade_node market t
    node_is t = omega (arith, at_place)

    below_of : (t : ℕ) (range : UnitRange) → slice_get ranges t ≡ Some range → t < length market.trades.items
    below_of t range at =
        let inside = slice_get_within ranges t range at in
        let one_each = are.one_each in
        omega (arith, inside, one_each, sized)

    by_node : (t : ℕ) (range : UnitRange) → slice_get ranges t ≡ Some range
        → IsRangeBy market from_null to_null (trade_node market t) range
    by_node t range at = subst (λ (v : ℕ). IsRangeBy market from_null to_null v range) (node_is t) (are.each t range at)

    same_counts : (t : ℕ) → t < length market.trades.items → sold_at market levels t ≡ count_in counts t
    same_counts t below =
        levels_read levels counts n place (length market.sets.items + market.firms) t counted (omega (arith, below, sized))
        (omega (arith, at_place))

    high_shown : (t : ℕ) (o : Option ℤ) (steps : List (Option UnitStep)) → t < length market.trades.items
        → LeadsLeast (link_arc links levels 1) (null_node market) (trade_node market t)
        (walk_in from_null (trade_node market t)) o
        → steps ≡ high_steps market o (walk_in from_null (trade_node market t))
        → ShowsHighest market (count_in counts) t o steps
    high_shown t None steps below lead made = made
    high_shown t (Some cost) steps below lead made =
        high_same market (sold_at market levels) (count_in counts) t steps cost same_counts below
        (high_path market links levels label found.settled t (walk_in from_null (trade_node market t)) cost steps below lead
        made)

    low_shown : (t : ℕ) (o : Option ℤ) (steps : List (Option UnitStep)) → t < length market.trades.items
        → LeadsLeast (link_arc links levels 1) (trade_node market t) (null_node market)
        (walk_in to_null (trade_node market t)) o
        → steps ≡ low_steps market o (walk_in to_null (trade_node market t))
        → ShowsLowest market (count_in counts) t (option_map neg_ℤ o) steps
    low_shown t None steps below lead made = made
    low_shown t (Some cost) steps below lead made =
        subst (IsLowPath market (count_in counts) t steps) (twice cost)
        (low_same market (sold_at market levels) (count_in counts) t steps cost same_counts below
        (low_path market links levels label found.settled t (walk_in to_null (trade_node market t)) cost steps below lead
        made))
      where
        twice : (z : ℤ) → z ≡ neg_ℤ (neg_ℤ z)
        twice z = omega (arith, ints)

    range_is : (t : ℕ) (range : UnitRange) → slice_get ranges t ≡ Some range
        → IsRangeByCounts market (count_in counts) t range
    range_is t range at =
        let by = by_node t range at in
        let below = below_of t range at in
        record {
          lowest = subst (IsLowestByCounts (firms_of market) market.trades.items t) (sym by.low)
              (prices_walks.lowest market links levels label (walk_in to_null) (distance_in to_null) found.settled
              found.lead_to t below);
          low_shown = subst (λ (o : Option ℤ). ShowsLowest market (count_in counts) t o range.low_path.items) (sym by.low)
              (low_shown t (distance_in to_null (trade_node market t)) range.low_path.items below
              (found.lead_to (trade_node market t) (omega (arith, below))) by.low_path);
          highest = subst (IsHighestByCounts (firms_of market) market.trades.items t) (sym by.high)
              (prices_walks.highest market links levels label (walk_in from_null) (distance_in from_null) found.settled
              found.lead_from t below);
          high_shown = subst (λ (o : Option ℤ). ShowsHighest market (count_in counts) t o range.high_path.items)
              (sym by.high) (high_shown t (distance_in from_null (trade_node market t)) range.high_path.items below
              (found.lead_from (trade_node market t) (omega (arith, below))) by.high_path);
        }

    item_of : (t : ℕ) → t < length market.trades.items → (range : UnitRange) × (slice_get ranges t ≡ Some range)
    item_of t below = item_at ranges t (let one_each = are.one_each in omega (arith, below, one_each, sized))

    unmapped : (o : Option ℤ) (z : ℤ) → option_map neg_ℤ o ≡ Some z → o ≡ Some (neg_ℤ z)
    unmapped None z is = absurd (none-some z is)
    unmapped (Some a) z is =
        let same = same_Some (neg_ℤ a) z is in
        let back : a ≡ neg_ℤ z = omega (arith, ints, same) in
        ap (λ (w : ℤ). Some w) back

    pub ranges_are : AreRangesByCounts market counts ranges
    ranges_are = record {
      count_each = ap length counted ∙ length-map-range_with_len (λ t. get_or levels (place + t) 0) 0 n ∙ sized;
      efficient = equilibria_efficient (firms_of market) market.trades.items (pos 1) (count_in counts)
          (price_by market label) (have_firms market found.settled.market_is) (omega (arith, ints))
          (equilibrium_same market (sold_at market levels) (count_in counts) (price_by market label)
          (price_by market label) same_counts (λ t below. refl)
          (labels_equilibrium market links levels label found.settled.market_is found.settled.of found.settled.kept
          found.settled.keeps));
      one_each = are.one_each ∙ sized;
      each = range_is;
      highs = λ prices highest. equilibrium_same market (sold_at market levels) (count_in counts) prices prices same_counts
          (λ t below. refl)
          (prices_walks.highs market links levels label (walk_in from_null) (distance_in from_null) found.settled
          found.lead_from prices (λ t below. let item = item_of t below in
          sym (by_node t item.0 item.1).high ∙ highest t item.0 item.1));
      lows = λ prices lowest. equilibrium_same market (sold_at market levels) (count_in counts) prices prices same_counts
          (λ t below. refl)
          (prices_walks.lows market links levels label (walk_in to_null) (distance_in to_null) found.settled
          found.lead_to prices (λ t below. let item = item_of t below in
          unmapped (distance_in to_null (trade_node market t)) (prices t)
          (sym (by_node t item.0 item.1).low ∙ lowest t item.0 item.1)));
    }

    negated_small : (o : Option ℤ) → IfSome o (λ cost. IsAtMost cost most_unit_price)
        → IfSome (option_map neg_ℤ o) (λ price. IsAtMost price most_unit_price)
    negated_small None small = tt
    negated_small (Some cost) small =
        let low = small.low in let high = small.high in
        record { low = omega (arith, ints, high); high = omega (arith, ints, low) }

    pub ranges_small : All IsSmallRange ranges
    ranges_small = λ t d inside.
        let range = get_or ranges t d in
        let at = slice_get-get_or ranges t d inside in
        let by = by_node t range at in
        let below = below_of t range at in
        record {
          low = subst (λ (o : Option ℤ). IfSome o (λ price. IsAtMost price most_unit_price)) (sym by.low)
              (negated_small (distance_in to_null (trade_node market t)) (low_small t below));
          high = subst (λ (o : Option ℤ). IfSome o (λ price. IsAtMost price most_unit_price)) (sym by.high)
              (high_small t below);
        }

-- labels over the levels as they are lent
pub labels_lent : (links : List Link) (levels lent : List ℕ) (labels own : List ℤ) (nodes size : ℕ)
    → AreLabels size (link_arc links levels 1) labels → size ≡ nodes → lent ≡ levels → own ≡ labels
    → AreLabels nodes (link_arc links lent 1) own
labels_lent links levels lent labels own nodes size are sized same same_labels =
    subst (λ (n : ℕ). AreLabels n (link_arc links lent 1) own) sized
    (subst (λ (xs : List ℕ). AreLabels size (link_arc links xs 1) own) (sym same)
    (subst (AreLabels size (link_arc links levels 1)) (sym same_labels) are))

pub found_by : (market : UnitMarket) (links : List Link) (levels first second : List ℕ) (labels : List ℤ)
    (nodes null : ℕ) (from_null to_null : Reading) → IsUnitMarket market → AreLinksOf market [] links
    → IsKeptFlow links levels → AreLabels (null + 1) (link_arc links levels 1) labels → null ≡ null_node market
    → nodes ≡ suc (null_node market) → first ≡ levels → second ≡ levels
    → ((v : ℕ) → v < nodes → LeadsLeast (link_arc links first 1) null v (walk_in from_null v) (distance_in from_null v))
    → ((v : ℕ) → v < nodes → LeadsLeast (link_arc links second 1) v null (walk_in to_null v) (distance_in to_null v))
    → AreFound market links levels (label_in labels) from_null to_null
found_by market links levels first second labels nodes null from_null to_null is of kept are last sized one two from to =
    record {
      is = is;
      settled = record { market_is = wide_market market is; of = of; kept = kept; keeps = are.keeps };
      lead_from = λ v below.
          subst (λ (n : ℕ). LeadsLeast (link_arc links levels 1) n v (walk_in from_null v) (distance_in from_null v)) last
          (subst (λ (xs : List ℕ). LeadsLeast (link_arc links xs 1) null v (walk_in from_null v) (distance_in from_null v))
          one (from v (omega (arith, below, sized))));
      lead_to = λ v below.
          subst (λ (n : ℕ). LeadsLeast (link_arc links levels 1) v n (walk_in to_null v) (distance_in to_null v)) last
          (subst (λ (xs : List ℕ). LeadsLeast (link_arc links xs 1) v null (walk_in to_null v) (distance_in to_null v))
          two (to v (omega (arith, below, sized))));
    }
