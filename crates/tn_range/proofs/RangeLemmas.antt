-- What the least walks show of the prices of all trades.
use Rattle.std.proofs.Common.{◌≡◌, ℕ, ◌+◌, ◌<◌, ◌≤◌, ◌⊎◌, inl, inr, List, [], ◌∷◌, ◌++◌, length, set, slice_get, Some, None, Option, option_map, Bool, if◌then◌else◌, refl, sym, ap, ◌∙◌, subst, arith, ℤ, pos, neg_ℤ, ◌+ℤ◌, ◌≤ℤ◌}
use Rattle.std.specs.Prelude.{All, IfSome}
use Rattle.std.proofs.lemmas.Int.{ints}
use Rattle.std.proofs.lemmas.Bool.{cases_eq, cases_lt, le-ltb, lt-ltb}
use Rattle.std.proofs.lemmas.List.{get_or-set_other, get_or-set_same, length-append}
use Rattle.std.proofs.lemmas.Option.{none-some, same_Some, slice_get_within}
use Rattle.tn_base.specs.Arcs.{IsAtMost}
use Rattle.tn_base.specs.Firm.{Firm}
use Rattle.tn_base.specs.Walks.{KeepsArcs}
use Rattle.tn_model.specs.declared.ends.Ends.{Ends}
use Rattle.tn_model.specs.declared.range.Range.{Range}
use Rattle.tn_model.specs.Network.{IsNetwork}
use Rattle.tn_model.specs.Prices.{price_at}
use Rattle.tn_market.specs.Equilibrium.{IsEquilibrium}
use Rattle.tn_market.specs.Graph.{exchange_arc}
use Rattle.tn_market.specs.Ranges.{IsPath, ShowsHighest, ShowsLowest, IsRange, AreRanges}
use Rattle.tn_market.specs.Widths.{most_market_trades}
use Rattle.tn_graph.specs.Blocks.{CostBlocks, arcs_of}
use Rattle.tn_graph.specs.BlockLemmas.{arcs_of-between, arcs_of-small}
use Rattle.tn_graph.specs.Reading.{IsExchangeGraph}
use Rattle.tn_cycle.specs.Reading.{Reading}
use Rattle.tn_cycle.specs.Answers.{AreNear, IsLeastPath, LeadsLeast, distance_in, label_in, walk_in}
use Rattle.tn_cycle.specs.Widths.{most_read}
use Rattle.tn_cycle.proofs.WalkLemmas.{avoids-cons}
use Rattle.tn_network_laws.specs.Laws.{MeetExchange, price_of_node}
use Rattle.tn_network_laws.specs.Bounds.{IsDistance}
use Rattle.tn_network_laws.proofs.BoundLemmas.{price_bounds_are_distances}
use Rattle.tn_network_laws.proofs.PoolLemmas.{append_front, append_behind}
use Rattle.tn_network_laws.proofs.SupportLemmas.{arcs_from_supports}
use Rattle.tn_range.specs.Shown.{KeepsWalks, range_by, said_walk, AreRangesBy}
use Rattle.tn_range.proofs.PathLemmas.{leads-distance, leads-same, least-small, different-push}

-- the nodes of a least walk between two different nodes are a path
path-of : (firms : List Firm) (trades : List Ends) (on u w : ℕ) (listed : List ℕ) (cost : ℤ) → (w ≡ u → ⊥)
    → IsLeastPath (exchange_arc firms trades on) u w listed cost
    → IsPath firms trades on u w (said_walk (length trades) (Some cost) listed) cost
path-of firms trades on u w listed cost apart path = record {
  inner = path.inner;
  nodes_are = ap (said_walk (length trades) (Some cost)) path.nodes_are;
  walk = path.least.walk;
  different = different-push (u ∷ path.inner) w path.different
      (avoids-cons w u path.inner (λ e. apart (sym e)) path.ends);
}

-- least walks from null and to null, by trade
pub record AreFound (firms : List Firm) (trades : List Ends) (on : ℕ) (from_null to_null : Reading) : Type 0 where
  pub from_walks : (t : ℕ) → t < length trades
      → LeadsLeast (exchange_arc firms trades on) (length trades) t (walk_in from_null t) (distance_in from_null t)
  pub to_walks : (t : ℕ) → t < length trades
      → LeadsLeast (exchange_arc firms trades on) t (length trades) (walk_in to_null t) (distance_in to_null t)

pub found : (firms : List Firm) (trades : List Ends) (on from_nodes to_nodes null : ℕ) (graph : CostBlocks)
    (from_null to_null : Reading) → IsExchangeGraph firms trades on graph → from_nodes ≡ length trades + 1
    → to_nodes ≡ length trades + 1 → null ≡ length trades
    → ((v : ℕ) → v < from_nodes → LeadsLeast (arcs_of graph) null v (walk_in from_null v) (distance_in from_null v))
    → ((v : ℕ) → v < to_nodes → LeadsLeast (arcs_of graph) v null (walk_in to_null v) (distance_in to_null v))
    → AreFound firms trades on from_null to_null
found firms trades on from_nodes to_nodes null graph from_null to_null is from_sized to_sized last from to = record {
  from_walks =
      λ t below. leads-same (exchange_arc firms trades on) (arcs_of graph) (λ u v. sym (is.arcs u v)) (length trades) t
      _ _
      (subst (λ (n : ℕ). LeadsLeast (arcs_of graph) n t (walk_in from_null t) (distance_in from_null t)) last
      (from t (omega (arith, below, from_sized))));
  to_walks = λ t below. leads-same (exchange_arc firms trades on) (arcs_of graph) (λ u v. sym (is.arcs u v)) t
      (length trades) _ _
      (subst (λ (n : ℕ). LeadsLeast (arcs_of graph) t n (walk_in to_null t) (distance_in to_null t)) last
      (to t (omega (arith, below, to_sized))));
}

-- one node more has its price
pub next_price : (t : ℕ) (prices before : List ℤ) (price : ℤ) → t < length before
    → ((v : ℕ) → label_in before v ≡ price_of_node t (price_at prices) v) → price_at prices t ≡ price
    → (v : ℕ) → label_in (set before t price) v ≡ price_of_node (t + 1) (price_at prices) v
next_price t prices before price inside had is v = elim (cases_eq v t) [
  | inl same ↦ ap (label_in (set before t price)) same ∙ get_or-set_same before t price (pos 0) inside ∙ sym is
      ∙ ap (price_at prices) (sym same)
      ∙ sym (ap (λ (b : Bool). if b then price_at prices v else pos 0)
      (lt-ltb v (t + 1) (omega (arith, same))))
  | inr other ↦ get_or-set_other before t v price (pos 0) other ∙ had v
      ∙ ap (λ (b : Bool). if b then price_at prices v else pos 0) (elim (cases_lt v t) [
        | inl below ↦ lt-ltb v t below ∙ sym (lt-ltb v (t + 1) (omega (arith, below)))
        | inr above ↦ le-ltb v t above ∙ sym (le-ltb v (t + 1) (omega (arith, above, other)))
      ])
]

-- prices that support the set keep the arcs of the graph, with 0 for the null node
pub prices_keep : (firms : List Firm) (trades : List Ends) (on count : ℕ) (prices labels : List ℤ) (graph : CostBlocks)
    → IsNetwork firms trades → IsEquilibrium firms trades (pos 1) on (price_at prices)
    → IsExchangeGraph firms trades on graph → count ≡ length trades
    → ((v : ℕ) → label_in labels v ≡ price_of_node count (price_at prices) v)
    → KeepsArcs (arcs_of graph) (label_in labels)
prices_keep firms trades on count prices labels graph network equilibrium is counted are u v cost here =
    let kept : price_of_node (length trades) (price_at prices) v
    ≤ℤ (price_of_node (length trades) (price_at prices) u +ℤ cost) =
    arcs_from_supports firms trades on (price_at prices) network equilibrium u v cost (sym (is.arcs u v) ∙ here) in
    subst (λ (z : ℤ). z ≤ℤ (label_in labels u +ℤ cost)) (sym (at v))
    (subst (λ (z : ℤ). price_of_node (length trades) (price_at prices) v ≤ℤ (z +ℤ cost)) (sym (at u)) kept)
  where
    at : (w : ℕ) → label_in labels w ≡ price_of_node (length trades) (price_at prices) w
    at w = are w ∙ ap (λ (n : ℕ). price_of_node n (price_at prices) w) counted

-- labels are as near to 0 as the prices that they are
pub prices_near : (count reach : ℕ) (prices labels : List ℤ) → length prices ≡ count
    → All (λ price. IsAtMost price reach) prices
    → ((v : ℕ) → label_in labels v ≡ price_of_node count (price_at prices) v) → AreNear reach labels
prices_near count reach prices labels counted small are v inside =
    subst (λ (z : ℤ). IsAtMost z reach) (sym (are v)) (elim (cases_lt v count) [
      | inl below ↦ subst (λ (b : Bool). IsAtMost (if b then price_at prices v else pos 0) reach)
          (sym (lt-ltb v count below)) (small v (pos 0) (omega (arith, below, counted)))
      | inr above ↦ subst (λ (b : Bool). IsAtMost (if b then price_at prices v else pos 0) reach)
          (sym (le-ltb v count above)) (record { low = omega (arith, ints); high = omega (arith, ints) })
    ])

-- the costs of least walks to null are small
pub costs_small : (graph : CostBlocks) (nodes null trades : ℕ) (to_null : Reading) → graph.nodes ≡ trades + 1
    → nodes ≡ trades + 1 → trades ≤ most_market_trades
    → ((v : ℕ) → v < nodes → LeadsLeast (arcs_of graph) v null (walk_in to_null v) (distance_in to_null v)) → (t : ℕ)
    → t < trades → IfSome (distance_in to_null t) (λ cost. IsAtMost cost most_read)
costs_small graph nodes null trades to_null sized also few walks t below =
    least-small graph.nodes (arcs_of graph) (arcs_of-between graph) (arcs_of-small graph) (omega (arith, sized, few)) t
    null (walk_in to_null t) (distance_in to_null t)
    (omega (arith, sized, below)) (walks t (omega (arith, also, below)))

-- ---- one trade after another

pub keeps-trans : (first second third : Reading) → KeepsWalks first second → KeepsWalks second third
    → KeepsWalks first third
keeps-trans first second third one two = record {
  distances = two.distances ∙ one.distances;
  walks =
      two.walks ∙ one.walks;
}

range_by-same : (null t : ℕ) (from_null to_null from_now to_now : Reading) → KeepsWalks from_null from_now
    → KeepsWalks to_null to_now → range_by null from_now to_now t ≡ range_by null from_null to_null t
range_by-same null t from_null to_null from_now to_now one two =
    rw (one.distances, one.walks, two.distances, two.walks) refl

pub ranges-push : (null t : ℕ) (from_null to_null from_now to_now : Reading) (ranges new : List Range) (range : Range)
    → AreRangesBy null t from_null to_null ranges
    → KeepsWalks from_null from_now → KeepsWalks to_null to_now → range ≡ range_by null from_now to_now t
    → new ≡ ranges ++ range ∷ [] → AreRangesBy null (t + 1) from_null to_null new
ranges-push null t from_null to_null from_now to_now ranges new range are one two is new_is = record {
  one_each = (let sized = are.one_each in let more = ap length new_is in let sum = length-append ranges (range ∷ []) in
      omega (arith, sized, more, sum));
  each = λ s below. ap (λ (xs : List Range). slice_get xs s) new_is ∙ at s below (cases_lt s t);
}
  where
    at : (s : ℕ) → s < t + 1 → (s < t) ⊎ (t ≤ s) → slice_get (ranges ++ range ∷ []) s
        ≡ Some (range_by null from_null to_null s)
    at s below (inl before) = append_front ranges (range ∷ []) s _ (are.each s before)
    at s below (inr last) =
        let same : s ≡ t = omega (arith, below, last) in
        let sized = are.one_each in
        append_behind ranges (range ∷ []) 0 s range (omega (arith, same, sized)) refl
        ∙ ap (λ (r : Range). Some r) (is ∙ range_by-same null t from_null to_null from_now to_now one two
        ∙ ap (range_by null from_null to_null) (sym same))

twice : (z : ℤ) → z ≡ neg_ℤ (neg_ℤ z)
twice z = omega (arith, ints)

module _ (firms : List Firm) (trades : List Ends) (on : ℕ) (given : ℕ → ℤ) (from_null to_null : Reading)
    (network : IsNetwork firms trades) (meet : MeetExchange firms)
    (equilibrium : IsEquilibrium firms trades (pos 1) on given)
    (walks : AreFound firms trades on from_null to_null) where
  from_distance : (t : ℕ) → t < length trades
      → IsDistance (exchange_arc firms trades on) (length trades) t (distance_in from_null t)
  from_distance t below =
      leads-distance (exchange_arc firms trades on) (length trades) t (walk_in from_null t) (distance_in from_null t)
      (walks.from_walks t below)

  to_distance : (t : ℕ) → t < length trades
      → IsDistance (exchange_arc firms trades on) t (length trades) (distance_in to_null t)
  to_distance t below =
      leads-distance (exchange_arc firms trades on) t (length trades) (walk_in to_null t) (distance_in to_null t)
      (walks.to_walks t below)

  high_shown : (t : ℕ) (o : Option ℤ) → t < length trades
      → LeadsLeast (exchange_arc firms trades on) (length trades) t (walk_in from_null t) o
      → ShowsHighest firms trades on t o (said_walk (length trades) o (walk_in from_null t))
  high_shown t None below none = refl
  high_shown t (Some cost) below some =
      path-of firms trades on (length trades) t (walk_in from_null t) cost (λ e. omega (arith, below, e)) some

  low_shown : (t : ℕ) (o : Option ℤ) → t < length trades
      → LeadsLeast (exchange_arc firms trades on) t (length trades) (walk_in to_null t) o
      → ShowsLowest firms trades on t (option_map neg_ℤ o) (said_walk (length trades) o (walk_in to_null t))
  low_shown t None below none = refl
  low_shown t (Some cost) below some =
      subst (IsPath firms trades on t (length trades) (said_walk (length trades) (Some cost) (walk_in to_null t)))
      (twice cost)
      (path-of firms trades on t (length trades) (walk_in to_null t) cost (λ e. omega (arith, below, e)) some)

  one_range : (t : ℕ) → t < length trades → IsRange firms trades on t (range_by (length trades) from_null to_null t)
  one_range t below = record {
    lowest = price_bounds_are_distances.lowest firms trades on given network meet equilibrium (distance_in to_null)
        to_distance t below;
    low_shown = low_shown t (distance_in to_null t) below (walks.to_walks t below);
    highest = price_bounds_are_distances.highest firms trades on given network meet equilibrium (distance_in from_null)
        from_distance t below;
    high_shown = high_shown t (distance_in from_null t) below (walks.from_walks t below);
  }

  pub all_ranges : (ranges : List Range) → AreRangesBy (length trades) (length trades) from_null to_null ranges
      → AreRanges firms trades on ranges
  all_ranges ranges are = record {
    one_each = are.one_each;
    each = λ t range is.
        let below = inside t range is in
        subst (IsRange firms trades on t) (same_Some _ _ (sym (are.each t below) ∙ is)) (one_range t below);
    highs = λ prices highest. price_bounds_are_distances.highs firms trades on given network meet equilibrium prices
        (λ t below. subst (IsDistance (exchange_arc firms trades on) (length trades) t)
        (highest t (range_by (length trades) from_null to_null t) (are.each t below)) (from_distance t below));
    lows = λ prices lowest. price_bounds_are_distances.lows firms trades on given network meet equilibrium prices
        (λ t below. subst (IsDistance (exchange_arc firms trades on) t (length trades))
        (unmapped (distance_in to_null t) (prices t) (lowest t (range_by (length trades) from_null to_null t)
        (are.each t below))) (to_distance t below));
  }
    where
      inside : (t : ℕ) (range : Range) → slice_get ranges t ≡ Some range → t < length trades
      inside t range is = subst (λ (n : ℕ). t < n) are.one_each (slice_get_within ranges t range is)

      unmapped : (o : Option ℤ) (z : ℤ) → option_map neg_ℤ o ≡ Some z → o ≡ Some (neg_ℤ z)
      unmapped None z is = absurd (none-some z is)
      unmapped (Some a) z is = let same = same_Some _ _ is in
          ap (λ (w : ℤ). Some w) (let e : a ≡ neg_ℤ z = omega (arith, ints, same) in e)
