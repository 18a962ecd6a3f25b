-- The costs of the reduced graph, as they are read and written.
use Rattle.std.proofs.Common.{◌≡◌, ℕ, ◌+◌, ◌^◌, ◌<◌, ◌≤◌, if◌then◌else◌, List, [], ◌∷◌, ◌++◌, length, map, slice_get, Option, Some, None, option_map, refl, sym, ap, ◌∙◌, subst, arith, inl, inr, ℤ}
use Rattle.std.specs.Prelude.{option_and_then, IfSome}
use Rattle.std.proofs.lemmas.Bool.{cases_lt}
use Rattle.std.proofs.lemmas.Int.{ints}
use Rattle.std.proofs.lemmas.Option.{same_Some, slice_get-map, slice_get_within}
use Rattle.tn_base.specs.Arcs.{IsAtMost, AreSmall}
use Rattle.tn_base.specs.Widths.{most_cost}
use Rattle.tn_chain.specs.Limits.{most_reduced_cost}
use Rattle.tn_base.specs.Sets.{has}
use Rattle.tn_base.specs.Firm.{Firm}
use Rattle.tn_model.specs.declared.ends.Ends.{Ends}
use Rattle.tn_model.specs.declared.contract.Contract.{Contract}
use Rattle.tn_model.specs.Network.{IsNetwork}
use Rattle.tn_market.specs.Graph.{loss, exchange_arc}
use Rattle.tn_market.specs.Reduced.{reduced, reduced_firms, reduced_arc}
use Rattle.tn_market.proofs.GraphLemmas.{arc_within}
use Rattle.tn_graph.specs.Blocks.{CostBlocks, arcs_of}
use Rattle.tn_graph.specs.BlockLemmas.{arcs_of-between}
use Rattle.tn_graph.specs.Layout.{IsLaidOut}
use Rattle.tn_graph.specs.Reading.{IsWithoutArcs, IsExchangeGraph}
use Rattle.tn_outcome_laws.proofs.CompletionLemmas.{reduced_is}
use Rattle.tn_chain.specs.Moves.{arc_move, AreWritten}
use Rattle.tn_chain.proofs.MoveLemmas.{arc_of_move, move_cost, move_is}

-- ---- one cost

-- a move is one of a firm of the market
pub record IsItemMove {V : Type 0} (firm_of : V → Firm) (items : List V) (f x : ℕ) : Type 0 where
  pub item : V
  pub is : slice_get items f ≡ Some item
  pub inside : f < length items
  pub within : (w : V) → slice_get items f ≡ Some w → x < 2 ^ (firm_of w).count

pub item_move : {V : Type 0} (firm_of : V → Firm) (items : List V) (trades : List Ends)
    → IsNetwork (map firm_of items) trades → (u v f x : ℕ) → arc_move trades u v ≡ Some (f, x)
    → IsItemMove firm_of items f x
item_move {V} firm_of items trades network u v f x is = by (slice_get items f) refl
  where
    by : (o : Option V) → slice_get items f ≡ o → IsItemMove firm_of items f x
    by None there =
        let moved = move_is (map firm_of items) trades network u v (f, x) is in
        absurd (let none = sym moved.is ∙ slice_get-map firm_of items f ∙ ap (option_map firm_of) there in cc none)
    by (Some item) there =
        let moved = move_is (map firm_of items) trades network u v (f, x) is in
        let same : moved.firm ≡ firm_of item =
        same_Some _ _ (sym moved.is ∙ slice_get-map firm_of items f ∙ ap (option_map firm_of) there) in
        record {
          item = item;
          is = there;
          inside = slice_get_within items f item there;
          within = λ w w_is. subst (λ (z : Firm). x < 2 ^ z.count)
              (same ∙ ap firm_of (same_Some item w (sym there ∙ w_is))) moved.within;
        }

-- what its firm loses is the cost of the arc
pub move_cost_is : {V : Type 0} (firm_of : V → Firm) (items : List V) (trades : List Ends) (over : ℤ)
    (contracts : List Contract) (u v f x : ℕ) (item : V) (cost : Option ℤ)
    → u ≤ length trades → v ≤ length trades → arc_move trades u v ≡ Some (f, x) → slice_get items f ≡ Some item
    → cost ≡ loss (reduced trades over contracts f (firm_of item)) 0 x
    → cost ≡ reduced_arc (map firm_of items) trades over contracts u v
move_cost_is firm_of items trades over contracts u v f x item cost from to is there loses =
    loses
    ∙ sym (arc_of_move (reduced_firms trades over contracts (map firm_of items)) trades u v from to
    ∙ ap (move_cost (reduced_firms trades over contracts (map firm_of items))) is
    ∙ ap (option_and_then (λ firm. loss firm 0 x)) (reduced_is trades over contracts (map firm_of items) f
    (firm_of item) (slice_get-map firm_of items f ∙ ap (option_map firm_of) there)))

pub no_move_cost : (firms : List Firm) (trades : List Ends) (over : ℤ) (contracts : List Contract) (u v : ℕ)
    → u ≤ length trades → v ≤ length trades → arc_move trades u v ≡ None
    → None ≡ reduced_arc firms trades over contracts u v
no_move_cost firms trades over contracts u v from to none =
    sym (arc_of_move (reduced_firms trades over contracts firms) trades u v from to
    ∙ ap (move_cost (reduced_firms trades over contracts firms)) none)

-- ---- all costs

-- each cost that is read is small
pub cost_small : (arc : ℕ → ℕ → Option ℤ) → AreSmall arc most_reduced_cost → (u v : ℕ) (cost : Option ℤ)
    → cost ≡ arc u v → IfSome cost (λ c. IsAtMost c most_cost)
cost_small arc small u v None is = tt
cost_small arc small u v (Some c) is = let h = small u v c (sym is) in
    record { low = omega (arith, ints, h.low); high = omega (arith, ints, h.high) }

pub none_written : (arc : ℕ → ℕ → Option ℤ) (nodes : ℕ) (graph : CostBlocks) → IsWithoutArcs nodes graph
    → AreWritten arc nodes 0 graph
none_written arc nodes graph empty = record {
  nodes_are = empty.nodes;
  written = λ a b b_in below. absurd (omega (arith, below));
}

-- where all rows are written, the graph is the exchange graph
pub all_written : (firms : List Firm) (trades : List Ends) (on u : ℕ) (graph : CostBlocks)
    → AreWritten (exchange_arc firms trades on) (length trades + 1) u graph → length trades + 1 ≤ u
    → IsLaidOut trades (has on) graph.places → IsExchangeGraph firms trades on graph
all_written firms trades on u graph written past laid_out = record {
  nodes = written.nodes_are;
  laid_out = laid_out;
  arcs = λ a b. elim (cases_lt a (length trades + 1)) [
    | inr above ↦
        by_none a b (λ c is. (let p = (arcs_of-between graph a b c is).0 in let n = written.nodes_are in
        omega (arith, p, n, above))) (λ c is. (let p = (arc_within firms trades on a b c is).0 in
        omega (arith, p, above)))
    | inl a_below ↦ elim (cases_lt b (length trades + 1)) [
      | inl b_below ↦ written.written a b b_below (omega (arith, a_below, past))
      | inr above ↦
          by_none a b (λ c is. (let p = (arcs_of-between graph a b c is).1 in let n = written.nodes_are in
          omega (arith, p, n, above))) (λ c is. (let p = (arc_within firms trades on a b c is).1 in
          omega (arith, p, above)))
    ]
  ];
}
  where
    by_none : (a b : ℕ) → ((c : ℤ) → arcs_of graph a b ≡ Some c → ⊥)
        → ((c : ℤ) → exchange_arc firms trades on a b ≡ Some c → ⊥)
        → arcs_of graph a b ≡ exchange_arc firms trades on a b
    by_none a b first second = by (arcs_of graph a b) (exchange_arc firms trades on a b) first second
      where
        by : (o p : Option ℤ) → ((c : ℤ) → o ≡ Some c → ⊥) → ((c : ℤ) → p ≡ Some c → ⊥) → o ≡ p
        by None None f h = refl
        by (Some c) p f h = absurd (f c refl)
        by None (Some c) f h = absurd (h c refl)

pub small_graph : (arc : ℕ → ℕ → Option ℤ) (limit : ℕ) (graph : CostBlocks) → AreSmall arc limit
    → ((u v : ℕ) → arcs_of graph u v ≡ arc u v) → AreSmall (arcs_of graph) limit
small_graph arc limit graph small arcs u v cost is = small u v cost (sym (arcs u v) ∙ is)
