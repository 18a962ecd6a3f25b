-- The rows of the reduced graph, as they are written: arc by arc, by the nodes that are listed for a row.
use Rattle.std.specs.Prelude.{IsSome, option_and_then}
use Rattle.std.proofs.Common.{◌≡◌, ℕ, ◌+◌, ◌<◌, ◌≤◌, true, length, List, get_or, pos, ◌^◌, Option, Some, None, refl, sym, ap, ◌∙◌, subst, arith, inl, inr, ℤ}
use Rattle.std.proofs.lemmas.Bool.{cases_eq, cases_lt}
use Rattle.tn_base.specs.Sets.{has}
use Rattle.tn_base.specs.Firm.{Firm}
use Rattle.tn_model.specs.declared.ends.Ends.{Ends}
use Rattle.tn_market.specs.Graph.{exchange_arc}
use Rattle.tn_graph.specs.Blocks.{CostBlocks, Places, place_of, cost_in_cell, arcs_of, listed_count, listed_at}
use Rattle.tn_graph.specs.BlockLemmas.{arcs_of-successors}
use Rattle.tn_graph.specs.Layout.{IsLaidOut}
use Rattle.tn_graph.specs.Reading.{IsCostWritten}
use Rattle.tn_graph.proofs.PlacedLemmas.{placed_arc}
use Rattle.tn_chain.specs.Moves.{AreWritten}
use Rattle.tn_chain.proofs.ListedLemmas.{lists_placed}

-- the rows before node u are written, and of its own row the arcs to the first k nodes that are listed for it
pub record IsRowTo (arc : ℕ → ℕ → Option ℤ) (nodes u k : ℕ) (before graph : CostBlocks) : Type 0 where
  pub written : AreWritten arc nodes u graph
  pub places : graph.places ≡ before.places
  pub row : (i : ℕ) → i < k → arcs_of graph u (listed_at before.places true u i)
      ≡ arc u (listed_at before.places true u i)

pub row_begun : (arc : ℕ → ℕ → Option ℤ) (nodes u : ℕ) (graph : CostBlocks) → AreWritten arc nodes u graph
    → IsRowTo arc nodes u 0 graph graph
row_begun arc nodes u graph written = record {
  written = written;
  places = refl;
  row = λ i below. absurd (omega (arith, below));
}

pub row_next : (arc : ℕ → ℕ → Option ℤ) (nodes u k v : ℕ) (before graph after : CostBlocks) (cost : Option ℤ)
    → IsRowTo arc nodes u k before graph → v ≡ listed_at graph.places true u k → IsCostWritten graph u v cost after
    → cost ≡ arc u v → IsRowTo arc nodes u (k + 1) before after
row_next arc nodes u k v before graph after cost to v_is one right = record {
  written = record {
    nodes_are = one.nodes ∙ to.written.nodes_are;
    written = λ a b b_in below. one.elsewhere a b (λ e f. absurd (omega (arith, below, e)))
        ∙ to.written.written a b b_in below;
  };
  places = one.places ∙ to.places;
  row = λ i below. elim (cases_eq (listed_at before.places true u i) v) [
    | inl e ↦ ap (arcs_of after u) e ∙ one.here ∙ right ∙ sym (ap (arc u) e)
    | inr d ↦ elim (cases_lt i k) [
      | inl p ↦ one.elsewhere u (listed_at before.places true u i) (λ e f. d f) ∙ to.row i p
      | inr past ↦
          let same : i ≡ k = omega (arith, below, past) in
          absurd (d (ap (listed_at before.places true u) same
          ∙ ap (λ (p : Places). listed_at p true u k) (sym to.places) ∙ sym v_is))
    ]
  ];
}

-- the node at the next place is listed, and it is a node
pub row_place : (arc : ℕ → ℕ → Option ℤ) (nodes u k count : ℕ) (before graph : CostBlocks)
    → IsRowTo arc nodes u k before graph → count ≡ listed_count before.places true u → k < count
    → k < listed_count graph.places true u
row_place arc nodes u k count before graph to count_is below =
    let counts : listed_count graph.places true u ≡ listed_count before.places true u =
    ap (λ (p : Places). listed_count p true u) to.places in
    omega (arith, below, count_is, counts)

pub row_node : (arc : ℕ → ℕ → Option ℤ) (nodes u k v count : ℕ) (before graph : CostBlocks)
    → IsRowTo arc nodes u k before graph → u < nodes → count ≡ listed_count before.places true u → k < count
    → v ≡ listed_at graph.places true u k → v < nodes
row_node arc nodes u k v count before graph to from count_is below v_is =
    let sized = to.written.nodes_are in
    let node = (arcs_of-successors graph u (omega (arith, from, sized))).inside k
    (row_place arc nodes u k count before graph to count_is below) in
    omega (arith, node, v_is, sized)

-- where an arc has no place there is none
no_place : (graph : CostBlocks) (u v : ℕ) → place_of graph.nodes graph.places u v ≡ None → arcs_of graph u v ≡ None
unfolding arcs_of
no_place graph u v none =
    ap (option_and_then (λ (place : ℕ). cost_in_cell (get_or graph.cells place (pos (2 ^ 63))))) none

-- where all that are listed are past, the row is written: there is a place for each arc that may be
pub row_done : (firms : List Firm) (trades : List Ends) (on u k : ℕ) (before graph : CostBlocks)
    → IsRowTo (exchange_arc firms trades on) (length trades + 1) u k before graph
    → IsLaidOut trades (has on) graph.places → listed_count before.places true u ≤ k
    → AreWritten (exchange_arc firms trades on) (length trades + 1) (u + 1) graph
row_done firms trades on u k before graph to laid past = record {
  nodes_are = to.written.nodes_are;
  written = λ a b b_in below. elim (cases_eq a u) [
    | inl e ↦ ap (λ (w : ℕ). arcs_of graph w b) e ∙ whole b (place_of graph.nodes graph.places u b) refl
        ∙ sym (ap (λ (w : ℕ). exchange_arc firms trades on w b) e)
    | inr d ↦ to.written.written a b b_in (omega (arith, below, d))
  ];
}
  where
    whole : (b : ℕ) (o : Option ℕ) → place_of graph.nodes graph.places u b ≡ o
        → arcs_of graph u b ≡ exchange_arc firms trades on u b
    whole b (Some place) is =
        let found = lists_placed graph u b place is in
        let counts : listed_count graph.places true u ≡ listed_count before.places true u =
        ap (λ (p : Places). listed_count p true u) to.places in
        let at : listed_at before.places true u found.0 ≡ b =
        ap (λ (p : Places). listed_at p true u found.0) (sym to.places) ∙ found.2 in
        ap (arcs_of graph u) (sym at)
        ∙ to.row found.0 (let below = found.1 in omega (arith, below, counts, past))
        ∙ ap (exchange_arc firms trades on u) at
    whole b None none = no_place graph u b none ∙ sym (no_arc (exchange_arc firms trades on u b) refl)
      where
        no_arc : (o : Option ℤ) → exchange_arc firms trades on u b ≡ o → exchange_arc firms trades on u b ≡ None
        no_arc None is = is
        no_arc (Some cost) is = absurd (let placed = subst IsSome none
            (placed_arc firms trades on graph.nodes graph.places laid to.written.nodes_are u b cost is) in cc placed)
