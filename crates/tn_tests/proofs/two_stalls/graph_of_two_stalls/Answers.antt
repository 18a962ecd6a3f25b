-- What shows the clauses of `graph_of_two_stalls` of `src/two_stalls.rt`.
use Rattle.std.proofs.Common.{◌≡◌, ◌∷◌, [], ◌+◌, ℕ, not, List, length, map, lit<, lit≤, arith, IfOk, Result, ◌∙◌, subst, ap}
use Rattle.tn_base.specs.Sets.{has, toggle}
use Rattle.tn_base.specs.declared.memory.OutOfMemory.{OutOfMemory}
use Rattle.tn_base.proofs.SetLemmas.{has-zero, has-toggle_same, toggle-toggle}
use Rattle.tn_market.specs.Traded.{Traded}
use Rattle.tn_market.proofs.GraphLemmas.{no_arc}
use Rattle.tn_graph.specs.Blocks.{CostBlocks}
use Rattle.tn_graph.specs.Reading.{IsWithoutArcs}
use Rattle.tn_graph.proofs.AdmitLemmas.{among_none}
use Rattle.tn_tests.specs.Stall.{stall}
use Rattle.tn_tests.specs.declared.stalls.Stall.{Stall}
use Rattle.tn_tests.proofs.StallLemmas.{stalls-possible}
use Rattle.tn_tests.proofs.two_stalls.graph_of_two_stalls.Goals as goal

pub lay_out-requires : goal.lay_out-requires
lay_out-requires g c =
    let trades : length c.expect-market.result.trades ≡ 2 =
    subst (λ (r : Result (Traded Stall) OutOfMemory). IfOk r (λ market. length market.trades ≡ 2))
    c.expect-market.ensures c.two_stalls.ensures.two_trades in
    let graph_is : IsWithoutArcs 3 c.expect-graph.result =
    subst (λ (r : Result CostBlocks OutOfMemory). IfOk r (λ graph. IsWithoutArcs 3 graph)) c.expect-graph.ensures
    c.new.ensures in
    let nodes = graph_is.nodes in
    (lit< tt, (omega (arith, trades), omega (arith, trades, nodes)))

pub admit-requires : goal.admit-requires
admit-requires g c =
    let firms : c.expect-market.result.firms ≡ record {} ∷ record {} ∷ [] =
    subst (λ (r : Result (Traded Stall) OutOfMemory). IfOk r (λ market. market.firms ≡ record {} ∷ record {} ∷ []))
    c.expect-market.ensures c.two_stalls.ensures.firms in
    let trades : length c.expect-market.result.trades ≡ 2 =
    subst (λ (r : Result (Traded Stall) OutOfMemory). IfOk r (λ market. length market.trades ≡ 2))
    c.expect-market.ensures c.two_stalls.ensures.two_trades in
    let graph_is : IsWithoutArcs 3 c.expect-graph.result =
    subst (λ (r : Result CostBlocks OutOfMemory). IfOk r (λ graph. IsWithoutArcs 3 graph)) c.expect-graph.ensures
    c.new.ensures in
    let nodes = graph_is.nodes in
    let one_is = c.toggle.ensures.toggled ∙ ap (λ (x : ℕ). toggle x 0) c.empty-none.ensures in
    let none = ap (λ (x : ℕ). toggle x 0) one_is ∙ toggle-toggle 0 0 in
    let without = subst (λ (n : ℕ). IsWithoutArcs n c.lay_out.new.self)
    (let e : c.expect-graph.result.nodes ≡ length c.expect-market.result.trades + 1 = omega (arith, trades, nodes) in e)
    c.lay_out.ensures.without in (
      lit< tt,
      (
        omega (arith, trades),
        (
          among_none (map (λ (v : Stall). stall) c.expect-market.result.firms) c.expect-market.result.trades
              c.empty-none.result (toggle c.toggle.new.self 0) c.lay_out.new.self none without
              c.lay_out.ensures.laid_out,
          (
            omega (arith, trades),
            (
              ap (λ (x : ℕ). has x 0) one_is ∙ has-toggle_same 0 0 ∙ ap not (has-zero 0),
              (
                ap (λ (x : ℕ). has x 0) c.empty-none.ensures ∙ has-zero 0,
                (
                  stalls-possible _ c.expect-market.result.trades c.empty-none.result
                      (ap (λ (vs : List Stall). map (λ (v : Stall). stall) vs) firms),
                  (λ f v is. lit≤ tt),
                ),
              ),
            ),
          ),
        ),
      ),
    )

pub fill-requires : goal.fill-requires
fill-requires g c =
    let firms : c.expect-market.result.firms ≡ record {} ∷ record {} ∷ [] =
    subst (λ (r : Result (Traded Stall) OutOfMemory). IfOk r (λ market. market.firms ≡ record {} ∷ record {} ∷ []))
    c.expect-market.ensures c.two_stalls.ensures.firms in
    let trades : length c.expect-market.result.trades ≡ 2 =
    subst (λ (r : Result (Traded Stall) OutOfMemory). IfOk r (λ market. length market.trades ≡ 2))
    c.expect-market.ensures c.two_stalls.ensures.two_trades in (
      lit< tt,
      (
        omega (arith, trades),
        (
          c.admit.ensures.graph.nodes,
          (
            stalls-possible _ c.expect-market.result.trades c.empty-none.result
                (ap (λ (vs : List Stall). map (λ (v : Stall). stall) vs) firms),
            (λ f v is. lit≤ tt),
          ),
        ),
      ),
    )

pub refresh-requires : goal.refresh-requires
refresh-requires g c =
    let firms : c.expect-market.result.firms ≡ record {} ∷ record {} ∷ [] =
    subst (λ (r : Result (Traded Stall) OutOfMemory). IfOk r (λ market. market.firms ≡ record {} ∷ record {} ∷ []))
    c.expect-market.ensures c.two_stalls.ensures.firms in
    let trades : length c.expect-market.result.trades ≡ 2 =
    subst (λ (r : Result (Traded Stall) OutOfMemory). IfOk r (λ market. length market.trades ≡ 2))
    c.expect-market.ensures c.two_stalls.ensures.two_trades in
    let graph = c.fill.ensures.graph in (
      lit< tt,
      (
        omega (arith, trades),
        (
          record {
            nodes = graph.nodes;
            laid_out = graph.laid_out;
            arcs = λ u v u_in v_in. graph.arcs u v;
            none = λ u v is. graph.arcs u v ∙ no_arc (map (λ (v : Stall). stall) c.expect-market.result.firms)
                c.expect-market.result.trades c.empty-none.result u v is;
          },
          (
            stalls-possible _ c.expect-market.result.trades c.toggle.new.self
                (ap (λ (vs : List Stall). map (λ (v : Stall). stall) vs) firms),
            (λ f v is. lit≤ tt),
          ),
        ),
      ),
    )
