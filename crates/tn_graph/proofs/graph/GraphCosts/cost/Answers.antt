-- What shows the clauses of `GraphCosts::cost` of `src/graph.rt`.
use Rattle.std.proofs.Common.{rules, ap, sym, ◌∙◌, subst, ◌≡◌, ◌<◌, ◌^◌, pos, length, get_or, Some, Option, ℕ}
use Rattle.std.specs.Prelude.{IfSome}
use Rattle.std.proofs.lemmas.Int.{to_z-of_z}
use Rattle.std.proofs.lemmas.List.{get_or_read}
use mir.Syntax.{w64}
use mir.Val.{SFits}
use Rattle.tn_graph.specs.Blocks.{CostBlocks, cost_in_cell, place_of}
use Rattle.tn_graph.proofs.CellLemmas.{arc_at, arc_none}
use Rattle.tn_graph.proofs.graph.GraphCosts.cost.Goals as goal

pub returns-in-Some : goal.returns-in-Some
returns-in-Some c =
    let seen = c.self.view_is in
    let number : SFits w64 c.index.result.now = search rules in
    let is : place_of c.args.self.now.nodes c.args.self.now.places c.args.a c.args.b ≡ Some c.in-Some.place =
    sym c.place.ensures.place ∙ c.in-Some.is in
    let inside : c.in-Some.place < length c.args.self.now.cells =
    subst (λ (o : Option ℕ). IfSome o (λ place. place < length c.args.self.now.cells)) c.in-Some.is
    c.place.ensures.inside in
    let there = get_or_read c.self.inside.cells.items _ _
    (subst (λ (m : CostBlocks). c.in-Some.place < length m.cells) (sym seen) inside) c.index.ensures (pos (2 ^ 63)) in
    c.unpacked.ensures ∙ ap cost_in_cell (to_z-of_z w64 c.index.result.now number) ∙ ap cost_in_cell there
    ∙ ap (λ (m : CostBlocks). cost_in_cell (get_or m.cells c.in-Some.place (pos (2 ^ 63)))) seen
    ∙ sym (arc_at c.args.self.now c.args.a c.args.b c.in-Some.place is)

pub returns-in-None : goal.returns-in-None
returns-in-None c =
    sym (arc_none c.args.self.now c.args.a c.args.b (sym c.place.ensures.place ∙ c.in-None.is))
