-- What shows the clauses of `Graph::set` of `src/graph.rt`.
use Rattle.std.proofs.Common.{rules, ap, sym, ◌∙◌, subst, Some, None, ◌≡◌, ◌<◌, length, to_z, of_z, Option, ℕ}
use Rattle.std.specs.Prelude.{set, IfSome}
use Rattle.std.proofs.lemmas.Int.{to_z-of_z}
use mir.Syntax.{w64}
use mir.Val.{SFits}
use Rattle.tn_graph.specs.Blocks.{CostBlocks, cost_in_cell, place_of}
use Rattle.tn_graph.proofs.CellLemmas.{one_written, none_written, no_cost}
use Rattle.tn_graph.proofs.graph.Graph.set.Goals as goal

pub returns-in-Some : goal.returns-in-Some
returns-in-Some c =
    let seen = c.self.view_is in
    let number : SFits w64 c.packed.result = search rules in
    let is : Some c.in-Some.place ≡ place_of c.args.self.now.nodes c.args.self.now.places c.args.a c.args.b =
    sym c.in-Some.is ∙ c.place.ensures.place in
    one_written c.args.self.now _ c.args.a c.args.b c.in-Some.place (to_z w64 (of_z w64 c.packed.result)) c.args.cost
    (ap (λ (m : CostBlocks). m.nodes) seen) (ap (λ (m : CostBlocks). m.places) seen)
    (ap (λ (m : CostBlocks). set m.cells c.in-Some.place (to_z w64 (of_z w64 c.packed.result))) seen)
    (sym is) (subst (λ (o : Option ℕ). IfSome o (λ place. place < length c.args.self.now.cells)) c.in-Some.is
    c.place.ensures.inside)
    (ap cost_in_cell (to_z-of_z w64 c.packed.result number) ∙ c.packed.ensures)

pub returns-in_default : goal.returns-in_default
returns-in_default c =
    let none : place_of c.args.self.now.nodes c.args.self.now.places c.args.a c.args.b ≡ None =
    sym c.place.ensures.place ∙ c.in_default.is in
    none_written c.args.self.now c.args.a c.args.b c.args.cost none (no_cost c.args.cost _ none c.requires.placed)
