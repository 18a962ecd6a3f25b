-- What shows the clauses of `least_cost` of `src/least.rt`.
use Rattle.std.proofs.Common.{◌≡◌, ◌∙◌, List, IfSome, Ok, ap, sym, subst, arith}
use Rattle.std.proofs.lemmas.Int.{ints, to_z-of_z}
use mir.Syntax.{w128}
use mir.Val.{SFits, of_z, to_z}
use Rattle.tn_dimacs.specs.declared.problem.Arc.{Arc}
use Rattle.tn_dimacs.specs.Circulations.{cost_of}
use Rattle.tn_dimacs.specs.Served.{AreCheap, AreLinksOf, IsBest}
use Rattle.tn_dimacs.proofs.FlowLemmas.{best_is_least}
use Rattle.tn_dimacs.proofs.ServedLemmas.{are_searched}
use Rattle.tn_dimacs.proofs.least.least_cost.Goals as goal

pub returns-then-not-are_cheap-clause-not_served : goal.returns-then-not-are_cheap-clause-not_served
returns-then-not-are_cheap-clause-not_served c is served =
    c.are_cheap.ensures.no c.if-not-are_cheap.true (subst AreCheap (sym c.deref.ensures.value) served.cheap)

pub links_of-requires : goal.links_of-requires
links_of-requires c =
    subst AreCheap (c.deref.ensures.value ∙ sym c.deref-2.ensures.value)
    (c.are_cheap.ensures.yes c.if-not-are_cheap.false)

pub cost_of-requires-clause-cheap : goal.cost_of-requires-clause-cheap
cost_of-requires-clause-cheap c =
    subst AreCheap (c.deref.ensures.value ∙ sym c.deref-in-Some.ensures.value)
    (c.are_cheap.ensures.yes c.if-not-are_cheap.false)

pub returns-in-Some-clause-least : goal.returns-in-Some-clause-least
returns-in-Some-clause-least c least is =
    let arcs = c.args.problem.now.arcs.items in
    let links = c.in_ok-links.links.items in
    let flows = c.in-Some.flows.items in
    let are : AreLinksOf arcs links =
    subst (λ (some : List Arc). AreLinksOf some links) c.deref-2.ensures.value c.in_ok-links.ensures in
    let best : IsBest links flows =
    subst (λ o. IfSome o (λ levels. IsBest links levels.items)) c.in-Some.is c.in_ok-flows.ensures.least in
    let number : to_z w128 (of_z w128 c.cost_of.result) ≡ least = cc in
    let fits : SFits w128 c.cost_of.result = omega (arith, ints, c.cost_of.type_inv) in
    record {
      flows = flows;
      is_least = best_is_least arcs links flows are best;
      costs = sym (ap (λ (some : List Arc). cost_of some flows) c.deref-in-Some.ensures.value)
          ∙ sym (ap (cost_of c.deref-in-Some.result.now) c.deref-in-Some-2.ensures.value) ∙ sym c.cost_of.ensures
          ∙ sym (to_z-of_z w128 c.cost_of.result fits) ∙ number;
    }

pub returns-in-None-clause-not_served : goal.returns-in-None-clause-not_served
returns-in-None-clause-not_served c is served =
    let arcs = c.args.problem.now.arcs.items in
    let links = c.in_ok-links.links.items in
    let are : AreLinksOf arcs links =
    subst (λ (some : List Arc). AreLinksOf some links) c.deref-2.ensures.value c.in_ok-links.ensures in
    c.settled.ensures.none (c.in_ok-flows.was ∙ ap Ok c.in-None.is)
    (are_searched c.args.problem.now.nodes arcs links are served)
