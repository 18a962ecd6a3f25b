-- What shows the clauses of `Graph::read_beside` of `src/reading.rt`.
use Rattle.std.proofs.Common.{◌+◌, ◌≤◌, sym, ◌∙◌, subst, arith}
use Rattle.std.proofs.lemmas.Option.{same_Some}
use Rattle.tn_graph.specs.Reading.{admitted_count, line_worths}
use Rattle.tn_graph.proofs.AdmitLemmas.{line_asked}
use Rattle.tn_graph.proofs.graph.Graph.read_beside.Goals as goal

pub returns-clause-asked : goal.returns-clause-asked
returns-clause-asked g c = λ v is.
    let own = c.new-stand.result.firm.now in
    let listed = c.new-stand.ensures.firm in
    let few = line_asked _ _ _ _ _ _ _ _ _ c.new-stand.ensures.stand c.args.admitted.now c.new-stand.result.asked
    c.partners-others.result c.args.place.1 c.args.rises (c.requires.position own listed)
    (c.new-stand.ensures.asked_for ∙ c.bundle_of-asked.ensures own listed) c.partners-others.ensures
    c.new-stand.new.steps c.read_line.new.steps c.read_line.ensures.asked in
    let one = c.new-stand.ensures.asked in
    subst (λ (w : g.row.V.Denot). c.read_line.new.steps ≤ c.args.steps.now + line_worths (admitted_count
    c.args.market.now.trades c.args.admitted.now c.args.place.0 (g.V.Valuation.firm w)))
    (same_Some own v (sym listed ∙ is)) (omega (arith, few, one))
