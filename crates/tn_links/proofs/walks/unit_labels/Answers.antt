-- What shows the clauses of `unit_labels` of `src/walks.rt`.
use Rattle.tn_links.specs.LotLemmas.{light_units}
use Rattle.tn_links.proofs.walks.unit_labels.Goals as goal

pub invariant_of-labels-clause-light : goal.invariant_of-labels-clause-light
invariant_of-labels-clause-light c =
    light_units c.args.links.now.nodes c.args.links.now.links.items c.args.levels.now c.args.links.now.plain
