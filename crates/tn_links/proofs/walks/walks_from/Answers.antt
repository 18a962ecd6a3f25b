-- What shows the clauses of `walks_from` of `src/walks.rt`.
use Rattle.tn_links.proofs.SizeLemmas.{labels_near}
use Rattle.tn_links.specs.LotLemmas.{light_units}
use Rattle.tn_links.proofs.walks.walks_from.Goals as goal

pub least_from-requires-clause-near : goal.least_from-requires-clause-near
least_from-requires-clause-near c =
    labels_near c.args.links.now.nodes c.args.links.now.links.items c.args.levels.now c.args.finder.now.labels
    c.args.links.now.plain c.args.links.now.few_nodes c.requires.labelled

pub invariant_of-least_from-clause-light : goal.invariant_of-least_from-clause-light
invariant_of-least_from-clause-light c =
    light_units c.args.links.now.nodes c.args.links.now.links.items c.args.levels.now c.args.links.now.plain
