-- What shows the clauses of `walks_to` of `src/walks.rt`.
use Rattle.tn_links.proofs.SizeLemmas.{labels_near}
use Rattle.tn_links.specs.LotLemmas.{light_units}
use Rattle.tn_links.proofs.walks.walks_to.Goals as goal

pub least_to-requires-clause-near : goal.least_to-requires-clause-near
least_to-requires-clause-near c =
    labels_near c.args.links.now.nodes c.args.links.now.links.items c.args.levels.now c.args.finder.now.labels
    c.args.links.now.plain c.args.links.now.few_nodes c.requires.labelled

pub invariant_of-least_to-clause-light : goal.invariant_of-least_to-clause-light
invariant_of-least_to-clause-light c =
    light_units c.args.links.now.nodes c.args.links.now.links.items c.args.levels.now c.args.links.now.plain
