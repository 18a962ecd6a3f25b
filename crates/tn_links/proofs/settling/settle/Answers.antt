-- What shows the clauses of `settle` of `src/settling.rt`.
use Rattle.tn_cycle.specs.Answers.{label_in}
use Rattle.tn_links.proofs.LawLemmas.{labels_are_greatest}
use Rattle.tn_links.proofs.settling.settle.Goals as goal

pub returns-clause-greatest : goal.returns-clause-greatest
returns-clause-greatest c =
    let links = c.args.links.now in
    labels_are_greatest links.nodes links.links.items c.settle_units.new.levels (label_in c.settle_units.new.finder.labels)
    links.plain c.settle_units.ensures.kept c.settle_units.ensures.settled.keeps
