-- What shows the clauses of `settle_near` of `src/settling.rt`.
use Rattle.std.proofs.Common.{refl}
use Rattle.tn_cycle.specs.Answers.{label_in}
use Rattle.tn_links.proofs.LawLemmas.{labels_are_greatest}
use Rattle.tn_links.proofs.settling.settle_near.Goals as goal

pub returns-else-not-round-clause-greatest : goal.returns-else-not-round-clause-greatest
returns-else-not-round-clause-greatest c =
    let links = c.args.links.now in
    labels_are_greatest links.nodes links.links.items c.round.new.levels (label_in c.round.new.finder.labels) links.plain
    c.if-not-round.ensures.kept (c.if-not-round.ensures.settled refl).keeps
