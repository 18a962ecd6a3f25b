-- What shows the clauses of `hold_counts` of `src/held.rt`.
use Rattle.std.proofs.lemmas.Result.{IfOk-weaker}
use Rattle.tn_tree.proofs.ValueLemmas.{held_small}
use Rattle.tn_tree.proofs.held.hold_counts.Goals as goal

pub returns-clause-held : goal.returns-clause-held
returns-clause-held c =
    IfOk-weaker c.hold_wide.result _ _ (λ held are f said at. held_small c.args.market.now c.args.counts.now
    c.args.prices.now held.best.sold.items held.best.bought.items f said c.requires.market c.requires.within
    c.requires.priced c.requires.small (are f said at)) c.hold_wide.ensures.held
