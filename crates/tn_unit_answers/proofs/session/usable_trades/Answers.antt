-- What shows the clauses of `usable_trades` of `src/session.rt`.
use Rattle.tn_counts.specs.Counts.{trade_at}
use Rattle.tn_tree.proofs.ListLemmas.{items_more}
use Rattle.tn_tree.specs.Lists.{count_in}
use Rattle.tn_unit_answers.specs.Session.{usable_trade}
use Rattle.tn_unit_answers.specs.Standing.{away_in}
use Rattle.tn_unit_answers.proofs.session.usable_trades.Goals as goal

pub loop-t-preserved : goal.loop-t-preserved
loop-t-preserved c =
    items_more (λ t. usable_trade (count_in c.args.admitted.now t) (away_in c.args.away.now)
    (trade_at c.args.trades.now t)) c.loop-t.usable.items c.push.new.self.items c.usable_trade.result c.loop-t.t
    c.in_ok-push.ensures.items c.loop-t.invariant c.usable_trade.ensures
