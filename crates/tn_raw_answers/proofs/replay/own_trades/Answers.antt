-- What shows the clauses of `own_trades` of `src/replay.rt`.
use Rattle.std.proofs.Common.{◌∙◌}
use Rattle.tn_model.specs.Network.{own}
use Rattle.tn_raw_answers.proofs.ReplayLemmas.{named_push}
use Rattle.tn_raw_answers.proofs.replay.own_trades.Goals as goal

pub loop-k-preserved : goal.loop-k-preserved
loop-k-preserved c =
    c.in_ok-push.ensures.items
    ∙ named_push (own c.args.net.now.ends c.args.f) c.args.positions.now c.loop-k.k c.at.result c.own_trade.result
    c.loop-k.trades.items c.loop-k.invariant c.at.ensures c.own_trade.ensures
