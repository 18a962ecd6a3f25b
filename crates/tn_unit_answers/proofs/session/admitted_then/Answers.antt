-- What shows the clauses of `admitted_then` of `src/session.rt`.
use Rattle.std.specs.Prelude.{unwrap_or}
use Rattle.tn_counts.specs.Counts.{trade_at}
use Rattle.tn_tree.proofs.ListLemmas.{items_more}
use Rattle.tn_tree.specs.Lists.{count_in}
use Rattle.tn_unit_answers.specs.Session.{admitted_by}
use Rattle.tn_unit_answers.proofs.session.admitted_then.Goals as goal

pub loop-t-preserved : goal.loop-t-preserved
loop-t-preserved c =
    items_more (λ t. unwrap_or (admitted_by t (trade_at c.args.trades.now t).units c.args.edit)
    (count_in c.args.before.now t)) c.loop-t.after.items c.push.new.self.items c.admitted_by.result c.loop-t.t
    c.in_ok-push.ensures.items c.loop-t.invariant c.admitted_by.ensures
