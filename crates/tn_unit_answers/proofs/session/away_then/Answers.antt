-- What shows the clauses of `away_then` of `src/session.rt`.
use Rattle.std.specs.Prelude.{unwrap_or}
use Rattle.tn_tree.proofs.ListLemmas.{items_more}
use Rattle.tn_unit_answers.specs.Session.{away_by}
use Rattle.tn_unit_answers.specs.Standing.{away_in}
use Rattle.tn_unit_answers.proofs.session.away_then.Goals as goal

pub loop-f-preserved : goal.loop-f-preserved
loop-f-preserved c =
    items_more (λ f. unwrap_or (away_by f c.args.edit) (away_in c.args.before.now f)) c.loop-f.after.items
    c.push.new.self.items c.away_by.result c.loop-f.f c.in_ok-push.ensures.items c.loop-f.invariant c.away_by.ensures
