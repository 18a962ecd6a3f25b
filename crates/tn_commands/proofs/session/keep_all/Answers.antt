-- What shows the clauses of `keep_all` of `src/session.rt`.
use Rattle.std.proofs.Common.{arith}
use Rattle.tn_commands.proofs.EditLemmas.{all_edited, none_edited, one_more_edited}
use Rattle.tn_commands.proofs.session.keep_all.Goals as goal

pub loop-t-init : goal.loop-t-init
loop-t-init c = λ edits before.
    none_edited c.args.market.now.trades edits c.args.edit c.args.kept.now c.args.used.now before

pub loop-t-preserved : goal.loop-t-preserved
loop-t-preserved c = λ edits before.
    one_more_edited c.args.market.now.trades edits c.args.edit c.loop-t.t c.ends.result c.loop-t.kept
    c.keep_at.new.kept c.loop-t.used c.keep_at.new.used c.ends.ensures (c.loop-t.invariant edits before)
    (c.keep_at.ensures.here edits) c.keep_at.ensures.elsewhere

pub returns : goal.returns
returns c = λ edits before.
    let end = c.loop-t-test.false in
    let count = c.trades-t-end.ensures.count in
    all_edited c.args.market.now.trades edits c.args.edit c.loop-t.t c.loop-t.kept c.loop-t.used
    (omega (arith, end, count)) (c.loop-t.invariant edits before)
