-- What shows the clauses of `is_listed` of `src/rows.rt`.
use Rattle.std.proofs.Common.{arith}
use Rattle.tn_answer.proofs.RowLemmas.{listed-here, never, not-yet}
use Rattle.tn_answer.proofs.rows.is_listed.Goals as goal

pub loop-at-preserved : goal.loop-at-preserved
loop-at-preserved c =
    not-yet c.args.on.now c.args.k c.loop-at.at c.at.result c.at.ensures c.if-at-k.false c.loop-at.invariant

pub returns-then-at-k : goal.returns-then-at-k
returns-then-at-k c = listed-here c.args.on.now c.args.k c.loop-at.at c.at.result c.at.ensures c.if-at-k.true

pub returns : goal.returns
returns c = never c.args.on.now c.args.k c.loop-at.at (omega (arith, c.len-at-end.ensures)) c.loop-at.invariant
