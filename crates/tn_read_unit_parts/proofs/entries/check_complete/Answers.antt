-- What shows the clauses of `check_complete` of `src/entries.rt`.
use Rattle.std.proofs.Common.{sym, ◌∙◌}
use Rattle.tn_read_parts.proofs.PriceLemmas.{first_without-next}
use Rattle.tn_read_unit_parts.proofs.entries.check_complete.Goals as goal

pub loop-t-preserved : goal.loop-t-preserved
loop-t-preserved c =
    sym (first_without-next c.args.named.now c.loop-t.t c.args.trades c.loop-t-test.true (sym c.has.ensures
    ∙ c.if-not-has.false)) ∙ c.loop-t.invariant
