-- What shows the clauses of `times_steps` of `src/split.rt`.
use Rattle.std.proofs.Common.{get_or, pos}
use Rattle.std.proofs.lemmas.Option.{slice_get-get_or}
use Rattle.tn_unit_judge.proofs.split.times_steps.Goals as goal

pub times_step-requires-clause-small : goal.times_step-requires-clause-small
times_step-requires-clause-small c =
    c.requires.small c.loop-step.step-index
    (get_or c.args.steps.now c.loop-step.step-index (record { units = 0; each = pos 0 }))
    (slice_get-get_or c.args.steps.now c.loop-step.step-index (record { units = 0; each = pos 0 }) c.loop-step-test.true)
