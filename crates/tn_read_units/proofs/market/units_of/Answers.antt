-- What shows the clauses of `units_of` of `src/market.rt`.
use Rattle.std.proofs.Common.{arith, pos}
use Rattle.tn_read_units.proofs.LoopLemmas.{few_units, room_next}
use Rattle.tn_read_units.proofs.market.units_of.Goals as goal

pub overflow_add-units : goal.overflow_add-units
overflow_add-units c = omega (
  arith,
  few_units c.args.steps.now c.requires,
  room_next c.args.steps.now c.loop-step.step-index (record { units = 0; each = pos 0 }) c.loop-step-test.true,
  c.loop-step.invariant,
)
