-- What the loops of `is_listed` of `src/rows.rt` keep.
use Rattle.std.proofs.Common.{◌≡◌, false, take}
use Rattle.tn_answer.specs.Rows.{is_listed}
use Rattle.tn_answer.proofs.rows.is_listed.Given as goal

abbrev pub invariant-loop-at : goal.invariant-loop-at
invariant-loop-at l = is_listed (take l.at l.on) l.k ≡ false
