-- What the loops of `RawTable::full` of `src/table.rt` keep.
use Rattle.std.proofs.Common.{ℕ, ◌<◌}
use Rattle.std.specs.Prelude.{IsSome}
use Rattle.tn_exchange.specs.Rows.{worth_in}
use Rattle.tn_exchange.proofs.table.RawTable.full.Given as goal

abbrev pub invariant-loop-bits : goal.invariant-loop-bits
invariant-loop-bits l = (x : ℕ) → x < l.bits → IsSome (worth_in l.self x)
