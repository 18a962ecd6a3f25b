-- What the loops of `test` of `src/exchange.rt` keep.
use Rattle.std.proofs.Common.{◌≤◌}
use Rattle.tn_exchange.specs.Rows.{firm_of_table}
use Rattle.tn_exchange.specs.TestOrder.{Triple, TripleFails}
use Rattle.tn_exchange.proofs.exchange.test.Given as goal

abbrev pub invariant-loop-bits : goal.invariant-loop-bits
invariant-loop-bits l = (s : Triple) → l.bits ≤ s.x → TripleFails (firm_of_table l.table) s → ⊥
