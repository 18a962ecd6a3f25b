-- What the loops of `test_from` of `src/exchange.rt` keep.
use Rattle.std.proofs.Common.{◌≡◌, ◌<◌}
use Rattle.tn_exchange.specs.Rows.{firm_of_table}
use Rattle.tn_exchange.specs.TestOrder.{Triple, TripleFails}
use Rattle.tn_exchange.proofs.exchange.test_from.Given as goal

abbrev pub invariant-loop-bits : goal.invariant-loop-bits
invariant-loop-bits l = (s : Triple) → s.x ≡ l.x → s.y < l.bits → TripleFails (firm_of_table l.table) s → ⊥
