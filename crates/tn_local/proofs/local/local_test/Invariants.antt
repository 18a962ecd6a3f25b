-- What the loops of `local_test` of `src/local.rt` keep.
use Rattle.std.proofs.Common.{◌≤◌}
use Rattle.tn_exchange.specs.Rows.{firm_of_table}
use Rattle.tn_exchange.specs.TestOrder.{Triple, TripleFails}
use Rattle.tn_local.specs.First.{HasCloseBundles}
use Rattle.tn_local.proofs.local.local_test.Given as goal

abbrev pub invariant-loop-bits : goal.invariant-loop-bits
invariant-loop-bits l = (s : Triple) → l.bits ≤ s.x → HasCloseBundles (firm_of_table l.table) s
    → TripleFails (firm_of_table l.table) s → ⊥
