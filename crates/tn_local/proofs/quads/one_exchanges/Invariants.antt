-- What the loops of `one_exchanges` of `src/quads.rt` keep.
use Rattle.std.proofs.Common.{◌+◌}
use Rattle.tn_exchange.specs.Rows.{firm_of_table}
use Rattle.tn_local.specs.Quads.{TwoExchange}
use Rattle.tn_local.proofs.QuadLemmas.{AllLowFrom}
use Rattle.tn_local.proofs.quads.one_exchanges.Given as goal

abbrev pub invariant-loop-b : goal.invariant-loop-b
invariant-loop-b l =
    AllLowFrom (firm_of_table l.table) l.fn.z (l.a + 1) l.b (TwoExchange (firm_of_table l.table) l.fn.z l.a)
