-- What the loops of `thirds_exchange` of `src/quads.rt` keep.
use Rattle.std.proofs.Common.{◌+◌}
use Rattle.tn_exchange.specs.Rows.{firm_of_table}
use Rattle.tn_local.specs.Quads.{ThreeExchange}
use Rattle.tn_local.proofs.QuadLemmas.{AllLowFrom}
use Rattle.tn_local.proofs.quads.thirds_exchange.Given as goal

abbrev pub invariant-loop-c : goal.invariant-loop-c
invariant-loop-c l =
    AllLowFrom (firm_of_table l.table) l.fn.z (l.b + 1) l.c (ThreeExchange (firm_of_table l.table) l.fn.z l.fn.a l.b)
