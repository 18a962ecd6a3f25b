-- What the loops of `exchange_at` of `src/quads.rt` keep.
use Rattle.tn_exchange.specs.Rows.{firm_of_table}
use Rattle.tn_local.specs.Quads.{OneExchanges}
use Rattle.tn_local.proofs.QuadLemmas.{AllLowFrom}
use Rattle.tn_local.proofs.quads.exchange_at.Given as goal

abbrev pub invariant-loop-a : goal.invariant-loop-a
invariant-loop-a l = AllLowFrom (firm_of_table l.table) l.fn.z 0 l.a (OneExchanges (firm_of_table l.table) l.fn.z)
