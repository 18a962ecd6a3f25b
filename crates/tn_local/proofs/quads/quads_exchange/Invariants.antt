-- What the loops of `quads_exchange` of `src/quads.rt` keep.
use Rattle.std.proofs.Common.{ℕ, ◌<◌}
use Rattle.tn_exchange.specs.Rows.{firm_of_table}
use Rattle.tn_firm_laws.specs.Quads.{QuadsExchangeAt}
use Rattle.tn_local.proofs.quads.quads_exchange.Given as goal

abbrev pub invariant-loop-bits : goal.invariant-loop-bits
invariant-loop-bits l = (z : ℕ) → z < l.bits → QuadsExchangeAt (firm_of_table l.table) z
