-- What the loops of `test_pair` of `src/exchange.rt` keep.
use Rattle.std.proofs.Common.{ℕ, ◌<◌, Some}
use Rattle.tn_base.specs.Exchange.{IsWrongAt}
use Rattle.tn_exchange.specs.Rows.{firm_of_table}
use Rattle.tn_exchange.proofs.exchange.test_pair.Given as goal

abbrev pub invariant-loop-i : goal.invariant-loop-i
invariant-loop-i l = (j : ℕ) → j < l.i → IsWrongAt (firm_of_table l.table) l.x l.y l.total (Some j) → ⊥
