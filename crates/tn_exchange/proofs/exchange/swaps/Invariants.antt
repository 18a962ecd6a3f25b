-- What the loops of `swaps` of `src/exchange.rt` keep.
use Rattle.std.proofs.Common.{◌≡◌, ℕ, ◌<◌, true}
use Rattle.tn_base.specs.Sets.{has, toggle}
use Rattle.tn_base.specs.Exchange.{AreEnough}
use Rattle.tn_exchange.specs.Rows.{firm_of_table}
use Rattle.tn_exchange.proofs.exchange.swaps.Given as goal

abbrev pub invariant-loop-k : goal.invariant-loop-k
invariant-loop-k l = (j : ℕ) → j < l.k → has l.positions j ≡ true
    → AreEnough (firm_of_table l.table) (toggle l.x j) (toggle l.y j) l.total → ⊥
