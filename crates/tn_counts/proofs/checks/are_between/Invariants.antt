-- What the look at each keeps.
use Rattle.std.proofs.Common.{◌≡◌, ◌<◌, ℕ, Some, slice_get}
use Rattle.tn_counts.specs.Markets.{IsBetween}
use Rattle.tn_counts.specs.declared.trade.UnitTrade.{UnitTrade}
use Rattle.tn_counts.proofs.checks.are_between.Given as goal

-- the first trades are between two firms
abbrev pub invariant-loop-trade : goal.invariant-loop-trade
invariant-loop-trade l = (k : ℕ) (one : UnitTrade) → k < l.trade-index → slice_get l.trades k ≡ Some one → IsBetween l.firms one
