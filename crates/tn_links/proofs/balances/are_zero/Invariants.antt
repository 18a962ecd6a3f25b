-- What the look at the numbers keeps.
use Rattle.std.proofs.Common.{◌≡◌, ℕ, ◌<◌, get_or, pos}
use Rattle.tn_links.proofs.balances.are_zero.Given as goal

-- the first ones are 0
abbrev pub invariant-loop-number : goal.invariant-loop-number
invariant-loop-number l = (v : ℕ) → v < l.number-index → get_or l.numbers v (pos 0) ≡ pos 0
