-- What the loops of `check_complete` of `src/lists.rt` keep.
use Rattle.std.proofs.Common.{◌≡◌, ◌-◌}
use Rattle.tn_read_parts.specs.Lists.{first_without}
use Rattle.tn_read_parts.proofs.lists.check_complete.Given as goal

abbrev pub invariant-loop-t : goal.invariant-loop-t
invariant-loop-t l = first_without l.named l.t (l.trades - l.t) ≡ first_without l.named 0 l.trades
