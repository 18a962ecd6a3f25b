-- What the loops of `check_complete` of `src/entries.rt` keep.
use Rattle.std.proofs.Common.{◌≡◌, ◌-◌}
use Rattle.tn_read_parts.specs.Lists.{first_without}
use Rattle.tn_read_unit_parts.proofs.entries.check_complete.Given as goal

abbrev pub invariant-loop-t : goal.invariant-loop-t
invariant-loop-t l = first_without l.named l.t (l.trades - l.t) ≡ first_without l.named 0 l.trades
