-- What the loops of `Reach::nearest` of `src/search.rt` keep.
use Rattle.std.proofs.Common.{◌<◌}
use Rattle.std.specs.Prelude.{IfSome}
use Rattle.tn_dealer.proofs.search.Reach.nearest.Given as goal
use Rattle.tn_market.specs.Widths.{most_own}

abbrev pub invariant-loop-s : goal.invariant-loop-s
invariant-loop-s l = IfSome l.nearest (λ found. found.0 < most_own)
