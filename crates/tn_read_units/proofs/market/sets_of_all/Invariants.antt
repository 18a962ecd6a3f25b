-- What the loops of `sets_of_all` of `src/market.rt` keep.
use Rattle.std.proofs.Common.{◌≡◌, ◌++◌, drop}
use Rattle.std.specs.Prelude.{map}
use Rattle.tn_read_units.specs.Placed.{all_placed, as_placed}
use Rattle.tn_read_units.proofs.market.sets_of_all.Given as goal

abbrev pub invariant-loop-f : goal.invariant-loop-f
invariant-loop-f l = map as_placed l.sets.items ++ all_placed l.f (drop l.f l.firms) ≡ all_placed 0 l.firms
