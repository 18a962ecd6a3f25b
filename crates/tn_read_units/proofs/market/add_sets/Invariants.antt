-- What the loops of `add_sets` of `src/market.rt` keep.
use Rattle.std.proofs.Common.{◌≡◌, ◌++◌, take}
use Rattle.std.specs.Prelude.{map}
use Rattle.tn_read_units.specs.Placed.{as_placed, placed}
use Rattle.tn_read_units.proofs.market.add_sets.Given as goal

abbrev pub invariant-loop-set : goal.invariant-loop-set
invariant-loop-set l = map as_placed l.sets.items
    ≡ map as_placed l.fn.sets.items ++ map (placed l.f) (take l.set-index l.written)
