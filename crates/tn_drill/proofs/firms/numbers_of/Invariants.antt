-- What the loops of `numbers_of` of `src/firms.rt` keep.
use Rattle.std.proofs.Common.{◌≡◌, take}
use Rattle.std.specs.List.{filter_map}
use Rattle.tn_drill.specs.Drill.{number_to}
use Rattle.tn_drill.proofs.firms.numbers_of.Given as goal

abbrev pub invariant-loop-draw : goal.invariant-loop-draw
invariant-loop-draw l = l.numbers.items ≡ filter_map (number_to l.f) (take l.draw-index l.draws)
