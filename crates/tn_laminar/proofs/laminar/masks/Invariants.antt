-- What the loops of `masks` of `src/laminar.rt` keep.
use Rattle.std.proofs.Common.{◌≡◌, map, take}
use Rattle.tn_laminar.specs.Masked.{masks_of}
use Rattle.tn_laminar.proofs.laminar.masks.Given as goal

abbrev pub invariant-loop-set : goal.invariant-loop-set
invariant-loop-set l = l.masks.items ≡ map (λ set. masks_of l.buys set.members) (take l.set-index l.sets)
