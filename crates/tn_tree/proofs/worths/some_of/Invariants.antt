-- The numbers so far.
use Rattle.std.proofs.Common.{◌≡◌, Some, map, take}
use Rattle.tn_tree.proofs.worths.some_of.Given as goal

abbrev pub invariant-loop-number : goal.invariant-loop-number
invariant-loop-number l = l.some.items ≡ map Some (take l.number-index l.numbers)
