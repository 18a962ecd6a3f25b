-- The free units so far.
use Rattle.std.proofs.Common.{◌≡◌, map}
use Rattle.std.specs.List.{range_with_len}
use Rattle.tn_unit_judge.specs.Blocks.{free_one}
use Rattle.tn_unit_judge.proofs.blocks.free_of.Given as goal

abbrev pub invariant-loop-t : goal.invariant-loop-t
invariant-loop-t l = l.free.items ≡ map (free_one l.signed l.passed l.unsigned) (range_with_len 0 l.t)
