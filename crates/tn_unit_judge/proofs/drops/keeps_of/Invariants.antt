-- The counts so far.
use Rattle.std.proofs.Common.{◌≡◌, map}
use Rattle.std.specs.List.{range_with_len}
use Rattle.tn_unit_judge.specs.Verdict.{kept_at}
use Rattle.tn_unit_judge.proofs.drops.keeps_of.Given as goal

abbrev pub invariant-loop-k : goal.invariant-loop-k
invariant-loop-k l = l.keeps.items ≡ map (kept_at l.trades l.best.sold.items l.best.bought.items l.firm) (range_with_len 0 l.k)
