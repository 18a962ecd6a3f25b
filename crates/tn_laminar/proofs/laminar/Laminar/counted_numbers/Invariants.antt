-- What the loops of `Laminar::counted_numbers` of `src/row.rt` keep.
use Rattle.std.proofs.Common.{◌≡◌}
use Rattle.tn_laminar.specs.Rows.{counted_sum}
use Rattle.tn_laminar.proofs.laminar.Laminar.counted_numbers.Given as goal

abbrev pub invariant-loop-k : goal.invariant-loop-k
invariant-loop-k l = l.total ≡ counted_sum l.self.buys l.self.sets.items l.k l.x
