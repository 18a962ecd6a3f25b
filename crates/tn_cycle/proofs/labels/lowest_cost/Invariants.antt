-- What the loops of `lowest_cost` of `src/labels.rt` keep.
use Rattle.tn_cycle.specs.Cells.{cell_at}
use Rattle.tn_cycle.specs.Answers.{IsLowestCost}
use Rattle.tn_cycle.proofs.labels.lowest_cost.Given as goal

abbrev pub invariant-loop-v : goal.invariant-loop-v
invariant-loop-v l = IsLowestCost l.v (cell_at l.row) l.lowest
