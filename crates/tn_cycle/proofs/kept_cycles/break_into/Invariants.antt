-- What the loops of `break_into` of `src/kept_cycles.rt` keep.
use Rattle.std.proofs.Common.{◌≡◌, ℕ, ◌<◌, ℤ, ◌+ℤ◌, ◌≤ℤ◌, Some}
use Rattle.tn_cycle.specs.Answers.{label_in}
use Rattle.tn_cycle.proofs.kept_cycles.break_into.Given as goal

abbrev pub invariant-loop-k : goal.invariant-loop-k
invariant-loop-k g l = (i : ℕ) (cost : ℤ) → i < l.k
    → g.C.Costs.arc l.costs (g.C.Costs.predecessor_at l.costs l.node i) l.node ≡ Some cost
    → label_in l.labels l.node ≤ℤ (label_in l.labels (g.C.Costs.predecessor_at l.costs l.node i) +ℤ cost)
