-- What the loops of `least_number` of `src/kept_cycles.rt` keep.
use Rattle.std.proofs.Common.{ℕ, ◌+◌}
use Rattle.std.specs.Option.{ForSome}
use Rattle.tn_base.specs.Arcs.{IsAtMost}
use Rattle.tn_base.specs.Widths.{most_cost}
use Rattle.tn_cycle.specs.Answers.{AreNear, label_in}
use Rattle.tn_cycle.specs.Kept.{negated_if}
use Rattle.tn_cycle.proofs.KeptCycleLemmas.{AreLifted}
use Rattle.tn_cycle.proofs.kept_cycles.least_number.Given as goal

abbrev pub invariant-loop-k : goal.invariant-loop-k
invariant-loop-k g l = record {
  keeps : AreLifted (g.C.Costs.arc l.costs) l.node (λ v. negated_if l.negates (label_in l.labels v))
      (g.C.Costs.successor_at l.costs l.node) l.k l.least;
  near : (reach : ℕ) → AreNear reach l.labels → ForSome l.least (λ p. IsAtMost p (reach + most_cost));
}
