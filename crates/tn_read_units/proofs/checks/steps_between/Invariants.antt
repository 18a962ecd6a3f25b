-- What the loops of `steps_between` of `src/checks.rt` keep.
use Rattle.std.proofs.Common.{◌≡◌, ◌≤◌, ◌++◌, None, drop, length}
use Rattle.std.specs.Prelude.{IfSome}
use Rattle.tn_base.specs.Arcs.{IsAtMost}
use Rattle.tn_read_units.specs.Checks.{steps_after}
use Rattle.tn_read_units.specs.Limits.{most_number}
use Rattle.tn_read_units.proofs.checks.steps_between.Given as goal

abbrev pub invariant-loop-number : goal.invariant-loop-number
invariant-loop-number l = record {
  small : IfSome l.before (λ number. IsAtMost number most_number);
  few : length l.steps.items ≤ l.number-index;
  rest : l.steps.items ++ steps_after l.before (drop l.number-index l.numbers) ≡ steps_after None l.numbers;
}
