-- The states of the edits so far, and how the session stands after them.
use Rattle.std.proofs.Common.{◌≡◌, ℕ, ◌+◌, Some, length, slice_get, take}
use Rattle.std.specs.Prelude.{All}
use Rattle.tn_answer.specs.Kept.{IsWithinUnitState}
use Rattle.tn_read_units.specs.Worths.{written_firms}
use Rattle.tn_said.specs.declared.session.UnitState.{UnitState}
use Rattle.tn_unit_answers.specs.Session.{IsUnitState, usable_after}
use Rattle.tn_unit_answers.specs.Standing.{IsStanding, StandsAfter}
use Rattle.tn_unit_answers.proofs.session.states_from.Given as goal

abbrev pub invariant-loop-k : goal.invariant-loop-k
invariant-loop-k l = record {
  standing : IsStanding l.document l.standing;
  after : StandsAfter l.document (take l.k l.edits) l.standing;
  count : length l.states.items ≡ l.k;
  each : (j : ℕ) (state : UnitState) → slice_get l.states.items j ≡ Some state
      → IsUnitState (written_firms l.document) (usable_after (take (j + 1) l.edits) l.document.head.trades) state;
  within : All IsWithinUnitState l.states.items;
}
