-- What shows the clause of `answers_are_stable_units` of `src/laws.rt`.
use Rattle.tn_unit_run_laws.proofs.AnswerLemmas.{are_stable}
use Rattle.tn_unit_run_laws.proofs.laws.answers_are_stable_units.Goals as goal

pub returns : goal.returns
returns c = are_stable
