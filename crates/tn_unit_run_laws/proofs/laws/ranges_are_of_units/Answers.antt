-- What shows the clause of `ranges_are_of_units` of `src/laws.rt`.
use Rattle.tn_unit_run_laws.proofs.AnswerLemmas.{ranges_are}
use Rattle.tn_unit_run_laws.proofs.laws.ranges_are_of_units.Goals as goal

pub returns : goal.returns
returns c = ranges_are
