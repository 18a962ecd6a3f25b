-- What shows the clause of `runs_speak_of_units` of `src/laws.rt`.
use Rattle.tn_unit_run_laws.proofs.RunLemmas.{runs_speak}
use Rattle.tn_unit_run_laws.proofs.laws.runs_speak_of_units.Goals as goal

pub returns : goal.returns
returns c = runs_speak
