-- What shows the clauses of `unit_faults_are_sayable` of `src/laws.rt`.
use Rattle.tn_read_units.proofs.LawLemmas.{faults_sayable}
use Rattle.tn_read_units.proofs.laws.unit_faults_are_sayable.Goals as goal

pub returns : goal.returns
returns c = faults_sayable
