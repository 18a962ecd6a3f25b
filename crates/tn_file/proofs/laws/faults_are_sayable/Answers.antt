-- What shows the clauses of `faults_are_sayable` of `src/laws.rt`.
use Rattle.tn_file.proofs.ReadingLemmas.{faults_are_sayable}
use Rattle.tn_file.proofs.laws.faults_are_sayable.Goals as goal

pub returns : goal.returns
returns c = faults_are_sayable
