-- What shows the clauses of `faults_of_claims` of `src/laws.rt`.
use Rattle.tn_read_claims.proofs.FaultKinds.{faults_of_claims}
use Rattle.tn_read_claims.proofs.laws.faults_of_claims.Goals as goal

pub returns : goal.returns
returns c = faults_of_claims
