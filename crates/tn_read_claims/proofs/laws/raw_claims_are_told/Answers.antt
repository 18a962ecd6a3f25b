-- What shows the clauses of `raw_claims_are_told` of `src/laws.rt`.
use Rattle.tn_read_claims.proofs.KindLeads.{raw_claims_are_told}
use Rattle.tn_read_claims.proofs.laws.raw_claims_are_told.Goals as goal

pub returns : goal.returns
returns c = raw_claims_are_told
