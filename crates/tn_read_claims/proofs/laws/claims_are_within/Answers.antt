-- What shows the clauses of `claims_are_within` of `src/laws.rt`.
use Rattle.tn_read_claims.proofs.ClaimLeads.{claims_are_within}
use Rattle.tn_read_claims.proofs.laws.claims_are_within.Goals as goal

pub returns : goal.returns
returns c = claims_are_within
