-- What shows the clauses of `claims_keep_limits` of `src/laws.rt`.
use Rattle.tn_read_claims.proofs.KindLeads.{claims_keep_limits}
use Rattle.tn_read_claims.proofs.laws.claims_keep_limits.Goals as goal

pub returns : goal.returns
returns c = claims_keep_limits
