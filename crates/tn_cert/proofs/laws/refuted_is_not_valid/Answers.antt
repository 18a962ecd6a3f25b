-- What shows the clauses of `refuted_is_not_valid` of `src/laws.rt`.
use Rattle.tn_cert.proofs.RefutedClaims.{refuted}
use Rattle.tn_cert.proofs.laws.refuted_is_not_valid.Goals as goal

pub returns : goal.returns
returns c = record { never = refuted }
