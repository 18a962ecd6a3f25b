-- What shows the clauses of `answers_fit_claims` of `src/laws.rt`.
use Rattle.tn_replay_laws.proofs.FitLemmas.{answers_fit_claims}
use Rattle.tn_replay_laws.proofs.laws.answers_fit_claims.Goals as goal

pub returns : goal.returns
returns c = answers_fit_claims
