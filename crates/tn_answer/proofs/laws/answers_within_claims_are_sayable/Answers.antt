-- What shows the clauses of `answers_within_claims_are_sayable` of `src/laws.rt`.
use Rattle.tn_answer.proofs.LawLemmas.{within_sayable}
use Rattle.tn_answer.proofs.laws.answers_within_claims_are_sayable.Goals as goal

pub returns : goal.returns
returns c = within_sayable
