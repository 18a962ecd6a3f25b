-- What shows the clauses of `completed_outcomes_are_rational` of `src/completion.rt`.
use Rattle.tn_outcome_laws.proofs.FixedLemmas.{completed_is_rational}
use Rattle.tn_outcome_laws.proofs.completion.completed_outcomes_are_rational.Goals as goal

pub returns : goal.returns
returns c = completed_is_rational
