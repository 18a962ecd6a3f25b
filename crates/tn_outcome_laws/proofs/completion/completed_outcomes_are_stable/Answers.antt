-- What shows the clauses of `completed_outcomes_are_stable` of `src/completion.rt`.
use Rattle.tn_outcome_laws.proofs.StableLemmas.{completed_is_stable}
use Rattle.tn_outcome_laws.proofs.completion.completed_outcomes_are_stable.Goals as goal

pub returns : goal.returns
returns c = λ firms trades over contracts prices network from_one feasible completes. completed_is_stable firms trades
    over contracts prices network feasible completes
