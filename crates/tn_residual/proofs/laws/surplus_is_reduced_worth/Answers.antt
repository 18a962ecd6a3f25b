-- What shows the clauses of `surplus_is_reduced_worth` of `src/laws.rt`.
use Rattle.tn_residual.proofs.ReachLemmas.{surplus_is_reduced_worth}
use Rattle.tn_residual.proofs.laws.surplus_is_reduced_worth.Goals as goal

pub returns : goal.returns
returns c = surplus_is_reduced_worth
