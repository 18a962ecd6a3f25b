-- What shows the clauses of `completion_is_fixed_labels` of `src/completion.rt`.
use Rattle.tn_outcome_laws.proofs.FixedLemmas.{completion_is_fixed_labels}
use Rattle.tn_outcome_laws.proofs.completion.completion_is_fixed_labels.Goals as goal

pub returns : goal.returns
returns c = completion_is_fixed_labels
