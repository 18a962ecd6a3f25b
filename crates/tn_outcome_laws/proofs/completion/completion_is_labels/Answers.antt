-- What shows the clauses of `completion_is_labels` of `src/completion.rt`.
use Rattle.tn_outcome_laws.proofs.CompletionLemmas.{completion_is_labels}
use Rattle.tn_outcome_laws.proofs.completion.completion_is_labels.Goals as goal

pub returns : goal.returns
returns c = completion_is_labels
