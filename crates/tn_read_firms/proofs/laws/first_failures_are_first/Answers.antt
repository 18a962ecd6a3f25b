-- What shows the clauses of `first_failures_are_first` of `src/laws.rt`.
use Rattle.tn_read_firms.proofs.FailureLemmas.{found, none, first, holds}
use Rattle.tn_read_firms.proofs.laws.first_failures_are_first.Goals as goal

pub returns : goal.returns
returns c = record { found = found; none = none; first = first; holds = holds }
