-- What shows the clauses of `outcomes_have_their_entries` of `src/laws.rt`.
use Rattle.tn_read_parts.proofs.OutcomeLaws.{outcomes_have_their_entries}
use Rattle.tn_read_parts.proofs.laws.outcomes_have_their_entries.Goals as goal

pub returns : goal.returns
returns c = outcomes_have_their_entries
