-- What shows the clauses of `arrangements_have_their_entries` of `src/laws.rt`.
use Rattle.tn_read_parts.proofs.ArrangementLaws.{arrangements_have_their_entries}
use Rattle.tn_read_parts.proofs.laws.arrangements_have_their_entries.Goals as goal

pub returns : goal.returns
returns c = arrangements_have_their_entries
