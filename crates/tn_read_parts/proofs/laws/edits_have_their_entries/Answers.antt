-- What shows the clauses of `edits_have_their_entries` of `src/laws.rt`.
use Rattle.tn_read_parts.proofs.EditLaws.{edits_have_their_entries}
use Rattle.tn_read_parts.proofs.laws.edits_have_their_entries.Goals as goal

pub returns : goal.returns
returns c = edits_have_their_entries
