-- What shows the clauses of `unit_documents_are_named` of `src/laws.rt`.
use Rattle.tn_read_units.proofs.LawLemmas.{documents_named}
use Rattle.tn_read_units.proofs.laws.unit_documents_are_named.Goals as goal

pub returns : goal.returns
returns c = documents_named
