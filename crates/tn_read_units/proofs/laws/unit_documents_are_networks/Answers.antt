-- What shows the clauses of `unit_documents_are_networks` of `src/laws.rt`.
use Rattle.tn_read_units.proofs.LawLemmas.{document_leads}
use Rattle.tn_read_units.proofs.laws.unit_documents_are_networks.Goals as goal

pub returns : goal.returns
returns c top = (document_leads top).at
