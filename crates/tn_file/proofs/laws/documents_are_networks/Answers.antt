-- What shows the clauses of `documents_are_networks` of `src/laws.rt`.
use Rattle.tn_file.proofs.ReadingLemmas.{documents_are}
use Rattle.tn_file.proofs.laws.documents_are_networks.Goals as goal

pub returns : goal.returns
returns c = documents_are
