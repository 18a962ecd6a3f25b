-- What shows the clauses of `read_doc` of `src/read.rt`.
use Rattle.tn_file.proofs.ReadingLemmas.{reads_from}
use Rattle.tn_file.proofs.read.read_doc.Goals as goal

pub returns-clause-network : goal.returns-clause-network
returns-clause-network c = reads_from c.args.command c.args.bytes.now c.read_bytes.result c.read_bytes.ensures.exact
