-- What shows the clauses of `answer_read` of `src/answer.rt`.
use Rattle.std.proofs.Common.{subst}
use Rattle.tn_file.specs.declared.document.ReadDocument.{ReadDocument}
use Rattle.tn_file.specs.Reads.{IsMade, IsRead, read_for}
use Rattle.tn_run.proofs.answer.answer_read.Goals as goal

pub answer_network-requires-clause-document : goal.answer_network-requires-clause-document
answer_network-requires-clause-document c =
    subst (λ (doc : ReadDocument). IsRead (read_for doc) doc) c.in-Network.is c.requires.document

pub answer_network-requires-clause-made : goal.answer_network-requires-clause-made
answer_network-requires-clause-made c = subst IsMade c.in-Network.is c.requires.made

pub answer_by_counts-requires : goal.answer_by_counts-requires
answer_by_counts-requires c = record {
  part = (subst (λ (doc : ReadDocument). IsRead (read_for doc) doc) c.in-Units.is c.requires.document).beside;
}
