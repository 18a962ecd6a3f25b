-- What is answered of a document by what it holds.
use Rattle.std.proofs.Common.{◌≡◌, Result, sym, subst}
use Rattle.std.specs.Prelude.{IfOk}
use Rattle.tn_said.specs.declared.said.Said.{Said}
use Rattle.tn_file.specs.declared.document.Content.{Content}
use Rattle.tn_file.specs.declared.document.Document.{Document}
use Rattle.tn_file.specs.Refusal.{command_of, document_view}
use Rattle.tn_run.specs.Answer.{IsAnswerOf}

-- a document is what it holds
pub on_content : {E : Type 0} (doc : Document) (content : Content) (result : Result Said E) → doc.content ≡ content
    → IfOk result (IsAnswerOf (command_of content) (document_view (record { names = doc.names; content = content })))
    → IfOk result (IsAnswerOf (command_of doc.content) (document_view doc))
on_content doc content result is answers =
    subst (λ (held : Content). IfOk result (IsAnswerOf (command_of held)
    (document_view (record { names = doc.names; content = held })))) (sym is) answers
