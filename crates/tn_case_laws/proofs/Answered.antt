-- A case has one answer where its document is read, its answer is a defined one, and no other is.
use Rattle.std.proofs.Common.{◌≡◌, ℕ, zero, suc, List, [], ◌∷◌, slice_get, Some, refl, sym, ap, ◌∙◌, subst, Ok}
use Rattle.std.proofs.lemmas.Option.{same_Some, none-some}
use Rattle.std.specs.List.{AllByRecursion}
use Rattle.tn_answer.specs.AnswerText.{answer_line}
use Rattle.tn_cases.specs.Case.{CaseData}
use Rattle.tn_file.specs.Document.{DocumentData, reading_of}
use Rattle.tn_file.proofs.ReadingLemmas.{networks_read}
use Rattle.tn_said.specs.declared.said.Said.{Said}
use Rattle.tn_run.specs.Answer.{IsAnswerOf, IsAnswerTo}
use Rattle.tn_run.specs.Cases.{IsCaseAnswer, IsAllowed}
use Rattle.tn_run.specs.Run.{status_of}
use Rattle.tn_run.specs.Status.{status_number}
use Rattle.tn_run.specs.Words.{case_command, case_layout}
use Rattle.tn_file.specs.Readings.{any_reading_of, network}
use Rattle.tn_file.specs.declared.command.Command.{Command}
use Rattle.tn_case_laws.specs.Laws.{HasOneAnswer}

pub one_answer : (case : CaseData) (command : Command) (doc : DocumentData) (said : Said)
    → case_command case.command ≡ Some command → reading_of command case.document ≡ Ok doc
    → IsAnswerOf command doc said → ((other : Said) → IsAnswerOf command doc other → other ≡ said)
    → case.status ≡ status_number (status_of said) → case.text ≡ answer_line (case_layout case.command) doc.names said
    → HasOneAnswer case
one_answer case command doc said command_is reading_is answers only_said status_is text_is = record {
  allowed = record {
    names = doc.names;
    said = said;
    answer = subst (λ c. IsCaseAnswer c case.document doc.names said) (sym command_is)
        (subst (λ r. IsAnswerTo command r doc.names said) (sym any_reading_is) (answers, refl));
    status_is = status_is;
    text_is = text_is;
  };
  only = only;
}
  where
    any_reading_is : any_reading_of command case.document ≡ Ok (network doc)
    any_reading_is = networks_read command case.document doc reading_is

    only : (status : ℕ) (text : List ℕ) → IsAllowed case status text → (status ≡ case.status) × (text ≡ case.text)
    only status text allowed =
        let on_document = subst (λ c. IsCaseAnswer c case.document allowed.names allowed.said) command_is allowed.answer
        in
        let on_read = subst (λ r. IsAnswerTo command r allowed.names allowed.said) any_reading_is on_document in
        let same = only_said allowed.said on_read.0 in
        let same_names = on_read.1 in
        let layout = case_layout case.command in
        let lines : answer_line layout allowed.names allowed.said ≡ answer_line layout doc.names said =
        λ i. answer_line layout (same_names i) (same i) in
        (allowed.status_is ∙ ap (λ (one : Said). status_number (status_of one)) same ∙ sym status_is, allowed.text_is ∙ lines ∙ sym text_is)

-- what holds of the elements one after the other holds of each
pub each_in : {X : Type 0} (P : X → Type 0) (xs : List X) → AllByRecursion P xs → (k : ℕ) (y : X)
    → slice_get xs k ≡ Some y → P y
each_in P [] all k y e = absurd (none-some y e)
each_in P (x ∷ xs) all zero y e = subst P (same_Some x y e) all.0
each_in P (x ∷ xs) all (suc k) y e = each_in P xs all.1 k y e
