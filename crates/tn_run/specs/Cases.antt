-- What running a book of cases comes to.
use Rattle.std.specs.Prelude.{◌≡◌, ℕ, ◌+◌, ◌<◌, ◌≤◌, ◌⊎◌, Bool, true, false, List, slice_get, Option, None, Some, All, Contains}
use Rattle.std.specs.List.Sorted.{IsStrictlyIncreasing}
use Rattle.tn_answer.specs.AnswerText.{answer_line}
use Rattle.tn_cases.specs.Book.{cases_of_the_book}
use Rattle.tn_cases.specs.Case.{CaseData}
use Rattle.tn_file.specs.Readings.{any_reading_of}
use Rattle.tn_said.specs.declared.said.Said.{Said}
use Rattle.tn_said.specs.declared.said.Said.TheVariants.{Usage, NoMemory, Cases}
use Rattle.tn_names.specs.Names.{NameLists}
use Rattle.tn_run.specs.Answer.{IsAnswerTo}
use Rattle.tn_run.specs.Run.{status_of}
use Rattle.tn_run.specs.Status.{status_number}
use Rattle.tn_run.specs.Words.{case_command, case_layout}
use Rattle.tn_file.specs.declared.command.Command.{Command}

-- the defined answer of a command to a document; usage where it is none
abbrev pub IsCaseAnswer : Option Command → List ℕ → NameLists → Said → Type 0
IsCaseAnswer None document names said = said ≡ Usage
IsCaseAnswer (Some command) document names said = IsAnswerTo command (any_reading_of command document) names said

-- the status and the text are those of a defined answer to the case's command on its document
pub record IsAllowed (case : CaseData) (status : ℕ) (text : List ℕ) : Type 0 where
  pub names : NameLists
  pub said : Said
  pub answer : IsCaseAnswer (case_command case.command) case.document names said
  pub status_is : status ≡ status_number (status_of said)
  pub text_is : text ≡ answer_line (case_layout case.command) names said

-- some allowed status and text differ from those of the case
pub record MayDiffer (case : CaseData) : Type 0 where
  pub status : ℕ
  pub text : List ℕ
  pub allowed : IsAllowed case status text
  pub differs : status ≡ case.status → text ≡ case.text → ⊥

-- whether the case's status and text are allowed, or some allowed ones differ from them
abbrev pub IsPassed : Bool → CaseData → Type 0
IsPassed true case = IsAllowed case case.status case.text
IsPassed false case = MayDiffer case

-- the numbers, from 1, of those of the first cases that failed: they ascend, none stands twice, what isn't listed is
-- allowed, and for what is listed some allowed answer differs
pub record AreFailed (count : ℕ) (cases : List CaseData) (failed : List ℕ) : Type 0 where
  pub ascending : IsStrictlyIncreasing failed
  pub among : All (λ number. (1 ≤ number) × (number ≤ count)) failed
  pub passed : (k : ℕ) (case : CaseData) → k < count → slice_get cases k ≡ Some case → (Contains failed (k + 1) → ⊥)
      → IsPassed true case
  pub failing : (k : ℕ) (case : CaseData) → k < count → slice_get cases k ≡ Some case → Contains failed (k + 1)
      → IsPassed false case

-- the answer of `cases`: the numbers of those of the book that failed
abbrev pub TellsCases : Said → Type 0
TellsCases (Cases count failed) = (count ≡ 12) × AreFailed count cases_of_the_book failed
TellsCases said = ⊥

-- the answer of `cases`, or that memory ran out
abbrev pub MayBeCases : Said → Type 0
MayBeCases said = (said ≡ NoMemory) ⊎ TellsCases said
