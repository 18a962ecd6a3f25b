-- Each case of the book has one answer.
use Rattle.std.specs.Prelude.{◌≡◌, ℕ, ◌⊎◌, List, [], slice_get, Some}
use Rattle.tn_cases.specs.Book.{cases_of_the_book}
use Rattle.tn_cases.specs.Case.{CaseData}
use Rattle.tn_said.specs.declared.said.Said.{Said}
use Rattle.tn_said.specs.declared.said.Said.TheVariants.{NoMemory, Cases}
use Rattle.tn_run.specs.Cases.{IsAllowed, AreFailed, MayBeCases}

-- the status and the text of the case are allowed, and no others are
pub record HasOneAnswer (case : CaseData) : Type 0 where
  pub allowed : IsAllowed case case.status case.text
  pub only : (status : ℕ) (text : List ℕ) → IsAllowed case status text → (status ≡ case.status) × (text ≡ case.text)

-- so it is of every case of the book
abbrev pub EachCaseHasOneAnswer : Type 0
EachCaseHasOneAnswer = (k : ℕ) (case : CaseData) → slice_get cases_of_the_book k ≡ Some case → HasOneAnswer case

-- no number is among those of the cases that failed, of which there are 12
abbrev pub NoCaseFails : Type 0
NoCaseFails = (failed : List ℕ) → AreFailed 12 cases_of_the_book failed → failed ≡ []

-- where memory doesn't run out, `cases` says of all 12 that none failed
abbrev pub CasesArePassed : Type 0
CasesArePassed = (said : Said) → MayBeCases said → (said ≡ NoMemory) ⊎ (said ≡ Cases 12 [])
