-- What a case says.
use Rattle.std.specs.Prelude.{ℕ, List, Bool, ◌==◌, ◌&&◌}
use Rattle.std.specs.Str.{bytes_eq}
use Rattle.tn_cases.specs.declared.case.Case.{Case}

-- the bytes of a command's words and of a document, and the status and the text that it must come to
pub record CaseData : Type 0 where
  pub command : List ℕ
  pub document : List ℕ
  pub status : ℕ
  pub text : List ℕ

abbrev pub case_data : Case → CaseData
case_data case = record {
  command = case.command.now;
  document = case.document.now;
  status = case.status;
  text =
      case.text.now;
}

-- whether a status and a text are those of a case
abbrev pub agrees_with : ℕ → List ℕ → CaseData → Bool
agrees_with status text case = (status == case.status) && bytes_eq text case.text
