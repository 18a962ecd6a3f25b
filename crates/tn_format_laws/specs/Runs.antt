-- The same of the answers: within the limits of two versions a document has the same ones in both.
use Rattle.std.specs.Prelude.{◌≡◌, ◌↔◌, ℕ, List, Some}
use Rattle.serde_json.specs.Data.{Data}
use Rattle.tn_said.specs.declared.said.Said.{Said}
use Rattle.tn_names.specs.Names.{NameLists}
use Rattle.tn_file.specs.Document.{reading_of}
use Rattle.tn_file.specs.Readings.{any_reading_of}
use Rattle.tn_file.specs.Json.{json_of}
use Rattle.tn_file.specs.declared.command.Command.{Command}
use Rattle.tn_run.specs.Answer.{IsAnswerTo}
use Rattle.tn_format_laws.specs.Versions.{AreOfVersions, StopsAtLimit}

-- two texts stand for values that differ in their versions alone
pub record AreBytesOfVersions (bytes other : List ℕ) : Type 0 where
  pub top : Data
  pub other_top : Data
  pub stands : json_of bytes ≡ Some top
  pub other_stands : json_of other ≡ Some other_top
  pub versions : AreOfVersions top other_top

-- where neither is beyond a limit of its version, the two have the same answers
abbrev pub AnswersAreThoseOfEachVersion : Type 0
AnswersAreThoseOfEachVersion = (command : Command) (bytes other : List ℕ) → AreBytesOfVersions bytes other
    → (StopsAtLimit (reading_of command bytes) → ⊥)
    → (StopsAtLimit (reading_of command other) → ⊥) → (names : NameLists) (said : Said)
    → IsAnswerTo command (any_reading_of command bytes) names said
    ↔ IsAnswerTo command (any_reading_of command other) names said
