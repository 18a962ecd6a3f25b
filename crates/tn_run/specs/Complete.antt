-- What a run comes to where nothing failed.
use Rattle.std.specs.Prelude.{◌≡◌, ℕ, ◌<◌, ◌≤◌, ◌⊎◌, List, length, Option}
use Rattle.tn_said.specs.declared.said.Said.{Said}
use Rattle.tn_said.specs.declared.said.Said.TheVariants.{NoMemory}
use Rattle.tn_io.specs.Counts.{Rose}
use Rattle.tn_names.specs.Names.{NameLists}
use Rattle.tn_file.specs.Readings.{any_reading_of}
use Rattle.tn_file.specs.declared.command.Command.{Command}
use Rattle.tn_run.specs.Answer.{document_limit, too_long, IsAnswerTo, KeepsRules}
use Rattle.tn_run.specs.declared.request.Request.{Request}
use Rattle.tn_run.specs.declared.request.Request.TheVariants.{Document}
use Rattle.tn_run.specs.Request.{layout_of}
use Rattle.tn_run.specs.Run.{IsWrittenWhole}
use Rattle.tn_run.specs.Saying.{MaySayUnread}

-- no fault was counted in a call
abbrev pub NoneCounted : ℕ → ℕ → Type 0
NoneCounted before after = Rose before after → ⊥

-- the answer to all bytes of a source: the defined one for them, which keeps the rules, or that they are too long
pub record IsAnswerToAll (command : Command) (all : List ℕ) (names : NameLists) (said : Said) : Type 0 where
  pub few : length all ≤ document_limit → IsAnswerTo command (any_reading_of command all) names said
  pub kept : length all ≤ document_limit → KeepsRules names said
  pub many : document_limit < length all → said ≡ too_long

-- what is said on a request of all bytes of a source: of a document the command's answer to them, or want of memory
abbrev pub SaysOfAll : Request → List ℕ → NameLists → Said → Type 0
SaysOfAll (Document command layout) all names said = (said ≡ NoMemory) ⊎ IsAnswerToAll command all names said
SaysOfAll request all names said = MaySayUnread request said

-- that was said of all bytes; its text was written whole, and the status is its own
pub record AnswersAll (request : Request) (all : List ℕ) (old new : Option (List ℕ)) (names : NameLists) (said : Said)
    (status : ℕ) : Type 0 where
  pub answer : SaysOfAll request all names said
  pub written : IsWrittenWhole old new (layout_of request) names said status
