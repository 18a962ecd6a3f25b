-- That every answer replays, in the words of the runs of the program.
use Rattle.std.specs.Prelude.{◌≡◌, ◌↔◌, ℕ, List, Bool, true, false, Some, Ok}
use Rattle.serde_json.specs.Data.{Data}
use Rattle.tn_answer.specs.AnswerText.{answer_data}
use Rattle.tn_file.specs.Document.{DocumentData, reading_of}
use Rattle.tn_file.specs.Json.{json_of}
use Rattle.tn_file.specs.Readings.{any_reading_of}
use Rattle.tn_said.specs.declared.said.Said.{Said}
use Rattle.tn_said.specs.declared.said.Said.TheVariants.{Valid}
use Rattle.tn_names.specs.Names.{NameLists}
use Rattle.tn_replay_laws.specs.Fits.{FitsClaim}
use Rattle.tn_replay_laws.specs.Replayed.{with_claim}
use Rattle.tn_file.specs.declared.command.Command.{Command}
use Rattle.tn_file.specs.declared.command.Command.TheVariants.{Check, Firms, Judge, Range, Replay, Session, Solve, Support, Test}
use Rattle.tn_run.specs.Answer.{IsAnswerOf, IsAnswerTo}

-- whether the answers of a command are claims
abbrev pub answers_claims : Command → Bool
answers_claims Check = true
answers_claims Firms = false
answers_claims Judge = true
answers_claims Range = false
answers_claims Replay = false
answers_claims Session = false
answers_claims Solve = true
answers_claims Support = true
answers_claims Test = true

-- to bytes that stand for a document of single trades with an answer to it as its claim, `replay` answers that the claim is valid, and
-- nothing else, over the same names
abbrev pub AnswersReplay : Type 0
AnswersReplay = (command : Command) (bytes claimed : List ℕ) (top : Data) (doc : DocumentData) (said : Said)
    → answers_claims command ≡ true → json_of bytes ≡ Some top → reading_of command bytes ≡ Ok doc
    → IsAnswerOf command doc said → FitsClaim said → json_of claimed
    ≡ Some (with_claim (answer_data doc.names said) top)
    → (names : NameLists) (answer : Said) → IsAnswerTo Replay (any_reading_of Replay claimed) names answer
    ↔ ((answer ≡ Valid) × (names ≡ doc.names))
