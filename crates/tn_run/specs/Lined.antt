-- What a run comes to that answers its source line by line.
use Rattle.std.specs.Prelude.{◌≡◌, ℕ, ◌<◌, ◌≤◌, ◌⊎◌, Bool, true, ◌==◌, ◌||◌, if◌then◌else◌, List, [], ◌∷◌, ◌++◌, map, flat_map, length, take, All, Option, Some}
use Rattle.std.specs.Io.KnownBytes.{prepend_known}
use Rattle.std.specs.List.{list_any}
use Rattle.tn_said.specs.declared.said.Said.{Said}
use Rattle.tn_said.specs.declared.said.Said.TheVariants.{ReadFault, NoMemory}
use Rattle.tn_names.specs.Names.{NameLists, no_names}
use Rattle.tn_answer.specs.AnswerText.{answer_line}
use Rattle.tn_answer.specs.Kept.{IsWithinClaims}
use Rattle.tn_answer.specs.declared.layout.Layout.TheVariants.{Object}
use Rattle.tn_io.specs.Counts.{Rose}
use Rattle.tn_io.specs.Lines.{TakesLines, TakesPart}
use Rattle.tn_io.specs.Sink.{Grows}
use Rattle.tn_file.specs.declared.command.Command.{Command}
use Rattle.tn_run.specs.Answer.{document_limit, too_long}
use Rattle.tn_run.specs.Complete.{IsAnswerToAll}
use Rattle.tn_run.specs.Headline.{KeepsPromise, ShowsFault, is_headlined}
use Rattle.tn_run.specs.Run.{status_of}
use Rattle.tn_run.specs.Status.{status_number}
use Rattle.tn_run.specs.declared.status.Status.{Status}
use Rattle.tn_run.specs.declared.status.Status.TheVariants.{Yes, Fault, ReadFailed, WriteFailed, NoMemory as NoMemoryStatus}

-- a line, and what was said of it over some names
pub record Entry : Type 0 where
  pub line : List ℕ
  pub names : NameLists
  pub said : Said

-- the answer of a command to the line, which keeps the rules, or that the line is too long, or want of memory
abbrev pub IsLineAnswer : Command → Entry → Type 0
IsLineAnswer command entry = (entry.said ≡ NoMemory) ⊎ IsAnswerToAll command entry.line entry.names entry.said

-- the headline of a line: the answer is what is promised, or the line's first fault, or that it is too long; or memory
-- ran out
abbrev pub IsLineHeadline : Command → Entry → Type 0
IsLineHeadline command entry =
    (KeepsPromise command entry.line entry.said ⊎ ShowsFault command entry.line entry.said)
    ⊎ (((document_limit < length entry.line) × (entry.said ≡ too_long)) ⊎ (entry.said ≡ NoMemory))

-- what was said of each line is the command's answer to it or want of memory, its numbers are within the limits of
-- claims, and it keeps the headline where that speaks of the command
pub record AreAnswered (command : Command) (entries : List Entry) : Type 0 where
  pub answers : All (IsLineAnswer command) entries
  pub within : All (λ entry. IsWithinClaims entry.said) entries
  pub headline : is_headlined command ≡ true → All (IsLineHeadline command) entries

-- their lines, in order
abbrev pub lines_of : List Entry → List (List ℕ)
lines_of entries = map (λ entry. entry.line) entries

-- the texts of what was said of them, as objects, one after another
abbrev pub texts_of : List Entry → List ℕ
texts_of entries = flat_map (λ entry. answer_line Object entry.names entry.said) entries

-- whether an answer has this status
abbrev pub has_status : Status → List Entry → Bool
has_status status entries = list_any (λ entry. status_number (status_of entry.said) == status_number status) entries

-- the exit status of a run whose lines were all answered: want of memory goes before a fault, and a fault before all else
abbrev pub lines_status : List Entry → ℕ
lines_status entries = if has_status NoMemoryStatus entries then status_number NoMemoryStatus
    else if has_status Fault entries then status_number Fault else status_number Yes

-- and that after one more answer
abbrev pub with_status : ℕ → ℕ → ℕ
with_status status answer =
    if (status == status_number NoMemoryStatus) || (answer == status_number NoMemoryStatus)
    then status_number NoMemoryStatus
    else if (status == status_number Fault) || (answer == status_number Fault) then status_number Fault
    else status_number Yes

-- all lines of the source were answered, and that alone was written; the source gave them, and no more is left
pub record AnswersLines (command : Command) (told left old new : Option (List ℕ)) (status : ℕ) : Type 0 where
  pub entries : List Entry
  pub answered : AreAnswered command entries
  pub lines : TakesLines told (Some []) (lines_of entries)
  pub taken : TakesLines told left (lines_of entries)
  pub written : Grows old new (texts_of entries)
  pub status_is : status ≡ lines_status entries

-- a read failed behind the lines of the entries: the source gave these, in order and each once, and then a part of a
-- line, in which no line feed stands; what is left comes after that
pub record FailsBehind (told left : Option (List ℕ)) (before after : ℕ) (entries : List Entry) : Type 0 where
  pub cause : Rose before after
  pub rest : Option (List ℕ)
  pub lines : TakesLines told rest (lines_of entries)
  pub part : TakesPart rest left

-- a read failed, and every whole line before that has its answer; that it failed was written after them
pub record StopsAtRead (command : Command) (told left : Option (List ℕ)) (before after : ℕ)
    (old new : Option (List ℕ)) (status : ℕ) : Type 0 where
  pub entries : List Entry
  pub answered : AreAnswered command entries
  pub failed : FailsBehind told left before after entries
  pub written : Grows old new (texts_of entries ++ answer_line Object no_names ReadFault)
  pub status_is : status ≡ status_number ReadFailed

-- the text is the answer to the line that comes after those of the entries; the source gave their lines and this one,
-- in order and each once, and then what is read ahead of the next; what is left comes after that
pub record AnswersNext (command : Command) (told left : Option (List ℕ)) (entries : List Entry)
    (text : List ℕ) : Type 0 where
  pub entry : Entry
  pub answered : AreAnswered command (entries ++ entry ∷ [])
  pub ahead : List ℕ
  pub lines : TakesLines told (prepend_known ahead left) (lines_of (entries ++ entry ∷ []))
  pub text_is : text ≡ answer_line Object entry.names entry.said

-- the text that comes after those of the entries: the next line's answer, or that a read failed behind their lines
abbrev pub IsNextText : Command → Option (List ℕ) → Option (List ℕ) → ℕ → ℕ → List Entry → List ℕ → Type 0
IsNextText command told left before after entries text =
    AnswersNext command told left entries text
    ⊎ (FailsBehind told left before after entries × (text ≡ answer_line Object no_names ReadFault))

-- a write failed after the whole answers to the first lines, and at most a prefix of the next text was written after
-- them
pub record StopsAtWrite (command : Command) (told left : Option (List ℕ)) (before after : ℕ)
    (old new : Option (List ℕ)) (faults_old faults_new status : ℕ) : Type 0 where
  pub entries : List Entry
  pub answered : AreAnswered command entries
  pub text : List ℕ
  pub next : IsNextText command told left before after entries text
  pub cause : Rose faults_old faults_new
  pub count : ℕ
  pub within : count ≤ length text
  pub written : Grows old new (texts_of entries ++ take count text)
  pub status_is : status ≡ status_number WriteFailed

-- what a run by lines comes to, by what the source told and has left and its counts of faults, and by what the sink
-- tells before and after, with its counts
abbrev pub IsLinedRun : Command → Option (List ℕ) → Option (List ℕ) → ℕ → ℕ → Option (List ℕ) → Option (List ℕ) → ℕ → ℕ
    → ℕ → Type 0
IsLinedRun command told left before after old new faults_old faults_new status =
    AnswersLines command told left old new status
    ⊎ (StopsAtRead command told left before after old new status
    ⊎ StopsAtWrite command told left before after old new faults_old faults_new status)
