-- What the words of the program ask for.
use Rattle.std.specs.Prelude.{ℕ, ◌≤◌, List, [], ◌∷◌, codes, Bool, ◌||◌, Option, Some, None, option_map, option_and_then, unwrap_or, if◌then◌else◌}
use Rattle.std.specs.Str.{bytes_eq}
use Rattle.tn_answer.specs.declared.layout.Layout.{Layout}
use Rattle.tn_answer.specs.declared.layout.Layout.TheVariants.{Object}
use Rattle.tn_drill.specs.Draws.{most_drilled, most_start}
use Rattle.tn_said.specs.declared.said.Page.{Page}
use Rattle.tn_said.specs.declared.said.Page.TheVariants.{Help, Version, About}
use Rattle.tn_said.specs.declared.said.Topic.{Topic}
use Rattle.tn_said.specs.declared.said.Topic.TheVariants.{Check as CheckTopic, Firms as FirmsTopic, Test as TestTopic, Support as SupportTopic, Solve as SolveTopic, Range as RangeTopic, Session as SessionTopic, Judge as JudgeTopic, Replay as ReplayTopic, Drill as DrillTopic, Cases as CasesTopic}
use Rattle.tn_file.specs.declared.command.Command.{Command}
use Rattle.tn_run.specs.declared.request.Request.{Request}
use Rattle.tn_run.specs.declared.request.Request.TheVariants.{Usage, Document, Lines, Drill, Cases, Page as PageIs}
use Rattle.tn_run.specs.Words.{number_within, word_command, word_layout}

-- the command that a page is about, by its word
abbrev pub topic_of : List ℕ → Option Topic
topic_of word =
    if bytes_eq word (codes "check") then Some CheckTopic
    else if bytes_eq word (codes "firms") then Some FirmsTopic
    else if bytes_eq word (codes "test") then Some TestTopic
    else if bytes_eq word (codes "support") then Some SupportTopic
    else if bytes_eq word (codes "solve") then Some SolveTopic
    else if bytes_eq word (codes "range") then Some RangeTopic
    else if bytes_eq word (codes "session") then Some SessionTopic
    else if bytes_eq word (codes "judge") then Some JudgeTopic
    else if bytes_eq word (codes "replay") then Some ReplayTopic
    else if bytes_eq word (codes "drill") then Some DrillTopic
    else if bytes_eq word (codes "cases") then Some CasesTopic
    else None

-- the page about a command, and about all of them for `help`
abbrev pub page_about : List ℕ → Option Page
page_about word = if bytes_eq word (codes "help") then Some Help else option_map About (topic_of word)

-- the page that one word asks for
abbrev pub word_page : List ℕ → Option Page
word_page word =
    if bytes_eq word (codes "help") then Some Help
    else if bytes_eq word (codes "-h") then Some Help
    else if bytes_eq word (codes "--help") then Some Help
    else if bytes_eq word (codes "--version") then Some Version
    else None

-- whether a word behind a command asks for its page
abbrev pub asks_for_page : List ℕ → Bool
asks_for_page word = bytes_eq word (codes "--help") || bytes_eq word (codes "-h")

-- the page that two words ask for: a command with a word behind it that asks for its page, or `help` before it
abbrev pub words_page : List ℕ → List ℕ → Option Page
words_page word next =
    if asks_for_page next then page_about word
    else if bytes_eq word (codes "help") then page_about next
    else None

-- a page is asked for, or nothing that the program has
abbrev pub page_request : Option Page → Request
page_request (Some page) = PageIs page
page_request None = Usage

-- what one word asks for: the cases, a command's answer as an object, or a page
abbrev pub word_request : List ℕ → Request
word_request word = if bytes_eq word (codes "cases") then Cases
    else unwrap_or (option_map (λ command. Document command Object) (word_command word)) (page_request (word_page word))

-- what a command asks for with one word behind it: its answers line by line, or its answer in another layout
abbrev pub command_with : List ℕ → Command → Option Request
command_with word command = if bytes_eq word (codes "--lines") then Some (Lines command)
    else option_map (Document command) (word_layout command word)

-- what two words ask for: a command with a word of its own behind it, or a page
abbrev pub pair_request : List ℕ → List ℕ → Request
pair_request word next = unwrap_or (option_and_then (command_with next) (word_command word))
    (page_request (words_page word next))

-- a drill of two numbers, if both are there
abbrev pub numbered_drill : Option ℕ → Option ℕ → Request
numbered_drill (Some size) (Some start) = Drill size start
numbered_drill size start = Usage

-- what three words ask for: a drill
abbrev pub drill_request : List ℕ → List ℕ → List ℕ → Request
drill_request word size start = if bytes_eq word (codes "drill")
    then numbered_drill (number_within 1 most_drilled size) (number_within 0 most_start start) else Usage

-- what the words of the program ask for
abbrev pub request_of : List (List ℕ) → Request
request_of (word ∷ []) = word_request word
request_of (word ∷ next ∷ []) = pair_request word next
request_of (word ∷ size ∷ start ∷ []) = drill_request word size start
request_of words = Usage

-- the numbers of a drill are within their bounds
abbrev pub IsWithinBounds : Request → Type 0
IsWithinBounds (Drill size start) = (1 ≤ size) × (size ≤ most_drilled) × (start ≤ most_start)
IsWithinBounds request = Unit {0}

-- how the answer to a request is written: as an object, unless it asks for another layout
abbrev pub layout_of : Request → Layout
layout_of (Document command layout) = layout
layout_of request = Object

-- the command that is to answer line by line, none where one answer is asked for
abbrev pub lines_command : Request → Option Command
lines_command (Lines command) = Some command
lines_command request = None

-- a fact of the command that is to answer a document, and of the layout of its answer
abbrev pub IfDocument : Request → (Command → Layout → Type 0) → Type 0
IfDocument (Document command layout) P = P command layout
IfDocument request P = Unit {0}
