-- Which word is a command, how its answer may be written, and which word is a number.
use Rattle.std.specs.Prelude.{ℕ, List, length, codes, Bool, not, ◌==◌, ◌&&◌, ◌||◌, nat_le, get_or, Option, Some, None, if◌then◌else◌}
use Rattle.std.specs.List.{list_all}
use Rattle.std.specs.Char.{is_ascii_digit}
use Rattle.std.specs.Str.{bytes_eq}
use Rattle.std.specs.Str.Parse.{digits_value}
use Rattle.tn_answer.specs.declared.layout.Layout.{Layout}
use Rattle.tn_answer.specs.declared.layout.Layout.TheVariants.{Object, Rows, WideRows}
use Rattle.tn_file.specs.declared.command.Command.{Command}
use Rattle.tn_file.specs.declared.command.Command.TheVariants.{Check, Firms, Judge, Range, Replay, Session, Solve, Support, Test}

-- the command that reads a document and is one word
abbrev pub word_command : List ℕ → Option Command
word_command word =
    if bytes_eq word (codes "check") then Some Check
    else if bytes_eq word (codes "firms") then Some Firms
    else if bytes_eq word (codes "judge") then Some Judge
    else if bytes_eq word (codes "range") then Some Range
    else if bytes_eq word (codes "replay") then Some Replay
    else if bytes_eq word (codes "session") then Some Session
    else if bytes_eq word (codes "solve") then Some Solve
    else if bytes_eq word (codes "support") then Some Support
    else if bytes_eq word (codes "test") then Some Test
    else None

-- the layout that a word behind a command asks for, none where the command has no such layout
abbrev pub rows_layout : List ℕ → Option Layout
rows_layout word = if bytes_eq word (codes "--csv") then Some Rows else None

abbrev pub word_layout : Command → List ℕ → Option Layout
word_layout Firms word = rows_layout word
word_layout Range word = rows_layout word
word_layout Solve word = if bytes_eq word (codes "--csv=wide") then Some WideRows else rows_layout word
word_layout Support word = rows_layout word
word_layout command word = None

-- the command of a case, whose text has a blank between two words, and how its answer is written
abbrev pub case_command : List ℕ → Option Command
case_command text = if bytes_eq text (codes "solve --csv") then Some Solve else word_command text

abbrev pub case_layout : List ℕ → Layout
case_layout text = if bytes_eq text (codes "solve --csv") then Rows else Object

-- a number's text: digits, and no zero before others
abbrev pub is_numeral : List ℕ → Bool
is_numeral word = not (length word == 0) && list_all is_ascii_digit word
    && (length word == 1 || not (get_or word 0 0 == 48))

-- the number whose text a word is, none where it isn't one from the least to the most
abbrev pub number_within : ℕ → ℕ → List ℕ → Option ℕ
number_within least most word = if is_numeral word && nat_le least (digits_value 10 word)
    && nat_le (digits_value 10 word) most then Some (digits_value 10 word) else None
