-- What a caller is told of a text and a status.
use Rattle.std.specs.Prelude.{◌≡◌, ℕ, ◌+◌, ◌*◌, ◌<◌, ◌≤◌, List, ◌++◌, drop, length}

-- what stands in place of the status of a text that is longer than the room for it
abbrev pub longer_number : ℕ
longer_number = 8

-- The room has exactly the text at its start, and is beyond it as it was; told are the text's length and the status.
-- Where the text is longer, the room is as it was; told are the length, and a number that is no status.
pub record IsTold (text : List ℕ) (status : ℕ) (old new : List ℕ) (told : ℕ) : Type 0 where
  pub fits : length text ≤ length old → (new ≡ text ++ drop (length text) old) × (told ≡ length text * 256 + status)
  pub longer : length old < length text → (new ≡ old) × (told ≡ length text * 256 + longer_number)
