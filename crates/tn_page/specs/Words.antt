-- The words that bytes hold.
use Rattle.std.specs.Prelude.{ℕ, List, [], ◌==◌, if◌then◌else◌}
use Rattle.std.specs.List.{slice_split}
use Rattle.std.specs.Str.{is_utf8}

-- the words, which bytes 0 part; none where the bytes aren't UTF-8
abbrev pub words_in : List ℕ → List (List ℕ)
words_in bytes = if is_utf8 bytes then slice_split (λ byte. byte == 0) bytes else []
