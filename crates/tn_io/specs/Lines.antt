-- What the lines of a source's bytes are.
use Rattle.std.specs.Prelude.{◌≡◌, ◌≢◌, ℕ, ◌<◌, ◌≤◌, ◌⊎◌, List, [], ◌∷◌, ◌++◌, length, All, Option, None, Some, ⊤}
use Rattle.std.specs.Io.KnownBytes.{Consumes, IsAtEnd}

-- a source that tells fewer bytes is read to its end, whatever its lines: a loop takes no more turns than this
abbrev pub most_turns : ℕ
most_turns = 18446744073709551615

-- no line feed stands among the bytes
abbrev pub IsUnbroken : List ℕ → Type 0
IsUnbroken bytes = All (λ byte. byte ≢ 10) bytes

-- the first line of the bytes, and what is left after it: a line feed ends the line, or else the end of the bytes does,
-- where the line isn't empty
abbrev pub IsNextLine : List ℕ → List ℕ → List ℕ → Type 0
IsNextLine all line rest = IsUnbroken line × ((all ≡ line ++ 10 ∷ rest) ⊎ ((all ≡ line) × (line ≢ []) × (rest ≡ [])))

-- the next lines of the bytes, in order, and what is left after them
abbrev pub AreNextLines : List ℕ → List (List ℕ) → List ℕ → Type 0
AreNextLines all [] rest = all ≡ rest
AreNextLines all (line ∷ lines) rest = (middle : List ℕ) × IsNextLine all line middle × AreNextLines middle lines rest

-- the known bytes, if they are few enough, lose exactly these lines at their front
abbrev pub TakesLines : Option (List ℕ) → Option (List ℕ) → List (List ℕ) → Type 0
TakesLines None new lines = ⊤
TakesLines (Some all) None lines = ⊥
TakesLines (Some all) (Some rest) lines = length all < most_turns → AreNextLines all lines rest

-- the known bytes lose a part of a line at their front, in which no line feed stands, and nothing else
abbrev pub TakesPart : Option (List ℕ) → Option (List ℕ) → Type 0
TakesPart old new = (part : List ℕ) × IsUnbroken part × Consumes old new part

-- the known bytes lose the rest of a line, and the line feed that ends it; or they end there; or a loop took its last
-- turn
abbrev pub PassesOver : Option (List ℕ) → Option (List ℕ) → List ℕ → Type 0
PassesOver old new line = IsUnbroken line × (Consumes old new (line ++ 10 ∷ [])
    ⊎ (Consumes old new line × (IsAtEnd new ⊎ (most_turns ≤ length line))))
