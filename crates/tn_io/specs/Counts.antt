-- Counts of failures and of calls, which never fall.
use Rattle.std.specs.Prelude.{ℕ, ◌+◌, ◌<◌, ◌≡◌, ◌⊎◌, min}

-- the last value of a u64, at which a count stays
abbrev pub last_count : ℕ
last_count = 18446744073709551615

-- one more, or the last value
abbrev pub next_count : ℕ → ℕ
next_count count = min (count + 1) last_count

-- a count rose in a call: it is greater after than before, or stands at its last value
abbrev pub Rose : ℕ → ℕ → Type 0
Rose before after = (before < after) ⊎ (after ≡ last_count)
