-- What the ends in memory hold: what contracts see of each.
use Rattle.std.specs.Prelude.{ℕ, List, ◌++◌, length, take, drop, min, Option, None, Some, if◌then◌else◌, nat_le}

-- a source without failures: the bytes not yet taken, and how many a call gives at most
pub record SourceState : Type 0 where
  pub unread : List ℕ
  pub chunk : ℕ

-- a source that fails at the listed calls: how many were made, and how many of them failed
pub record FailingSourceState : Type 0 where
  pub unread : List ℕ
  pub chunk : ℕ
  pub fails : List ℕ
  pub calls : ℕ
  pub faults : ℕ

-- a sink that never fails: the bytes told while they fit the room
pub record SinkState : Type 0 where
  pub told : Option (List ℕ)
  pub room : ℕ
  pub chunk : ℕ

-- a sink that fails at the listed calls and where no room is left
pub record FailingSinkState : Type 0 where
  pub stored : List ℕ
  pub room : ℕ
  pub chunk : ℕ
  pub fails : List ℕ
  pub calls : ℕ
  pub faults : ℕ

-- how many bytes a call moves: no more than the chunk, than there are, and than there is room for
abbrev pub moved_count : ℕ → List ℕ → ℕ → ℕ
moved_count chunk bytes room = min chunk (min (length bytes) room)

-- the slice with the first n of the bytes at its front
abbrev pub filled : List ℕ → List ℕ → ℕ → List ℕ
filled into bytes n = take n bytes ++ drop n into

-- the told bytes with more behind them, or nothing once they are more than the room
abbrev pub told_within : ℕ → Option (List ℕ) → List ℕ → Option (List ℕ)
told_within room None bytes = None
told_within room (Some xs) bytes =
    if nat_le (length (xs ++ bytes)) room then Some (xs ++ bytes) else None
