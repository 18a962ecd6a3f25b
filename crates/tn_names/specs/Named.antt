-- Which faults speak of named trades alone, in ascending lists.
use Rattle.std.specs.Prelude.{◌≡◌, ℕ, ◌<◌, ◌^◌, ◌↔◌, List, length, All, IsSome, IfSome}
use Rattle.std.specs.List.Sorted.{IsStrictlyIncreasing}
use Rattle.tn_said.specs.declared.fault.FaultKind.TheVariants.{ExchangeFails}
use Rattle.tn_said.specs.declared.place.PlaceStep.{PlaceStep}
use Rattle.tn_said.specs.declared.place.PlaceStep.TheVariants.{Key, Index, Trade}
use Rattle.tn_said.specs.declared.said.Fault.{Fault}
use Rattle.tn_said.specs.declared.said.Shown.{Shown}

abbrev pub IsNamed : List (List ℕ) → ℕ → Type 0
IsNamed names k = k < length names

-- a step to a trade is to one with a name
abbrev pub IsNamedStep : List (List ℕ) → PlaceStep → Type 0
IsNamedStep trades (Key word) = Unit {0}
IsNamedStep trades (Index k) = Unit {0}
IsNamedStep trades (Trade t) = IsNamed trades t

-- an index on the way to a place fits 64 bits
abbrev pub HasShortIndex : PlaceStep → Type 0
HasShortIndex (Key word) = Unit {0}
HasShortIndex (Index k) = k < 2 ^ 64
HasShortIndex (Trade t) = Unit {0}

pub record IsNamedTriple (trades : List (List ℕ)) (shown : Shown) : Type 0 where
  pub x : All (IsNamed trades) shown.x
  pub y : All (IsNamed trades) shown.y
  pub at : IfSome shown.at (IsNamed trades)

-- the trades of both bundles ascend strictly
pub record IsAscendingTriple (shown : Shown) : Type 0 where
  pub x : IsStrictlyIncreasing shown.x
  pub y : IsStrictlyIncreasing shown.y

pub record IsSayableFault (trades : List (List ℕ)) (fault : Fault) : Type 0 where
  pub place : All (IsNamedStep trades) fault.place
  pub triple : IfSome fault.shown (IsNamedTriple trades)
  -- a triple stands exactly beside a failure of exchange
  pub exactly : IsSome fault.shown ↔ (fault.kind ≡ ExchangeFails)
