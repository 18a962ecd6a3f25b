-- Several moves of one bundle, in an order in which none of them can be cut short.
use Rattle.std.specs.Prelude.{◌≡◌, ◌≢◌, ℕ, ◌≤◌, ℤ, List, [], ◌∷◌, All, AllPairs, Some}
use Rattle.tn_base.specs.Firm.{Firm}
use Rattle.tn_firm_laws.specs.Places.{level, move, CanRise, CanFall}

-- a place that is raised, and one that is lowered with it
pub record Shift : Type 0 where
  pub up : ℕ
  pub down : ℕ

-- the bundle after all shifts of a list
abbrev pub shifted : ℕ → ℕ → List Shift → ℕ
shifted n x [] = x
shifted n x (shift ∷ shifts) = move n (shifted n x shifts) shift.up shift.down

-- a shift of x that is possible and keeps the value: a tight one
pub record IsTight (firm : Firm) (x : ℕ) (value : ℤ) (shift : Shift) : Type 0 where
  pub up_place : shift.up ≤ firm.count
  pub down_place : shift.down ≤ firm.count
  pub apart : shift.up ≢ shift.down
  pub rises : CanRise firm.count (level firm.count firm.buys x) shift.up
  pub falls : CanFall firm.count (level firm.count firm.buys x) shift.down
  pub keeps : firm.worth (move firm.count x shift.up shift.down) ≡ Some value

-- a shift and a later one have four different places, and what the first raises with what the later one lowers is
-- no shift that keeps the value
pub record IsShiftBefore (firm : Firm) (x : ℕ) (value : ℤ) (shift later : Shift) : Type 0 where
  pub up_up : shift.up ≢ later.up
  pub up_down : shift.up ≢ later.down
  pub down_up : shift.down ≢ later.up
  pub down_down : shift.down ≢ later.down
  pub no_shortcut : firm.worth (move firm.count x shift.up later.down) ≡ Some value → ⊥

-- each shift is tight, and before all that follow it
pub record AreOrdered (firm : Firm) (x : ℕ) (value : ℤ) (shifts : List Shift) : Type 0 where
  pub tight : All (IsTight firm x value) shifts
  pub before : AllPairs (IsShiftBefore firm x value) shifts
