-- The numbers that the unsigned trades have among themselves, and sets of them.
use Rattle.std.specs.Prelude.{◌≡◌, ℕ, ◌<◌, ◌≤◌, List, Bool, true, false, if◌then◌else◌, Option, Some, None}
use Rattle.tn_base.specs.Sets.{has, toggle}
use Rattle.tn_model.specs.declared.contract.Contract.{Contract}
use Rattle.tn_market.specs.Signed.{is_signed}
use Rattle.tn_residual.specs.Residual.{number_from}

-- the number of an unsigned trade, none for a signed one
abbrev pub unsigned_number : List Contract → ℕ → Option ℕ
unsigned_number contracts t = if is_signed contracts t then None else Some (number_from contracts 0 t)

-- the set with a member moved in or out where that is wanted
abbrev pub toggled_if : Bool → ℕ → ℕ → ℕ
toggled_if wanted set t = if wanted then toggle set t else set

-- the same with a member that may be none
abbrev pub added_if : Bool → Option ℕ → ℕ → ℕ
added_if wanted None set = set
added_if wanted (Some number) set = if wanted then toggle set number else set

-- whether a number is in a set: none isn't
abbrev pub is_among : Option ℕ → ℕ → Bool
is_among None set = false
is_among (Some number) set = has set number

-- the numbers of those of the first t trades that are unsigned and in a set
pub record AreNumbers (contracts : List Contract) (set t numbers : ℕ) : Type 0 where
  pub each : (i : ℕ) → i < t → is_signed contracts i ≡ false → has numbers (number_from contracts 0 i) ≡ has set i
  pub below : (s : ℕ) → number_from contracts 0 t ≤ s → has numbers s ≡ false

-- numbers with all from one number on up to another, none of which was there
pub record AreNumbersUpTo (before from to numbers : ℕ) : Type 0 where
  pub kept : (s : ℕ) → s < from → has numbers s ≡ has before s
  pub added : (s : ℕ) → from ≤ s → s < to → has numbers s ≡ true
  pub none : (s : ℕ) → from ≤ s → to ≤ s → has numbers s ≡ false
