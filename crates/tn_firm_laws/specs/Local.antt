-- Bundles that no small change improves.
use Rattle.std.specs.Prelude.{◌≡◌, ◌≢◌, ℕ, ◌<◌, ℤ, ◌≤ℤ◌, Option, Some}
use Rattle.tn_base.specs.Sets.{toggle}
use Rattle.tn_firm_laws.specs.Places.{trade_level}

-- no possible bundle with one position toggled, or with two different ones, has more than this value
pub record IsLocallyBest (count : ℕ) (value_of : ℕ → Option ℤ) (x : ℕ) (value : ℤ) : Type 0 where
  pub single : (i : ℕ) (other : ℤ) → i < count → value_of (toggle x i) ≡ Some other → other ≤ℤ value
  pub pair : (i j : ℕ) (other : ℤ) → i < count → j < count → i ≢ j → value_of (toggle (toggle x i) j) ≡ Some other
      → other ≤ℤ value

-- the same, where of the pairs only those count that raise one trade, from level 0, and lower another, from level 1
pub record IsUnimproved (count buys : ℕ) (value_of : ℕ → Option ℤ) (x : ℕ) (value : ℤ) : Type 0 where
  pub single : (i : ℕ) (other : ℤ) → i < count → value_of (toggle x i) ≡ Some other → other ≤ℤ value
  pub pair : (i j : ℕ) (other : ℤ) → i < count → j < count → trade_level buys x i ≡ 0 → trade_level buys x j ≡ 1
      → value_of (toggle (toggle x i) j) ≡ Some other → other ≤ℤ value
