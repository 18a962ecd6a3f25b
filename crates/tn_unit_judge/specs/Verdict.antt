-- What is said of an outcome by counts.
use Rattle.std.specs.Prelude.{◌≡◌, ℕ, ◌<◌, ℤ, pos, ◌-ℤ◌, List, length, slice_get, Option, Some, None, option_map, ◌==◌, if◌then◌else◌}
use Rattle.tn_counts.specs.Counts.{CountFirm, IsBestCount, count_utility, trade_at}
use Rattle.tn_counts.specs.Outcomes.{HasEnd, IsRationalByCounts, all_signed, prices_beside, split_firms, split_trades}
use Rattle.tn_counts.specs.declared.contract.UnitContract.{UnitContract}
use Rattle.tn_counts.specs.declared.trade.UnitTrade.{UnitTrade}
use Rattle.tn_tree.specs.declared.held.FirmCount.{FirmCount}
use Rattle.tn_tree.specs.Held.{gain_at}
use Rattle.tn_tree.specs.Lists.{count_in}
use Rattle.tn_unit_judge.specs.declared.drops.UnitDrop.{UnitDrop}

-- the utility of units of the contracts to firm f, without any unsigned one
abbrev pub choice_utility : List UnitTrade → ℤ → List UnitContract → ℕ → CountFirm → (ℕ → ℕ) → Option ℤ
choice_utility trades over contracts f firm =
    count_utility (split_trades trades contracts (λ t. 0)) over (prices_beside contracts (λ t. pos 0)) f firm

-- among the counts that have at most the units of each contract, and no unsigned one, these are best
abbrev pub IsBestChoice : List UnitTrade → ℤ → List UnitContract → ℕ → CountFirm → (ℕ → ℕ) → ℤ → Type 0
IsBestChoice trades over contracts f firm counts value = IsBestCount (split_trades trades contracts (λ t. 0))
    (choice_utility trades over contracts f firm) counts value

-- all that is signed isn't a best choice of a firm; it keeps one that is, and gains what that has more, none where what is
-- signed is impossible
pub record WouldDropUnits (trades : List UnitTrade) (over : ℤ) (contracts : List UnitContract) (f : ℕ) (firm : CountFirm)
    (keeps : List ℕ) (gain : Option ℤ) : Type 0 where
  pub fails : (value : ℤ) → IsBestChoice trades over contracts f firm (all_signed contracts) value → ⊥
  pub one_each : length keeps ≡ length contracts
  pub value : ℤ
  pub choice : IsBestChoice trades over contracts f firm (count_in keeps) value
  pub gains : gain ≡ option_map (λ own. value -ℤ own) (choice_utility trades over contracts f firm (all_signed contracts))
  -- of contracts that aren't its own it keeps nothing
  pub others : (k : ℕ) → k < length contracts
      → (HasEnd f (trade_at (split_trades trades contracts (λ t. 0)) k) → ⊥) → count_in keeps k ≡ 0

-- firm f is the first that would drop units
pub record IsFirstDropByCounts (firms : List CountFirm) (trades : List UnitTrade) (over : ℤ) (contracts : List UnitContract)
    (f : ℕ) (keeps : List ℕ) (gain : Option ℤ) : Type 0 where
  pub before : (g : ℕ) (firm : CountFirm) → g < f → slice_get (split_firms contracts firms) g ≡ Some firm
      → (value : ℤ) × IsBestChoice trades over contracts g firm (all_signed contracts) value
  pub firm : CountFirm
  pub is : slice_get (split_firms contracts firms) f ≡ Some firm
  pub drops : WouldDropUnits trades over contracts f firm keeps gain

-- the first firm that would drop units, none where the outcome is rational
abbrev pub FindsDropByCounts : List CountFirm → List UnitTrade → ℤ → List UnitContract → Option UnitDrop → Type 0
FindsDropByCounts firms trades over contracts (Some drop) =
    IsFirstDropByCounts firms trades over contracts drop.firm drop.keeps.items drop.gain
FindsDropByCounts firms trades over contracts None = IsRationalByCounts firms trades over contracts

-- the first firm that would gain, none where none would
abbrev pub FindsGain : List FirmCount → Option ℕ → Type 0
FindsGain firms (Some f) = (f < length firms) × (gain_at firms f ≡ Some (pos 0) → ⊥)
    × ((g : ℕ) → g < f → gain_at firms g ≡ Some (pos 0))
FindsGain firms None = (g : ℕ) → g < length firms → gain_at firms g ≡ Some (pos 0)

-- how many units of the trade with a number firm f keeps
abbrev pub kept_at : List UnitTrade → List ℕ → List ℕ → ℕ → ℕ → ℕ
kept_at trades sold bought f k = if f == (trade_at trades k).seller then count_in sold k
    else if f == (trade_at trades k).buyer then count_in bought k else 0
