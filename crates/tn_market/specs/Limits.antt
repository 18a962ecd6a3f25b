-- The limits of markets and outcomes that may be judged.
use Rattle.std.specs.Prelude.{◌≡◌, ℕ, ◌≤◌, ℤ, List, length, slice_get, Some}
use Rattle.tn_base.specs.Firm.{Firm}
use Rattle.tn_model.specs.declared.ends.Ends.{Ends}
use Rattle.tn_model.specs.declared.contract.Contract.{Contract}
use Rattle.tn_model.specs.Limits.{most_firms, most_trades, most_worth_among}
use Rattle.tn_model.specs.OutcomeLimits.{IsOutcomeWithin}
use Rattle.tn_market.specs.Traded.{Traded}
use Rattle.tn_market.specs.Valued.{IsWorthAtMost}
use Rattle.tn_market.specs.Widths.{most_own, most_worth}

-- no worth of any of these firms is above so much in size
abbrev pub AreWorthsWithin : ℕ → List Firm → Type 0
AreWorthsWithin bound firms = (f : ℕ) (firm : Firm) → slice_get firms f ≡ Some firm → IsWorthAtMost bound firm

-- a market with no more firms and trades than a document, where each firm may be asked for best bundles
pub record IsWithinLimits {V : Type 0} (firm_of : V → Firm) (limit_of : V → ℕ) (market : Traded V) : Type 0 where
  pub few_firms : length market.firms ≤ most_firms
  pub few_trades : length market.trades ≤ most_trades
  pub few_own : (f : ℕ) (v : V) → slice_get market.firms f ≡ Some v → (firm_of v).count ≤ most_own
  pub small_worths : (f : ℕ) (v : V) → slice_get market.firms f ≡ Some v → limit_of v ≤ most_worth
  -- worths are smaller where there are many trades
  pub worths : (f : ℕ) (v : V) → slice_get market.firms f ≡ Some v
      → IsWorthAtMost (most_worth_among (length market.trades)) (firm_of v)

-- an outcome of a market with these trades: contracts over a denominator, within the limits of outcomes
abbrev pub IsOutcomeOf : List Ends → ℤ → List Contract → Type 0
IsOutcomeOf trades over contracts = IsOutcomeWithin (length trades) (record { over = over; contracts = contracts })
