-- How a firm stands with its own bundle, and how a best bundle is searched.
use Rattle.std.specs.Prelude.{◌≡◌, ℕ, ℤ, pos, ◌≤ℤ◌, Option, Some}
use Rattle.tn_base.specs.Firm.{Firm, IsBest, utility}
use Rattle.tn_raw_answers.specs.declared.found.Found.{Found}
use Rattle.tn_raw_answers.specs.declared.stand.Stand.{Stand}

-- what was found after is a possible bundle with its value, as it was before, of no less value, and of no less than x
pub record Tries (value_of : ℕ → Option ℤ) (x : ℕ) (before after : Found) : Type 0 where
  pub valued : value_of before.bundle ≡ Some before.value → value_of after.bundle ≡ Some after.value
  pub kept : before.value ≤ℤ after.value
  pub tried : (other : ℤ) → value_of x ≡ Some other → other ≤ℤ after.value

-- how a firm stands with its own bundle at prices by position: x is a best bundle, and the own one where that is best
pub record IsStandAtPrices (firm : Firm) (prices : ℕ → ℤ) (own : ℕ) (stand : Stand) : Type 0 where
  pub worth_is : stand.worth ≡ firm.worth own
  pub utility_is : stand.utility ≡ utility (pos 1) prices firm own
  pub best : IsBest (utility (pos 1) prices firm) stand.best stand.best_utility
  pub kept_own : stand.utility ≡ Some stand.best_utility → stand.best ≡ own
