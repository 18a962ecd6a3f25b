-- The greatest surplus of a residual market, for each set of unsigned trades.
use Rattle.std.specs.Prelude.{◌≡◌, ℕ, ◌*◌, ℤ, pos, ◌-ℤ◌, ◌*ℤ◌, ◌≤ℤ◌, List, length, slice_get, Option, Some, None}
use Rattle.tn_base.specs.Sets.{size}
use Rattle.tn_base.specs.Firm.{Firm, HasOwnBundles}
use Rattle.tn_model.specs.declared.ends.Ends.{Ends}
use Rattle.tn_model.specs.declared.contract.Contract.{Contract}
use Rattle.tn_model.specs.Network.{IsNetwork}
use Rattle.tn_market.specs.Best.{IsSubset}
use Rattle.tn_model.specs.Choices.{IsFeasible}
use Rattle.tn_market.specs.Equilibrium.{surplus_of}
use Rattle.tn_market.specs.Reduced.{reduced_firms}
use Rattle.tn_residual.specs.Residual.{residual_of, residual_trades, unsigned, unsigned_part}

-- what a sum of reduced worths comes to: it counts `scale` times, and each of the trades is taxed at both its ends
abbrev pub taxed_sum : ℤ → ℤ → ℕ → ℤ → ℤ
taxed_sum scale tax x sum = scale *ℤ sum -ℤ tax *ℤ pos (2 * size x)

-- the greatest surplus of a residual market, with its firms and trades, among the sets whose unsigned trades, of n
-- trades in all, are x: none where each of them has none; it is given as the sum of reduced worths that it comes to
abbrev pub IsGreatestSurplus : List Firm → List Ends → List Contract → ℕ → ℤ → ℤ → ℕ → Option ℤ → Type 0
IsGreatestSurplus parties made contracts n scale tax x None = (on : ℕ) → unsigned_part contracts n on ≡ x
    → surplus_of parties made on ≡ None
IsGreatestSurplus parties made contracts n scale tax x (Some sum) =
    ((on : ℕ) × (unsigned_part contracts n on ≡ x) × (surplus_of parties made on ≡ Some (taxed_sum scale tax x sum)))
    × ((on : ℕ) (other : ℤ) → unsigned_part contracts n on ≡ x → surplus_of parties made on ≡ Some other
    → other ≤ℤ taxed_sum scale tax x sum)

-- for each set of unsigned trades the greatest surplus is that of the reduced worths
abbrev pub IsSurplusOfReduced : List Firm → List Ends → List Firm → List Ends → ℤ → List Contract → ℤ → ℤ → Type 0
IsSurplusOfReduced parties made firms trades over contracts scale tax = (x : ℕ)
    → IsSubset x (unsigned (length trades) contracts)
    → IsGreatestSurplus parties made contracts (length trades) scale tax x
    (surplus_of (reduced_firms trades over contracts firms) trades x)

-- that is so in every residual market
abbrev pub SurplusIsReducedWorth : Type 0
SurplusIsReducedWorth = (firms : List Firm) (trades : List Ends) (over : ℤ) (contracts : List Contract) (scale tax : ℤ)
    → IsNetwork firms trades → IsFeasible trades contracts
    → ((f : ℕ) (firm : Firm) → slice_get firms f ≡ Some firm → HasOwnBundles firm) → pos 0 ≤ℤ scale
    → IsSurplusOfReduced (residual_of firms trades over contracts scale tax)
    (residual_trades (length firms) trades contracts) firms trades over contracts scale tax
