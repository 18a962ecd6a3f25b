-- What firms keep where they have no unsigned trade.
use Rattle.std.specs.Prelude.{◌≡◌, ℕ, ℤ, List, length, slice_get, Some}
use Rattle.tn_base.specs.Firm.{Firm}
use Rattle.tn_model.specs.declared.ends.Ends.{Ends}
use Rattle.tn_model.specs.declared.contract.Contract.{Contract}
use Rattle.tn_market.specs.Reduced.{reduced}
use Rattle.tn_residual.specs.Held.{HoldsSigned}
use Rattle.tn_chain.specs.declared.kept.Kept.{Kept}

-- what firm f has signed, and its reduced worth of no unsigned trade
pub record IsKept (trades : List Ends) (over : ℤ) (contracts : List Contract) (f : ℕ) (firm : Firm) (kept : Kept) : Type
    0 where
  pub holds : HoldsSigned trades contracts f firm.count kept.held.signed kept.held.prices
  pub worth : kept.worth ≡ (reduced trades over contracts f firm).worth 0

-- the same of each firm
pub record AreKept (firms : List Firm) (trades : List Ends) (over : ℤ) (contracts : List Contract) (kept : List Kept) : Type
    0 where
  pub counted : length kept ≡ length firms
  pub each : (f : ℕ) (firm : Firm) (one : Kept) → slice_get firms f ≡ Some firm → slice_get kept f ≡ Some one
      → IsKept trades over contracts f firm one
