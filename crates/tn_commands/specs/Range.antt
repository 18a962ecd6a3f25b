-- The answer of `range`: how far each price may move.
use Rattle.std.specs.Prelude.{◌≡◌, ℕ, List, length}
use Rattle.tn_base.specs.Firm.{Firm}
use Rattle.tn_model.specs.declared.ends.Ends.{Ends}
use Rattle.tn_model.specs.declared.range.Range.{Range}
use Rattle.tn_said.specs.declared.said.Said.{Said}
use Rattle.tn_said.specs.declared.said.Said.TheVariants.{Ranges}
use Rattle.tn_market.specs.Equilibrium.{IsEfficient}
use Rattle.tn_model.specs.Network.{trades_on}
use Rattle.tn_market.specs.Ranges.{AreRanges}

-- the trades of an efficient set, ascending, and the lowest and the highest price of each trade over all equilibria,
-- with the paths of the exchange graph at that set that show them
pub record IsRanged (firms : List Firm) (trades : List Ends) (on : List ℕ) (ranges : List Range) : Type 0 where
  pub set : ℕ
  pub on_is : on ≡ trades_on set (length trades)
  pub efficient : IsEfficient firms trades set
  pub each : AreRanges firms trades set ranges

-- beside the ends of the trades
abbrev pub TellsRanges : List Firm → List Ends → Said → Type 0
TellsRanges firms trades (Ranges on ranges ends) = IsRanged firms trades on ranges × (ends ≡ trades)
TellsRanges firms trades said = ⊥
