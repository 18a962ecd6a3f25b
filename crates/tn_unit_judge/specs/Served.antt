-- Which contracts are judged.
use Rattle.std.specs.Prelude.{◌≡◌, ℕ, ◌≤◌, List, length, slice_get, Some}
use Rattle.tn_base.specs.Arcs.{IsAtMost}
use Rattle.tn_counts.specs.Outcomes.{AreUnitContracts}
use Rattle.tn_counts.specs.Widths.{most_unit_price, most_unit_trades}
use Rattle.tn_counts.specs.declared.contract.UnitContract.{UnitContract}
use Rattle.tn_counts.specs.declared.trade.UnitTrade.{UnitTrade}

-- few contracts that can be signed together, at small prices
pub record AreServedContracts (trades : List UnitTrade) (contracts : List UnitContract) : Type 0 where
  pub few : length contracts ≤ most_unit_trades
  pub together : AreUnitContracts trades contracts
  pub small : (k : ℕ) (contract : UnitContract) → slice_get contracts k ≡ Some contract
      → IsAtMost contract.price most_unit_price
