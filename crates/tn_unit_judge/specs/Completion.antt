-- Prices that complete an outcome.
use Rattle.std.specs.Prelude.{◌≡◌, ℕ, ◌+◌, ◌<◌, ℤ, pos, ◌*ℤ◌, ◌≤ℤ◌, ◌⊎◌, List, length, map, All, slice_get, Some}
use Rattle.std.specs.List.{range_with_len}
use Rattle.tn_base.specs.Arcs.{IsAtMost}
use Rattle.tn_counts.specs.Counts.{CountFirm}
use Rattle.tn_counts.specs.Laminar.{firms_of}
use Rattle.tn_counts.specs.Outcomes.{CompletesByCounts, contract_at, counted, signed_units, unsigned_units}
use Rattle.tn_counts.specs.declared.contract.UnitContract.{UnitContract}
use Rattle.tn_counts.specs.declared.market.Pin.{Pin}
use Rattle.tn_counts.specs.declared.market.UnitMarket.{UnitMarket}
use Rattle.tn_counts.specs.declared.trade.UnitTrade.{UnitTrade}
use Rattle.tn_tree.specs.Lists.{count_in, price_in}
use Rattle.tn_tree.specs.Pinned.{GainBeside, most_beside_price}
use Rattle.tn_unit_judge.specs.Split.{IsSplitMarket, signed_counts}
use Rattle.tn_unit_judge.specs.declared.completions.UnitCompletion.{UnitCompletion}
use Rattle.tn_unit_judge.specs.declared.completions.UnitCompletion.TheVariants.{Completed, Incomplete}

-- some units of trade t are signed at a price
pub record IsSignedAt (contracts : List UnitContract) (t : ℕ) (price : ℤ) : Type 0 where
  pub place : ℕ
  pub contract : UnitContract
  pub is : slice_get contracts place ≡ Some contract
  pub trade : contract.trade ≡ t
  pub some : 0 < contract.units
  pub price_is : contract.price ≡ price

-- prices that complete an outcome, one for each trade: where units of a trade are signed, the price of some of them, and
-- the price of all of them where others aren't signed
pub record AreCompleting (firms : List CountFirm) (trades : List UnitTrade) (over : ℤ) (contracts : List UnitContract)
    (prices : List ℤ) : Type 0 where
  pub one_each : length prices ≡ length trades
  pub completes : CompletesByCounts firms trades over contracts (price_in prices)
  pub signed : (k : ℕ) (contract : UnitContract) → slice_get contracts k ≡ Some contract → 0 < contract.units
      → IsSignedAt contracts contract.trade (price_in prices contract.trade)
  pub same : (k : ℕ) (contract : UnitContract) → slice_get contracts k ≡ Some contract → 0 < contract.units
      → 0 < unsigned_units trades contracts contract.trade → price_in prices contract.trade ≡ contract.price
  pub small : All (λ price. IsAtMost price most_beside_price) prices

-- no prices complete an outcome, over any denominator
abbrev pub IsIncomplete : List CountFirm → List UnitTrade → ℤ → List UnitContract → Type 0
IsIncomplete firms trades over contracts = (e : ℤ) (prices : ℕ → ℤ) → pos 1 ≤ℤ e
    → CompletesByCounts firms trades (over *ℤ e) (counted e contracts) prices → ⊥

-- how many units of each trade are not signed
pub record AreUnsigned (trades : List UnitTrade) (contracts : List UnitContract) (free : List ℕ) : Type 0 where
  pub one_each : length free ≡ length trades
  pub each : (t : ℕ) → t < length trades → count_in free t ≡ unsigned_units trades contracts t

-- the contracts as pins of trades of the split network
abbrev pub contract_pin : List UnitContract → ℕ → Pin
contract_pin contracts k = record { trade = k; price = (contract_at contracts k).price }

abbrev pub contract_pins : List UnitContract → List Pin
contract_pins contracts = map (contract_pin contracts) (range_with_len 0 (length contracts))

-- the price of trade t by those of the split network: that of signed units, or that of unsigned ones where none are signed
abbrev pub IsPriceOf : List UnitContract → List ℤ → ℕ → ℤ → Type 0
IsPriceOf contracts beside t price =
    IsSignedAt contracts t price ⊎ ((signed_units contracts t ≡ 0) × (price ≡ price_in beside (length contracts + t)))

-- with a unit of each part of the split network that is passed on, all firms together gain at any prices of what is unsigned
pub record IsPassing (market : UnitMarket) (over : ℕ) (contracts : List UnitContract) (passed : List ℕ) : Type 0 where
  pub split : UnitMarket
  pub is : IsSplitMarket market over contracts (unsigned_units market.trades.items contracts) split
  pub gain : GainBeside split (contract_pins contracts) (count_in (signed_counts (length market.trades.items) contracts)) passed

-- prices that complete an outcome, where there are any
abbrev pub FindsCompletion : UnitMarket → ℕ → List UnitContract → UnitCompletion → Type 0
FindsCompletion market over contracts (Completed prices) =
    AreCompleting (firms_of market) market.trades.items (pos over) contracts prices.items
FindsCompletion market over contracts (Incomplete passed) =
    IsIncomplete (firms_of market) market.trades.items (pos over) contracts × IsPassing market over contracts passed.items
