-- Offers that block an outcome, by a tax on what is unsigned.
use Rattle.std.specs.Prelude.{◌≡◌, ℕ, ◌+◌, ◌<◌, ◌≤◌, ℤ, pos, ◌+ℤ◌, ◌-ℤ◌, ◌≤ℤ◌, List, length, slice_get, min, All, Some, nat_lt, if◌then◌else◌}
use Rattle.tn_base.specs.Arcs.{IsAtMost}
use Rattle.tn_links.specs.Totals.{total}
use Rattle.tn_counts.specs.Counts.{CountFirm, trade_at}
use Rattle.tn_counts.specs.Laminar.{amounts_at}
use Rattle.tn_counts.specs.Outcomes.{BlocksByCounts, signed_units, unsigned_units}
use Rattle.tn_counts.specs.Widths.{most_unit_surplus}
use Rattle.tn_counts.specs.declared.contract.UnitContract.{UnitContract}
use Rattle.tn_counts.specs.declared.market.UnitMarket.{UnitMarket}
use Rattle.tn_counts.specs.declared.trade.UnitAmounts.{UnitAmounts}
use Rattle.tn_counts.specs.declared.trade.UnitTrade.{UnitTrade}
use Rattle.tn_tree.specs.Lists.{count_in, price_in}
use Rattle.tn_unit_judge.specs.Split.{IsSplitMarket}
use Rattle.tn_unit_judge.specs.declared.blocks.UnitTax.{UnitTax}

-- offers of one unit each, over a denominator of their own, that block an outcome
pub record AreBlocking (firms : List CountFirm) (trades : List UnitTrade) (over : ℤ) (contracts offers : List UnitContract)
    (their_over : ℤ) : Type 0 where
  pub least : pos 1 ≤ℤ their_over
  pub most : IsAtMost their_over most_unit_surplus
  pub single : All (λ offer. offer.units ≡ 1) offers
  pub small : All (λ offer. IsAtMost offer.price most_unit_surplus) offers
  pub blocks : BlocksByCounts firms trades over contracts their_over offers

-- a unit costs each of its two firms one more
abbrev pub less_one : UnitAmounts → UnitAmounts
less_one amounts = record { seller = amounts.seller -ℤ pos 1; buyer = amounts.buyer -ℤ pos 1 }

-- the amounts of parts, where a unit from this number on costs each of its two firms one more
pub record AreTaxed (signed : ℕ) (amounts made : List UnitAmounts) : Type 0 where
  pub sized : length made ≡ length amounts
  pub each : (k : ℕ) → k < length amounts
      → amounts_at made k ≡ (if nat_lt k signed then amounts_at amounts k else less_one (amounts_at amounts k))

-- the split network of which so many unsigned units may go, each of which costs each of its two firms one more
pub record IsTaxedMarket (market : UnitMarket) (over : ℕ) (contracts : List UnitContract) (free : ℕ → ℕ)
    (taxed : UnitMarket) : Type 0 where
  pub split : UnitMarket
  pub is : IsSplitMarket market over contracts free split
  pub firms : taxed.firms ≡ split.firms
  pub trades : taxed.trades.items ≡ split.trades.items
  pub amounts : AreTaxed (length contracts) split.amounts.items taxed.amounts.items
  pub sets : taxed.sets.items ≡ split.sets.items

-- one unit of each trade that is passed on, where one is unsigned
abbrev pub free_one : ℕ → List ℕ → List ℕ → ℕ → ℕ
free_one signed passed unsigned t = min (count_in passed (signed + t)) (count_in unsigned t)

-- of each trade before number j the units that are sold beside the contracts are offered, one by one, at their price
pub record AreOffersTo (signed : ℕ) (sold : List ℕ) (prices : List ℤ) (j : ℕ) (offers : List UnitContract) : Type
    0 where
  pub each : (k : ℕ) (offer : UnitContract) → slice_get offers k ≡ Some offer → (offer.trade < j) × (offer.units ≡ 1)
      × (offer.price ≡ price_in prices (signed + offer.trade))
  pub all : (t : ℕ) → signed_units offers t ≡ (if nat_lt t j then count_in sold (signed + t) else 0)

-- units that are taxed: at most one of each trade, unsigned, and one of each trade that is passed on and has an unsigned
-- one; and what all other numbers are counted by, more than all taxes at both ends
pub record IsTax (trades : List UnitTrade) (contracts : List UnitContract) (passed : List ℕ) (tax : UnitTax) : Type 0 where
  pub one_each : length tax.free.items ≡ length trades
  pub single : (t : ℕ) → count_in tax.free.items t ≤ 1
  pub left : (t : ℕ) → t < length trades → signed_units contracts t + count_in tax.free.items t ≤ (trade_at trades t).units
  pub room : (t n : ℕ) → t < length trades → n ≤ count_in passed (length contracts + t)
      → n ≤ unsigned_units trades contracts t → n ≤ count_in tax.free.items t
  pub more : pos tax.scale ≡ (total (λ t. pos (count_in tax.free.items t)) (length trades)
      +ℤ total (λ t. pos (count_in tax.free.items t)) (length trades)) +ℤ pos 1
  pub few : tax.scale ≤ 8193
