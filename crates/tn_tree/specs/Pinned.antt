-- Prices for given counts where the prices of some trades are given.
use Rattle.std.specs.Prelude.{◌≡◌, ℕ, ◌+◌, ◌^◌, ◌<◌, ◌≤◌, ℤ, pos, ◌+ℤ◌, ◌*ℤ◌, ◌≤ℤ◌, List, length, get_or, slice_get, All, Some}
use Rattle.tn_base.specs.Arcs.{IsAtMost}
use Rattle.tn_links.specs.Totals.{total}
use Rattle.tn_counts.specs.Counts.{AreCounts, IsBestCount, IsEquilibriumByCounts, count_utility, payments}
use Rattle.tn_counts.specs.Laminar.{firm_of, firms_of}
use Rattle.tn_counts.specs.declared.market.Pin.{Pin}
use Rattle.tn_counts.specs.declared.market.UnitMarket.{UnitMarket}
use Rattle.tn_tree.specs.declared.pinned.PinnedSupport.{PinnedSupport}
use Rattle.tn_tree.specs.declared.pinned.PinnedSupport.TheVariants.{Supported, Unsupported}
use Rattle.tn_tree.specs.declared.beside.SettledBeside.{SettledBeside}
use Rattle.tn_tree.specs.Lists.{count_in, own_counts, price_in}

-- such a price is at most so much in size
abbrev pub most_beside_price : ℕ
most_beside_price = 10 ^ 18

-- a pinned trade has so many times its pin's price
abbrev pub HavePins : List Pin → ℤ → (ℕ → ℤ) → Type 0
HavePins pins scale prices =
    (k : ℕ) (pin : Pin) → slice_get pins k ≡ Some pin → prices pin.trade ≡ scale *ℤ pin.price

-- with these prices, which are the pins' on their trades, the counts are an equilibrium
pub record ArePricesBeside (market : UnitMarket) (pins : List Pin) (counts : ℕ → ℕ) (prices : List ℤ) : Type 0 where
  pub one_each : length prices ≡ length market.trades.items
  pub given : HavePins pins (pos 1) (price_in prices)
  pub equilibrium : IsEquilibriumByCounts (firms_of market) market.trades.items (pos 1) counts (price_in prices)
  pub small : All (λ price. IsAtMost price most_beside_price) prices

-- no prices that have the pins' on their trades make the counts an equilibrium, over any denominator
abbrev pub AreUnsupportedBeside : UnitMarket → List Pin → (ℕ → ℕ) → Type 0
AreUnsupportedBeside market pins counts = (scale : ℤ) (prices : ℕ → ℤ) → pos 1 ≤ℤ scale → HavePins pins scale prices
    → IsEquilibriumByCounts (firms_of market) market.trades.items scale counts prices → ⊥

-- with no more than a unit of each trade that is passed on, firms have counts by which all together gain at any prices that
-- have the pins'
pub record GainBeside (market : UnitMarket) (pins : List Pin) (counts : ℕ → ℕ) (passed : List ℕ) : Type 0 where
  pub one_each : length passed ≡ length market.trades.items
  pub single : (t : ℕ) → count_in passed t ≤ 1
  -- what each firm has then, at most what is passed on above what it has now
  pub after : ℕ → ℕ → ℕ
  pub within : (f : ℕ) → AreCounts market.trades.items (after f)
  pub near : (f t : ℕ) → t < length market.trades.items → after f t ≤ counts t + count_in passed t
  -- what that is worth to it now, and then
  pub own : ℕ → ℤ
  pub own_is : (f : ℕ) → f < market.firms → (firm_of market f).worth counts ≡ Some (own f)
  pub later : ℕ → ℤ
  pub later_is : (f : ℕ) → f < market.firms → (firm_of market f).worth (after f) ≡ Some (later f)
  pub more : (scale : ℤ) (prices : ℕ → ℤ) → pos 1 ≤ℤ scale → HavePins pins scale prices
      → (total (λ f. scale *ℤ own f +ℤ payments market.trades.items prices f counts) market.firms +ℤ scale)
      ≤ℤ total (λ f. scale *ℤ later f +ℤ payments market.trades.items prices f (after f)) market.firms

abbrev pub SupportsBeside : UnitMarket → List Pin → (ℕ → ℕ) → PinnedSupport → Type 0
SupportsBeside market pins counts (Supported prices) = ArePricesBeside market pins counts prices.items
SupportsBeside market pins counts (Unsupported passed) =
    AreUnsupportedBeside market pins counts × GainBeside market pins counts passed.items

-- what each firm sells and buys is best for it at prices that are the pins' on their trades, and of other trades as much is
-- sold as bought
pub record IsSettledBeside (market : UnitMarket) (pins : List Pin) (settled : SettledBeside) : Type 0 where
  pub sold_each : length settled.sold.items ≡ length market.trades.items
  pub bought_each : length settled.bought.items ≡ length market.trades.items
  pub one_each : length settled.prices.items ≡ length market.trades.items
  pub given : HavePins pins (pos 1) (price_in settled.prices.items)
  pub best : (f : ℕ) → f < market.firms → (value : ℤ)
      × IsBestCount market.trades.items (count_utility market.trades.items (pos 1) (price_in settled.prices.items) f
      (firm_of market f)) (own_counts market.trades.items settled.sold.items settled.bought.items f) value
  pub traded : (t : ℕ) → t < length market.trades.items
      → ((k : ℕ) (pin : Pin) → slice_get pins k ≡ Some pin → pin.trade ≡ t → ⊥)
      → count_in settled.sold.items t ≡ count_in settled.bought.items t
  pub small : All (λ price. IsAtMost price most_beside_price) settled.prices.items

-- the trades of listed nodes are marked
pub record MarksTrades (first : ℕ) (trades : ℕ) (listed passed : List ℕ) : Type 0 where
  pub one_each : length passed ≡ trades
  pub single : (t : ℕ) → count_in passed t ≤ 1
  pub marked : (t i : ℕ) → t < trades → i < length listed → get_or listed i 0 ≡ first + t → count_in passed t ≡ 1
