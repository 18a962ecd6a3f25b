-- Firms, prices and equilibria by counts: how many units there are of each trade. Counts and prices are by trade number.
use Rattle.std.specs.Prelude.{◌≡◌, ℕ, ◌<◌, ◌≤◌, ℤ, pos, ◌+ℤ◌, ◌-ℤ◌, ◌*ℤ◌, ◌≤ℤ◌, List, [], ◌∷◌, length, get_or, slice_get, ◌==◌, if◌then◌else◌, Option, Some, option_map}
use Rattle.tn_base.specs.Options.{both}
use Rattle.tn_links.specs.Totals.{total}
use Rattle.tn_counts.specs.declared.trade.UnitTrade.{UnitTrade}

-- the trade with a number; one of no units where there is none
abbrev pub trade_at : List UnitTrade → ℕ → UnitTrade
trade_at trades t = get_or trades t (record { seller = 0; buyer = 0; units = 0 })

-- no trade has more units than there are
abbrev pub AreCounts : List UnitTrade → (ℕ → ℕ) → Type 0
AreCounts trades counts = (t : ℕ) → t < length trades → counts t ≤ (trade_at trades t).units

-- a firm as the definitions see it: what it has by counts, none where they are impossible
pub record CountFirm : Type 0 where
  pub worth : (ℕ → ℕ) → Option ℤ

-- what a unit of a trade brings a firm at a price: the seller is paid, the buyer pays
abbrev pub paid_to : ℕ → ℤ → UnitTrade → ℤ
paid_to f price trade = (if f == trade.seller then price else pos 0) -ℤ (if f == trade.buyer then price else pos 0)

-- what all units bring it
abbrev pub payments : List UnitTrade → (ℕ → ℤ) → ℕ → (ℕ → ℕ) → ℤ
payments trades prices f counts = total (λ t. paid_to f (prices t) (trade_at trades t) *ℤ pos (counts t)) (length trades)

-- the utility of counts to firm f at a scale and at prices: the scale times their worth, and what the units bring
abbrev pub count_utility : List UnitTrade → ℤ → (ℕ → ℤ) → ℕ → CountFirm → (ℕ → ℕ) → Option ℤ
count_utility trades scale prices f firm counts =
    option_map (λ worth. scale *ℤ worth +ℤ payments trades prices f counts) (firm.worth counts)

-- counts that are possible with this value, and no counts have more
pub record IsBestCount (trades : List UnitTrade) (value_of : (ℕ → ℕ) → Option ℤ) (counts : ℕ → ℕ) (value : ℤ) : Type
    0 where
  pub within : AreCounts trades counts
  pub is : value_of counts ≡ Some value
  pub most : (others : ℕ → ℕ) (other : ℤ) → AreCounts trades others → value_of others ≡ Some other → other ≤ℤ value

-- at these prices the counts are best for each firm
abbrev pub IsEquilibriumByCounts : List CountFirm → List UnitTrade → ℤ → (ℕ → ℕ) → (ℕ → ℤ) → Type 0
IsEquilibriumByCounts firms trades scale counts prices = (f : ℕ) (firm : CountFirm) → slice_get firms f ≡ Some firm
    → (value : ℤ) × IsBestCount trades (count_utility trades scale prices f firm) counts value

-- the sum of the firms' worths, none where one of them is none
abbrev pub count_surplus : List CountFirm → (ℕ → ℕ) → Option ℤ
count_surplus [] counts = Some (pos 0)
count_surplus (firm ∷ firms) counts = both (firm.worth counts) (count_surplus firms counts)

-- the counts have a surplus, and no counts have more
abbrev pub IsEfficientByCounts : List CountFirm → List UnitTrade → (ℕ → ℕ) → Type 0
IsEfficientByCounts firms trades counts = (surplus : ℤ) × IsBestCount trades (count_surplus firms) counts surplus

-- the two ends of each trade are firms
pub record HaveFirms (firms : ℕ) (trades : List UnitTrade) : Type 0 where
  pub sellers : (t : ℕ) → t < length trades → (trade_at trades t).seller < firms
  pub buyers : (t : ℕ) → t < length trades → (trade_at trades t).buyer < firms
