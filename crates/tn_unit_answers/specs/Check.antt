-- What `check` says of an arrangement of a document whose trades have units: counts, and a price of a unit of each trade.
use Rattle.std.specs.Prelude.{◌≡◌, ℕ, ◌<◌, ℤ, pos, ◌-ℤ◌, ◌<ℤ◌, List, slice_get, Some, None}
use Rattle.tn_counts.specs.Counts.{CountFirm, IsBestCount, IsEfficientByCounts, IsEquilibriumByCounts, count_surplus}
use Rattle.tn_counts.specs.declared.trade.UnitTrade.{UnitTrade}
use Rattle.tn_read_units.specs.Firms.{UnitDocument}
use Rattle.tn_read_units.specs.Worths.{written_firms}
use Rattle.tn_said.specs.declared.said.Said.{Said}
use Rattle.tn_said.specs.declared.said.Said.TheVariants.{BetterByCounts, Equilibrium, Impossible}
use Rattle.tn_said.specs.declared.units.TradeUnits.{TradeUnits}
use Rattle.tn_tree.specs.Held.{utility_at}
use Rattle.tn_tree.specs.Lists.{count_in, price_in}
use Rattle.tn_unit_answers.specs.Bundles.{unit_bundle}

-- at the prices the counts are among the best ones of each firm before f
abbrev pub AreBestBefore : List CountFirm → List UnitTrade → List ℕ → List ℤ → ℕ → Type 0
AreBestBefore firms trades counts prices f = (g : ℕ) (firm : CountFirm) → g < f → slice_get firms g ≡ Some firm
    → (value : ℤ) × IsBestCount trades (utility_at trades prices g firm) (count_in counts) value

-- firm f is the first for which the counts aren't best: they are impossible for it
pub record IsFirstImpossible (firms : List CountFirm) (trades : List UnitTrade) (counts : List ℕ) (prices : List ℤ)
    (f : ℕ) : Type 0 where
  pub before : AreBestBefore firms trades counts prices f
  pub firm : CountFirm
  pub is : slice_get firms f ≡ Some firm
  pub impossible : firm.worth (count_in counts) ≡ None

-- firm f is the first for which the counts aren't best: they are possible for it, and other ones, which are best, have so
-- much more; the bundle is what these give it
pub record IsFirstBettered (firms : List CountFirm) (trades : List UnitTrade) (counts : List ℕ) (prices : List ℤ) (f : ℕ)
    (bundle : List TradeUnits) (gain : ℤ) : Type 0 where
  pub before : AreBestBefore firms trades counts prices f
  pub firm : CountFirm
  pub is : slice_get firms f ≡ Some firm
  pub own_value : ℤ
  pub own_is : utility_at trades prices f firm (count_in counts) ≡ Some own_value
  pub best_counts : ℕ → ℕ
  pub best_value : ℤ
  pub best : IsBestCount trades (utility_at trades prices f firm) best_counts best_value
  pub bundle_is : bundle ≡ unit_bundle trades f best_counts
  pub gain_is : gain ≡ best_value -ℤ own_value
  pub gains : pos 0 <ℤ gain

-- the counts are among the best of each firm at the prices, and no counts have a greater surplus than they have
pub record IsArrangedEquilibrium (firms : List CountFirm) (trades : List UnitTrade) (counts : List ℕ) (prices : List ℤ)
    (surplus : ℤ) : Type 0 where
  pub equilibrium : IsEquilibriumByCounts firms trades (pos 1) (count_in counts) (price_in prices)
  pub surplus_is : count_surplus firms (count_in counts) ≡ Some surplus
  pub efficient : IsEfficientByCounts firms trades (count_in counts)

-- an equilibrium with its surplus, or the first firm for which the counts aren't best; no answer of another kind
abbrev pub ChecksByCounts : UnitDocument → List ℕ → List ℤ → Said → Type 0
ChecksByCounts doc counts prices (Equilibrium surplus) =
    IsArrangedEquilibrium (written_firms doc) doc.head.trades counts prices surplus
ChecksByCounts doc counts prices (BetterByCounts f bundle gain) =
    IsFirstBettered (written_firms doc) doc.head.trades counts prices f bundle gain
ChecksByCounts doc counts prices (Impossible f) =
    IsFirstImpossible (written_firms doc) doc.head.trades counts prices f
ChecksByCounts doc counts prices said = ⊥
