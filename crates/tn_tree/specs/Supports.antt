-- What the search for prices of given counts says.
use Rattle.std.specs.Prelude.{◌≡◌, ℕ, ◌<◌, ℤ, pos, neg_ℤ, ◌+ℤ◌, ◌≤ℤ◌, ◌<ℤ◌, List, length, All, Option, Some, None, get_or}
use Rattle.tn_base.specs.Arcs.{IsAtMost}
use Rattle.tn_counts.specs.Counts.{IsEquilibriumByCounts}
use Rattle.tn_counts.specs.Laminar.{firm_of, firms_of}
use Rattle.tn_counts.specs.Laws.{HaveMore}
use Rattle.tn_counts.specs.Widths.{most_unit_price}
use Rattle.tn_counts.specs.declared.market.UnitMarket.{UnitMarket}
use Rattle.tn_tree.specs.declared.steps.UnitStep.{UnitStep}
use Rattle.tn_tree.specs.declared.support.UnitSupport.{UnitSupport}
use Rattle.tn_tree.specs.declared.support.UnitSupport.TheVariants.{Supported, Impossible, Cycle}
use Rattle.tn_tree.specs.Lists.{price_in}
use Rattle.tn_tree.specs.Steps.{AreKnown, AreOnce, units_by}

-- with these prices the counts are an equilibrium, and the prices are those of an arrangement
pub record AreSupports (market : UnitMarket) (counts : ℕ → ℕ) (prices : List ℤ) : Type 0 where
  pub one_each : length prices ≡ length market.trades.items
  pub equilibrium : IsEquilibriumByCounts (firms_of market) market.trades.items (pos 1) counts (price_in prices)
  pub small : All (λ price. IsAtMost price most_unit_price) prices

-- no prices make the counts an equilibrium, over any denominator
abbrev pub IsUnsupported : UnitMarket → (ℕ → ℕ) → Type 0
IsUnsupported market counts = (scale : ℤ) (prices : ℕ → ℤ) → pos 1 ≤ℤ scale
    → IsEquilibriumByCounts (firms_of market) market.trades.items scale counts prices → ⊥

-- steps of trades, each of them once, that lead to other counts with more surplus, by what they cost turned round
pub record AreGain (market : UnitMarket) (counts : ℕ → ℕ) (steps : List (Option UnitStep)) (cost : ℤ) : Type 0 where
  pub negative : cost <ℤ pos 0
  pub small : IsAtMost cost most_unit_price
  pub known : AreKnown market steps
  pub once : AreOnce steps
  pub after : ℕ → ℕ
  pub stepped : (t : ℕ) → t < length market.trades.items → pos (after t) ≡ pos (counts t) +ℤ units_by steps t
  pub more : HaveMore market counts after (neg_ℤ cost)

-- the first firm for which the counts are impossible
pub record IsFirstUnable (market : UnitMarket) (counts : ℕ → ℕ) (f : ℕ) : Type 0 where
  pub known : f < market.firms
  pub none : (firm_of market f).worth counts ≡ None
  pub earlier : (g : ℕ) → g < f → (worth : ℤ) × ((firm_of market g).worth counts ≡ Some worth)

abbrev pub SupportsByCounts : UnitMarket → (ℕ → ℕ) → UnitSupport → Type 0
SupportsByCounts market counts (Supported prices) = AreSupports market counts prices.items
SupportsByCounts market counts (Impossible f) = IsFirstUnable market counts f
SupportsByCounts market counts (Cycle nodes cost) = AreGain market counts nodes.items cost × IsUnsupported market counts

-- the first place of a list at which there is no number, none where there is one at each
abbrev pub FindsNone : List (Option ℤ) → Option ℕ → Type 0
FindsNone numbers (Some f) = (f < length numbers) × (get_or numbers f None ≡ None)
    × ((g : ℕ) → g < f → (number : ℤ) × (get_or numbers g None ≡ Some number))
FindsNone numbers None = (g : ℕ) → g < length numbers → (number : ℤ) × (get_or numbers g None ≡ Some number)
