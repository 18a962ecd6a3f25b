-- What `firms` says of each firm of a document whose trades have units, in an arrangement of counts and prices.
use Rattle.std.specs.Prelude.{◌≡◌, ℕ, ℤ, pos, ◌-ℤ◌, Bool, List, length, slice_get, Option, Some, option_map}
use Rattle.std.specs.List.{count_by}
use Rattle.tn_answer.specs.Rows.{is_nothing}
use Rattle.tn_counts.specs.Counts.{CountFirm, IsBestCount, IsEfficientByCounts, IsEquilibriumByCounts, count_surplus}
use Rattle.tn_counts.specs.declared.trade.UnitTrade.{UnitTrade}
use Rattle.tn_read_units.specs.Firms.{UnitDocument}
use Rattle.tn_read_units.specs.Worths.{written_firms}
use Rattle.tn_said.specs.declared.said.Said.{Said}
use Rattle.tn_said.specs.declared.said.Said.TheVariants.{FirmsByCounts}
use Rattle.tn_said.specs.declared.units.UnitHolding.{UnitHolding}
use Rattle.tn_tree.specs.Held.{utility_at}
use Rattle.tn_tree.specs.Lists.{count_in, price_in}
use Rattle.tn_unit_answers.specs.Bundles.{unit_bundle}

-- what is said of firm f: its own bundle with worth and utility, a best bundle, its own where that is best, and what its
-- utility gains by that
pub record TellsFirm (trades : List UnitTrade) (counts : List ℕ) (prices : List ℤ) (f : ℕ) (firm : CountFirm)
    (told : UnitHolding) : Type 0 where
  pub has_is : told.has ≡ unit_bundle trades f (count_in counts)
  pub worth_is : told.worth ≡ firm.worth (count_in counts)
  pub utility_is : told.utility ≡ utility_at trades prices f firm (count_in counts)
  pub best_counts : ℕ → ℕ
  pub best_is : told.best ≡ unit_bundle trades f best_counts
  pub best : IsBestCount trades (utility_at trades prices f firm) best_counts told.best_utility
  pub kept_own : told.utility ≡ Some told.best_utility → told.best ≡ told.has
  pub gain_is : told.gain ≡ option_map (λ value. told.best_utility -ℤ value) told.utility

-- a firm is content where it gains nothing
abbrev pub is_content : UnitHolding → Bool
is_content told = is_nothing told.gain

-- what is said of all firms, one by one, how many are content, and the sum of the worths; where all firms are content, the
-- arrangement is an equilibrium, so no counts have a greater surplus
pub record TellsFirms (firms : List CountFirm) (trades : List UnitTrade) (counts : List ℕ) (prices : List ℤ) (content : ℕ)
    (told : List UnitHolding) (surplus : Option ℤ) : Type 0 where
  pub one_each : length told ≡ length firms
  pub each : (f : ℕ) (firm : CountFirm) (holding : UnitHolding) → slice_get firms f ≡ Some firm
      → slice_get told f ≡ Some holding → TellsFirm trades counts prices f firm holding
  pub counted : content ≡ count_by is_content told
  pub surplus_is : surplus ≡ count_surplus firms (count_in counts)
  pub implied : content ≡ length firms
      → IsEquilibriumByCounts firms trades (pos 1) (count_in counts) (price_in prices)
      × IsEfficientByCounts firms trades (count_in counts)

-- the answer of `firms`; none of another kind
abbrev pub TellsHoldingsByCounts : UnitDocument → List ℕ → List ℤ → Said → Type 0
TellsHoldingsByCounts doc counts prices (FirmsByCounts content told surplus) =
    TellsFirms (written_firms doc) doc.head.trades counts prices content told surplus
TellsHoldingsByCounts doc counts prices said = ⊥
