-- What the answers for a document whose trades have units say of the unit network of its trades and firms.
use Rattle.std.specs.Prelude.{◌≡◌, ℕ, ◌<◌, ℤ, pos, ◌≤ℤ◌, List, slice_get, Option, Some, Ok}
use Rattle.tn_model.specs.declared.ends.Ends.{Ends}
use Rattle.tn_model.specs.Network.{IsNetwork}
use Rattle.tn_market.specs.Equilibrium.{IsEquilibrium}
use Rattle.tn_market.specs.Ranges.{IsHighest, IsLowest}
use Rattle.tn_network_laws.specs.Laws.{MeetExchange}
use Rattle.tn_counts.specs.Counts.{CountFirm}
use Rattle.tn_counts.specs.Markets.{IsUnitMarket}
use Rattle.tn_counts.specs.declared.market.UnitMarket.{UnitMarket}
use Rattle.tn_counts.specs.declared.trade.UnitTrade.{UnitTrade}
use Rattle.tn_file.specs.Readings.{UnitExtra, any_reading_of, units}
use Rattle.tn_file.specs.declared.command.Command.{Command}
use Rattle.tn_read_units.specs.Firms.{UnitDocument}
use Rattle.tn_read_units.specs.Laws.{HasItsWorths}
use Rattle.tn_read_units.specs.Worths.{written_firms}
use Rattle.tn_said.specs.declared.said.Said.TheVariants.{CycleByCounts, Equilibrium, Impossible, RangesByCounts, SolvedByCounts, SupportedByCounts}
use Rattle.tn_said.specs.declared.units.UnitRange.{UnitRange}
use Rattle.tn_said.specs.declared.units.UnitStep.{UnitStep}
use Rattle.tn_tree.specs.Lists.{count_in, price_in}
use Rattle.tn_unit_answers.specs.Check.{ChecksByCounts}
use Rattle.tn_unit_answers.specs.Range.{TellsRangesByCounts}
use Rattle.tn_unit_answers.specs.Solve.{SolvesByCounts}
use Rattle.tn_unit_answers.specs.Support.{SupportsCounts}
use Rattle.tn_unit_laws.specs.Laws.{AreStableUnits, FitByCounts}
use Rattle.tn_unit_laws.specs.Units.{HasCounts, trade_of, unit_count, unit_firms, unit_trades}

-- bytes stand for a document whose trades have units
pub record ReadsUnits (bytes : List ℕ) (doc : UnitDocument) : Type 0 where
  pub command : Command
  pub extra : UnitExtra
  pub reads : any_reading_of command bytes ≡ Ok (units doc extra)

-- the unit trades and unit firms of every document that is read are a network, and its firms fit its trades by counts
pub record MakesUnitNetwork (firms : List CountFirm) (trades : List UnitTrade) : Type 0 where
  pub network : IsNetwork (unit_firms trades firms) (unit_trades trades)
  pub fit : FitByCounts firms trades

abbrev pub DocumentsMakeUnitNetworks : Type 0
DocumentsMakeUnitNetworks = (bytes : List ℕ) (doc : UnitDocument) → ReadsUnits bytes doc
    → MakesUnitNetwork (written_firms doc) doc.head.trades

-- what `solve` and `support` answer, and what `check` calls an equilibrium, is one of the unit network, efficient and stable
-- there, and stable by counts
pub record AnswersAreStableUnits : Type 0 where
  pub solved : (bytes : List ℕ) (doc : UnitDocument) (counts : List ℕ) (prices : List ℤ) (surplus : ℤ) (ends : List Ends)
      → ReadsUnits bytes doc → SolvesByCounts doc (SolvedByCounts counts prices surplus ends)
      → AreStableUnits (written_firms doc) doc.head.trades (pos 1) (count_in counts) (price_in prices)
  pub checked : (bytes : List ℕ) (doc : UnitDocument) (counts : List ℕ) (prices : List ℤ) (surplus : ℤ)
      → ReadsUnits bytes doc → ChecksByCounts doc counts prices (Equilibrium surplus)
      → AreStableUnits (written_firms doc) doc.head.trades (pos 1) (count_in counts) (price_in prices)
  pub supported : (bytes : List ℕ) (doc : UnitDocument) (counts listed : List ℕ) (prices : List ℤ) (ends : List Ends)
      → ReadsUnits bytes doc → SupportsCounts doc counts (SupportedByCounts listed prices ends)
      → AreStableUnits (written_firms doc) doc.head.trades (pos 1) (count_in counts) (price_in prices)

-- no prices of the unit network, the same for twins or not, make a set of unit trades with these counts an equilibrium
abbrev pub HaveNoUnitPrices : List CountFirm → List UnitTrade → (ℕ → ℕ) → Type 0
HaveNoUnitPrices firms trades counts = (on : ℕ) → HasCounts trades on counts → (scale : ℤ) (prices : ℕ → ℤ)
    → pos 1 ≤ℤ scale → IsEquilibrium (unit_firms trades firms) (unit_trades trades) scale on prices → ⊥

-- so where `support` answers a cycle, or a firm for which the counts are impossible
pub record AnswersBarUnitPrices : Type 0 where
  pub cycle : (bytes : List ℕ) (doc : UnitDocument) (counts : List ℕ) (nodes : List (Option UnitStep)) (cost : ℤ)
      → ReadsUnits bytes doc → SupportsCounts doc counts (CycleByCounts nodes cost)
      → HaveNoUnitPrices (written_firms doc) doc.head.trades (count_in counts)
  pub impossible : (bytes : List ℕ) (doc : UnitDocument) (counts : List ℕ) (f : ℕ)
      → ReadsUnits bytes doc → SupportsCounts doc counts (Impossible f)
      → HaveNoUnitPrices (written_firms doc) doc.head.trades (count_in counts)

-- the lowest and the highest price that `range` answers of a trade are those of each of its twins over all equilibria
-- of the unit network, at whatever prices of other twins
pub record IsRangeOfUnit (firms : List CountFirm) (trades : List UnitTrade) (u : ℕ) (range : UnitRange) : Type 0 where
  pub lowest : IsLowest (unit_firms trades firms) (unit_trades trades) u range.low
  pub highest : IsHighest (unit_firms trades firms) (unit_trades trades) u range.high

abbrev pub RangesAreOfUnits : Type 0
RangesAreOfUnits = (bytes : List ℕ) (doc : UnitDocument) (counts : List ℕ) (ranges : List UnitRange) (ends : List Ends)
    → ReadsUnits bytes doc → TellsRangesByCounts doc (RangesByCounts counts ranges ends)
    → (u : ℕ) (range : UnitRange) → u < unit_count doc.head.trades
    → slice_get ranges (trade_of doc.head.trades u) ≡ Some range
    → IsRangeOfUnit (written_firms doc) doc.head.trades u range

-- the unit firms of a document that is read, of which a market within the limits says the worths, meet exchange
abbrev pub DocumentsMeetExchange : Type 0
DocumentsMeetExchange = (bytes : List ℕ) (doc : UnitDocument) (market : UnitMarket) → ReadsUnits bytes doc
    → IsUnitMarket market → market.trades.items ≡ doc.head.trades → HasItsWorths doc market
    → MeetExchange (unit_firms doc.head.trades (written_firms doc))
