-- The same in the words of the runs of the program: whatever bytes stand for a document, what is answered to them.
use Rattle.std.specs.Prelude.{◌≡◌, ℕ, ◌<◌, ℤ, pos, List, slice_get, Some}
use Rattle.tn_model.specs.declared.ends.Ends.{Ends}
use Rattle.tn_file.specs.Readings.{any_reading_of}
use Rattle.tn_file.specs.declared.command.Command.TheVariants.{Range, Solve}
use Rattle.tn_names.specs.Names.{NameLists}
use Rattle.tn_read_units.specs.Firms.{UnitDocument}
use Rattle.tn_read_units.specs.Worths.{written_firms}
use Rattle.tn_run.specs.Answer.{IsAnswerTo}
use Rattle.tn_said.specs.declared.said.Said.TheVariants.{RangesByCounts, SolvedByCounts}
use Rattle.tn_said.specs.declared.units.UnitRange.{UnitRange}
use Rattle.tn_tree.specs.Lists.{count_in, price_in}
use Rattle.tn_unit_laws.specs.Laws.{AreStableUnits}
use Rattle.tn_unit_laws.specs.Units.{trade_of, unit_count}
use Rattle.tn_unit_run_laws.specs.Laws.{IsRangeOfUnit, ReadsUnits}

-- the bytes stand for a document, of which the counts and prices are an equilibrium of the unit network, efficient and
-- stable there
pub record SolvesUnits (bytes counts : List ℕ) (prices : List ℤ) : Type 0 where
  pub doc : UnitDocument
  pub reads : ReadsUnits bytes doc
  pub stable : AreStableUnits (written_firms doc) doc.head.trades (pos 1) (count_in counts) (price_in prices)

-- or the ranges are those of each unit of their trades
pub record RangesUnits (bytes : List ℕ) (ranges : List UnitRange) : Type 0 where
  pub doc : UnitDocument
  pub reads : ReadsUnits bytes doc
  pub each : (u : ℕ) (range : UnitRange) → u < unit_count doc.head.trades
      → slice_get ranges (trade_of doc.head.trades u) ≡ Some range
      → IsRangeOfUnit (written_firms doc) doc.head.trades u range

-- whatever bytes are read, counts that `solve` answers are such, and so are ranges by counts that `range` answers
pub record RunsSpeakOfUnits : Type 0 where
  pub solved : (bytes : List ℕ) (names : NameLists) (counts : List ℕ) (prices : List ℤ) (surplus : ℤ) (ends : List Ends)
      → IsAnswerTo Solve (any_reading_of Solve bytes) names (SolvedByCounts counts prices surplus ends)
      → SolvesUnits bytes counts prices
  pub ranged : (bytes : List ℕ) (names : NameLists) (counts : List ℕ) (ranges : List UnitRange) (ends : List Ends)
      → IsAnswerTo Range (any_reading_of Range bytes) names (RangesByCounts counts ranges ends)
      → RangesUnits bytes ranges
