-- Lists of entries, each of which names a trade and gives a number to it: units of the trade, or a price of a unit.
use Rattle.std.specs.Prelude.{ℕ, ◌++◌, [], ◌∷◌, ℤ, pos, int_le, unsigned_abs, nat_le, ◌&&◌, List, length, replicate, slice_set, Some, Result, Ok}
use Rattle.serde_json.specs.Data.{Data, Items}
use Rattle.tn_base.specs.Sets.{size, toggle}
use Rattle.tn_counts.specs.Counts.{trade_at}
use Rattle.tn_counts.specs.Widths.{most_unit_price}
use Rattle.tn_said.specs.declared.fault.FaultKind.TheVariants.{AmountRange}
use Rattle.tn_said.specs.declared.place.PlaceStep.{PlaceStep}
use Rattle.tn_said.specs.declared.place.PlaceStep.TheVariants.{Index, Key}
use Rattle.tn_said.specs.declared.place.Word.TheVariants.{Arrangement, On, Prices as PricesWord}
use Rattle.tn_said.specs.declared.said.Fault.{Fault}
use Rattle.tn_read_parts.specs.Lists.{first_without, unless_missing}
use Rattle.tn_read_references.specs.Entries.{Numbered}
use Rattle.tn_read_references.specs.References.{new_trade}
use Rattle.tn_read_shapes.specs.Reading.{◌>>=◌, each, holds}
use Rattle.tn_read_shapes.specs.Shapes.{number_at, two_at, whole_at}
use Rattle.tn_read_unit_parts.specs.declared.entries.EntryNumbers.{EntryNumbers}
use Rattle.tn_read_unit_parts.specs.declared.entries.EntryNumbers.TheVariants.{Units, Prices}
use Rattle.tn_read_units.specs.Trades.{UnitTrades}

-- where the list stands in an arrangement
abbrev pub numbers_place : EntryNumbers → List PlaceStep
numbers_place Units = Key Arrangement ∷ Key On ∷ []
numbers_place Prices = Key Arrangement ∷ Key PricesWord ∷ []

-- a whole number of units from 0 to those that there are
unfoldable pub units_within : ℕ → List PlaceStep → Data → Result ℤ Fault
units_within units place value = do
  z ← whole_at place (Some value)
  within ← holds AmountRange place (int_le (pos 0) z && nat_le (unsigned_abs z) units)
  Ok z

-- the number of an entry of trade t
abbrev pub number_of : UnitTrades → EntryNumbers → ℕ → List PlaceStep → Data → Result ℤ Fault
number_of head Units t place value = units_within (trade_at head.trades t).units place value
number_of head Prices t place value = number_at most_unit_price place value

-- one more entry, of a trade that has none; the index of an entry is the count of those before it
unfoldable pub one_number : UnitTrades → EntryNumbers → Numbered → Data → Result Numbered Fault
one_number head numbers given entry = do
  two ← two_at (numbers_place numbers ++ Index (size given.named) ∷ []) entry
  t ← new_trade head.names.trades (numbers_place numbers ++ Index (size given.named) ∷ Index 0 ∷ []) given.named two.0
  number ← number_of head numbers t (numbers_place numbers ++ Index (size given.named) ∷ Index 1 ∷ []) two.1
  Ok (record { named = toggle given.named t; numbers = slice_set given.numbers t number })

-- the trades that the entries of a list name, and the numbers by trade, 0 without an entry
unfoldable pub numbered : UnitTrades → EntryNumbers → Items → Result Numbered Fault
numbered head numbers entries =
    each (one_number head numbers) (record { named = 0; numbers = replicate (length head.trades) (pos 0) }) entries

-- the prices of all trades
unfoldable pub prices_of : UnitTrades → Items → Result (List ℤ) Fault
prices_of head entries = do
  priced ← numbered head Prices entries
  complete ← unless_missing (numbers_place Prices) (first_without priced.named 0 (length head.trades))
  Ok priced.numbers
