-- The ranges of a market as they are said.
use Rattle.tn_said.specs.declared.units.UnitRange.{UnitRange}
use Rattle.tn_tree.specs.declared.range.UnitRange.{UnitRange as MarketRange}
use Rattle.tn_unit_answers.specs.Steps.{said_steps}

abbrev pub said_range : MarketRange → UnitRange
said_range range = record {
  low = range.low;
  low_path = said_steps range.low_path.items;
  high = range.high;
  high_path = said_steps range.high_path.items;
}
