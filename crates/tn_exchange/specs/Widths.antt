-- What there is room for in a table, whatever a document says.
use Rattle.std.specs.Prelude.{ℕ}

-- a table has at most so many own trades
abbrev pub most_table_trades : ℕ
most_table_trades = 14
