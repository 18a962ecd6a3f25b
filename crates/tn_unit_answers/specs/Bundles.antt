-- The bundles of firms by counts.
use Rattle.std.specs.Prelude.{ℕ, List, length, map, nat_lt, ◌==◌, if◌then◌else◌}
use Rattle.std.specs.List.{filter, range_with_len}
use Rattle.tn_counts.specs.Counts.{trade_at}
use Rattle.tn_counts.specs.declared.trade.UnitTrade.{UnitTrade}
use Rattle.tn_said.specs.declared.units.TradeUnits.{TradeUnits}

-- how many units firm f has of a trade of which so many go: none where it is no end of the trade
abbrev pub units_to : ℕ → UnitTrade → ℕ → ℕ
units_to f trade units = if f == trade.seller then units else if f == trade.buyer then units else 0

abbrev pub entry_at : List UnitTrade → ℕ → (ℕ → ℕ) → ℕ → TradeUnits
entry_at trades f counts t = record { trade = t; units = units_to f (trade_at trades t) (counts t) }

-- the trades of which firm f has some units, ascending, each with its units
abbrev pub unit_bundle : List UnitTrade → ℕ → (ℕ → ℕ) → List TradeUnits
unit_bundle trades f counts = filter (λ entry. nat_lt 0 entry.units)
    (map (entry_at trades f counts) (range_with_len 0 (length trades)))
