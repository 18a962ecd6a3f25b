-- What the loops of `all_turned` of `src/market.rt` keep.
use Rattle.std.proofs.Common.{◌≡◌, ◌++◌, drop}
use Rattle.std.specs.Prelude.{map}
use Rattle.tn_counts.specs.Widths.{most_market_units}
use Rattle.tn_read_units.specs.Documents.{turned}
use Rattle.tn_read_units.specs.Placed.{first_units}
use Rattle.tn_read_units.proofs.market.all_turned.Given as goal

abbrev pub invariant-loop-step : goal.invariant-loop-step
invariant-loop-step l = l.steps.items ++ map turned (first_units l.left (drop l.step-index l.sold))
    ≡ map turned (first_units most_market_units l.sold)
