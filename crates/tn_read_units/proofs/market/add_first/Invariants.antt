-- What the loops of `add_first` of `src/market.rt` keep.
use Rattle.std.proofs.Common.{◌≡◌, ◌++◌, drop}
use Rattle.tn_counts.specs.Widths.{most_market_units}
use Rattle.tn_read_units.specs.Placed.{first_units}
use Rattle.tn_read_units.proofs.market.add_first.Given as goal

abbrev pub invariant-loop-step : goal.invariant-loop-step
invariant-loop-step l = l.steps.items ++ first_units l.left (drop l.step-index l.more)
    ≡ l.fn.steps.items ++ first_units most_market_units l.more
