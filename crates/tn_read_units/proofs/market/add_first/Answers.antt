-- What shows the clauses of `add_first` of `src/market.rt`.
use Rattle.std.proofs.Common.{◌++◌}
use Rattle.tn_counts.specs.Widths.{most_market_units}
use Rattle.tn_read_units.specs.Placed.{first_units}
use Rattle.tn_read_units.proofs.LoopLemmas.{first_all}
use Rattle.tn_read_units.proofs.market.add_first.Goals as goal

pub returns : goal.returns
returns c =
    first_all c.args.more.now c.loop-step.step-index c.loop-step.left c.loop-step.steps.items
    (c.args.steps.now.items ++ first_units most_market_units c.args.more.now) c.loop-step-test.false
    c.loop-step.invariant
