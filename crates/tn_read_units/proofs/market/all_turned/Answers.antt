-- What shows the clauses of `all_turned` of `src/market.rt`.
use Rattle.std.specs.Prelude.{map}
use Rattle.tn_counts.specs.Widths.{most_market_units}
use Rattle.tn_read_units.specs.Documents.{turned}
use Rattle.tn_read_units.specs.Placed.{first_units}
use Rattle.tn_read_units.proofs.LoopLemmas.{turned_all}
use Rattle.tn_read_units.proofs.market.all_turned.Goals as goal

pub returns : goal.returns
returns c =
    turned_all c.args.sold.now c.loop-step.step-index c.loop-step.left c.loop-step.steps.items
    (map turned (first_units most_market_units c.args.sold.now)) c.loop-step-test.false c.loop-step.invariant
