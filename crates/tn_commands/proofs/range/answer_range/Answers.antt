-- What shows the clauses of `answer_range` of `src/range.rt`.
use Rattle.tn_model.specs.Prices.{price_at}
use Rattle.tn_commands.proofs.RangeLemmas.{ranged_from, ranges_small}
use Rattle.tn_commands.proofs.range.answer_range.Goals as goal

pub returns-clause-answer : goal.returns-clause-answer
returns-clause-answer c = (
  ranged_from c.args.market.now.firms c.args.market.now.trades c.in_ok-at.at.on c.in_ok-on.field-0
      (price_at c.in_ok-at.at.prices) c.in_ok-ranges.field-0 c.trades.result
      c.trades.ensures.network c.trades.ensures.count c.in_ok-on.ensures c.in_ok-at.ensures.equilibrium
      c.in_ok-ranges.ensures.ranges,
  c.in_ok-ends_of.ensures,
)

pub returns-clause-within : goal.returns-clause-within
returns-clause-within c =
    ranges_small c.args.market.now.firms c.args.market.now.trades c.in_ok-at.at.on c.in_ok-ranges.field-0
    c.trades.ensures.network c.requires.wide c.requires.worths c.in_ok-ranges.ensures.ranges
