-- What shows the clauses of `answer_judge` of `src/judge.rt`.
use Rattle.std.proofs.Common.{◌≡◌, map, subst, arith, to_z, of_z}
use Rattle.std.specs.Int.{w128}
use Rattle.std.proofs.lemmas.Int.{ints}
use Rattle.std.proofs.lemmas.Option.{slice_get_within}
use Rattle.tn_firm.specs.Firms.{firm_of}
use Rattle.tn_judge.specs.Judges.{JudgesContracts}
use Rattle.tn_model.specs.Prices.{price_at}
use Rattle.tn_commands.proofs.CheckLemmas.{completed_lasts, value_at}
use Rattle.tn_commands.proofs.SupportedLemmas.{within_limits}
use Rattle.tn_commands.proofs.OutcomeLemmas.{drop_keeps, drop_small, blocking_over_small, blocking_prices_small}
use Rattle.tn_commands.proofs.judge.answer_judge.Goals as goal

pub judge-requires-clause-limits : goal.judge-requires-clause-limits
judge-requires-clause-limits c =
    within_limits c.args.market.now.firms c.args.market.now.trades c.requires.few_firms c.requires.wide
    c.requires.worths

pub trades_in-requires : goal.trades_in-requires
trades_in-requires c =
    let firms = c.args.market.now.firms in
    let first =
    subst (JudgesContracts (map firm_of firms) c.args.market.now.trades c.args.outcome.now.over
    c.args.outcome.now.contracts) c.in-Drops.is c.in_ok-firm.ensures in
    let there = value_at firms c.in-Drops.firm first.firm first.is in
    slice_get_within firms c.in-Drops.firm there.0 there.1

pub returns-in-Drops-clause-answer : goal.returns-in-Drops-clause-answer
returns-in-Drops-clause-answer c =
    let firms = c.args.market.now.firms in
    let trades = c.args.market.now.trades in
    let over = c.args.outcome.now.over in
    let contracts = c.args.outcome.now.contracts in
    let first = subst (JudgesContracts (map firm_of firms) trades over contracts) c.in-Drops.is c.in_ok-firm.ensures in
    let low = c.requires.outcome.least in
    let high = c.requires.outcome.most in (
      c.in-Drops.keeps,
      first,
      drop_keeps firms trades over contracts c.in-Drops.firm c.in-Drops.keeps c.in-Drops.gain
          c.in_ok-keeps-in-Drops.keeps first c.in_ok-keeps-in-Drops.ensures,
      omega (arith, ints, low, high),
    )

pub returns-in-Drops-clause-within : goal.returns-in-Drops-clause-within
returns-in-Drops-clause-within c =
    let firms = c.args.market.now.firms in
    let trades = c.args.market.now.trades in
    let over = c.args.outcome.now.over in
    let contracts = c.args.outcome.now.contracts in
    let first = subst (JudgesContracts (map firm_of firms) trades over contracts) c.in-Drops.is c.in_ok-firm.ensures in
    let low = c.requires.outcome.least in
    let high = c.requires.outcome.most in
    let same : to_z w128 (of_z w128 over) ≡ over = omega (arith, ints, low, high) in (
      drop_small firms trades over contracts c.in-Drops.firm c.in-Drops.keeps c.in-Drops.gain c.requires.outcome
          c.requires.wide first,
      record { low = omega (arith, ints, low, same); high = omega (arith, ints, high, same) },
    )

pub returns-in-Completes-clause-answer : goal.returns-in-Completes-clause-answer
returns-in-Completes-clause-answer c =
    let firms = c.args.market.now.firms in
    let trades = c.args.market.now.trades in
    let over = c.args.outcome.now.over in
    let contracts = c.args.outcome.now.contracts in
    let completed =
    subst (JudgesContracts (map firm_of firms) trades over contracts) c.in-Completes.is c.in_ok-firm.ensures in
    let low = c.requires.outcome.least in
    let high = c.requires.outcome.most in (
      completed.0,
      completed.1,
      omega (arith, ints, low, high),
      completed_lasts (map firm_of firms) trades over contracts (price_at c.in-Completes.prices)
          c.trades-count.ensures.network c.requires.outcome completed.1.completes,
    )

pub returns-clause-within : goal.returns-clause-within
returns-clause-within c =
    let firms = c.args.market.now.firms in
    let trades = c.args.market.now.trades in
    let over = c.args.outcome.now.over in
    let contracts = c.args.outcome.now.contracts in
    let blocked = subst (JudgesContracts (map firm_of firms) trades over contracts) c.in-Blocks.is c.in_ok-firm.ensures
    in
    let small = blocking_over_small (map firm_of firms) trades over contracts c.in-Blocks.contracts c.in-Blocks.over
    c.requires.outcome c.requires.wide blocked in
    let low = small.low in
    let high = small.high in
    let same : to_z w128 (of_z w128 c.in-Blocks.over) ≡ c.in-Blocks.over = omega (arith, ints, low, high) in (
      blocking_prices_small (map firm_of firms) trades over contracts c.in-Blocks.contracts c.in-Blocks.over blocked,
      record { low = omega (arith, ints, low, same); high = omega (arith, ints, high, same) },
    )
