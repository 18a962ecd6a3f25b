-- What shows the clauses of `answer_support` of `src/support.rt`.
use Rattle.std.proofs.Common.{◌*◌, length, map, refl, subst, arith}
use Rattle.tn_firm.specs.Firms.{firm_of}
use Rattle.tn_model.specs.Network.{trades_on}
use Rattle.tn_price.specs.Supports.{Supports, IsPricedWithin}
use Rattle.tn_commands.proofs.SolveLemmas.{small_prices}
use Rattle.tn_said.specs.declared.said.Said.TheVariants.{Supported}
use Rattle.tn_answer.specs.Kept.{IsWithinClaims}
use Rattle.tn_commands.specs.Support.{SupportsSet}
use Rattle.tn_commands.proofs.SupportedLemmas.{supports_imply, cycle_fits, cost_fits, if_ok}
use Rattle.tn_model.specs.Limits.{most_worth_among}
use Rattle.tn_commands.proofs.support.answer_support.Goals as goal

pub returns-in-Supported-clause-answer : goal.returns-in-Supported-clause-answer
returns-in-Supported-clause-answer c =
    let firms = map firm_of c.args.market.now.firms in
    let supports =
    supports_imply firms c.args.market.now.trades c.args.on.now c.in-Supported.prices c.trades-count.ensures.network
    (subst (Supports firms c.args.market.now.trades c.args.on.now) c.in-Supported.is c.in_ok-prices.ensures.answer) in
    let trades = c.args.market.now.trades in
    if_ok (SupportsSet firms trades c.args.on.now) c.supported.result
    (Supported (trades_on c.args.on.now (length trades)) c.in-Supported.prices trades) (
      supports.0,
      supports.1,
      refl,
      refl,
    ) c.supported.ensures

pub returns-in-Supported-clause-within : goal.returns-in-Supported-clause-within
returns-in-Supported-clause-within c =
    let trades = c.args.market.now.trades in
    let small = small_prices (length trades) c.in-Supported.prices c.requires.wide
    (subst (IsPricedWithin (2 * most_worth_among (length trades) * length trades)) c.in-Supported.is
    (c.in_ok-prices.ensures.prices (most_worth_among (length trades)) c.requires.worths)) in
    if_ok IsWithinClaims c.supported.result (Supported (trades_on c.args.on.now (length trades)) c.in-Supported.prices
    trades) small c.supported.ensures

pub returns-clause-within : goal.returns-clause-within
returns-clause-within c =
    let firms = map firm_of c.args.market.now.firms in
    let answer =
    subst (Supports firms c.args.market.now.trades c.args.on.now) c.in-Cycle.is c.in_ok-prices.ensures.answer in
    cost_fits c.in-Cycle.cost (cycle_fits c.args.market.now.firms c.args.market.now.trades c.args.on.now
    c.in-Cycle.nodes c.in-Cycle.cost c.trades-count.ensures.network c.requires.wide
    c.requires.worths answer.0)
