-- What shows the clauses of `answer_check` of `src/check.rt`.
use Rattle.std.proofs.Common.{◌≡◌, arith, to_z, of_z}
use Rattle.std.specs.Int.{w128}
use Rattle.std.proofs.lemmas.Int.{ints}
use Rattle.tn_commands.proofs.CheckLemmas.{surplus_fits, gain_fits, answer_better, bettered_firm}
use Rattle.tn_commands.proofs.check.answer_check.Goals as goal

pub returns-in-Equilibrium-clause-within : goal.returns-in-Equilibrium-clause-within
returns-in-Equilibrium-clause-within c =
    let fits = surplus_fits c.args.market.now.firms c.args.market.now.trades c.args.at.now.on c.in-Equilibrium.surplus
    (omega (arith, c.firms-count.ensures.count, c.firms-count.ensures.few)) c.in-Equilibrium.ensures.1 in
    omega (arith, ints, fits.low, fits.high)

pub trades_in-requires : goal.trades_in-requires
trades_in-requires c =
    bettered_firm c.args.market.now.firms c.args.market.now.trades c.args.at.now.on c.args.at.now.prices
    c.in-Better.firm _ _ c.in-Better.ensures

pub returns-in_ok-bundle-in-Better-clause-answer : goal.returns-in_ok-bundle-in-Better-clause-answer
returns-in_ok-bundle-in-Better-clause-answer c =
    let fits = gain_fits c.args.market.now.firms c.args.market.now.trades c.args.at.now.on c.args.at.now.prices
    c.in-Better.firm _ c.in-Better.gain c.requires.small c.in-Better.ensures in
    let same : to_z w128 (of_z w128 c.in-Better.gain) ≡ c.in-Better.gain = omega (arith, ints, fits.low, fits.high) in
    answer_better c.args.market.now.firms c.args.market.now.trades c.args.at.now.on c.args.at.now.prices
    c.in-Better.firm _ c.in-Better.gain _ c.in_ok-bundle-in-Better.bundle c.in-Better.ensures same
    c.in_ok-bundle-in-Better.ensures

pub returns-in_ok-bundle-in-Better-clause-within : goal.returns-in_ok-bundle-in-Better-clause-within
returns-in_ok-bundle-in-Better-clause-within c =
    let fits = gain_fits c.args.market.now.firms c.args.market.now.trades c.args.at.now.on c.args.at.now.prices
    c.in-Better.firm _ c.in-Better.gain c.requires.small c.in-Better.ensures in
    omega (arith, ints, fits.low, fits.high)
