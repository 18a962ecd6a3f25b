-- What shows the clauses of `surplus` of `src/solve.rt`.
use Rattle.std.proofs.Common.{map, arith, sym}
use Rattle.std.proofs.lemmas.Int.{ints}
use Rattle.tn_firm.specs.Firms.{firm_of}
use Rattle.tn_commands.proofs.CheckLemmas.{surplus_fits}
use Rattle.tn_commands.proofs.SolveLemmas.{possible_surplus}
use Rattle.tn_commands.proofs.solve.surplus.Goals as goal

pub unreachable-requires : goal.unreachable-requires
unreachable-requires c =
    possible_surplus (map firm_of c.args.market.now.firms) c.args.market.now.trades c.args.on.now c.requires.possible
    (sym c.in-None.ensures.surplus)

pub returns-clause-within : goal.returns-clause-within
returns-clause-within c =
    let fits = surplus_fits c.args.market.now.firms c.args.market.now.trades c.args.on.now c.in-Some.surplus
    (omega (arith, c.firms-count.ensures.count, c.firms-count.ensures.few)) (sym c.in-Some.ensures.surplus) in
    record { low = omega (arith, ints, fits.low, fits.high); high = omega (arith, ints, fits.low, fits.high) }
