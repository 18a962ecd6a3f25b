-- What shows the clauses of `answer_solve` of `src/solve.rt`.
use Rattle.std.proofs.Common.{◌≡◌, map, arith, to_z, of_z}
use Rattle.std.specs.Int.{w128}
use Rattle.std.proofs.lemmas.Int.{ints}
use Rattle.tn_firm.specs.Firms.{firm_of}
use Rattle.tn_model.specs.Prices.{price_at}
use Rattle.tn_network_laws.proofs.RoundLemmas.{equilibrium_possible}
use Rattle.tn_commands.proofs.SolveLemmas.{solved_from}
use Rattle.tn_commands.proofs.solve.answer_solve.Goals as goal

pub surplus-surplus-requires-clause-possible : goal.surplus-surplus-requires-clause-possible
surplus-surplus-requires-clause-possible c =
    equilibrium_possible (map firm_of c.args.market.now.firms) c.args.market.now.trades c.in_ok-at.at.on
    (price_at c.in_ok-at.at.prices) c.in_ok-at.ensures.equilibrium

pub returns-clause-answer : goal.returns-clause-answer
returns-clause-answer c =
    let within = c.surplus-surplus.ensures.within in
    let same : to_z w128 (of_z w128 c.surplus-surplus.result) ≡ c.surplus-surplus.result =
    omega (arith, ints, within.low, within.high) in (
      solved_from c.args.market.now.firms c.args.market.now.trades c.in_ok-at.at.on c.in_ok-trades_on.field-0
          c.in_ok-at.at.prices c.surplus-surplus.result _ c.trades.result
          c.trades.ensures.network c.trades.ensures.count c.in_ok-trades_on.ensures c.in_ok-at.ensures.one_each same
          c.in_ok-at.ensures.equilibrium c.surplus-surplus.ensures.surplus,
      c.in_ok-ends.ensures,
    )

pub returns-clause-within : goal.returns-clause-within
returns-clause-within c =
    let within = c.surplus-surplus.ensures.within in (
      c.in_ok-at.ensures.small,
      record {
        low = omega (arith, ints, within.low, within.high);
        high =
            omega (arith, ints, within.low, within.high);
      },
    )
