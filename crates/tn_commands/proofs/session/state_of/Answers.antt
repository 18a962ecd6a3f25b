-- What shows the clauses of `state_of` of `src/session.rt`.
use Rattle.std.proofs.Common.{◌≡◌, ℕ, map, arith, subst, sym, to_z, of_z}
use Rattle.std.specs.Int.{w128}
use Rattle.std.proofs.lemmas.Int.{ints}
use Rattle.tn_firm.specs.Firms.{firm_of}
use Rattle.tn_market.specs.Graph.{ArePossible}
use Rattle.tn_commands.proofs.EditLemmas.{bundles_possible, state_from, state_small}
use Rattle.tn_commands.proofs.session.state_of.Goals as goal

pub surplus-requires-clause-possible : goal.surplus-requires-clause-possible
surplus-requires-clause-possible c =
    subst (λ (on : ℕ). ArePossible (map firm_of c.args.market.now.firms) c.args.market.now.trades on)
    (sym c.on-2.ensures)
    (bundles_possible c.args.market.now.firms c.args.market.now.trades c.args.session.now c.requires.stands)

pub returns-clause-state : goal.returns-clause-state
returns-clause-state c =
    let within = c.surplus.ensures.within in
    let same : to_z w128 (of_z w128 c.surplus.result) ≡ c.surplus.result = omega (arith, ints, within.low, within.high)
    in
    state_from c.args.market.now.firms c.args.market.now.trades c.args.session.now c.requires.stands c.on.result.now
    c.on-2.result.now c.trades-count.result
    c.in_ok-trades_on.field-0 c.in_ok-admitted_prices.field-0 c.surplus.result _ c.on.ensures c.on-2.ensures
    c.trades-count.ensures.count c.in_ok-trades_on.ensures c.in_ok-admitted_prices.ensures
    same c.surplus.ensures.surplus c.trades-count.ensures.network

pub returns-clause-within : goal.returns-clause-within
returns-clause-within c =
    let within = c.surplus.ensures.within in
    record {
      prices = state_small c.args.market.now.firms c.args.market.now.trades c.args.session.now c.requires.stands
          c.trades-count.result c.in_ok-admitted_prices.field-0
          c.requires.wide c.trades-count.ensures.count c.in_ok-admitted_prices.ensures;
      surplus = record {
        low = omega (arith, ints, within.low, within.high);
        high =
            omega (arith, ints, within.low, within.high);
      };
    }
