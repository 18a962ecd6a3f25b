-- What shows the clauses of `equilibrium_by_rounds` of `src/solve.rt`.
use Rattle.std.proofs.Common.{ℕ, ℤ, ◌+◌, ◌*◌, ◌≤◌, List, pos, arith, length, map, sym, subst, ap, ◌∙◌}
use Rattle.std.specs.Prelude.{All}
use Rattle.tn_base.specs.Arcs.{IsAtMost}
use Rattle.tn_firm.specs.Firms.{firm_of}
use Rattle.tn_model.specs.Prices.{price_at}
use Rattle.tn_market.specs.Equilibrium.{IsEquilibrium}
use Rattle.tn_commands.proofs.SolveLemmas.{small_prices}
use Rattle.tn_commands.specs.Limits.{most_answered_trades}
use Rattle.tn_base.specs.Widths.{most_cost}
use Rattle.tn_model.specs.Limits.{most_price, most_worth_among}
use Rattle.tn_market.specs.Widths.{most_worth}
use Rattle.tn_commands.proofs.solve.equilibrium_by_rounds.Goals as goal

few : (trades : ℕ) → trades ≤ most_answered_trades → 2 * most_worth * (trades + 1) ≤ most_cost
few trades most = omega (arith, most)

pub solve_in-requires : goal.solve_in-requires
solve_in-requires c = (
  omega arith,
  (
    c.requires.wide,
    (
      c.in_ok-solver.ensures.one_each,
      (λ f v is. few (length c.args.market.now.trades)
          c.requires.wide),
    ),
  ),
)

pub returns-clause-equilibrium : goal.returns-clause-equilibrium
returns-clause-equilibrium c =
    let firms = map firm_of c.args.market.now.firms in
    let trades = c.args.market.now.trades in
    subst (λ (on : ℕ). IsEquilibrium firms trades (pos 1) on (price_at c.in_ok-prices.field-0)) (sym c.on-on.ensures)
    (subst (λ (prices : List ℤ). IsEquilibrium firms trades (pos 1) c.solve_in.new.self.on (price_at prices))
    (sym c.in_ok-prices.ensures) c.solve_in.ensures.equilibrium)

pub returns-clause-one_each : goal.returns-clause-one_each
returns-clause-one_each c = ap length c.in_ok-prices.ensures ∙ c.solve_in.ensures.one_each

pub returns-clause-small : goal.returns-clause-small
returns-clause-small c =
    subst (λ (prices : List ℤ). All (λ p. IsAtMost p most_price) prices) (sym c.in_ok-prices.ensures)
    (small_prices (length c.args.market.now.trades) c.solve_in.new.self.prices c.requires.wide
    (c.solve_in.ensures.prices (most_worth_among (length c.args.market.now.trades)) c.requires.worths))
