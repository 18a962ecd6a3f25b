-- What shows the clauses of `Solver::solve_among` of `src/solver.rt`.
use Rattle.std.proofs.Common.{◌≡◌, ℕ, ◌<◌, ◌≤◌, ◌-ℤ◌, ℤ, List, ◌∙◌, sym, subst, rules, map, length}
use Rattle.tn_cycle.specs.Answers.{label_in}
use Rattle.tn_market.specs.Widths.{most_market_trades}
use Rattle.tn_model.specs.Prices.{price_at}
use Rattle.tn_flow.specs.Solved.{IsSolution}
use Rattle.tn_network_laws.proofs.EachLemmas.{meet_all}
use Rattle.tn_flow.proofs.SolverLemmas.{small_bound, labels_small, solution_from, prices_within}
use Rattle.tn_flow.proofs.solver.Solver.solve_among.Goals as goal

pub admit_all-requires : goal.admit_all-requires
admit_all-requires g c =
    let made = c.requires.made_for in
    let ready = c.self.invariant in
    let graph = ready.graph_sized in
    let finder = ready.finder_sized in (
      search rules,
      (
        search rules,
        (
          ready.narrow,
          (
            c.requires.wide,
            (
              record { graph_sized = search rules; finder_sized = search rules },
              (
                (λ f v is. small_bound (g.V.Valuation.limit v) (length c.args.market.now.trades)
                    (c.requires.small f v is)),
                c.requires.inside,
              ),
            ),
          ),
        ),
      ),
    )

pub write_differences-requires-clause-small : goal.write_differences-requires-clause-small
write_differences-requires-clause-small g c =
    labels_small (map g.V.Valuation.firm c.args.market.now.firms) c.args.market.now.trades c.admit_all.new.self.graph
    c.admit_all.new.self.finder c.admit_all.new.self.allowed c.admit_all.new.self.on
    c.settle.new.self.finder.labels c.admit_all.ensures.under_way
    (subst (λ (n : ℕ). n ≤ most_market_trades) c.trades.ensures.count c.trades.ensures.few) c.settle.ensures.labels

-- the prices as they were read
read : (prices labels : List ℤ) (n count : ℕ) → n ≡ count
    → ((t : ℕ) → t < n → price_at prices t ≡ label_in labels t -ℤ label_in labels n)
    → (t : ℕ) → t < count → price_at prices t ≡ label_in labels t -ℤ label_in labels count
read prices labels n count same each = subst (λ (m : ℕ). (t : ℕ) → t < m
    → price_at prices t ≡ label_in labels t -ℤ label_in labels m) same each

pub returns-clause-solution : goal.returns-clause-solution
returns-clause-solution g c =
    let count = c.trades.ensures.count in
    subst (λ (x : ℕ). IsSolution (map g.V.Valuation.firm c.args.market.now.firms) c.args.market.now.trades
    c.args.admitted.now (record { on = x; prices = c.write_differences.new.into.items }))
    (sym c.settle.ensures.on)
    (solution_from (map g.V.Valuation.firm c.args.market.now.firms) c.args.market.now.trades c.admit_all.new.self.graph
    c.admit_all.new.self.finder c.admit_all.new.self.allowed c.args.admitted.now
    c.admit_all.new.self.on c.settle.new.self.finder.labels c.write_differences.new.into.items c.trades.ensures.network
    (meet_all g.V.Valuation.firm c.args.market.now.firms g.met.V.Valuation.lawful)
    c.admit_all.ensures.under_way c.admit_all.ensures.admitted c.settle.ensures.labels.keeps
    (c.write_differences.ensures.one_each ∙ count)
    (read c.write_differences.new.into.items c.settle.new.self.finder.labels c.trades.result
    (length c.args.market.now.trades) count c.write_differences.ensures.each))

pub returns-clause-prices : goal.returns-clause-prices
returns-clause-prices g c =
    let count = c.trades.ensures.count in
    prices_within (map g.V.Valuation.firm c.args.market.now.firms) c.args.market.now.trades
    c.admit_all.new.self.allowed c.admit_all.new.self.on
    c.settle.new.self.finder.labels c.write_differences.new.into.items c.trades.ensures.network
    c.settle.ensures.labels (c.write_differences.ensures.one_each ∙ count)
    (read c.write_differences.new.into.items c.settle.new.self.finder.labels c.trades.result
    (length c.args.market.now.trades) count c.write_differences.ensures.each)
