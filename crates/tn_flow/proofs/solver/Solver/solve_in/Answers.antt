-- What shows the clauses of `Solver::solve_in` of `src/solver.rt`.
use Rattle.std.proofs.Common.{◌≡◌, ℕ, ◌<◌, Bool, true, ◌&&◌, nat_lt, ◌∙◌, sym, ap, subst, rules, map, length, arith}
use Rattle.std.proofs.lemmas.Bool.{and_parts, lt-ltb, ltb-true}
use Rattle.tn_base.specs.Sets.{has, set_of}
use Rattle.tn_base.proofs.SetLemmas.{has-set_of}
use Rattle.tn_model.specs.Prices.{price_at}
use Rattle.tn_network_laws.proofs.KeptLemmas.{one_cycle_for_each_trade}
use Rattle.tn_network_laws.proofs.EachLemmas.{meet_all}
use Rattle.tn_flow.proofs.solver.Solver.solve_in.Goals as goal

-- a member of the set of the first trades is one of them, and each of them is a member
all_inside : (all n count t : ℕ) → all ≡ set_of (λ k. true) n → n ≡ count → has all t ≡ true → t < count
all_inside all n count t is same there =
    let parts = and_parts (nat_lt t n) true (sym (has-set_of (λ k. true) n t) ∙ ap (λ (x : ℕ). has x t) (sym is)
    ∙ there) in
    subst (λ (m : ℕ). t < m) same (ltb-true t n parts.0)

all_members : (all n count t : ℕ) → all ≡ set_of (λ k. true) n → n ≡ count → t < count → has all t ≡ true
all_members all n count t is same below =
    ap (λ (x : ℕ). has x t) is ∙ has-set_of (λ k. true) n t
    ∙ ap (λ (b : Bool). b && true) (lt-ltb t n (omega (arith, below, same)))

pub solve_among-requires : goal.solve_among-requires
solve_among-requires g c = (
  search rules,
  (
    search rules,
    (
      c.requires.wide,
      (
        c.requires.made_for,
        (
          (λ t there. all_inside c.all_trades-all.result (length c.args.self.now.prices)
              (length c.args.market.now.trades) t c.all_trades-all.ensures c.requires.made_for there),
          c.requires.small,
        ),
      ),
    ),
  ),
)

pub returns-clause-equilibrium : goal.returns-clause-equilibrium
returns-clause-equilibrium g c =
    one_cycle_for_each_trade.all (map g.V.Valuation.firm c.args.market.now.firms) c.args.market.now.trades
    c.all_trades-all.result c.solve_among.new.self.on c.trades-trades.ensures.network
    (meet_all g.V.Valuation.firm c.args.market.now.firms g.met.V.Valuation.lawful)
    (λ t below. all_members c.all_trades-all.result (length c.args.self.now.prices) (length c.args.market.now.trades) t
    c.all_trades-all.ensures c.requires.made_for below)
    (price_at c.solve_among.new.self.prices) c.solve_among.ensures.solution.equilibrium

pub returns-clause-inside : goal.returns-clause-inside
returns-clause-inside g c =
    λ t there. all_inside c.all_trades-all.result (length c.args.self.now.prices) (length c.args.market.now.trades) t
    c.all_trades-all.ensures c.requires.made_for (c.solve_among.ensures.solution.inside t there)
