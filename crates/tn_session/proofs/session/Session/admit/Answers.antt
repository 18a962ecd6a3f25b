-- What shows the clauses of `Session::admit` of `src/session.rt`.
use Rattle.std.proofs.Common.{◌∙◌, ℕ, ◌==◌, ◌||◌, sym, ap, rules, subst, arith}
use Rattle.tn_base.specs.Sets.{has}
use Rattle.tn_cycle.specs.Widths.{most_label}
use Rattle.tn_flow.proofs.RoundLemmas.{near-wider}
use Rattle.tn_session.specs.Widths.{most_path}
use Rattle.tn_session.specs.Standing.{Standing, HoldsEquilibrium, HasSmallPrices}
use Rattle.tn_session.proofs.StandingLemmas.{laws_of, numbers_near, holds, small_prices, gained}
use Rattle.tn_session.proofs.session.Session.admit.Goals as goal

pub admit-requires : goal.admit-requires
admit-requires g c = (
  search rules,
  (
    c.self.invariant.wide,
    (
      c.self.invariant.fits_graph,
      (
        c.self.invariant.under_way,
        (
          search rules,
          (
            search rules,
            near-wider most_path most_label c.self.inside.rounds.finder.labels (omega arith)
                (numbers_near g.V.Valuation.firm g.V.Valuation.limit c.self.inside.market.now
                c.self.inside.rounds.finder.labels (λ v. (g.met.V.Valuation.lawful v).within)
                c.self.invariant.small c.self.invariant.under_way.labels.one_each c.self.invariant.settled),
          ),
        ),
      ),
    ),
  ),
)

pub settle-requires : goal.settle-requires
settle-requires g c = (
  search rules,
  (
    c.self.invariant.wide,
    (
      c.self.invariant.small,
      (
        c.admit.ensures.under_way,
        c.admit.ensures.near most_path
            (numbers_near g.V.Valuation.firm g.V.Valuation.limit c.self.inside.market.now
            c.self.inside.rounds.finder.labels (λ v. (g.met.V.Valuation.lawful v).within)
            c.self.invariant.small c.self.invariant.under_way.labels.one_each c.self.invariant.settled),
      ),
    ),
  ),
)

pub returns-then-has-clause-equilibrium : goal.returns-then-has-clause-equilibrium
returns-then-has-clause-equilibrium g c = subst (HoldsEquilibrium g.V.Valuation.firm) c.self.view_is
    (holds g.V.Valuation.firm g.V.Valuation.limit c.self.inside.market.now c.self.inside.rounds.graph
    c.self.inside.rounds.finder c.self.inside.rounds.allowed c.self.inside.rounds.on
    (laws_of g.V.Valuation.firm g.V.Valuation.limit c.self.inside.market.now c.self.invariant.network
    g.met.V.Valuation.lawful)
    c.self.invariant.under_way)

pub returns-then-has-clause-prices : goal.returns-then-has-clause-prices
returns-then-has-clause-prices g c = subst (HasSmallPrices g.V.Valuation.firm) c.self.view_is
    (small_prices g.V.Valuation.firm c.self.inside.market.now c.self.inside.rounds.allowed c.self.inside.rounds.on
    c.self.inside.rounds.finder.labels c.self.invariant.settled)

pub returns-clause-admitted : goal.returns-clause-admitted
returns-clause-admitted g c k =
    ap (λ (x : ℕ). has x k) (c.settle.ensures.admitted ∙ c.admit.ensures.admitted)
    ∙ gained c.self.inside.rounds.allowed c.args.t k (sym c.has.ensures ∙ c.if-has.false)
    ∙ ap (λ (s : Standing g.row.V.Denot). k == c.args.t || has s.admitted k) c.self.view_is
