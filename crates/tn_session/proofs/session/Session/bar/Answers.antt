-- What shows the clauses of `Session::bar` of `src/session.rt`.
use Rattle.std.proofs.Common.{◌∙◌, ℕ, not, ◌==◌, ◌&&◌, sym, ap, rules, subst, arith}
use Rattle.tn_base.specs.Sets.{has}
use Rattle.tn_cycle.specs.Widths.{most_label}
use Rattle.tn_flow.proofs.RoundLemmas.{near-wider}
use Rattle.tn_session.specs.Widths.{most_path}
use Rattle.tn_session.specs.Standing.{Standing, HoldsEquilibrium, HasSmallPrices}
use Rattle.tn_session.proofs.StandingLemmas.{laws_of, numbers_near, holds, small_prices, barred_off, lost}
use Rattle.tn_session.proofs.session.Session.bar.Goals as goal

pub switch_off-requires : goal.switch_off-requires
switch_off-requires g c = (
  search rules,
  (
    c.self.invariant.wide,
    (
      c.self.invariant.small,
      (
        c.self.invariant.under_way,
        (
          search rules,
          (
            search rules,
            (
              search rules,
              near-wider most_path most_label c.self.inside.rounds.finder.labels (omega arith)
                  (numbers_near g.V.Valuation.firm g.V.Valuation.limit c.self.inside.market.now
                  c.self.inside.rounds.finder.labels (λ v. (g.met.V.Valuation.lawful v).within)
                  c.self.invariant.small c.self.invariant.under_way.labels.one_each c.self.invariant.settled),
            ),
          ),
        ),
      ),
    ),
  ),
)

pub settle-requires : goal.settle-requires
settle-requires g c = (
  search rules,
  (
    c.self.invariant.wide,
    (
      c.self.invariant.small,
      (
        c.switch_off.ensures.under_way,
        c.switch_off.ensures.near most_path
            (numbers_near g.V.Valuation.firm g.V.Valuation.limit c.self.inside.market.now
            c.self.inside.rounds.finder.labels (λ v. (g.met.V.Valuation.lawful v).within)
            c.self.invariant.small c.self.invariant.under_way.labels.one_each c.self.invariant.settled),
      ),
    ),
  ),
)

pub returns-then-not-has-clause-equilibrium : goal.returns-then-not-has-clause-equilibrium
returns-then-not-has-clause-equilibrium g c = subst (HoldsEquilibrium g.V.Valuation.firm) c.self.view_is
    (holds g.V.Valuation.firm g.V.Valuation.limit c.self.inside.market.now c.self.inside.rounds.graph
    c.self.inside.rounds.finder c.self.inside.rounds.allowed c.self.inside.rounds.on
    (laws_of g.V.Valuation.firm g.V.Valuation.limit c.self.inside.market.now c.self.invariant.network
    g.met.V.Valuation.lawful)
    c.self.invariant.under_way)

pub returns-then-not-has-clause-prices : goal.returns-then-not-has-clause-prices
returns-then-not-has-clause-prices g c = subst (HasSmallPrices g.V.Valuation.firm) c.self.view_is
    (small_prices g.V.Valuation.firm c.self.inside.market.now c.self.inside.rounds.allowed c.self.inside.rounds.on
    c.self.inside.rounds.finder.labels c.self.invariant.settled)

pub invariant_of-self-else-has : goal.invariant_of-self-else-has
invariant_of-self-else-has g c =
    barred_off g.V.Valuation.firm g.V.Valuation.limit g.row.W c.self.inside.market.now c.self.inside.rounds.graph
    c.self.inside.rounds.finder c.self.inside.rounds.allowed c.self.inside.rounds.on c.args.t c.toggle.new.self
    c.self.invariant c.toggle.ensures.toggled (sym c.has.ensures ∙ c.if-not-has.false) (sym c.has-2.ensures
    ∙ c.if-has.false)

pub returns-then-has-clause-admitted : goal.returns-then-has-clause-admitted
returns-then-has-clause-admitted g c k =
    ap (λ (x : ℕ). has x k) (c.settle.ensures.admitted ∙ c.switch_off.ensures.barred)
    ∙ lost c.self.inside.rounds.allowed c.args.t k (sym c.has.ensures ∙ c.if-not-has.false)
    ∙ ap (λ (s : Standing g.row.V.Denot). not (k == c.args.t) && has s.admitted k) c.self.view_is

pub returns-else-has-clause-admitted : goal.returns-else-has-clause-admitted
returns-else-has-clause-admitted g c k =
    ap (λ (x : ℕ). has x k) c.toggle.ensures.toggled ∙ lost c.self.inside.rounds.allowed c.args.t k (sym c.has.ensures
    ∙ c.if-not-has.false)
    ∙ ap (λ (s : Standing g.row.V.Denot). not (k == c.args.t) && has s.admitted k) c.self.view_is

pub returns-else-has-clause-equilibrium : goal.returns-else-has-clause-equilibrium
returns-else-has-clause-equilibrium g c =
    let session = invariant_of-self-else-has g c in
    holds g.V.Valuation.firm g.V.Valuation.limit c.self.inside.market.now c.self.inside.rounds.graph
    c.self.inside.rounds.finder c.toggle.new.self c.self.inside.rounds.on
    (laws_of g.V.Valuation.firm g.V.Valuation.limit c.self.inside.market.now c.self.invariant.network
    g.met.V.Valuation.lawful)
    session.under_way

pub returns-else-has-clause-prices : goal.returns-else-has-clause-prices
returns-else-has-clause-prices g c =
    small_prices g.V.Valuation.firm c.self.inside.market.now c.toggle.new.self c.self.inside.rounds.on
    c.self.inside.rounds.finder.labels (invariant_of-self-else-has g c).settled
