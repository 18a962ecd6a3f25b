-- What shows the clauses of `Session::admit_only` of `src/session.rt`.
use Rattle.std.proofs.Common.{◌∙◌, ℕ, ◌<◌, length, sym, ap, rules, subst}
use Rattle.tn_base.specs.Sets.{has}
use Rattle.tn_session.specs.Standing.{Standing}
use Rattle.tn_session.proofs.StandingLemmas.{numbers_near}
use Rattle.tn_session.proofs.session.Session.admit_only.Goals as goal

pub move_all-requires : goal.move_all-requires
move_all-requires g c = (
  search rules,
  (
    search rules,
    (
      c.self.invariant.wide,
      (
        c.self.invariant.small,
        (
          c.self.invariant.under_way,
          numbers_near g.V.Valuation.firm g.V.Valuation.limit c.self.inside.market.now
              c.self.inside.rounds.finder.labels (λ v. (g.met.V.Valuation.lawful v).within)
              c.self.invariant.small c.self.invariant.under_way.labels.one_each c.self.invariant.settled,
        ),
      ),
    ),
  ),
)

pub settle_all-requires : goal.settle_all-requires
settle_all-requires g c = (
  search rules,
  (c.self.invariant.wide, (c.self.invariant.small, (c.move_all.ensures.under_way, c.move_all.ensures.near))),
)

pub returns-clause-admitted : goal.returns-clause-admitted
returns-clause-admitted g c = λ t inside.
    ap (λ (x : ℕ). has x t) c.settle_all.ensures.admitted
    ∙ c.move_all.ensures.admitted t
    (subst (λ (s : Standing g.row.V.Denot). t < length s.market.trades) (sym c.self.view_is) inside)
