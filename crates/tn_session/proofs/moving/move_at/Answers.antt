-- What shows the clauses of `move_at` of `src/moving.rt`.
use Rattle.std.proofs.Common.{◌≡◌, ◌∙◌, Bool, false, rules, subst, sym}
use mathlib.Core.Bool.{beq}
use Rattle.tn_session.proofs.StandingLemmas.{firms_small, out_where, toggled_elsewhere, toggled_here}
use Rattle.tn_session.proofs.moving.move_at.Goals as goal

pub admit-requires : goal.admit-requires
admit-requires g c = (
  search rules,
  (
    c.requires.wide,
    (
      firms_small g.V.Valuation.limit c.args.market.now c.requires.small,
      (
        c.requires.under_way,
        (
          c.requires.trade,
          (
            sym c.has.ensures ∙ out_where c.has.result c.args.wanted c.if-has-wanted.false c.if-wanted.true,
            c.requires.near,
          ),
        ),
      ),
    ),
  ),
)

pub returns-then-wanted-clause-here : goal.returns-then-wanted-clause-here
returns-then-wanted-clause-here g c =
    toggled_here c.args.rounds.now.allowed c.args.t c.admit.new.self.allowed c.args.wanted
    (subst (λ (b : Bool). beq b c.args.wanted ≡ false) c.has.ensures c.if-has-wanted.false) c.admit.ensures.admitted

pub returns-then-wanted-clause-elsewhere : goal.returns-then-wanted-clause-elsewhere
returns-then-wanted-clause-elsewhere g c =
    toggled_elsewhere c.args.rounds.now.allowed c.args.t c.admit.new.self.allowed c.admit.ensures.admitted

pub returns-else-wanted-clause-here : goal.returns-else-wanted-clause-here
returns-else-wanted-clause-here g c =
    toggled_here c.args.rounds.now.allowed c.args.t c.bar_at.new.rounds.allowed c.args.wanted
    (subst (λ (b : Bool). beq b c.args.wanted ≡ false) c.has.ensures c.if-has-wanted.false) c.bar_at.ensures.barred

pub returns-else-wanted-clause-elsewhere : goal.returns-else-wanted-clause-elsewhere
returns-else-wanted-clause-elsewhere g c =
    toggled_elsewhere c.args.rounds.now.allowed c.args.t c.bar_at.new.rounds.allowed c.bar_at.ensures.barred
