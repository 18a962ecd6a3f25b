-- What shows the clauses of `move_all` of `src/moving.rt`.
use Rattle.std.proofs.Common.{◌≡◌, ℕ, ◌+◌, ◌*◌, subst, arith, rules, length, map}
use Rattle.tn_cycle.specs.Answers.{AreNear}
use Rattle.tn_cycle.specs.Widths.{label_step}
use Rattle.tn_market.specs.Graph.{graph_worths}
use Rattle.tn_flow.proofs.RoundLemmas.{worths_step, worths_all}
use Rattle.tn_session.specs.Widths.{most_path}
use Rattle.tn_session.proofs.StandingLemmas.{moved_near, moved_next, one_moved}
use Rattle.tn_session.proofs.moving.move_all.Goals as goal

pub loop-t-init : goal.loop-t-init
loop-t-init g c = record {
  under_way = c.requires.under_way;
  near = let e : most_path ≡ most_path + 0 * label_step (length c.args.market.now.trades + 1) = grind arith in
      subst (λ (n : ℕ). AreNear n c.args.rounds.now.finder.labels) e c.requires.near;
  below = λ k below. absurd (omega (arith, below));
  asked = omega arith;
}

pub loop-t-preserved : goal.loop-t-preserved
loop-t-preserved g c = record {
  under_way = c.move_at.ensures.under_way;
  near = moved_next most_path c.loop-t.t (label_step (length c.args.market.now.trades + 1))
      c.move_at.new.rounds.finder.labels
      (c.move_at.ensures.near (most_path + c.loop-t.t * label_step (length c.args.market.now.trades + 1))
      c.loop-t.invariant.near);
  below = one_moved c.args.wanted.now c.loop-t.t c.loop-t.rounds.allowed c.move_at.new.rounds.allowed c.has.result
      c.loop-t.invariant.below c.has.ensures c.move_at.ensures.here c.move_at.ensures.elsewhere;
  asked = worths_step c.args.steps.now c.loop-t.steps c.move_at.new.steps
      (graph_worths (map g.V.Valuation.firm c.args.market.now.firms)) c.loop-t.t
      c.loop-t.invariant.asked c.move_at.ensures.asked;
}

pub move_at-requires : goal.move_at-requires
move_at-requires g c =
    let count = c.trades-t-end.ensures.count in
    let few = c.trades-t-end.ensures.few in
    let end = c.loop-t.auto.t-end in
    let test = c.loop-t-test.true in (
      search rules,
      (
        c.requires.wide,
        (
          c.requires.small,
          (
            c.loop-t.invariant.under_way,
            (
              omega (arith, count, end, test),
              moved_near c.loop-t.t (length c.args.market.now.trades) c.loop-t.rounds.finder.labels
                  (omega (arith, count, end, test)) (omega (arith, count, few)) c.loop-t.invariant.near,
            ),
          ),
        ),
      ),
    )

pub returns-clause-near : goal.returns-clause-near
returns-clause-near g c =
    let count = c.trades-t-end.ensures.count in
    let few = c.trades-t-end.ensures.few in
    let end = c.loop-t.auto.t-end in
    let test = c.loop-t-test.false in
    moved_near c.loop-t.t (length c.args.market.now.trades) c.loop-t.rounds.finder.labels
    (omega (arith, count, end, test)) (omega (arith, count, few)) c.loop-t.invariant.near

pub returns-clause-admitted : goal.returns-clause-admitted
returns-clause-admitted g c = λ t inside.
    let count = c.trades-t-end.ensures.count in
    let end = c.loop-t.auto.t-end in
    let test = c.loop-t-test.false in
    c.loop-t.invariant.below t (omega (arith, inside, count, end, test))

pub returns-clause-asked : goal.returns-clause-asked
returns-clause-asked g c =
    let count = c.trades-t-end.ensures.count in
    let end = c.loop-t.auto.t-end in
    let test = c.loop-t-test.false in
    worths_all c.args.steps.now c.loop-t.steps (graph_worths (map g.V.Valuation.firm c.args.market.now.firms))
    c.loop-t.t _ c.loop-t.invariant.asked (omega (arith, count, end, test))
