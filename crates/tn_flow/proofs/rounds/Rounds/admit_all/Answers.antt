-- What shows the clauses of `Rounds::admit_all` of `src/rounds.rt`.
use Rattle.std.proofs.Common.{◌≡◌, ℕ, ◌+◌, ◌*◌, Bool, sym, ap, ◌∙◌, subst, arith, rules, length, map, if◌then◌else◌}
use Rattle.tn_base.specs.Sets.{toggle}
use Rattle.tn_cycle.specs.Answers.{AreNear}
use Rattle.tn_cycle.specs.Widths.{label_step}
use Rattle.tn_market.specs.Graph.{graph_worths}
use Rattle.tn_flow.specs.Underway.{AreAdmittedBelow}
use Rattle.tn_flow.proofs.RoundLemmas.{near-next, rounds_near, none_below, not_yet, one_more_below, all_below, worths_step, worths_all}
use Rattle.tn_flow.proofs.rounds.Rounds.admit_all.Goals as goal

pub loop-t-init : goal.loop-t-init
loop-t-init g c = record {
  under_way = c.begin.ensures.under_way;
  near = let e : 0 ≡ 0 * label_step (length c.args.market.now.trades + 1) = grind arith in
      subst (λ (n : ℕ). AreNear n c.begin.new.self.finder.labels) e c.begin.ensures.near;
  below = none_below c.args.admitted.now c.begin.new.self.allowed c.begin.ensures.none_admitted;
  asked = omega arith;
}

pub loop-t-preserved : goal.loop-t-preserved
loop-t-preserved g c = record {
  under_way = c.admit_if.ensures.under_way;
  near = near-next c.loop-t.t (label_step (length c.args.market.now.trades + 1)) c.admit_if.new.self.finder.labels
      (c.admit_if.ensures.near (c.loop-t.t * label_step (length c.args.market.now.trades + 1)) c.loop-t.invariant.near);
  below = subst (AreAdmittedBelow c.args.admitted.now (c.loop-t.t + 1))
      (sym (c.admit_if.ensures.admitted ∙ ap (λ (b : Bool). if b then toggle c.loop-t.self.allowed c.loop-t.t
      else c.loop-t.self.allowed) c.has.ensures))
      (one_more_below c.args.admitted.now c.loop-t.t c.loop-t.self.allowed c.loop-t.invariant.below);
  asked = worths_step c.args.steps.now c.loop-t.steps c.admit_if.new.steps
      (graph_worths (map g.V.Valuation.firm c.args.market.now.firms)) c.loop-t.t
      c.loop-t.invariant.asked c.admit_if.ensures.asked;
}

pub admit_if-requires : goal.admit_if-requires
admit_if-requires g c =
    let count = c.trades-t-end.ensures.count in
    let few = c.trades-t-end.ensures.few in
    let end = c.loop-t.auto.t-end in
    let test = c.loop-t-test.true in (
      search rules,
      (
        c.requires.wide,
        (
          c.requires.small,
          (
            c.loop-t.invariant.under_way,
            (
              omega (arith, count, end, test),
              (
                not_yet c.args.admitted.now c.loop-t.t c.loop-t.self.allowed c.loop-t.invariant.below,
                rounds_near c.loop-t.t (length c.args.market.now.trades) c.loop-t.self.finder.labels
                    (omega (arith, count, end, test)) (omega (arith, count, few)) c.loop-t.invariant.near,
              ),
            ),
          ),
        ),
      ),
    )

pub returns-clause-near : goal.returns-clause-near
returns-clause-near g c =
    let count = c.trades-t-end.ensures.count in
    let few = c.trades-t-end.ensures.few in
    let end = c.loop-t.auto.t-end in
    let test = c.loop-t-test.false in
    rounds_near c.loop-t.t (length c.args.market.now.trades) c.loop-t.self.finder.labels
    (omega (arith, count, end, test)) (omega (arith, count, few)) c.loop-t.invariant.near

pub returns-clause-admitted : goal.returns-clause-admitted
returns-clause-admitted g c =
    let count = c.trades-t-end.ensures.count in
    let end = c.loop-t.auto.t-end in
    let test = c.loop-t-test.false in
    all_below c.args.admitted.now c.loop-t.t c.loop-t.self.allowed (λ t there. let inside = c.requires.inside t there in
    omega (arith, inside, count, end, test)) c.loop-t.invariant.below

pub returns-clause-asked : goal.returns-clause-asked
returns-clause-asked g c =
    let count = c.trades-t-end.ensures.count in
    let end = c.loop-t.auto.t-end in
    let test = c.loop-t-test.false in
    worths_all c.args.steps.now c.loop-t.steps (graph_worths (map g.V.Valuation.firm c.args.market.now.firms))
    c.loop-t.t _ c.loop-t.invariant.asked (omega (arith, count, end, test))
