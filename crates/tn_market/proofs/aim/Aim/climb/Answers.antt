-- What shows the clauses of `Aim::climb` of `src/aim.rt`.
use Rattle.std.proofs.Common.{arith, rules}
use Rattle.std.proofs.lemmas.Int.{ints, to_z-of_z}
use mir.Syntax.{w128}
use mir.Val.{SFits}
use Rattle.tn_market.specs.Valued.{meets_exchange}
use Rattle.tn_market.specs.Ascent.{aimed}
use Rattle.tn_market.proofs.AscentLemmas.{aimed_exchanges, settled, le_from_test, lt_from_test, is_left, valued_within, at_each_two}
use Rattle.tn_market.proofs.aim.Aim.climb.Goals as goal

pub step-next-requires : goal.step-next-requires
step-next-requires g c =
    let aim = c.args.self.now in
    record {
      within = valued_within aim.allowed aim.scale aim.gains.now (g.V.Valuation.firm aim.firm.now)
          c.loop-found.found.bundle c.loop-found.found.value c.loop-found.invariant.valued;
    }

pub loop-found-preserved : goal.loop-found-preserved
loop-found-preserved g c =
    let aim = c.args.self.now in
    let values = (aimed aim.allowed aim.scale aim.gains.now (g.V.Valuation.firm aim.firm.now)).worth in
    let after : SFits w128 c.step-next.result.value = search rules in
    let before : SFits w128 c.loop-found.found.value = search rules in
    let gain = simp to_z-of_z at c.if-next-found.false in
    let left = is_left values c.args.from c.loop-found.found c.step-next.result c.loop-found.invariant.valued
    c.step-next.ensures.tried.no_worse
    (lt_from_test c.step-next.result.value c.loop-found.found.value gain) c.loop-found.invariant.kept in
    record {
      valued = c.step-next.ensures.tried.no_worse.valued c.loop-found.invariant.valued;
      kept = λ value best. absurd (left value best);
      asked = λ value best. absurd (left value best);
    }

pub returns-then-next-found-clause-best : goal.returns-then-next-found-clause-best
returns-then-next-found-clause-best g c =
    let aim = c.args.self.now in
    let firm = g.V.Valuation.firm aim.firm.now in
    let from_one = aim.fits.from_one in
    let after : SFits w128 c.step-next.result.value = search rules in
    let before : SFits w128 c.loop-found.found.value = search rules in
    let no_gain = simp to_z-of_z at c.if-next-found.true in
    let meets = meets_exchange firm (g.met.V.Valuation.lawful aim.firm.now).exchange_one
    (g.met.V.Valuation.lawful aim.firm.now).exchange_net in
    let laws = aimed_exchanges aim.allowed aim.scale aim.gains.now firm (omega (arith, ints, from_one))
    (g.met.V.Valuation.lawful aim.firm.now).own_bundles meets in
    settled (aimed aim.allowed aim.scale aim.gains.now firm) c.loop-found.found c.step-next.result laws
    c.loop-found.invariant.valued c.step-next.ensures.tried
    (le_from_test c.step-next.result.value c.loop-found.found.value no_gain)

pub returns-then-next-found-clause-asked : goal.returns-then-next-found-clause-asked
returns-then-next-found-clause-asked g c = λ value best.
    let before = c.loop-found.invariant.asked value best in
    let step = c.step-next.ensures.asked in
    at_each_two (g.V.Valuation.firm c.args.self.now.firm.now).count c.args.steps.now c.loop-found.steps
    c.step-next.new.steps before step
