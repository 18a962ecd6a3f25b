-- What shows the clauses of `Aim::gains_nothing_at` of `src/aim.rt`.
use Rattle.std.proofs.Common.{arith, rules, sym, ◌∙◌}
use Rattle.std.proofs.lemmas.Int.{ints, to_z-of_z}
use Rattle.std.proofs.lemmas.Option.{same_Some}
use mir.Syntax.{w128}
use mir.Val.{SFits}
use Rattle.tn_market.specs.Valued.{meets_exchange}
use Rattle.tn_market.specs.Ascent.{aimed}
use Rattle.tn_market.proofs.AscentLemmas.{aimed_exchanges, settled, le_from_test, lt_from_test, valued_within}
use Rattle.tn_market.proofs.aim.Aim.gains_nothing_at.Goals as goal

pub step-requires : goal.step-requires
step-requires g c =
    let aim = c.args.self.now in
    record {
      within = valued_within aim.allowed aim.scale aim.gains.now (g.V.Valuation.firm aim.firm.now)
          c.args.own.now.bundle c.args.own.now.value c.requires.valued;
    }

pub returns-clause-best : goal.returns-clause-best
returns-clause-best g c = λ no_gain.
    let aim = c.args.self.now in
    let firm = g.V.Valuation.firm aim.firm.now in
    let from_one = aim.fits.from_one in
    let after : SFits w128 c.step.result.value = search rules in
    let before : SFits w128 c.args.own.now.value = search rules in
    let plain = simp to_z-of_z at no_gain in
    let meets = meets_exchange firm (g.met.V.Valuation.lawful aim.firm.now).exchange_one
    (g.met.V.Valuation.lawful aim.firm.now).exchange_net in
    let laws = aimed_exchanges aim.allowed aim.scale aim.gains.now firm (omega (arith, ints, from_one))
    (g.met.V.Valuation.lawful aim.firm.now).own_bundles meets in
    settled (aimed aim.allowed aim.scale aim.gains.now firm) c.args.own.now c.step.result laws c.requires.valued
    c.step.ensures.tried (le_from_test c.step.result.value c.args.own.now.value plain)

pub returns-clause-bettered : goal.returns-clause-bettered
returns-clause-bettered g c = λ value gains best.
    let aim = c.args.self.now in
    let values = (aimed aim.allowed aim.scale aim.gains.now (g.V.Valuation.firm aim.firm.now)).worth in
    let after : SFits w128 c.step.result.value = search rules in
    let before : SFits w128 c.args.own.now.value = search rules in
    let plain = simp to_z-of_z at gains in
    let more = lt_from_test c.step.result.value c.args.own.now.value plain in
    let same = same_Some c.args.own.now.value value (sym c.requires.valued ∙ best.is) in
    let most = best.most c.step.result.bundle c.step.result.value (c.step.ensures.tried.no_worse.valued
    c.requires.valued) in
    omega (arith, ints, same, most, more)
