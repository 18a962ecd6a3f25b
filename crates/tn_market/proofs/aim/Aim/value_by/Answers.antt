-- What shows the clauses of `Aim::value_by` of `src/aim.rt`.
use Rattle.std.proofs.Common.{arith, rules, ap, Some, sym, ◌∙◌, ◌+ℤ◌, ◌*ℤ◌, ℤ}
use Rattle.std.proofs.lemmas.Int.{ints, to_z-of_z}
use mir.Syntax.{w128}
use mir.Val.{SFits}
use Rattle.tn_market.proofs.AscentLemmas.{aimed_some, gain_small, smaller}
use Rattle.tn_market.proofs.aim.Aim.value_by.Goals as goal

pub valued-requires-clause-small_worth : goal.valued-requires-clause-small_worth
valued-requires-clause-small_worth g c =
    let worth : SFits w128 c.in-Some.worth = search rules in
    let small = (g.met.V.Valuation.lawful c.args.self.now.firm.now).within c.args.x.now.bundle c.in-Some.worth
    (sym c.requires.worth ∙ c.in-Some.is) in
    simp to_z-of_z (smaller c.in-Some.worth _ _ c.args.self.now.fits.small_worths small)

pub valued-requires-clause-small_gain : goal.valued-requires-clause-small_gain
valued-requires-clause-small_gain g c =
    let aim = c.args.self.now in
    let small = gain_small aim.allowed aim.scale aim.gains.now _ (g.V.Valuation.firm aim.firm.now) c.args.x.now.bundle
    aim.fits in
    let is = c.requires.gain in
    let gain : SFits w128 c.args.x.now.gain = search rules in
    let low = small.low in
    let high = small.high in
    simp to_z-of_z (record { low = omega (arith, ints, is, low); high = omega (arith, ints, is, high) })

pub returns-in-Some-clause-value : goal.returns-in-Some-clause-value
returns-in-Some-clause-value g c =
    let is = aimed_some c.args.self.now.allowed c.args.self.now.scale c.args.self.now.gains.now
    (g.V.Valuation.firm c.args.self.now.firm.now) c.args.x.now.bundle
    c.in-Some.worth c.requires.within (sym c.requires.worth ∙ c.in-Some.is) in
    let worth : SFits w128 c.in-Some.worth = search rules in
    let scale : SFits w128 c.args.self.now.scale = search rules in
    let gain : SFits w128 c.args.x.now.gain = search rules in
    let value : SFits w128 c.valued.result = search rules in
    let computed = simp to_z-of_z at c.valued.ensures.value in
    simp to_z-of_z
    (ap (λ (z : ℤ). Some z) (computed ∙ ap (λ (z : ℤ). c.args.self.now.scale *ℤ c.in-Some.worth +ℤ z)
    c.requires.gain) ∙ sym is)
