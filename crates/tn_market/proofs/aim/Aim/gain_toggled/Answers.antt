-- What shows the clauses of `Aim::gain_toggled` of `src/aim.rt`.
use Rattle.std.proofs.Common.{rules, sym, ◌∙◌, ◌+ℤ◌, ◌-ℤ◌}
use Rattle.std.proofs.lemmas.Int.{to_z-of_z}
use mir.Syntax.{w128}
use mir.Val.{SFits}
use Rattle.tn_model.specs.Prices.{price_at}
use Rattle.tn_market.proofs.AscentLemmas.{gain_out, gain_in}
use Rattle.tn_market.proofs.aim.Aim.gain_toggled.Goals as goal

pub overflow_sub-result : goal.overflow_sub-result
overflow_sub-result g c =
    let aim = c.args.self.now in
    let toggled = gain_out aim.allowed aim.scale aim.gains.now _ (g.V.Valuation.firm aim.firm.now) aim.fits c.args.x
    c.args.k c.args.gain c.requires.position c.requires.gain (sym c.has.ensures ∙ c.if-has.true) in
    let first : SFits w128 c.args.gain = search rules in
    let second : SFits w128 (price_at aim.gains.now c.args.k) = search rules in
    simp to_z-of_z toggled.fits

pub overflow_add-result : goal.overflow_add-result
overflow_add-result g c =
    let aim = c.args.self.now in
    let toggled = gain_in aim.allowed aim.scale aim.gains.now _ (g.V.Valuation.firm aim.firm.now) aim.fits c.args.x
    c.args.k c.args.gain c.requires.position c.requires.gain (sym c.has.ensures ∙ c.if-has.false) in
    let first : SFits w128 c.args.gain = search rules in
    let second : SFits w128 (price_at aim.gains.now c.args.k) = search rules in
    simp to_z-of_z toggled.fits

pub returns-then-has : goal.returns-then-has
returns-then-has g c =
    let aim = c.args.self.now in
    let toggled = gain_out aim.allowed aim.scale aim.gains.now _ (g.V.Valuation.firm aim.firm.now) aim.fits c.args.x
    c.args.k c.args.gain c.requires.position c.requires.gain (sym c.has.ensures ∙ c.if-has.true) in
    let first : SFits w128 c.args.gain = search rules in
    let second : SFits w128 (price_at aim.gains.now c.args.k) = search rules in
    let both : SFits w128 (c.args.gain -ℤ price_at aim.gains.now c.args.k) = toggled.fits in
    simp to_z-of_z toggled.sum

pub returns-else-has : goal.returns-else-has
returns-else-has g c =
    let aim = c.args.self.now in
    let toggled = gain_in aim.allowed aim.scale aim.gains.now _ (g.V.Valuation.firm aim.firm.now) aim.fits c.args.x
    c.args.k c.args.gain c.requires.position c.requires.gain (sym c.has.ensures ∙ c.if-has.false) in
    let first : SFits w128 c.args.gain = search rules in
    let second : SFits w128 (price_at aim.gains.now c.args.k) = search rules in
    let both : SFits w128 (c.args.gain +ℤ price_at aim.gains.now c.args.k) = toggled.fits in
    simp to_z-of_z toggled.sum
