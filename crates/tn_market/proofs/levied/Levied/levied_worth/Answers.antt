-- What shows the clauses of `Levied::levied_worth` of `src/levied.rt`.
use Rattle.std.specs.Int.RustNames.{unsigned_abs}
use Rattle.std.proofs.Common.{rules, ap, ◌≡◌, ◌∙◌, sym, Some, ℤ}
use Rattle.std.proofs.lemmas.Int.{to_z-of_z}
use mir.Syntax.{w128}
use mir.Val.{SFits}
use Rattle.tn_base.specs.Sets.{meet, size}
use Rattle.tn_market.proofs.LevyLemmas.{levied_is, scaled_within, taxes_within}
use Rattle.tn_market.proofs.levied.Levied.levied_worth.Goals as goal

pub after_tax-requires-clause-worth : goal.after_tax-requires-clause-worth
after_tax-requires-clause-worth g c =
    let worth : SFits w128 c.in-Some.worth = search rules in
    let scale : SFits w128 c.args.self.now.scale = search rules in
    let small = c.args.self.now.worths c.args.x c.in-Some.worth (sym c.requires.worth ∙ c.in-Some.is) in
    simp to_z-of_z (scaled_within c.args.self.now.scale c.args.self.now.tax c.in-Some.worth
    (unsigned_abs c.args.self.now.worth) c.args.self.now.levy small)

pub after_tax-requires-clause-taxes : goal.after_tax-requires-clause-taxes
after_tax-requires-clause-taxes g c =
    let tax : SFits w128 c.args.self.now.tax = search rules in
    simp to_z-of_z (taxes_within c.args.self.now.scale c.args.self.now.tax
    (unsigned_abs c.args.self.now.worth) c.count.result c.args.self.now.levy c.count.ensures.few)

pub returns-in-Some : goal.returns-in-Some
returns-in-Some g c =
    let inner = c.args.self.now.inner.now in
    let worth : SFits w128 c.in-Some.worth = search rules in
    let scale : SFits w128 c.args.self.now.scale = search rules in
    let tax : SFits w128 c.args.self.now.tax = search rules in
    let taxed : SFits w128 c.after_tax.result = search rules in
    let computed = simp to_z-of_z at c.after_tax.ensures in
    let counted : c.count.result ≡ size (meet c.args.x c.args.self.now.taxed) =
    c.count.ensures.members ∙ ap size (c.meet-taxed.ensures ∙ ap (meet c.args.x) c.from_bits.ensures) in
    let is = levied_is c.args.self.now.scale c.args.self.now.tax c.args.self.now.taxed (g.V.Valuation.firm inner)
    c.args.x c.count.result c.in-Some.worth c.requires.own
    (sym c.requires.worth ∙ c.in-Some.is) counted in
    simp to_z-of_z (ap (λ (z : ℤ). Some z) computed ∙ sym is)
