-- What shows the clauses of `PartyValuation::value` of `src/party.rt`.
use Rattle.std.proofs.Common.{rules, ◌≡◌, ◌^◌, ◌<◌, ℤ, Some, sym, ap, ◌∙◌, subst}
use Rattle.std.proofs.lemmas.Int.{to_z-of_z}
use mir.Syntax.{w128}
use mir.Val.{SFits}
use Rattle.tn_base.specs.Firm.{Firm}
use Rattle.tn_market.specs.Outside.{outside}
use Rattle.tn_market.specs.OutsideLemmas.{outside-worth}
use Rattle.tn_market.specs.Parties.{party_firm}
use Rattle.tn_market.proofs.party.PartyValuation.value.Goals as goal

pub returns-in-Outside-clause-worth : goal.returns-in-Outside-clause-worth
returns-in-Outside-clause-worth g c =
    let price = c.in-Outside.outside.price in
    let same : party_firm g.V.Valuation c.args.self.now ≡ outside c.in-Outside.outside.price =
    ap (party_firm g.V.Valuation) c.in-Outside.is in
    let below : c.args.x < 4 = subst (λ (z : Firm). c.args.x < 2 ^ z.count) same c.requires in
    let fits : SFits w128 c.value-in-Outside.result = search rules in
    simp to_z-of_z (ap (λ (z : ℤ). Some z) c.value-in-Outside.ensures
    ∙ sym (ap (λ (z : Firm). z.worth c.args.x) same ∙ outside-worth price c.args.x below))
