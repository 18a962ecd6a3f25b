-- What shows the clauses of `may_leave` of `src/choosing.rt`.
use Rattle.std.proofs.Common.{◌∙◌, nat_eq, sym, ap, subst, ℤ, Some, None}
use Rattle.std.proofs.lemmas.Bool.{eqb-true, eq-eqb, true≢false}
use Rattle.std.proofs.lemmas.Int.{to_z-of_z}
use mir.Syntax.{w128}
use mir.Val.{to_z, of_z}
use Rattle.tn_market.proofs.AskLemmas.{as_is}
use Rattle.tn_cert.specs.Greatest.{IsGreatest}
use Rattle.tn_cert.proofs.LeaveLemmas.{decides_leave}
use Rattle.tn_cert.proofs.choosing.may_leave.Goals as goal

pub returns : goal.returns
returns g c = λ v is.
    let best = c.greatest_utility-best.result in
    let other = c.greatest_utility.result in
    let plain = to_z-of_z w128 c.args.scale c.ranges.scale in
    decides_leave c.args.market.now.trades c.args.scale c.args.f (g.V.Valuation.firm v) c.args.contracts.now c.args.k
    c.greatest_utility-best.result c.greatest_utility.result
    (nat_eq (of_z w128 c.greatest_utility-best.result) (of_z w128 c.greatest_utility.result))
    (subst (λ (scale : ℤ). IsGreatest c.args.market.now.trades scale c.args.f (g.V.Valuation.firm v)
    c.args.contracts.now None c.greatest_utility-best.result) plain (c.greatest_utility-best.ensures.greatest v is))
    (subst (λ (scale : ℤ). IsGreatest c.args.market.now.trades scale c.args.f (g.V.Valuation.firm v)
    c.args.contracts.now (Some c.args.k) c.greatest_utility.result) plain
    (c.greatest_utility.ensures.greatest v is))
    (λ e. sym (as_is best c.greatest_utility-best.ensures.size)
    ∙ ap (to_z w128) (eqb-true (of_z w128 best) (of_z w128 other) e) ∙ as_is other c.greatest_utility.ensures.size)
    (λ e same. true≢false (sym (eq-eqb (of_z w128 best) (of_z w128 other) (ap (of_z w128) same)) ∙ e))
