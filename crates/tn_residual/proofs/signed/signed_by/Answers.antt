-- What shows the clauses of `signed_by` of `src/signed.rt`.
use Rattle.std.proofs.Common.{rules, ◌≡◌, ◌∙◌, arith, refl, sym, ap, subst, ◌<◌, pos, ℕ, ◌+◌}
use Rattle.std.proofs.lemmas.Int.{to_z-of_z}
use Rattle.std.proofs.lemmas.List.Elements.{All-replicate}
use Rattle.std.proofs.Math.ListN.{set}
use mir.Syntax.{w128}
use mir.Val.{SFits, of_z, to_z}
use Rattle.tn_base.specs.Sets.{toggle}
use Rattle.tn_market.specs.Widths.{most_own}
use Rattle.tn_residual.specs.Held.{HoldsSigned}
use Rattle.tn_residual.proofs.HeldLemmas.{none_held, one_held, none_more}
use Rattle.tn_residual.proofs.signed.signed_by.Goals.{in-Some, in_default}
use Rattle.tn_residual.proofs.signed.signed_by.Goals as goal

pub loop-k-init : goal.loop-k-init
loop-k-init g c =
    none_held c.args.market.now.trades c.args.outcome.now.contracts c.args.f c.empty-signed.result _
    c.empty-signed.ensures refl (All-replicate (λ p. p ≡ pos 0) most_own (pos 0) refl)

pub loop-k-preserved : goal.loop-k-preserved
loop-k-preserved g c = elim c.match-contract_price.branch [
  | in-Some w ↦
      let fits : SFits w128 w.in-Some.price = search rules in
      let few = c.requires.limits.few_own c.args.f c.firm.result.now c.firm.ensures in
      let inside : c.loop-k.k < most_own = omega (
        arith,
        c.loop-k-test.true,
        c.loop-k.auto.k-end,
        c.trades-k-end.ensures.count,
        few,
      ) in
      let plain : to_z w128 (of_z w128 w.in-Some.price) ≡ w.in-Some.price = to_z-of_z w128 w.in-Some.price fits in
      subst (λ (x : ℕ). HoldsSigned c.args.market.now.trades c.args.outcome.now.contracts c.args.f (c.loop-k.k + 1) x
      c.match-contract_price.prices)
      (sym (w.signed-is ∙ w.toggle-signed.ensures))
      (subst (HoldsSigned c.args.market.now.trades c.args.outcome.now.contracts c.args.f (c.loop-k.k + 1)
      (toggle c.loop-k.signed c.loop-k.k))
      (sym (w.prices-is ∙ ap (set c.loop-k.prices c.loop-k.k) plain))
      (one_held c.args.market.now.trades c.args.outcome.now.contracts c.args.f c.loop-k.k c.own.result c.loop-k.signed
      w.in-Some.price c.loop-k.prices c.loop-k.invariant inside
      c.own.ensures.trade c.own.ensures.inside (sym c.contract_price.ensures ∙ w.in-Some.is)
      c.requires.outcome.contracts.small))
  | in_default w ↦
      subst (λ (x : ℕ). HoldsSigned c.args.market.now.trades c.args.outcome.now.contracts c.args.f (c.loop-k.k + 1) x
      c.match-contract_price.prices)
      (sym w.signed-is)
      (subst (HoldsSigned c.args.market.now.trades c.args.outcome.now.contracts c.args.f (c.loop-k.k + 1)
      c.loop-k.signed)
      (sym w.prices-is)
      (none_more c.args.market.now.trades c.args.outcome.now.contracts c.args.f c.loop-k.k c.own.result c.loop-k.signed
      c.loop-k.prices c.loop-k.invariant
      c.own.ensures.trade c.own.ensures.inside (sym c.contract_price.ensures ∙ w.in_default.is)))
]
