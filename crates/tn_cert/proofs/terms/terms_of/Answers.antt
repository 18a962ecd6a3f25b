-- What shows the clauses of `terms_of` of `src/terms.rt`.
use Rattle.std.proofs.Common.{rules, ◌≡◌, ◌∙◌, arith, refl, sym, ap, subst, ◌<◌, pos, ℕ, ◌+◌, ◌==◌}
use Rattle.std.proofs.lemmas.Int.{to_z-of_z}
use Rattle.std.proofs.lemmas.List.Elements.{All-replicate}
use Rattle.std.proofs.Math.ListN.{set}
use mir.Syntax.{w128}
use mir.Val.{SFits, of_z, to_z}
use Rattle.tn_base.specs.Sets.{toggle}
use Rattle.tn_market.specs.Widths.{most_own}
use Rattle.tn_cert.specs.Terms.{HasTerms}
use Rattle.tn_cert.proofs.TermLemmas.{no_terms, one_term, none_more, buyer_is}
use Rattle.tn_cert.proofs.terms.terms_of.Goals.{in-Some, in_default}
use Rattle.tn_cert.proofs.terms.terms_of.Goals as goal

pub loop-k-init : goal.loop-k-init
loop-k-init g c =
    no_terms c.args.market.now.trades c.args.contracts.now c.args.left_out c.args.f c.empty-free.result _
    c.empty-free.ensures refl (All-replicate (λ p. p ≡ pos 0) most_own (pos 0) refl)

pub loop-k-preserved : goal.loop-k-preserved
loop-k-preserved g c = elim c.match-best_term.branch [
  | in-Some w ↦
      let fits : SFits w128 w.in-Some.price = search rules in
      let few = c.requires.limits.few_own c.args.f c.firm.result.now c.firm.ensures in
      let inside : c.loop-k.k < most_own = omega (
        arith,
        c.loop-k-test.true,
        c.loop-k.auto.k-end,
        c.trades-k-end.ensures.count,
        few,
      ) in
      let plain : to_z w128 (of_z w128 w.in-Some.price) ≡ w.in-Some.price = to_z-of_z w128 w.in-Some.price fits in
      subst (λ (x : ℕ). HasTerms c.args.market.now.trades c.args.contracts.now c.args.left_out c.args.f (c.loop-k.k + 1)
      x c.match-best_term.prices)
      (sym (w.free-is ∙ w.toggle-free.ensures))
      (subst (HasTerms c.args.market.now.trades c.args.contracts.now c.args.left_out c.args.f (c.loop-k.k + 1)
      (toggle c.loop-k.free c.loop-k.k))
      (sym (w.prices-is ∙ ap (set c.loop-k.prices c.loop-k.k) plain))
      (one_term c.args.market.now.trades c.args.contracts.now c.args.left_out c.args.f c.loop-k.k c.own-t.result
      c.loop-k.free (c.ends.result.buyer == c.args.f) w.in-Some.price c.loop-k.prices c.loop-k.invariant inside
      c.own-t.ensures.trade (buyer_is c.args.market.now.trades c.args.f c.own-t.result c.ends.result c.ends.ensures)
      w.in-Some.ensures c.requires.small))
  | in_default w ↦
      subst (λ (x : ℕ). HasTerms c.args.market.now.trades c.args.contracts.now c.args.left_out c.args.f (c.loop-k.k + 1)
      x c.match-best_term.prices)
      (sym w.free-is)
      (subst (HasTerms c.args.market.now.trades c.args.contracts.now c.args.left_out c.args.f (c.loop-k.k + 1)
      c.loop-k.free)
      (sym w.prices-is)
      (none_more c.args.market.now.trades c.args.contracts.now c.args.left_out c.args.f c.loop-k.k c.own-t.result
      c.loop-k.free (c.ends.result.buyer == c.args.f) c.loop-k.prices c.loop-k.invariant
      c.own-t.ensures.trade w.in_default.ensures))
]
