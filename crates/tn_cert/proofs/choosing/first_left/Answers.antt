-- What shows the clauses of `first_left` of `src/choosing.rt`.
use Rattle.std.proofs.Common.{◌∙◌, ◌+◌, sym, ap, subst, Some, ℕ}
use mir.Syntax.{w128}
use mir.Val.{to_z, of_z}
use Rattle.tn_cert.specs.Greatest.{DecidesOwn}
use Rattle.tn_cert.proofs.LeaveLemmas.{FindsLeaving, leaving_more, leaving_same}
use Rattle.tn_cert.proofs.choosing.first_left.Goals.{then-leaves, else-leaves}
use Rattle.tn_cert.proofs.choosing.first_left.Goals as goal

pub loop-k-preserved : goal.loop-k-preserved
loop-k-preserved g c = λ v is.
    let scale = to_z w128 (of_z w128 c.args.scale) in
    elim c.if-leaves.branch [
      | then-leaves w ↦
          subst (FindsLeaving c.args.market.now.trades scale c.args.f (g.V.Valuation.firm v) c.args.contracts.now
          (c.loop-k.k + 1))
          (sym (w.first-is ∙ ap (λ (t : ℕ). Some t) w.earlier.ensures))
          (leaving_more c.args.market.now.trades scale c.args.f (g.V.Valuation.firm v) c.args.contracts.now c.loop-k.k
          c.loop-k.first w.at.result (c.loop-k.invariant v is) w.at.ensures
          (subst (DecidesOwn c.args.market.now.trades scale c.args.f (g.V.Valuation.firm v) c.args.contracts.now
          c.loop-k.k) w.if-leaves.true (c.leaves.ensures v is)))
      | else-leaves w ↦
          subst (FindsLeaving c.args.market.now.trades scale c.args.f (g.V.Valuation.firm v) c.args.contracts.now
          (c.loop-k.k + 1)) (sym w.first-is)
          (leaving_same c.args.market.now.trades scale c.args.f (g.V.Valuation.firm v) c.args.contracts.now c.loop-k.k
          c.loop-k.first (c.loop-k.invariant v is)
          (subst (DecidesOwn c.args.market.now.trades scale c.args.f (g.V.Valuation.firm v) c.args.contracts.now
          c.loop-k.k) w.if-leaves.false (c.leaves.ensures v is)))
    ]
