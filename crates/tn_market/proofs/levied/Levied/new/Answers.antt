-- What shows the clauses of `Levied::new` of `src/levied.rt`.
use Rattle.std.proofs.Common.{◌≡◌, arith, pos, sym, subst, ℤ, ◌∙◌, ap}
use Rattle.std.specs.Int.RustNames.{unsigned_abs}
use Rattle.std.proofs.lemmas.Int.{ints}
use mir.Syntax.{w128}
use mir.Val.{of_z, to_z}
use Rattle.tn_base.specs.Arcs.{IsAtMost}
use Rattle.tn_market.proofs.levied.Levied.new.Goals as goal

pub within-requires-clause-worths : goal.within-requires-clause-worths
within-requires-clause-worths g c x a is =
    let limit = g.V.Valuation.limit c.args.inner.now in
    let few = c.bound.ensures.small in
    let held : to_z w128 (of_z w128 (pos limit)) ≡ pos limit = omega (arith, ints, few) in
    let same : to_z w128 (of_z w128 c.bound.result) ≡ pos limit =
    ap (λ (z : ℤ). to_z w128 (of_z w128 z)) c.bound.ensures.size ∙ held in
    subst (λ (z : ℤ). IsAtMost a (unsigned_abs z)) (sym same) ((g.met.V.Valuation.lawful c.args.inner.now).within x a is)
