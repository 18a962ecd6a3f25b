-- What shows the clauses of `are_small` of `src/guessing.rt`.
use Rattle.std.proofs.Common.{ℕ, ℤ, arith, rules, get_or, inl, inr, sym, subst}
use Rattle.std.proofs.lemmas.Bool.{cases_eq}
use Rattle.std.proofs.lemmas.Int.{to_z-of_z}
use Rattle.std.proofs.lemmas.Option.{get_or_from_slice_get}
use mir.Syntax.{w128}
use mir.Val.{SFits}
use Rattle.tn_base.specs.Arcs.{IsAtMost}
use Rattle.tn_model.specs.Limits.{most_price}
use Rattle.tn_commands.proofs.guessing.are_small.Goals as goal

pub loop-t-init : goal.loop-t-init
loop-t-init c = λ k missing below. absurd (omega (arith, below))

pub loop-t-preserved : goal.loop-t-preserved
loop-t-preserved c = λ k missing below. elim (cases_eq k c.loop-t.t) [
  | inl same ↦
      let read = get_or_from_slice_get c.args.prices.now c.loop-t.t c.at.result missing c.at.ensures in
      let fits : SFits w128 c.at.result = search rules in
      let small = subst (λ (z : ℤ). IsAtMost z most_price) (to_z-of_z w128 c.at.result fits)
      (c.is_small.ensures c.if-not-is_small.false) in
      subst (λ (n : ℕ). IsAtMost (get_or c.args.prices.now n missing) most_price) (sym same)
      (subst (λ (z : ℤ). IsAtMost z most_price) (sym read) small)
  | inr other ↦ c.loop-t.invariant k missing (omega (arith, below, other))
]

pub returns : goal.returns
returns c = λ yes k missing inside.
    let past = c.loop-t-test.false in
    c.loop-t.invariant k missing (omega (arith, past, inside))
