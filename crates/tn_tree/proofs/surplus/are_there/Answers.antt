-- What shows the clauses of `are_there` of `src/surplus.rt`.
use Rattle.std.proofs.Common.{◌≡◌, ℕ, refl, sym, subst, arith, inl, inr, ℤ, Some, None, get_or}
use Rattle.std.proofs.lemmas.Bool.{cases_lt}
use Rattle.tn_tree.proofs.surplus.are_there.Goals as goal

pub loop-f-preserved : goal.loop-f-preserved
loop-f-preserved c = λ k below. elim (cases_lt k c.loop-f.f) [
  | inl earlier ↦ c.loop-f.invariant k earlier
  | inr last ↦
      let same : k ≡ c.loop-f.f = omega (arith, below, last) in
      subst (λ (j : ℕ). (worth : ℤ) × (get_or c.args.worths.now j None ≡ Some worth)) (sym same)
      (c.if-not-is_there.ensures.yes refl)
]
