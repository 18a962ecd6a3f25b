-- What shows the clauses of `first_none` of `src/support.rt`.
use Rattle.std.proofs.Common.{◌≡◌, ℕ, ℤ, Option, None, Some, false, get_or, refl, sym, ap, ◌∙◌, arith, inl, inr}
use Rattle.std.specs.Prelude.{is_none}
use Rattle.std.proofs.lemmas.Bool.{cases_eq, true≢false}
use Rattle.tn_tree.proofs.support.first_none.Goals as goal

there : (o : Option ℤ) → is_none o ≡ false → (number : ℤ) × (o ≡ Some number)
there None none = absurd (true≢false none)
there (Some number) some = (number, refl)

pub loop-f-preserved : goal.loop-f-preserved
loop-f-preserved c = λ g below. elim (cases_eq g c.loop-f.f) [
  | inl same ↦
      let found = there (get_or c.args.numbers.now c.loop-f.f None) (sym c.is_missing.ensures ∙ c.if-is_missing.false) in
      (found.0, ap (λ (i : ℕ). get_or c.args.numbers.now i None) same ∙ found.1)
  | inr other ↦ c.loop-f.invariant g (omega (arith, below, other))
]
