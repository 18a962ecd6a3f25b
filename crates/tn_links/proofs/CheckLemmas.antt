-- Looks at one element of a list after the other.
use Rattle.std.proofs.Common.{◌≡◌, ℕ, ◌+◌, ◌-◌, ◌<◌, ◌≤◌, sym, ap, ◌∙◌, subst, arith, inl, inr, List, ◌≤ℤ◌, Some}
use Rattle.std.specs.Prelude.{slice_get}
use Rattle.std.proofs.lemmas.Int.{ints}
use Rattle.std.proofs.lemmas.Bool.{cases_lt}
use Rattle.std.proofs.lemmas.Option.{same_Some}
use Rattle.tn_links.specs.declared.link.Step.{Step}

-- what holds of the first elements and of the next one holds of one element more
pub holds_more : {X : Type 0} (P : ℕ → X → Type 0) (xs : List X) (n : ℕ) (x : X) → slice_get xs n ≡ Some x → P n x
    → ((i : ℕ) (y : X) → i < n → slice_get xs i ≡ Some y → P i y)
    → (i : ℕ) (y : X) → i < n + 1 → slice_get xs i ≡ Some y → P i y
holds_more P xs n x at here before i y less is = elim (cases_lt i n) [
  | inl earlier ↦ before i y earlier is
  | inr last ↦
      let same : n ≡ i = omega (arith, less, last) in
      let one : x ≡ y = same_Some x y (sym at ∙ ap (slice_get xs) same ∙ is) in
      subst (λ z. P i z) one (subst (λ (k : ℕ). P k x) same here)
]

-- steps of which the first so many fall
abbrev pub FallBelow : List Step → ℕ → Type 0
FallBelow steps n = (i j : ℕ) (a b : Step) → i < j → j < n → slice_get steps i ≡ Some a → slice_get steps j ≡ Some b
    → b.each ≤ℤ a.each

-- one step more falls where it adds no more than the one before it
pub fall_more : (steps : List Step) (k : ℕ) (before next : Step) → 1 ≤ k → slice_get steps (k - 1) ≡ Some before
    → slice_get steps k ≡ Some next → next.each ≤ℤ before.each → FallBelow steps k → FallBelow steps (k + 1)
fall_more steps k before next one at_before at_next order falls i j a b less below at_i at_j = elim (cases_lt j k) [
  | inl earlier ↦ falls i j a b less earlier at_i at_j
  | inr last ↦
      let same : j ≡ k = omega (arith, below, last) in
      let is : next ≡ b = same_Some next b (sym at_next ∙ ap (slice_get steps) (sym same) ∙ at_j) in
      let each : next.each ≡ b.each = ap (λ (s : Step). s.each) is in
      elim (cases_lt i (k - 1)) [
        | inl far ↦
            let rest = falls i (k - 1) a before far (omega (arith, one)) at_i at_before in
            omega (arith, ints, rest, order, each)
        | inr near ↦
            let place : i ≡ k - 1 = omega (arith, near, less, same) in
            let first : before ≡ a = same_Some before a (sym at_before ∙ ap (slice_get steps) (sym place) ∙ at_i) in
            let adds : before.each ≡ a.each = ap (λ (s : Step). s.each) first in
            omega (arith, ints, order, each, adds)
      ]
]
