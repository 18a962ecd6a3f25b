-- A set within another one that is no greater has all its members.
use Rattle.std.proofs.Common.{◌≡◌, ℕ, zero, suc, ◌+◌, ◌<◌, ◌≤◌, refl, sym, ap, subst, ◌∙◌, arith, inl, inr, Bool, true, false, if◌then◌else◌}
use Rattle.std.proofs.lemmas.Bool.{cases_eq}
use Rattle.tn_base.specs.Sets.{has, size, size_below}
use Rattle.tn_base.proofs.SetLemmas.{has_below}
use Rattle.tn_base.proofs.SizeLemmas.{lt_two_pow, size_below-above}

-- what is a member of the one below n is a member of the other
abbrev IsWithinBelow : ℕ → ℕ → ℕ → Type 0
IsWithinBelow n x y = (k : ℕ) → k < n → has x k ≡ true → has y k ≡ true

record AreAlike (n x y : ℕ) : Type 0 where
  order : size_below n x ≤ size_below n y
  back : size_below n y ≤ size_below n x → IsWithinBelow n y x

alike : (n x y : ℕ) → IsWithinBelow n x y → AreAlike n x y
unfolding size_below
alike zero x y within = record { order = omega arith; back = λ few k below. absurd (omega (arith, below)) }
alike (suc n) x y within =
    by (has x n) refl (has y n) refl (alike n x y (λ k below. within k (omega (arith, below)))) (within n (omega arith))
  where
    more : (b : Bool) (z : ℕ) → has z n ≡ b → size_below (suc n) z ≡ size_below n z + (if b then 1 else 0)
    more b z is = ap (λ (t : Bool). size_below n z + (if t then 1 else 0)) is

    here : (b : Bool) → has x n ≡ b → has y n ≡ b → (size_below n y ≤ size_below n x → IsWithinBelow n y x)
        → size_below n y ≤ size_below n x → IsWithinBelow (suc n) y x
    here b x_is y_is before few k below member = elim (cases_eq k n) [
      | inl same ↦ subst (λ (i : ℕ). has x i ≡ true) (sym same) (x_is ∙ sym y_is
          ∙ subst (λ (i : ℕ). has y i ≡ true) same member)
      | inr other ↦ before few k (omega (arith, below, other)) member
    ]

    by : (a : Bool) → has x n ≡ a → (b : Bool) → has y n ≡ b → AreAlike n x y → (has x n ≡ true → has y n ≡ true)
        → AreAlike (suc n) x y
    by true x_is true y_is before step = record {
      order = omega (arith, more true x x_is, more true y y_is, before.order);
      back = λ few. here true x_is y_is before.back (omega (arith, more true x x_is, more true y y_is, few));
    }
    by true x_is false y_is before step = absurd (cc (step x_is))
    by false x_is true y_is before step = record {
      order = omega (arith, more false x x_is, more true y y_is, before.order);
      back = λ few. absurd (omega (arith, more false x x_is, more true y y_is, before.order, few));
    }
    by false x_is false y_is before step = record {
      order = omega (arith, more false x x_is, more false y y_is, before.order);
      back = λ few. here false x_is y_is before.back (omega (arith, more false x x_is, more false y y_is, few));
    }

pub has_all : (x y : ℕ) → ((k : ℕ) → has x k ≡ true → has y k ≡ true) → size y ≤ size x → (k : ℕ) → has y k ≡ true
    → has x k ≡ true
unfolding size
has_all x y within few k member =
    let first : size_below (x + y) x ≡ size_below x x = size_below-above x x (x + y) (lt_two_pow x) (omega arith) in
    let second : size_below (x + y) y ≡ size_below y y = size_below-above y y (x + y) (lt_two_pow y) (omega arith) in
    let below : k < y = has_below y y k (lt_two_pow y) member in
    (alike (x + y) x y (λ i inside. within i)).back (omega (arith, first, second, few)) k (omega (arith, below)) member
