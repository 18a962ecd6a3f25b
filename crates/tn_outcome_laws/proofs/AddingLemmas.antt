-- Greatest values, and the firm that adds what it likes of some positions.
use Rattle.std.proofs.Common.{◌≡◌, ℕ, zero, suc, ◌^◌, ◌<◌, Bool, true, false, ◌==◌, if◌then◌else◌, Option, Some, None, refl, sym, ap, ◌∙◌, arith, inl, inr, ◌⊎◌, ℤ, ◌≤ℤ◌}
use Rattle.std.specs.Prelude.{int_lt}
use Rattle.std.proofs.lemmas.Int.{ints}
use Rattle.std.proofs.lemmas.Bool.{cases_Bool, cases_eq, eq-eqb, eqb-true}
use Rattle.std.proofs.lemmas.Option.{same_Some}
use Rattle.tn_base.specs.Sets.{minus}
use Rattle.tn_base.specs.Firm.{Firm, HasOwnBundles}
use Rattle.tn_market.specs.Reduced.{greater, greatest, adding}

-- ---- the greater of two

-- a number that is at least another, and one of two
greater_one : (o p : Option ℤ) (a : ℤ) → greater o p ≡ Some a → (o ≡ Some a) ⊎ (p ≡ Some a)
greater_one None p a e = inr e
greater_one (Some b) None a e = inl e
greater_one (Some b) (Some c) a e = elim (cases_Bool (int_lt b c)) [
  | inl less ↦ inr (sym (ap (λ (t : Bool). if t then Some c else Some b) less) ∙ e)
  | inr not_less ↦ inl (sym (ap (λ (t : Bool). if t then Some c else Some b) not_less) ∙ e)
]

-- it is at least the first
greater_first : (o p : Option ℤ) (b : ℤ) → o ≡ Some b → (a : ℤ) × (greater o p ≡ Some a) × (b ≤ℤ a)
greater_first None p b e = absurd (cc e)
greater_first (Some c) None b e = let same = same_Some c b e in (c, refl, omega (arith, ints, same))
greater_first (Some c) (Some d) b e = let same = same_Some c b e in elim (cases_Bool (int_lt c d)) [
  | inl less ↦ (d, ap (λ (t : Bool). if t then Some d else Some c) less, grind (arith, ints, same, less))
  | inr not_less ↦ (c, ap (λ (t : Bool). if t then Some d else Some c) not_less, omega (arith, ints, same))
]

-- and at least the second
greater_second : (o p : Option ℤ) (b : ℤ) → p ≡ Some b → (a : ℤ) × (greater o p ≡ Some a) × (b ≤ℤ a)
greater_second o None b e = absurd (cc e)
greater_second None (Some d) b e = let same = same_Some d b e in (d, refl, omega (arith, ints, same))
greater_second (Some c) (Some d) b e = let same = same_Some d b e in elim (cases_Bool (int_lt c d)) [
  | inl less ↦ (d, ap (λ (t : Bool). if t then Some d else Some c) less, omega (arith, ints, same))
  | inr not_less ↦ (c, ap (λ (t : Bool). if t then Some d else Some c) not_less, grind (arith, ints, same, not_less))
]

-- ---- the greatest of many

-- the greatest value is one of the values
pub greatest_one : (value_of : ℕ → Option ℤ) (n : ℕ) (a : ℤ) → greatest value_of n ≡ Some a → (y : ℕ) × (y < n)
    × (value_of y ≡ Some a)
unfolding greatest
greatest_one value_of zero a e = absurd (cc e)
greatest_one value_of (suc n) a e = elim (greater_one (greatest value_of n) (value_of n) a e) [
  | inl before ↦ let found = greatest_one value_of n a before in let below = found.1 in
      (found.0, omega (arith, below), found.2)
  | inr last ↦ (n, omega arith, last)
]

-- and none is more
pub greatest_most : (value_of : ℕ → Option ℤ) (n y : ℕ) (b : ℤ) → y < n → value_of y ≡ Some b → (a : ℤ)
    × (greatest value_of n ≡ Some a) × (b ≤ℤ a)
unfolding greatest
greatest_most value_of zero y b below is = absurd (omega (arith, below))
greatest_most value_of (suc n) y b below is = elim (cases_eq y n) [
  | inl e ↦ greater_second (greatest value_of n) (value_of n) b (ap value_of (sym e) ∙ is)
  | inr d ↦
      let before = greatest_most value_of n y b (omega (arith, below, d)) is in
      let step = greater_first (greatest value_of n) (value_of n) before.0 before.1 in
      let first = before.2 in
      let second = step.2 in
      (step.0, step.1, omega (arith, ints, first, second))
]

-- ---- the firm that adds

-- a worth of a bundle with something added is that of such a bundle
pub adding_one : (given : ℕ) (firm : Firm) (x : ℕ) (a : ℤ) → (adding given firm).worth x ≡ Some a → (y : ℕ)
    × (minus y given ≡ x) × (firm.worth y ≡ Some a)
adding_one given firm x a is =
    let found = greatest_one (λ y. if minus y given == x then firm.worth y else None) (2 ^ firm.count) a is in
    by_test found.0 (minus found.0 given == x) refl found.2
  where
    by_test : (y : ℕ) (t : Bool) → (minus y given == x) ≡ t → (if t then firm.worth y else None) ≡ Some a → (y : ℕ)
        × (minus y given ≡ x) × (firm.worth y ≡ Some a)
    by_test y true test e = (y, eqb-true (minus y given) x test, e)
    by_test y false test e = absurd (cc e)

-- and no such bundle has more
pub adding_most : (given : ℕ) (firm : Firm) → HasOwnBundles firm → (x y : ℕ) (b : ℤ) → minus y given ≡ x
    → firm.worth y ≡ Some b
    → (a : ℤ) × ((adding given firm).worth x ≡ Some a) × (b ≤ℤ a)
adding_most given firm own x y b same is =
    greatest_most (λ y. if minus y given == x then firm.worth y else None) (2 ^ firm.count) y b (own y b is)
    (ap (λ (t : Bool). if t then firm.worth y else None) (eq-eqb (minus y given) x same) ∙ is)
