-- Firms with one set of numbers, which isn't refused.
use Rattle.std.proofs.Common.{◌≡◌, ℕ, zero, suc, ◌+◌, ◌-◌, List, [], ◌∷◌, get_or, slice_get, Option, Some, None, refl, sym, ap, subst, arith, ℤ, pos}
use Rattle.std.specs.Prelude.{IsSome, IsNone}
use Rattle.std.proofs.lemmas.Int.{ints}
use Rattle.std.proofs.lemmas.Option.{none-some, same_Some}
use Rattle.tn_firm_laws.specs.Nested.{IsConcaveList, listed_from}
use Rattle.tn_laminar.specs.declared.set.LaminarSet.{LaminarSet}
use Rattle.tn_laminar.specs.declared.refusal.LaminarRefusal.{LaminarRefusal}
use Rattle.tn_laminar.specs.declared.refusal.LaminarRefusal.TheVariants.{NoEmpty, NotConcave, NotLaminar, OutOfMemory}
use Rattle.tn_laminar.specs.Faults.{HasEmpty, IsFirstBend, IsRefusedFor}

only : (set other : LaminarSet) (at : ℕ) → slice_get (set ∷ []) at ≡ Some other → (at ≡ 0) × (set ≡ other)
only set other zero is = (refl, same_Some set other is)
only set other (suc at) is = absurd (none-some other is)

-- a concave list has no number below the middle of its neighbours
unbent : (numbers : List ℤ) (place : ℕ) → IsConcaveList numbers → IsFirstBend numbers place → ⊥
unbent numbers zero concave bend = let after = bend.bend.after_first in absurd (omega (arith, after))
unbent numbers (suc k) concave bend =
    let inside = bend.bend.before_last in
    let middle = concave k (omega (arith, inside)) in
    let one : k + 1 ≡ suc k = omega arith in
    let two : k + 2 ≡ suc k + 1 = omega arith in
    let back : suc k - 1 ≡ k = omega arith in
    let below = bend.bend.below in
    let first = ap (λ (n : ℕ). get_or numbers n (pos 0)) back in
    let second = ap (λ (n : ℕ). get_or numbers n (pos 0)) one in
    let third = ap (λ (n : ℕ). get_or numbers n (pos 0)) two in
    absurd (omega (arith, ints, middle, below, first, second, third))

-- a set with a number at 0 whose list is concave is refused for want of memory alone
pub one_set_sound : (set : LaminarSet) (refusal : LaminarRefusal) → HasEmpty set → IsConcaveList set.numbers
    → IsRefusedFor (set ∷ []) refusal → refusal ≡ OutOfMemory
one_set_sound set (NoEmpty at) empty concave fault =
    let same = only set fault.set fault.at fault.set_is in
    let none = (subst (λ (s : LaminarSet). listed_from s.low s.numbers (pos 0) ≡ None) (sym same.1)
    (none_is _ fault.fault.1)) in
    absurd (some_none _ empty none)
  where
    none_is : (o : Option ℤ) → IsNone o → o ≡ None
    none_is None is = refl
    none_is (Some z) is = absurd (cc is)

    some_none : (o : Option ℤ) → IsSome o → o ≡ None → ⊥
    some_none None is e = absurd (cc is)
    some_none (Some z) is e = absurd (cc e)
one_set_sound set (NotConcave at place) empty concave fault =
    let same = only set fault.set fault.at fault.set_is in
    absurd (unbent set.numbers place concave (subst (λ (s : LaminarSet). IsFirstBend s.numbers place) (sym same.1)
    fault.fault.2))
one_set_sound set (NotLaminar at) empty concave fault =
    let same = (only set fault.set fault.at fault.set_is).0 in
    let before = fault.fault.3.before in
    absurd (omega (arith, same, before))
one_set_sound set OutOfMemory empty concave fault = refl
