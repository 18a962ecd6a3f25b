-- Lists that never bend are concave.
use Rattle.std.proofs.Common.{◌≡◌, ℕ, ◌+◌, ◌-◌, ◌<◌, ◌≤◌, sym, ap, ◌∙◌, arith, List, length, get_or, Some, None, inl, inr, subst, ◌↔◌, ℤ, pos, ◌+ℤ◌, ◌*ℤ◌, ◌<ℤ◌}
use Rattle.std.proofs.lemmas.Int.{ints, by_lt_z}
use Rattle.std.specs.Prelude.{slice_get}
use Rattle.std.proofs.lemmas.Bool.{cases_eq}
use Rattle.std.proofs.lemmas.Option.{slice_get_cases, slice_get_within, get_or_from_slice_get}
use mir.Syntax.{w128}
use mir.Val.{of_z, to_z}
use Rattle.tn_base.specs.Arcs.{IsAtMost}
use Rattle.tn_firm_laws.specs.Nested.{IsConcaveList}
use Rattle.tn_laminar.specs.declared.set.LaminarSet.{LaminarSet}
use Rattle.tn_laminar.specs.declared.refusal.LaminarRefusal.{LaminarRefusal}
use Rattle.tn_laminar.specs.Faults.{IsBend, IsSound, AreSound, AreSoundBelow, IsFirstFault, GivesFault}
use Rattle.tn_base.specs.Widths.{most_amount}

-- a list without a bend is concave
pub concave_from : (numbers : List ℤ) → ((k : ℕ) → k < length numbers → IsBend numbers k → ⊥) → IsConcaveList numbers
concave_from numbers none k inside =
    by_lt_z (pos 2 *ℤ get_or numbers (k + 1) (pos 0)) (get_or numbers k (pos 0) +ℤ get_or numbers (k + 2) (pos 0))
    (λ below. absurd (none (k + 1) (omega (arith, inside)) (record {
      after_first = omega arith;
      before_last = omega (arith, inside);
      below =
          let before : get_or numbers (k + 1 - 1) (pos 0) ≡ get_or numbers k (pos 0) =
          ap (λ (j : ℕ). get_or numbers j (pos 0)) (omega arith) in
          let after : get_or numbers (k + 1 + 1) (pos 0) ≡ get_or numbers (k + 2) (pos 0) =
          ap (λ (j : ℕ). get_or numbers j (pos 0)) (omega arith) in
          omega (arith, ints, below, before, after);
    })))
    (λ above. above)

-- what the code computes
pub twice_is : (n : ℤ) → IsAtMost n most_amount → to_z w128 (of_z w128 (pos 2 *ℤ n)) ≡ pos 2 *ℤ n
twice_is n small = let low = small.low in let high = small.high in omega (arith, ints, low, high)

pub sum_is : (a b : ℤ) → IsAtMost a most_amount → IsAtMost b most_amount → to_z w128 (of_z w128 (a +ℤ b)) ≡ a +ℤ b
sum_is a b first second =
    let p = first.low in
    let q = first.high in
    let r = second.low in
    let s = second.high in
    omega (arith, ints, p, q, r, s)

-- a test of the three numbers is a test for a bend
pub bend_from : (numbers : List ℤ) (place : ℕ) (a b d : ℤ) → 1 ≤ place → place + 1 < length numbers
    → slice_get numbers (place - 1) ≡ Some a → slice_get numbers place ≡ Some b → slice_get numbers (place + 1) ≡ Some d
    → ((pos 2 *ℤ b) <ℤ (a +ℤ d)) ↔ IsBend numbers place
bend_from numbers place a b d after_first before_last a_is b_is d_is =
    let before : get_or numbers (place - 1) (pos 0) ≡ a = get_or_from_slice_get numbers (place - 1) a (pos 0) a_is in
    let here : get_or numbers place (pos 0) ≡ b = get_or_from_slice_get numbers place b (pos 0) b_is in
    let after : get_or numbers (place + 1) (pos 0) ≡ d = get_or_from_slice_get numbers (place + 1) d (pos 0) d_is in (
      (λ below. record {
        after_first = after_first;
        before_last = before_last;
        below =
            omega (arith, ints, below, before, here, after);
      }),
      (λ bend. let below = bend.below in omega (arith, ints, below, before, here, after)),
    )

-- the set at a place within the list
set_at : (sets : List LaminarSet) (k : ℕ) → k < length sets → (set : LaminarSet) × (slice_get sets k ≡ Some set)
set_at sets k inside = elim (slice_get_cases sets k).1 [
  | inl found ↦ (found.0, found.2)
  | inr past ↦ let p = past.0 in absurd (omega (arith, inside, p))
]

-- the fault of a set after sound ones is the first
pub fault_first : (sets : List LaminarSet) (k : ℕ) (refusal : LaminarRefusal) → k < length sets
    → GivesFault sets k (Some refusal) → AreSoundBelow sets k
    → IsFirstFault sets refusal
fault_first sets k refusal inside fault before =
    let found = set_at sets k inside in
    record { at = k; set = found.0; set_is = found.1; fault = fault found.0 found.1; before = before }

-- one more sound set
pub sound_more : (sets : List LaminarSet) (k : ℕ) → GivesFault sets k None → AreSoundBelow sets k
    → AreSoundBelow sets (k + 1)
sound_more sets k here before j set below is = elim (cases_eq j k) [
  | inl e ↦ subst (λ (i : ℕ). IsSound sets i set) (sym e) (here set (sym (ap (slice_get sets) e) ∙ is))
  | inr other ↦ before j set (omega (arith, below, other)) is
]

-- then all are sound
pub sound_all : (sets : List LaminarSet) (k : ℕ) → length sets ≤ k → AreSoundBelow sets k → AreSound sets
sound_all sets k end before j set is =
    let inside = slice_get_within sets j set is in
    before j set (omega (arith, inside, end)) is
