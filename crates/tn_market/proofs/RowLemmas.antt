-- A row of worths, position by position.
use Rattle.std.proofs.Common.{◌≡◌, ℕ, ◌+◌, ◌^◌, ◌<◌, ◌≤◌, true, false, Bool, if◌then◌else◌, refl, sym, ap, ◌∙◌, arith, inl, inr, add-one, List, length, get_or, Option, None, ℤ}
use Rattle.std.specs.Prelude.{set}
use Rattle.std.proofs.lemmas.Bool.{cases_eq, false≢true}
use Rattle.std.proofs.lemmas.List.{get_or-set_same, get_or-set_other}
use Rattle.tn_base.specs.Sets.{has, toggle, size, size_below}
use Rattle.tn_base.proofs.SetLemmas.{has_below}
use Rattle.tn_base.proofs.SizeLemmas.{size_at}
use Rattle.tn_market.specs.Valued.{HasToggledWorths}

-- the worths of the wanted positions below k are written, and each of them was asked for once
pub record IsRowBelow (worth_of : ℕ → Option ℤ) (x wanted asked_before k : ℕ) (worths : List (Option ℤ))
    (asked : ℕ) : Type 0 where
  pub worths_are : (j : ℕ) → j < k → has wanted j ≡ true → get_or worths j None ≡ worth_of (toggle x j)
  pub asked_are : asked ≡ asked_before + size_below k wanted

pub row_none : (worth_of : ℕ → Option ℤ) (x wanted asked : ℕ) (worths : List (Option ℤ))
    → IsRowBelow worth_of x wanted asked 0 worths asked
unfolding size_below
row_none worth_of x wanted asked worths = record {
  worths_are = λ j h. absurd (omega (arith, h));
  asked_are =
      omega arith;
}

-- one position more is counted if it is wanted
size_next : (k wanted : ℕ) → size_below (k + 1) wanted ≡ size_below k wanted + (if has wanted k then 1 else 0)
unfolding size_below
size_next k wanted = rw add-one refl

pub row_more : (worth_of : ℕ → Option ℤ) (x wanted asked_before k : ℕ) (worths : List (Option ℤ)) (asked : ℕ)
    → IsRowBelow worth_of x wanted asked_before k worths asked
    → has wanted k ≡ true → k < length worths → (o : Option ℤ) → o ≡ worth_of (toggle x k) → (asked_after : ℕ)
    → asked_after ≡ asked + 1
    → IsRowBelow worth_of x wanted asked_before (k + 1) (set worths k o) asked_after
row_more worth_of x wanted asked_before k worths asked row member inside o is asked_after once = record {
  worths_are = λ j h wants. elim (cases_eq j k) [
    | inl e ↦ ap (λ (i : ℕ). get_or (set worths k o) i None) e ∙ get_or-set_same worths k o None inside ∙ is
        ∙ ap (λ (i : ℕ). worth_of (toggle x i)) (sym e)
    | inr d ↦ get_or-set_other worths k j o None d ∙ row.worths_are j (omega (arith, h, d)) wants
  ];
  asked_are =
      let before = row.asked_are in
      let next : size_below (k + 1) wanted ≡ size_below k wanted + 1 =
      size_next k wanted ∙ ap (λ (b : Bool). size_below k wanted + (if b then 1 else 0)) member in
      omega (arith, before, next, once);
}

pub row_same : (worth_of : ℕ → Option ℤ) (x wanted asked_before k : ℕ) (worths : List (Option ℤ)) (asked : ℕ)
    → IsRowBelow worth_of x wanted asked_before k worths asked
    → has wanted k ≡ false → IsRowBelow worth_of x wanted asked_before (k + 1) worths asked
row_same worth_of x wanted asked_before k worths asked row absent = record {
  worths_are = λ j h wants. elim (cases_eq j k) [
    | inl e ↦ absurd (false≢true (sym absent ∙ ap (has wanted) (sym e) ∙ wants))
    | inr d ↦ row.worths_are j (omega (arith, h, d)) wants
  ];
  asked_are =
      let before = row.asked_are in
      let next : size_below (k + 1) wanted ≡ size_below k wanted + 0 =
      size_next k wanted ∙ ap (λ (b : Bool). size_below k wanted + (if b then 1 else 0)) absent in
      omega (arith, before, next);
}

-- the wanted positions are all below the count
pub row_all : (worth_of : ℕ → Option ℤ) (x wanted asked_before k : ℕ) (worths : List (Option ℤ)) (asked : ℕ)
    → IsRowBelow worth_of x wanted asked_before k worths asked
    → wanted < 2 ^ k → HasToggledWorths worth_of x wanted worths × (asked ≡ asked_before + size wanted)
row_all worth_of x wanted asked_before k worths asked row own = (
  (λ j wants. row.worths_are j (has_below wanted k j own wants) wants),
  row.asked_are ∙ ap (λ (n : ℕ). asked_before + n) (sym (size_at k wanted own)),
)

-- the worths of the wanted positions below k are those of one firm, and the others still those of another
pub record IsRowChanged (worth_of other_of : ℕ → Option ℤ) (x wanted k : ℕ) (worths : List (Option ℤ)) : Type 0 where
  pub done : (j : ℕ) → j < k → has wanted j ≡ true → get_or worths j None ≡ worth_of (toggle x j)
  pub left : (j : ℕ) → k ≤ j → has wanted j ≡ true → get_or worths j None ≡ other_of (toggle x j)

pub changed_all : (worth_of other_of : ℕ → Option ℤ) (x wanted k : ℕ) (worths : List (Option ℤ))
    → IsRowChanged worth_of other_of x wanted k worths
    → wanted < 2 ^ k → HasToggledWorths worth_of x wanted worths
changed_all worth_of other_of x wanted k worths row own j wants = row.done j (has_below wanted k j own wants) wants
