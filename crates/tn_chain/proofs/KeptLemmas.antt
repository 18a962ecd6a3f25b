-- What firms keep, firm by firm.
use Rattle.std.proofs.Common.{◌≡◌, ℕ, ◌+◌, ◌<◌, List, [], ◌∷◌, ◌++◌, length, get_or, map, slice_get, Option, Some, None, option_map, refl, sym, ap, ◌∙◌, subst, arith, inl, inr, ℤ}
use Rattle.std.proofs.lemmas.Bool.{cases_eq}
use Rattle.std.proofs.lemmas.List.{length-append, get_or_append_left}
use Rattle.std.proofs.lemmas.Option.{same_Some, slice_get-map, slice_get_within, get_or_from_slice_get}
use Rattle.tn_base.specs.Firm.{Firm}
use Rattle.tn_model.specs.declared.ends.Ends.{Ends}
use Rattle.tn_model.specs.declared.contract.Contract.{Contract}
use Rattle.tn_chain.specs.declared.kept.Kept.{Kept}
use Rattle.tn_chain.specs.Kept.{AreKept, IsKept}

-- it is known of the first n firms
pub record AreKeptBefore (firms : List Firm) (trades : List Ends) (over : ℤ) (contracts : List Contract) (n : ℕ)
    (kept : List Kept) : Type 0 where
  pub counted : length kept ≡ n
  pub each : (f : ℕ) (firm : Firm) (other : Kept) → f < n → slice_get firms f ≡ Some firm
      → IsKept trades over contracts f firm (get_or kept f other)

pub one_kept : (firms : List Firm) (trades : List Ends) (over : ℤ) (contracts : List Contract) (n : ℕ)
    (kept next : List Kept) (one : Kept)
    → AreKeptBefore firms trades over contracts n kept → next ≡ kept ++ (one ∷ [])
    → ((firm : Firm) → slice_get firms n ≡ Some firm → IsKept trades over contracts n firm one)
    → AreKeptBefore firms trades over contracts (n + 1) next
one_kept firms trades over contracts n kept next one are next_is one_is = record {
  counted = (let sum = ap length next_is ∙ length-append kept (one ∷ []) in let before = are.counted in
      omega (arith, sum, before));
  each = λ f firm other below is. elim (cases_eq f n) [
    | inl e ↦
        let last : get_or next f other ≡ one =
        ap (λ (xs : List Kept). get_or xs f other) next_is
        ∙ ap (λ (i : ℕ). get_or (kept ++ (one ∷ [])) i other) (e ∙ sym are.counted) ∙ at_end kept other in
        subst (IsKept trades over contracts f firm) (sym last)
        (subst (λ (i : ℕ). IsKept trades over contracts i firm one) (sym e)
        (one_is firm (ap (slice_get firms) (sym e) ∙ is)))
    | inr d ↦
        let same : get_or next f other ≡ get_or kept f other =
        ap (λ (xs : List Kept). get_or xs f other) next_is
        ∙ get_or_append_left kept (one ∷ []) other f (let before = are.counted in omega (arith, before, below, d)) in
        subst (IsKept trades over contracts f firm) (sym same) (are.each f firm other (omega (arith, below, d)) is)
  ];
}
  where
    at_end : (xs : List Kept) (other : Kept) → get_or (xs ++ (one ∷ [])) (length xs) other ≡ one
    at_end [] other = refl
    at_end (x ∷ xs) other = at_end xs other

pub all_kept : (firms : List Firm) (trades : List Ends) (over : ℤ) (contracts : List Contract) (n : ℕ)
    (kept : List Kept) → n ≡ length firms
    → AreKeptBefore firms trades over contracts n kept → AreKept firms trades over contracts kept
all_kept firms trades over contracts n kept all are = record {
  counted = are.counted ∙ all;
  each = λ f firm one is there. subst (IsKept trades over contracts f firm)
      (get_or_from_slice_get kept f one one there)
      (are.each f firm one (let below = slice_get_within firms f firm is in omega (arith, below, all)) is);
}

-- what is known of a market's item is known of its firm
pub item_kept : {V : Type 0} (firm_of : V → Firm) (items : List V) (trades : List Ends) (over : ℤ)
    (contracts : List Contract) (f : ℕ) (one : Kept)
    → ((v : V) → slice_get items f ≡ Some v → IsKept trades over contracts f (firm_of v) one)
    → (firm : Firm) → slice_get (map firm_of items) f ≡ Some firm → IsKept trades over contracts f firm one
item_kept {V} firm_of items trades over contracts f one one_is firm is =
    by (slice_get items f) refl (sym (slice_get-map firm_of items f) ∙ is)
  where
    by : (o : Option V) → slice_get items f ≡ o → option_map firm_of o ≡ Some firm
        → IsKept trades over contracts f firm one
    by None there e = absurd (cc e)
    by (Some v) there e = subst (λ (z : Firm). IsKept trades over contracts f z one) (same_Some _ _ e)
        (one_is v there)
