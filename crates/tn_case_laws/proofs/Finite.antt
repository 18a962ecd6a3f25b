-- Best bundles among finitely many, as a computation; and facts of each of a few firms.
use Rattle.std.proofs.Common.{◌≡◌, ℕ, zero, suc, ◌^◌, ◌<◌, Bool, true, ◌||◌, ◌==◌, refl, sym, ap, ◌∙◌, subst, arith, inl, inr, List, [], ◌∷◌, slice_get}
use Rattle.std.specs.Prelude.{ℤ, ◌≤ℤ◌, ◌<ℤ◌, int_le, int_lt, ◌+ℤ◌, ◌*ℤ◌, option_map, Option, Some, None}
use Rattle.std.proofs.lemmas.Int.{ints}
use Rattle.std.proofs.lemmas.Bool.{or_cases, eqb-true}
use Rattle.std.proofs.lemmas.Option.{same_Some, none-some}
use Rattle.tn_base.specs.Firm.{Firm, HasOwnBundles, payments, IsBest}
use Rattle.tn_base.specs.Sets.{sum_over}
use Rattle.tn_model.specs.declared.ends.Ends.{Ends}
use Rattle.tn_market.specs.Equilibrium.{utility_at, prices_at}
use Rattle.tn_case_laws.proofs.Decided.{all_below, each_below, ordered, ordered_strictly}

-- only numbers below n have a value
abbrev pub AreBelow : ℕ → (ℕ → Option ℤ) → Type 0
AreBelow n value_of = (y : ℕ) (other : ℤ) → value_of y ≡ Some other → y < n

abbrev pub is_at_most : ℤ → Option ℤ → Bool
is_at_most value (Some other) = int_le other value
is_at_most value None = true

abbrev pub is_less : ℤ → Option ℤ → Bool
is_less value (Some other) = int_lt other value
is_less value None = true

pub best_by : (n : ℕ) (value_of : ℕ → Option ℤ) → AreBelow n value_of → (x : ℕ) (value : ℤ) → value_of x ≡ Some value
    → all_below (λ y. is_at_most value (value_of y)) n ≡ true → IsBest value_of x value
best_by n value_of below x value is e = record {
  is = is;
  most = λ y other y_is.
      let test = each_below (λ y. is_at_most value (value_of y)) n e y (below y other y_is) in
      ordered other value (rw y_is at test);
}

-- the one bundle whose value is above all others is the only best one
pub only_best : (n : ℕ) (value_of : ℕ → Option ℤ) → AreBelow n value_of → (x : ℕ) (value : ℤ) → value_of x ≡ Some value
    → all_below (λ y. (y == x) || is_less value (value_of y)) n ≡ true → (y : ℕ) (other : ℤ) → IsBest value_of y other
    → (y ≡ x) × (other ≡ value)
only_best n value_of below x value is e y other best =
    elim (or_cases (y == x) (is_less value (value_of y))
    (each_below (λ y. (y == x) || is_less value (value_of y)) n e y (below y other best.is))) [
      | inl same ↦
          let here : y ≡ x = eqb-true y x same in
          (here, same_Some other value (sym best.is ∙ ap value_of here ∙ is))
      | inr less ↦
          let below_value : other <ℤ value = ordered_strictly other value (rw best.is at less) in
          let most : value ≤ℤ other = best.most x value is in
          absurd (omega (arith, ints, below_value, most))
    ]

-- a utility is one of an own bundle
pub own_utilities : (trades : List Ends) (scale : ℤ) (prices : ℕ → ℤ) (f : ℕ) (firm : Firm) → HasOwnBundles firm
    → AreBelow (2 ^ firm.count) (utility_at trades scale prices f firm)
own_utilities trades scale prices f firm own y other e = by (firm.worth y) refl e
  where
    by : (o : Option ℤ) → firm.worth y ≡ o
        → option_map (λ a. scale *ℤ a +ℤ sum_over (payments firm.buys (prices_at trades prices f)) firm.count y) o
        ≡ Some other → y < 2 ^ firm.count
    by (Some a) is e = own y a is
    by None is e = absurd (none-some other e)

pub two_firms : (P : ℕ → Firm → Type 0) (a b : Firm) → P 0 a → P 1 b → (f : ℕ) (firm : Firm)
    → slice_get (a ∷ b ∷ []) f ≡ Some firm → P f firm
two_firms P a b p q zero firm e = subst (P 0) (same_Some _ _ e) p
two_firms P a b p q (suc zero) firm e = subst (P 1) (same_Some _ _ e) q
two_firms P a b p q (suc (suc f)) firm e = absurd (none-some firm e)

pub three_firms : (P : ℕ → Firm → Type 0) (a b c : Firm) → P 0 a → P 1 b → P 2 c → (f : ℕ) (firm : Firm)
    → slice_get (a ∷ b ∷ c ∷ []) f ≡ Some firm → P f firm
three_firms P a b c p q r zero firm e = subst (P 0) (same_Some _ _ e) p
three_firms P a b c p q r (suc zero) firm e = subst (P 1) (same_Some _ _ e) q
three_firms P a b c p q r (suc (suc zero)) firm e = subst (P 2) (same_Some _ _ e) r
three_firms P a b c p q r (suc (suc (suc f))) firm e = absurd (none-some firm e)
