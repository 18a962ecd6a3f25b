-- Whether a triple fails at a table is decided.
use Rattle.std.proofs.Common.{◌≡◌, ℕ, ◌^◌, ◌<◌, Bool, true, false, refl, sym, ◌∙◌, arith, inl, inr, ◌+ℤ◌}
use Rattle.std.specs.Prelude.{ℤ, ◌≤ℤ◌, ◌<ℤ◌, Option, Some, None}
use Rattle.std.proofs.lemmas.Int.{ints, by_lt_z}
use Rattle.std.proofs.lemmas.Bool.{false≢true}
use Rattle.std.proofs.lemmas.Option.{none-some}
use Rattle.tn_base.specs.Sets.{has}
use Rattle.tn_base.specs.Firm.{Firm, HasOwnBundles, net, up}
use Rattle.tn_base.specs.Exchange.{IsWrongAt, Fails}
use Rattle.tn_base.proofs.ExchangeLemmas.{IsDecided, cases_worth, swaps_or_not, exchanges_or_not}
use Rattle.tn_exchange.specs.Rows.{TableRows, firm_of_table}
use Rattle.tn_exchange.specs.TestOrder.{Triple, TripleFails}
use Rattle.tn_exchange.proofs.RowLemmas.{own_bundles}
use Rattle.tn_exchange.proofs.TestLemmas.{fails_from_wrong, wrong_from_fails}

true_or_not : (b : Bool) → IsDecided (b ≡ true)
true_or_not true = inl refl
true_or_not false = inr false≢true

less_or_not : (a b : ℤ) → IsDecided (a <ℤ b)
less_or_not a b = by_lt_z {P = IsDecided (a <ℤ b)} a b (λ less. inl less) (λ most. inr (λ less. at_most most less))
  where
    at_most : b ≤ℤ a → a <ℤ b → ⊥
    at_most most less = absurd (omega (arith, ints, most, less))

and_not : {P Q : Type 0} → IsDecided P → IsDecided Q → IsDecided (P × (Q → ⊥))
and_not (inr never) q = inr (λ w. never w.0)
and_not (inl p) (inl q) = inr (λ w. w.1 q)
and_not (inl p) (inr never) = inl (p, never)

wrong_or_not : (firm : Firm) (x y : ℕ) (total : ℤ) (at : Option ℕ) → x < 2 ^ firm.count → y < 2 ^ firm.count
    → IsDecided (IsWrongAt firm x y total at)
wrong_or_not firm x y total (Some i) x_own y_own =
    and_not (true_or_not (has (up firm.buys x y) i)) (exchanges_or_not firm x y total i x_own y_own)
wrong_or_not firm x y total None x_own y_own =
    and_not (less_or_not (net firm.buys x) (net firm.buys y)) (swaps_or_not firm x y x y total x_own y_own)

fails_if_wrong : (firm : Firm) (x y : ℕ) (a b : ℤ) (at : Option ℕ) → firm.worth x ≡ Some a → firm.worth y ≡ Some b
    → IsDecided (IsWrongAt firm x y (a +ℤ b) at) → IsDecided (Fails firm x y at)
fails_if_wrong firm x y a b at x_is y_is (inl wrong) =
    inl (fails_from_wrong firm x y (a +ℤ b) at (record {
      first = a;
      second = b;
      first_is = x_is;
      second_is =
          y_is;
      total_is = refl;
    }) wrong)
fails_if_wrong firm x y a b at x_is y_is (inr fine) =
    inr (λ f. fine (wrong_from_fails firm x y (a +ℤ b) at (record {
      first = a;
      second = b;
      first_is = x_is;
      second_is =
          y_is;
      total_is = refl;
    }) f))

of_firm : (firm : Firm) → HasOwnBundles firm → (x y : ℕ) (at : Option ℕ) → IsDecided (Fails firm x y at)
of_firm firm own x y at = elim (cases_worth (firm.worth x)) [
  | inr none ↦ inr (λ f. none-some f.first (sym none ∙ f.first_is))
  | inl p ↦ elim (cases_worth (firm.worth y)) [
    | inr none ↦ inr (λ f. none-some f.second (sym none ∙ f.second_is))
    | inl q ↦ fails_if_wrong firm x y p.0 q.0 at p.1 q.1
        (wrong_or_not firm x y (p.0 +ℤ q.0) at (own x p.0 p.1) (own y q.0 q.1))
  ]
]

pub fails_or_not : (table : TableRows) (t : Triple) → IsDecided (TripleFails (firm_of_table table) t)
fails_or_not table t = of_firm (firm_of_table table) (own_bundles table) t.x t.y t.at
