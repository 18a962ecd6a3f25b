-- One more firm, by what its part gives.
use Rattle.std.proofs.Common.{◌≡◌, ℕ, ◌+◌, ◌<◌, inl, inr, arith, Bool, List, [], ◌∷◌, ◌++◌, length, Ok, Err, true, sym, ap, subst, ◌∙◌}
use Rattle.serde_json.specs.Data.{Data}
use Rattle.tn_base.specs.Firm.{Firm}
use Rattle.tn_base.specs.Exchange.{NoneFails}
use Rattle.tn_exchange.specs.Rows.{TableRows, firm_of_table}
use Rattle.tn_exchange.specs.TestOrder.{Triple}
use Rattle.tn_local.specs.First.{IsFirstTriple}
use Rattle.tn_model.specs.declared.ends.Ends.{Ends}
use Rattle.tn_read_shapes.specs.declared.error.ReadError.{ReadError}
use Rattle.tn_read_references.specs.Ordered.{Listed}
use Rattle.tn_read_shapes.specs.Reading.{FailsAsRead, ◌>>=◌}
use Rattle.tn_read_firms.specs.Firms.{exchange_fault, unless_failing, exchange_of, tested_firm, document_firm, one_firm}
use Rattle.tn_read_firms.proofs.FailureLemmas.{none, found}
use Rattle.std.proofs.lemmas.Bool.{cases_lt}
use Rattle.tn_read_shapes.proofs.EachLemmas.{fails_then}

-- what holds of all numbers below n and of n
pub below_more : (P : ℕ → Type 0) (n : ℕ) → ((f : ℕ) → f < n → P f) → P n → (f : ℕ) → f < n + 1 → P f
below_more P n before last f below = elim (cases_lt f n) [
  | inl less ↦ before f less
  | inr more ↦ subst P (omega (arith, below, more)) last
]

module _ (tested : Bool) (listed : Listed) (firms : List Firm) (firm : Data) (f : ℕ) (is : f ≡ length firms) where
  pub one_firm-fails : (e : ReadError) → FailsAsRead e (document_firm tested listed f firm)
      → FailsAsRead e (one_firm tested listed firms firm)
  unfolding one_firm
  one_firm-fails e fails =
      fails_then e (document_firm tested listed (length firms) firm) _
      (subst (λ (g : ℕ). FailsAsRead e (document_firm tested listed g firm)) is fails)

  pub one_firm-next : (next : Firm) → document_firm tested listed f firm ≡ Ok next
      → one_firm tested listed firms firm ≡ Ok (firms ++ next ∷ [])
  unfolding one_firm
  one_firm-next next given =
      ap (λ r. r >>= λ next. Ok (firms ++ next ∷ [])) (subst (λ (g : ℕ). document_firm tested listed g firm ≡ Ok next) is
      given)

-- a table on which no triple fails, and one of which this is the first triple
pub tested_firm-holds : (trades : List Ends) (f : ℕ) (table : TableRows) → NoneFails (firm_of_table table)
    → tested_firm true trades f table ≡ Ok (firm_of_table table)
unfolding tested_firm exchange_of
tested_firm-holds trades f table holds =
    ap (λ found. unless_failing trades f (length table.sides) found >>= λ met. Ok (firm_of_table table))
    (none table holds)

pub tested_firm-fails : (trades : List Ends) (f count : ℕ) (table : TableRows) (t : Triple)
    → IsFirstTriple (firm_of_table table) t → count ≡ length table.sides
    → tested_firm true trades f table ≡ Err (exchange_fault trades f count t)
unfolding tested_firm exchange_of
tested_firm-fails trades f count table t first is =
    ap (λ failing. unless_failing trades f (length table.sides) failing >>= λ met. Ok (firm_of_table table))
    (found table t first)
    ∙ ap (λ n. Err (exchange_fault trades f n t)) (sym is)
