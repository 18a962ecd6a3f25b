-- Prices that complete an outcome, as they are made from labels.
use Rattle.std.specs.Prelude.{◌≡◌, ℕ, ◌<◌, ℤ, ◌-ℤ◌, if◌then◌else◌, List, length, Option, Some, None}
use Rattle.tn_base.specs.Firm.{Firm}
use Rattle.tn_cycle.specs.Answers.{label_in}
use Rattle.tn_model.specs.declared.ends.Ends.{Ends}
use Rattle.tn_model.specs.declared.contract.Contract.{Contract}
use Rattle.tn_model.specs.Prices.{price_at}
use Rattle.tn_market.specs.Signed.{is_signed, signed_price}
use Rattle.tn_judge.specs.Verdict.{IsCompletedBy, IsIncomplete}

-- prices of the first t trades: those of the contracts, and for unsigned trades their labels less null's
pub record ArePricesTo (contracts : List Contract) (labels : List ℤ) (null t : ℕ) (prices : List ℤ) : Type 0 where
  pub counted : length prices ≡ t
  pub each : (i : ℕ) → i < t → price_at prices i ≡ (if is_signed contracts i then signed_price contracts i
      else label_in labels i -ℤ label_in labels null)

-- prices that complete the outcome, none where there are none
abbrev pub AnswersCompletion : List Firm → List Ends → ℤ → List Contract → Option (List ℤ) → Type 0
AnswersCompletion firms trades over contracts None = IsIncomplete firms trades over contracts
AnswersCompletion firms trades over contracts (Some prices) = IsCompletedBy firms trades over contracts prices
