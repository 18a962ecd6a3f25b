-- The verdict on an outcome.
use Rattle.std.specs.Prelude.{◌≡◌, ℤ, ◌*ℤ◌, List, length}
use Rattle.tn_base.specs.Firm.{Firm}
use Rattle.tn_model.specs.declared.ends.Ends.{Ends}
use Rattle.tn_model.specs.declared.contract.Contract.{Contract}
use Rattle.tn_model.specs.Choices.{IsIndividuallyRational}
use Rattle.tn_chain.specs.Search.{chain_scale, IsBlockingChain}
use Rattle.tn_judge.specs.declared.judging.Judged.{Judged}
use Rattle.tn_judge.specs.declared.judging.Judged.TheVariants.{Drops, Completes, Blocks}
use Rattle.tn_judge.specs.Verdict.{IsFirstDrop, IsCompletedBy, IsIncomplete}

-- no prices complete an individually rational outcome, and these contracts over this denominator are a chain that
-- blocks it
pub record IsBlockedBy (firms : List Firm) (trades : List Ends) (over : ℤ) (contracts offers : List Contract)
    (their_over : ℤ) : Type 0 where
  pub rational : IsIndividuallyRational firms trades over contracts
  pub incomplete : IsIncomplete firms trades over contracts
  pub over_is : their_over ≡ over *ℤ chain_scale (length trades) contracts
  pub chain : IsBlockingChain firms trades over contracts offers

-- the verdict is right
abbrev pub JudgesContracts : List Firm → List Ends → ℤ → List Contract → Judged → Type 0
JudgesContracts firms trades over contracts (Drops f keeps gain) = IsFirstDrop firms trades over contracts f keeps gain
JudgesContracts firms trades over contracts (Completes prices) = IsIndividuallyRational firms trades over contracts
    × IsCompletedBy firms trades over contracts prices
JudgesContracts firms trades over contracts (Blocks offers their_over) =
    IsBlockedBy firms trades over contracts offers their_over
