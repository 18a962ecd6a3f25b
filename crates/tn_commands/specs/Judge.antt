-- The answer of `judge`: the verdict on an outcome.
use Rattle.std.specs.Prelude.{◌≡◌, ℕ, ℤ, List}
use Rattle.tn_base.specs.Firm.{Firm}
use Rattle.tn_judge.specs.Judges.{IsBlockedBy}
use Rattle.tn_judge.specs.Verdict.{IsFirstDrop, IsCompletedBy}
use Rattle.tn_model.specs.declared.contract.Contract.{Contract}
use Rattle.tn_model.specs.declared.ends.Ends.{Ends}
use Rattle.tn_said.specs.declared.said.Said.{Said}
use Rattle.tn_said.specs.declared.said.Said.TheVariants.{Drops, Completes, Blocks}
use Rattle.tn_model.specs.Choices.{IsIndividuallyRational}
use Rattle.tn_model.specs.Network.{trades_of}
use Rattle.tn_commands.specs.Implied.{IsLastingOutcome}

-- the first firm that would drop contracts, where there is one; otherwise prices that complete the outcome, where there
-- are any, and what that implies; otherwise a chain of contracts that blocks it
abbrev pub JudgesOutcome : List Firm → List Ends → ℤ → List Contract → Said → Type 0
JudgesOutcome firms trades over contracts (Drops f keeps gain told) = (x : ℕ)
    × (first : IsFirstDrop firms trades over contracts f x gain) × (keeps ≡ trades_of trades f first.firm.count x)
    × (told ≡ over)
JudgesOutcome firms trades over contracts (Completes prices told) = IsIndividuallyRational firms trades over contracts
    × IsCompletedBy firms trades over contracts prices × (told ≡ over) × IsLastingOutcome firms trades over contracts
JudgesOutcome firms trades over contracts (Blocks offers told) = IsBlockedBy firms trades over contracts offers told
JudgesOutcome firms trades over contracts said = ⊥
