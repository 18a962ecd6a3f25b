-- What is found on the way to the first firm that would drop contracts.
use Rattle.std.specs.Prelude.{◌≡◌, ℕ, ℤ, ◌-ℤ◌, ◌<ℤ◌, ◌≤ℤ◌, List, Option, Some, None}
use Rattle.tn_base.specs.Firm.{Firm}
use Rattle.tn_model.specs.declared.ends.Ends.{Ends}
use Rattle.tn_model.specs.declared.contract.Contract.{Contract}
use Rattle.tn_model.specs.Choices.{own_part, IsChoice, IsIndividuallyRational}
use Rattle.tn_judge.specs.declared.drops.Kept.{Kept}
use Rattle.tn_judge.specs.Verdict.{WouldDrop, IsFirstDrop}

-- a choice's value against that of all contracts: none where these are possible and worth as much
abbrev pub TellsDrop : ℕ → ℤ → Option ℤ → Option Kept → Type 0
TellsDrop keeps value None None = ⊥
TellsDrop keeps value None (Some drop) = (drop.keeps ≡ keeps) × (drop.gain ≡ None)
TellsDrop keeps value (Some own) None = value ≤ℤ own
TellsDrop keeps value (Some own) (Some drop) = (drop.keeps ≡ keeps) × (drop.gain ≡ Some (value -ℤ own)) × (own <ℤ value)

-- what firm f would drop, none where it chooses all its contracts
abbrev pub FindsDrop : List Ends → ℤ → List Contract → ℕ → Firm → Option Kept → Type 0
FindsDrop trades over contracts f firm None = IsChoice trades over f firm contracts (own_part trades f contracts)
FindsDrop trades over contracts f firm (Some drop) = WouldDrop trades over contracts f firm drop.keeps drop.gain

-- the first firm that would drop contracts, none where the outcome is individually rational
abbrev pub FindsFirst : List Firm → List Ends → ℤ → List Contract → Option (ℕ × Kept) → Type 0
FindsFirst firms trades over contracts None = IsIndividuallyRational firms trades over contracts
FindsFirst firms trades over contracts (Some found) =
    IsFirstDrop firms trades over contracts found.0 found.1.keeps found.1.gain
