-- Prices against the contracts of an outcome.
use Rattle.std.proofs.Common.{◌≡◌, ℕ, List, length, slice_get, Some, ℤ}
use Rattle.std.proofs.lemmas.Option.{slice_get_within}
use Rattle.tn_base.specs.Firm.{Firm}
use Rattle.tn_model.specs.declared.contract.Contract.{Contract}
use Rattle.tn_model.specs.declared.contract.Outcome.{Outcome}
use Rattle.tn_model.specs.declared.ends.Ends.{Ends}
use Rattle.tn_said.specs.declared.reason.Reason.{Reason}
use Rattle.tn_said.specs.declared.reason.Reason.TheVariants.{Impossible, Better}
use Rattle.tn_market.specs.Signed.{signed}
use Rattle.tn_cert.specs.Reasons.{AgreeBefore, LacksBest, RefutesCompletes}

pub agreed : (contracts : List Contract) (prices : ℕ → ℤ) → AgreeBefore contracts prices (length contracts)
    → (k : ℕ) (contract : Contract) → slice_get contracts k ≡ Some contract → prices contract.trade ≡ contract.price
agreed contracts prices agree k contract is = agree k contract (slice_get_within contracts k contract is) is

-- the first firm without a best bundle refutes the claim, once the denominator and the prices of the contracts are
-- right
pub lack_refutes : (firms : List Firm) (trades : List Ends) (outcome : Outcome) (prices : ℕ
    → ℤ) (over : ℤ) (reason : Reason) → over ≡ outcome.over
    → AgreeBefore outcome.contracts prices (length outcome.contracts)
    → LacksBest firms trades over (signed (length trades) outcome.contracts) prices reason
    → RefutesCompletes firms trades outcome prices over reason
lack_refutes firms trades outcome prices over (Impossible f) over_is agree lacks = (over_is, agree, lacks)
lack_refutes firms trades outcome prices over (Better f bundle) over_is agree lacks = (over_is, agree, lacks)
lack_refutes firms trades outcome prices over reason over_is agree lacks = absurd lacks
