-- That a claim has no reason against it where it is valid.
use Rattle.std.specs.Prelude.{List}
use Rattle.tn_base.specs.Firm.{Firm}
use Rattle.tn_said.specs.Claim.{Claim}
use Rattle.tn_model.specs.declared.ends.Ends.{Ends}
use Rattle.tn_said.specs.declared.reason.Reason.{Reason}
use Rattle.tn_cert.specs.Claims.{IsValid}
use Rattle.tn_cert.specs.Reasons.{Refutes}

-- a claim with a reason against it isn't valid
pub record RefutedIsNotValid : Type 0 where
  pub never : (firms : List Firm) (trades : List Ends) (claim : Claim) (reason : Reason)
      → Refutes firms trades claim reason → IsValid firms trades claim → ⊥
