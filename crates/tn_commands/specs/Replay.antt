-- The answer of `replay`: whether a claim holds.
use Rattle.std.specs.Prelude.{List}
use Rattle.tn_base.specs.Firm.{Firm}
use Rattle.tn_cert.specs.Claims.{IsValid}
use Rattle.tn_cert.specs.Reasons.{Refutes}
use Rattle.tn_said.specs.Claim.{Claim}
use Rattle.tn_model.specs.declared.ends.Ends.{Ends}
use Rattle.tn_said.specs.declared.said.Said.{Said}
use Rattle.tn_said.specs.declared.said.Said.TheVariants.{Valid, Invalid}
use Rattle.tn_commands.specs.Implied.{ClaimImplies}

-- valid by the definitions, with what that implies; or the first condition of the claim that fails
abbrev pub DecidesClaim : List Firm → List Ends → Claim → Said → Type 0
DecidesClaim firms trades claim Valid = IsValid firms trades claim × ClaimImplies firms trades claim
DecidesClaim firms trades claim (Invalid reason) = Refutes firms trades claim reason
DecidesClaim firms trades claim said = ⊥
