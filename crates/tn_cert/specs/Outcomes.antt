-- What is found on the way to a decision on a claim on an outcome.
use Rattle.std.specs.Prelude.{◌≡◌, ℕ, ℤ, List, length, Option, Some, None, IfSome}
use Rattle.tn_model.specs.declared.contract.Contract.{Contract}
use Rattle.tn_model.specs.declared.contract.Outcome.{Outcome}
use Rattle.tn_model.specs.declared.ends.Ends.{Ends}
use Rattle.tn_said.specs.declared.reason.Reason.TheVariants.{Gain}
use Rattle.tn_cert.specs.declared.replayed.Replayed.{Replayed}
use Rattle.tn_cert.specs.declared.replayed.Replayed.TheVariants.{Valid, Invalid}
use Rattle.tn_cert.specs.Claims.{AreSigned, IsPositive}
use Rattle.tn_cert.specs.Reasons.{AgreeBefore, IsFirstMispriced, IsFirstUnsigned}

-- the first trade of firm f's bundle without a contract, none where each has one
abbrev pub FindsUnsigned : List Ends → Outcome → ℕ → ℕ → Option ℕ → Type 0
FindsUnsigned trades outcome f keeps None = AreSigned trades outcome f keeps
FindsUnsigned trades outcome f keeps (Some t) = IsFirstUnsigned trades outcome f keeps t

-- a claimed gain is the true one of firm f, and positive if it is a number; or else the reason is the true one
abbrev pub DecidesGain : ℕ → Option ℤ → Option ℤ → Replayed → Type 0
DecidesGain f gain claimed Valid = (gain ≡ claimed) × IfSome gain IsPositive
DecidesGain f gain claimed (Invalid reason) = (reason ≡ Gain f gain) × (IfSome gain IsPositive → gain ≡ claimed → ⊥)

-- the first contract whose trade has another price, none where each trade has the price of its contract
abbrev pub FindsMispriced : List Contract → (ℕ → ℤ) → Option ℕ → Type 0
FindsMispriced contracts prices None = AgreeBefore contracts prices (length contracts)
FindsMispriced contracts prices (Some t) = IsFirstMispriced contracts prices t
