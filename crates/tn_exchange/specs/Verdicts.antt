-- What a verdict says of a firm.
use Rattle.std.specs.Prelude.{◌≡◌, ℕ, ℤ, ◌+ℤ◌, true, Some}
use Rattle.tn_base.specs.Sets.{has, toggle}
use Rattle.tn_base.specs.Firm.{Firm}
use Rattle.tn_base.specs.Exchange.{AreEnough}
use Rattle.tn_exchange.specs.TestOrder.{Triple, TripleFails, IsEarlier}
use Rattle.tn_exchange.specs.declared.verdict.Verdict.{Verdict}
use Rattle.tn_exchange.specs.declared.verdict.Verdict.TheVariants.{Holds, Fails}

-- a fact about the triple of a verdict that has one
abbrev pub IfFails : Verdict → (Triple → Type 0) → Type 0
IfFails Holds P = Unit {0}
IfFails (Fails x y at) P = P (record { x = x; y = y; at = at })

-- the triple fails, and no earlier triple of the part does
pub record IsFirstIn (firm : Firm) (In : Triple → Type 0) (t : Triple) : Type 0 where
  pub is_in : In t
  pub fails : TripleFails firm t
  pub first : (s : Triple) → In s → IsEarlier s t → TripleFails firm s → ⊥

-- the verdict on the triples of a part: none of them fails, or this is the first of them that does
abbrev pub IsVerdictOn : Firm → (Triple → Type 0) → Verdict → Type 0
IsVerdictOn firm In Holds = (t : Triple) → In t → TripleFails firm t → ⊥
IsVerdictOn firm In (Fails x y at) = IsFirstIn firm In (record { x = x; y = y; at = at })

-- some position of the set can be toggled in both bundles
pub record Swaps (firm : Firm) (positions x y : ℕ) (total : ℤ) : Type 0 where
  pub at : ℕ
  pub is_member : has positions at ≡ true
  pub enough : AreEnough firm (toggle x at) (toggle y at) total

-- both bundles are possible, and this is their total
pub record HasTotal (firm : Firm) (x y : ℕ) (total : ℤ) : Type 0 where
  pub first : ℤ
  pub second : ℤ
  pub first_is : firm.worth x ≡ Some first
  pub second_is : firm.worth y ≡ Some second
  pub total_is : total ≡ first +ℤ second
