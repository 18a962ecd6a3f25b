-- Networks that a market may be made of.
use Rattle.std.specs.Prelude.{◌≡◌, ℕ, List, slice_get, Some}
use Rattle.tn_base.specs.Firm.{Firm, MayAbstain}
use Rattle.tn_base.specs.Exchange.{MeetsExchange}

-- the firm may have the empty bundle, and meets exchange
pub record IsAcceptedFirm (firm : Firm) : Type 0 where
  pub abstains : MayAbstain firm
  pub exchanges : MeetsExchange firm

-- an accepted network: each firm is
abbrev pub AreAccepted : List Firm → Type 0
AreAccepted firms = (f : ℕ) (firm : Firm) → slice_get firms f ≡ Some firm → IsAcceptedFirm firm
