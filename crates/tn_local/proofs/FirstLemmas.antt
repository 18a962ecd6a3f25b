-- The first triple of a firm.
use Rattle.std.proofs.Common.{inl, inr}
use Rattle.std.proofs.lemmas.Bool.{cases_lt}
use Rattle.tn_base.specs.Firm.{Firm}
use Rattle.tn_exchange.specs.TestOrder.{Triple, TripleFails}
use Rattle.tn_local.specs.First.{IsFirstTriple}

-- whatever the number of own trades, it fails
pub triple_fails : (firm : Firm) (t : Triple) → IsFirstTriple firm t → TripleFails firm t
triple_fails firm t first = elim (cases_lt 10 firm.count) [
  | inl large ↦ (first.large large).fails
  | inr small ↦ (first.small small).fails
]
