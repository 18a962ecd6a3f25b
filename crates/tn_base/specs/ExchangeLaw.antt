-- That the exchange property holds exactly where no triple fails.
use Rattle.tn_base.specs.Firm.{Firm, HasOwnBundles}
use Rattle.tn_base.specs.Exchange.{MeetsExchange, NoneFails}

pub record ExchangeIsNoFailure : Type 0 where
  -- where no triple fails, each position and each pair of net counts has its witness
  pub holds : (firm : Firm) → HasOwnBundles firm → NoneFails firm → MeetsExchange firm
  pub none_fails : (firm : Firm) → MeetsExchange firm → NoneFails firm
