-- The laws of a firm that code may ask.
use Rattle.std.specs.Prelude.{ℕ, ◌^◌, ◌<◌, ◌≤◌}
use Rattle.tn_base.specs.Firm.{Firm, HasOwnBundles, MayAbstain}
use Rattle.tn_market.specs.Valued.{ExchangesOne, ExchangesNet, IsWorthAtMost}
use Rattle.tn_market.specs.Widths.{most_limit}

-- no worth is above the limit in size
pub record IsLawful (limit : ℕ) (firm : Firm) : Type 0 where
  pub few_trades : firm.count ≤ 64
  pub own_purchases : firm.buys < 2 ^ firm.count
  pub own_bundles : HasOwnBundles firm
  pub empty_is_possible : MayAbstain firm
  -- the two halves of the exchange property
  pub exchange_one : ExchangesOne firm
  pub exchange_net : ExchangesNet firm
  pub within : IsWorthAtMost limit firm
  pub small_limit : limit ≤ most_limit
