-- What the loops of `own_prices` of `src/judge.rt` keep.
use Rattle.tn_model.specs.Prices.{price_at}
use Rattle.tn_price.specs.Standings.{AreOwnPrices}
use Rattle.tn_price.proofs.judge.own_prices.Given as goal

abbrev pub invariant-loop-k : goal.invariant-loop-k
invariant-loop-k g l = AreOwnPrices l.market.trades (price_at l.prices) l.f l.k l.own
