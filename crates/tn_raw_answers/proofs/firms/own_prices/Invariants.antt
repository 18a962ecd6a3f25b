-- What the loops of `own_prices` of `src/firms.rt` keep.
use Rattle.tn_model.specs.Prices.{price_at}
use Rattle.tn_price.specs.Standings.{AreOwnPrices}
use Rattle.tn_raw_answers.proofs.firms.own_prices.Given as goal

abbrev pub invariant-loop-k : goal.invariant-loop-k
invariant-loop-k l = AreOwnPrices l.ends (price_at l.prices) l.f l.k l.own_prices
