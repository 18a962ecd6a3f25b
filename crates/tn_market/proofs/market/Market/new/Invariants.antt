-- What the loops of `Market::new` of `src/market.rt` keep.
use Rattle.std.proofs.Common.{◌≡◌, length, map}
use Rattle.tn_market.specs.Traded.{HaveOwn}
use Rattle.tn_market.proofs.market.Market.new.Given as goal

abbrev pub invariant-loop-f : goal.invariant-loop-f
invariant-loop-f g l = record {
  counted : length l.own.items ≡ l.f;
  own : HaveOwn (map g.V.Valuation.firm l.firm-items) l.trades.items (map (λ list. list.items) l.own.items);
}
