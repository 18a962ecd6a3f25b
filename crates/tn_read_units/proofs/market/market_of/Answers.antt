-- What shows the clauses of `market_of` of `src/market.rt`.
use Rattle.std.proofs.Common.{length, refl}
use Rattle.tn_counts.specs.declared.market.UnitMarket.{UnitMarket}
use Rattle.tn_read_units.proofs.MarketLemmas.{is_market, made_from, worths_are}
use Rattle.tn_read_units.proofs.market.market_of.Goals as goal

pub returns-clause-market : goal.returns-clause-market
returns-clause-market c =
    let market : UnitMarket = record {
      firms = length c.firms-firms.result.now;
      trades = c.in_ok-trades.trades;
      amounts = c.in_ok-amounts.amounts;
      sets = c.in_ok-sets.sets;
    } in
    is_market c.args.document.now c.firms-firms.ensures.kept market (made_from c.args.document.now market
    c.firms-firms.result.now c.trades-listed.result.now c.firms-firms.ensures.is c.trades-listed.ensures.is refl
    c.in_ok-trades.ensures.items c.in_ok-amounts.ensures.count c.in_ok-amounts.ensures.each
    c.in_ok-sets.ensures.permutation c.in_ok-sets.ensures.sorted)

pub returns-clause-worths : goal.returns-clause-worths
returns-clause-worths c =
    let market : UnitMarket = record {
      firms = length c.firms-firms.result.now;
      trades = c.in_ok-trades.trades;
      amounts = c.in_ok-amounts.amounts;
      sets = c.in_ok-sets.sets;
    } in
    worths_are c.args.document.now c.firms-firms.ensures.kept market (made_from c.args.document.now market
    c.firms-firms.result.now c.trades-listed.result.now c.firms-firms.ensures.is c.trades-listed.ensures.is refl
    c.in_ok-trades.ensures.items c.in_ok-amounts.ensures.count c.in_ok-amounts.ensures.each
    c.in_ok-sets.ensures.permutation c.in_ok-sets.ensures.sorted)
