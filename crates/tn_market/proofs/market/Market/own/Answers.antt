-- What shows the clauses of `Market::own` of `src/market.rt`.
use Rattle.std.proofs.Common.{arith}
use Rattle.tn_market.proofs.MarketLemmas.{own_of_traded, own_read}
use Rattle.tn_market.proofs.market.Market.own.Goals as goal

pub index-requires : goal.index-requires
index-requires g c =
    let o = own_of_traded g.V.Valuation.firm (λ list. list.items) c.self.inside.firms.items c.self.inside.trades.items
    c.self.inside.own.items c.args.self.now
    c.self.view_is c.self.invariant c.args.f c.index-own.result.now c.requires.firm c.index-own.ensures in
    let inside = c.requires.position o.firm o.is in
    let counted = o.list.counted in
    omega (arith, inside, counted)

pub returns-clause-trade : goal.returns-clause-trade
returns-clause-trade g c =
    let o = own_of_traded g.V.Valuation.firm (λ list. list.items) c.self.inside.firms.items c.self.inside.trades.items
    c.self.inside.own.items c.args.self.now
    c.self.view_is c.self.invariant c.args.f c.index-own.result.now c.requires.firm c.index-own.ensures in
    let inside = c.requires.position o.firm o.is in
    own_read c.args.self.now.trades c.args.f (g.V.Valuation.firm o.firm).count c.index-own.result.now.items c.args.k
    c.index.result.now o.list inside c.index.ensures

pub returns-clause-inside : goal.returns-clause-inside
returns-clause-inside g c =
    let o = own_of_traded g.V.Valuation.firm (λ list. list.items) c.self.inside.firms.items c.self.inside.trades.items
    c.self.inside.own.items c.args.self.now
    c.self.view_is c.self.invariant c.args.f c.index-own.result.now c.requires.firm c.index-own.ensures in
    let inside = c.requires.position o.firm o.is in
    let here = own_read c.args.self.now.trades c.args.f (g.V.Valuation.firm o.firm).count c.index-own.result.now.items
    c.args.k c.index.result.now o.list inside c.index.ensures in
    let below = o.inside c.args.k (omega (arith, inside, o.list.counted)) in
    omega (arith, here, below)
