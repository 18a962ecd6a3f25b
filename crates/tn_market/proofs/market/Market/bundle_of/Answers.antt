-- What shows the clauses of `Market::bundle_of` of `src/market.rt`.
use Rattle.std.proofs.Common.{arith, rules, ◌≡◌, ◌<◌, length, ap, sym, ◌∙◌, get_or, List, ℕ}
use Rattle.std.proofs.lemmas.Option.{same_Some}
use Rattle.tn_base.specs.Sets.{has, set_of}
use Rattle.tn_base.specs.Firm.{Firm}
use Rattle.tn_model.specs.Network.{own, part}
use Rattle.tn_market.proofs.MarketLemmas.{own_of_traded, own_element, part_is}
use Rattle.tn_market.proofs.market.Market.bundle_of.Goals as goal

pub positions_in-requires : goal.positions_in-requires
positions_in-requires g c =
    let o = own_of_traded g.V.Valuation.firm (λ list. list.items) c.self.inside.firms.items c.self.inside.trades.items
    c.self.inside.own.items c.args.self.now
    c.self.view_is c.self.invariant c.args.f c.index.result.now c.requires.firm c.index.ensures in
    let few = (g.met.V.Valuation.lawful o.firm).few_trades in
    let counted = o.list.counted in
    let same : length c.deref.result.now ≡ length c.index.result.now.items = ap length c.deref.ensures.value in
    let wide = c.requires.wide in
    let each : (k d : ℕ) → k < length c.deref.result.now
    → get_or c.deref.result.now k d < length c.args.self.now.trades = λ k d inside.
    let here : get_or c.deref.result.now k d ≡ own c.args.self.now.trades c.args.f k =
    ap (λ (xs : List ℕ). get_or xs k d) c.deref.ensures.value
    ∙ own_element c.args.self.now.trades c.args.f _ c.index.result.now.items k d o.list
    (omega (arith, inside, counted, same)) in
    let below = o.inside k (omega (arith, inside, same)) in
    omega (arith, here, below) in
    (search rules, (omega (arith, few, counted, same), λ k d inside. let h = each k d inside in omega (arith, h, wide)))

pub returns : goal.returns
returns g c = λ v is.
    let o = own_of_traded g.V.Valuation.firm (λ list. list.items) c.self.inside.firms.items c.self.inside.trades.items
    c.self.inside.own.items c.args.self.now
    c.self.view_is c.self.invariant c.args.f c.index.result.now c.requires.firm c.index.ensures in
    let same : g.V.Valuation.firm o.firm ≡ g.V.Valuation.firm v = ap g.V.Valuation.firm (same_Some _ _ (sym o.is ∙ is))
    in
    c.positions_in.ensures
    ∙ ap (λ (xs : List ℕ). set_of (λ k. has c.args.on.now (get_or xs k 0)) (length xs)) c.deref.ensures.value
    ∙ part_is c.args.self.now.trades c.args.f _ c.args.on.now c.index.result.now.items o.list
    ∙ ap (λ (firm : Firm). part c.args.self.now.trades c.args.f firm.count c.args.on.now) same
