-- What shows the clauses of `Places::lay_trade` of `src/places.rt`.
use Rattle.std.proofs.Common.{arith, ap, sym, ◌∙◌, ◌≡◌, ◌<◌, ◌+◌, Bool, not, if◌then◌else◌, ℕ, Some, map, length, set, slice_get, option_map}
use Rattle.std.proofs.lemmas.Option.{slice_get-map}
use Rattle.std.proofs.lemmas.List.{length-map}
use Rattle.tn_base.specs.Sets.{has}
use Rattle.tn_model.specs.Network.{own}
use Rattle.tn_graph.specs.declared.spot.Spot.{Spot}
use Rattle.tn_graph.specs.Layout.{end_of, own_before}
use Rattle.tn_graph.proofs.EndLemmas.{end_here}
use Rattle.tn_graph.proofs.LayoutLemmas.{laid_more, own_index}
use Rattle.tn_graph.proofs.places.Places.lay_trade.Goals as goal

pub index_mut-requires : goal.index_mut-requires
index_mut-requires g c =
    let firms = map g.V.Valuation.firm c.args.market.now.firms in
    let listed : slice_get firms c.args.f ≡ Some (g.V.Valuation.firm c.firm-firm.result.now) =
    slice_get-map g.V.Valuation.firm c.args.market.now.firms c.args.f
    ∙ ap (option_map g.V.Valuation.firm) c.firm-firm.ensures in
    let at : c.args.spot.own ≡ own_before firms c.args.f =
    ap (λ (z : Spot). z.own) (c.requires.spot c.firm-firm.result.now c.firm-firm.ensures) in
    let inside = own_index firms c.args.market.now.trades c.requires.network c.args.f c.args.spot.position
    (g.V.Valuation.firm c.firm-firm.result.now) listed
    (c.requires.position c.firm-firm.result.now c.firm-firm.ensures) in
    let sized = c.requires.laid.own_sized in
    omega (arith, at, inside, sized)

pub returns-then-rises : goal.returns-then-rises
returns-then-rises g c =
    let firms = map g.V.Valuation.firm c.args.market.now.firms in
    let firm = g.V.Valuation.firm c.firm-firm.result.now in
    let is = c.firm-firm.ensures in
    let trades = c.args.market.now.trades in
    let listed : slice_get firms c.args.f ≡ Some firm =
    slice_get-map g.V.Valuation.firm c.args.market.now.firms c.args.f ∙ ap (option_map g.V.Valuation.firm) is in
    let spot_is = c.requires.spot c.firm-firm.result.now is in
    let at : c.args.spot.own ≡ own_before firms c.args.f = ap (λ (z : Spot). z.own) spot_is in
    let k = c.args.spot.position in
    let inside = c.requires.position c.firm-firm.result.now is in
    let many = length-map c.args.market.now.firms g.V.Valuation.firm in
    let f_in : c.args.f < length firms = (let below = c.requires.firm in omega (arith, below, many)) in
    let t_is = c.own-t.ensures.trade in
    let rises_is : c.rises.result ≡ (if has firm.buys k then not (has c.args.on.now (own trades c.args.f k))
    else has c.args.on.now (own trades c.args.f k)) = c.rises.ensures
    ∙ ap (λ (h : Bool). if has firm.buys k then not h else h) (c.has.ensures ∙ ap (has c.args.on.now) t_is) in
    let there : end_of trades (has c.args.on.now) c.rises.result c.own-t.result ≡ Some (c.args.f, k) =
    ap (end_of trades (has c.args.on.now) c.rises.result) t_is
    ∙ end_here firms trades c.requires.network c.args.on.now c.args.f k firm listed inside c.rises.result rises_is in
    laid_more firms trades c.requires.network c.args.on.now c.args.f k firm listed inside f_in
    c.args.self.now.raised.items c.args.self.now.lowered.items c.args.self.now.own.items c.requires.laid
    c.own-t.result t_is c.rises.result there c.args.spot spot_is _ _ _
    (sym (ap (λ (b : Bool). if b then set c.args.self.now.raised.items c.own-t.result c.args.spot
    else c.args.self.now.raised.items) c.if-rises.true))
    (sym (ap (λ (b : Bool). if b then c.args.self.now.lowered.items
    else set c.args.self.now.lowered.items c.own-t.result c.args.spot) c.if-rises.true))
    (ap (λ (o : ℕ). set c.args.self.now.own.items (o + k) c.own-t.result) at)

pub returns-else-rises : goal.returns-else-rises
returns-else-rises g c =
    let firms = map g.V.Valuation.firm c.args.market.now.firms in
    let firm = g.V.Valuation.firm c.firm-firm.result.now in
    let is = c.firm-firm.ensures in
    let trades = c.args.market.now.trades in
    let listed : slice_get firms c.args.f ≡ Some firm =
    slice_get-map g.V.Valuation.firm c.args.market.now.firms c.args.f ∙ ap (option_map g.V.Valuation.firm) is in
    let spot_is = c.requires.spot c.firm-firm.result.now is in
    let at : c.args.spot.own ≡ own_before firms c.args.f = ap (λ (z : Spot). z.own) spot_is in
    let k = c.args.spot.position in
    let inside = c.requires.position c.firm-firm.result.now is in
    let many = length-map c.args.market.now.firms g.V.Valuation.firm in
    let f_in : c.args.f < length firms = (let below = c.requires.firm in omega (arith, below, many)) in
    let t_is = c.own-t.ensures.trade in
    let rises_is : c.rises.result ≡ (if has firm.buys k then not (has c.args.on.now (own trades c.args.f k))
    else has c.args.on.now (own trades c.args.f k)) = c.rises.ensures
    ∙ ap (λ (h : Bool). if has firm.buys k then not h else h) (c.has.ensures ∙ ap (has c.args.on.now) t_is) in
    let there : end_of trades (has c.args.on.now) c.rises.result c.own-t.result ≡ Some (c.args.f, k) =
    ap (end_of trades (has c.args.on.now) c.rises.result) t_is
    ∙ end_here firms trades c.requires.network c.args.on.now c.args.f k firm listed inside c.rises.result rises_is in
    laid_more firms trades c.requires.network c.args.on.now c.args.f k firm listed inside f_in
    c.args.self.now.raised.items c.args.self.now.lowered.items c.args.self.now.own.items c.requires.laid
    c.own-t.result t_is c.rises.result there c.args.spot spot_is _ _ _
    (sym (ap (λ (b : Bool). if b then set c.args.self.now.raised.items c.own-t.result c.args.spot
    else c.args.self.now.raised.items) c.if-rises.false))
    (sym (ap (λ (b : Bool). if b then c.args.self.now.lowered.items
    else set c.args.self.now.lowered.items c.own-t.result c.args.spot) c.if-rises.false))
    (ap (λ (o : ℕ). set c.args.self.now.own.items (o + k) c.own-t.result) at)
