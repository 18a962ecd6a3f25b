-- What shows the clauses of `Graph::admit` of `src/reading.rt`.
use Rattle.std.proofs.Common.{rules, true, false, sym, ap, ◌∙◌, ◌<◌, map, option_map, length, subst, arith}
use Rattle.std.proofs.lemmas.List.{length-map}
use Rattle.std.proofs.lemmas.Option.{slice_get-map, slice_get_within}
use Rattle.tn_base.specs.Sets.{has}
use Rattle.tn_graph.specs.Layout.{IsLaidOut}
use Rattle.tn_graph.proofs.AdmitLemmas.{seller_asked, buyer_asked, line_of_values, admitted_right}
use Rattle.tn_graph.proofs.graph.Graph.admit.Goals as goal

pub read_beside-requires : goal.read_beside-requires
read_beside-requires g c =
    let network = c.trades-trades.ensures.network in
    let is = c.ends-ends.ensures in
    let sold = network.sold c.args.t c.ends-ends.result is in
    let within = slice_get_within (map g.V.Valuation.firm c.args.market.now.firms)
    c.ends-ends.result.seller sold.0 sold.1 in
    let inside : c.ends-ends.result.seller < length c.args.market.now.firms =
    omega (arith, within, length-map c.args.market.now.firms g.V.Valuation.firm) in (
      search rules,
      (
        c.requires.wide,
        (
          network,
          (
            c.requires.graph.nodes,
            (
              c.requires.graph.laid_out,
              (
                inside,
                (
                  (λ v listed. seller_asked (map g.V.Valuation.firm c.args.market.now.firms) c.args.market.now.trades
                      network c.args.on.now c.args.admitted.now c.args.t c.ends-ends.result is c.requires.off
                      c.requires.admitted (g.V.Valuation.firm v)
                      (slice_get-map g.V.Valuation.firm c.args.market.now.firms c.ends-ends.result.seller
                      ∙ ap (option_map g.V.Valuation.firm) listed)),
                  (c.requires.possible, c.requires.small),
                ),
              ),
            ),
          ),
        ),
      ),
    )

pub read_beside-requires-2 : goal.read_beside-requires-2
read_beside-requires-2 g c =
    let network = c.trades-trades.ensures.network in
    let is = c.ends-ends.ensures in
    let bought = network.bought c.args.t c.ends-ends.result is in
    let within = slice_get_within (map g.V.Valuation.firm c.args.market.now.firms)
    c.ends-ends.result.buyer bought.0 bought.1 in
    let inside : c.ends-ends.result.buyer < length c.args.market.now.firms =
    omega (arith, within, length-map c.args.market.now.firms g.V.Valuation.firm) in (
      search rules,
      (
        c.requires.wide,
        (
          network,
          (
            c.read_beside.ensures.improved.nodes ∙ c.requires.graph.nodes,
            (
              subst (IsLaidOut c.args.market.now.trades (has c.args.on.now))
                  (sym c.read_beside.ensures.improved.places) c.requires.graph.laid_out,
              (
                inside,
                (
                  (λ v listed. buyer_asked (map g.V.Valuation.firm c.args.market.now.firms) c.args.market.now.trades
                      network c.args.on.now c.args.admitted.now c.args.t c.ends-ends.result is c.requires.off
                      c.requires.admitted (g.V.Valuation.firm v)
                      (slice_get-map g.V.Valuation.firm c.args.market.now.firms c.ends-ends.result.buyer
                      ∙ ap (option_map g.V.Valuation.firm) listed)),
                  (c.requires.possible, c.requires.small),
                ),
              ),
            ),
          ),
        ),
      ),
    )

pub returns-clause-graph : goal.returns-clause-graph
returns-clause-graph g c =
    admitted_right (map g.V.Valuation.firm c.args.market.now.firms) c.args.market.now.trades
    c.trades-trades.ensures.network c.args.on.now c.args.admitted.now c.args.t c.ends-ends.result c.ends-ends.ensures
    c.requires.off c.args.self.now c.read_beside.new.self c.read_beside-2.new.self c.requires.graph
    c.read_beside.ensures.improved
    (line_of_values g.V.Valuation.firm c.args.market.now.firms c.args.market.now.trades c.args.on.now
    c.args.admitted.now c.ends-ends.result.seller false c.ends-ends.result.at_seller c.read_beside.new.self
    c.read_beside.ensures.line)
    c.read_beside-2.ensures.improved
    (line_of_values g.V.Valuation.firm c.args.market.now.firms c.args.market.now.trades c.args.on.now
    c.args.admitted.now c.ends-ends.result.buyer true c.ends-ends.result.at_buyer c.read_beside-2.new.self
    c.read_beside-2.ensures.line)
