-- What shows the clauses of `Stand::write_arc` of `src/reading.rt`.
use Rattle.std.proofs.Common.{◌∙◌, ap₂, sym, map, lit<}
use Rattle.tn_market.specs.Graph.{exchange_arc}
use Rattle.tn_graph.specs.Blocks.{arcs_of}
use Rattle.tn_graph.proofs.ReadingLemmas.{written_improves}
use Rattle.tn_graph.proofs.LineLemmas.{loss_is_arc}
use Rattle.tn_graph.proofs.PlacedLemmas.{placed_cost}
use Rattle.tn_graph.proofs.StandLemmas.{worth_small}
use Rattle.tn_graph.proofs.stand.Stand.write_arc.Goals as goal

pub loss-requires : goal.loss-requires
loss-requires g c =
    (lit< tt, (c.requires.stand, worth_small _ _ _ _ _ _ _ _ _ c.requires.stand _ c.args.worth c.requires.worth))

pub set-requires-clause-placed : goal.set-requires-clause-placed
set-requires-clause-placed g c =
    let right = loss_is_arc _ _ _ _ _ _ _ _ _ c.requires.stand c.args.i c.args.j c.requires.places c.loss.result
    (c.loss.ensures.loss _ c.requires.worth) in
    let arc = exchange_arc (map g.V.Valuation.firm c.args.self.now.market.now.firms) c.args.self.now.market.now.trades
    c.args.self.now.on.now in
    placed_cost (map g.V.Valuation.firm c.args.self.now.market.now.firms) c.args.self.now.market.now.trades
    c.args.self.now.on.now c.args.graph.now.nodes c.args.graph.now.places c.requires.laid_out c.requires.sized
    c.node.result c.node-2.result c.loss.result (right ∙ sym (ap₂ arc c.node.ensures c.node-2.ensures))

pub returns-clause-improved : goal.returns-clause-improved
returns-clause-improved g c =
    let right = loss_is_arc _ _ _ _ _ _ _ _ _ c.requires.stand c.args.i c.args.j c.requires.places c.loss.result
    (c.loss.ensures.loss _ c.requires.worth) in
    let arc = exchange_arc (map g.V.Valuation.firm c.args.self.now.market.now.firms) c.args.self.now.market.now.trades
    c.args.self.now.on.now in
    written_improves arc c.args.graph.now c.set.new.self c.node.result c.node-2.result c.loss.result c.set.ensures
    (right ∙ sym (ap₂ arc c.node.ensures c.node-2.ensures))

pub returns-clause-arc : goal.returns-clause-arc
returns-clause-arc g c =
    let right = loss_is_arc _ _ _ _ _ _ _ _ _ c.requires.stand c.args.i c.args.j c.requires.places c.loss.result
    (c.loss.ensures.loss _ c.requires.worth) in
    sym (ap₂ (arcs_of c.set.new.self) c.node.ensures c.node-2.ensures) ∙ c.set.ensures.here ∙ right
