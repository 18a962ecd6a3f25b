-- What shows the clauses of `Graph::listed_at` of `src/graph.rt`.
use Rattle.std.proofs.Common.{arith, subst, sym, ◌≡◌}
use Rattle.tn_graph.specs.Blocks.{CostBlocks, spot_at}
use Rattle.tn_graph.proofs.PlacedLemmas.{own_fits}
use Rattle.tn_graph.proofs.graph.Graph.listed_at.Goals as goal

pub index-requires : goal.index-requires
index-requires c =
    let inside = own_fits _ _ _ c.self.inside.sound c.args.rises c.args.v c.args.k c.if-v-self.false c.spot-spot.result
    (subst (λ (m : CostBlocks). c.spot-spot.result ≡ spot_at m.places c.args.rises c.args.v) (sym c.self.view_is)
    c.spot-spot.ensures) c.if-k-spot.true in
    omega (arith, inside)
