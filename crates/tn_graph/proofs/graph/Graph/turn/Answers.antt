-- What shows the clauses of `Graph::turn` of `src/graph.rt`.
use Rattle.std.proofs.Common.{arith, ap, subst, sym, ◌∙◌, ◌<◌, length, set}
use Rattle.std.proofs.Math.ListN.{length-set}
use Rattle.std.proofs.lemmas.List.{get_or_read}
use Rattle.tn_graph.specs.declared.spot.Spot.{Spot}
use Rattle.tn_graph.specs.Blocks.{CostBlocks, no_spot}
use Rattle.tn_graph.proofs.LayoutLemmas.{turned_is, turned_sound}
use Rattle.tn_graph.proofs.graph.Graph.turn.Goals as goal

pub invariant_of-self-inside : goal.invariant_of-self-inside
invariant_of-self-inside c =
    let sound = c.self.inside.sound in
    let raised_sized = sound.raised_sized in
    let lowered_sized = sound.lowered_sized in
    let inside : c.args.t < c.self.inside.nodes =
    subst (λ (m : CostBlocks). c.args.t < m.nodes) (sym c.self.view_is) c.requires in
    let raised_long : c.args.t < length c.self.inside.places.raised.items = omega (arith, inside, raised_sized) in
    let lowered_long : c.args.t < length c.self.inside.places.lowered.items = omega (arith, inside, lowered_sized) in
    let turned = turned_is (record {
      laid = c.self.inside.laid;
      raised = c.self.inside.places.raised.items;
      lowered = c.self.inside.places.lowered.items;
      own = c.self.inside.places.own.items;
    }) c.args.t _ _ raised_long lowered_long
    (ap (λ (z : Spot). set c.self.inside.places.raised.items c.args.t z)
    (get_or_read c.self.inside.places.lowered.items c.args.t _ lowered_long c.index.ensures no_spot))
    (ap (λ (z : Spot). set c.self.inside.places.lowered.items c.args.t z)
    (get_or_read c.self.inside.places.raised.items c.args.t _ raised_long c.index-up.ensures no_spot)) in (
      turned_sound c.self.inside.nodes c.args.t _ c.self.inside.cells.items _ _ sound turned
          (length-set c.self.inside.places.raised.items c.args.t c.index.result.now ∙ raised_sized)
          (length-set c.self.inside.places.lowered.items c.args.t c.index-up.result.now ∙ lowered_sized),
      tt,
    )
