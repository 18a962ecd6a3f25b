-- What shows the clauses of `Graph::lay_out` of `src/graph.rt`.
use Rattle.std.proofs.Common.{ap, subst, sym, ◌∙◌, ◌≡◌, ◌+◌, arith, ℕ, map, length}
use Rattle.std.proofs.lemmas.List.{length-map}
use Rattle.tn_base.specs.Sets.{has}
use Rattle.tn_graph.specs.Blocks.{CostBlocks, HasRoomForBlocks, room_of}
use Rattle.tn_graph.specs.Layout.{IsLaidOut, IsLaidTo}
use Rattle.tn_graph.proofs.CellLemmas.{no_arcs}
use Rattle.tn_graph.proofs.LayoutLemmas.{sound, laid_out}
use Rattle.tn_graph.proofs.RoomLemmas.{counts_few}
use Rattle.tn_graph.proofs.graph.Graph.lay_out.Goals as goal

pub invariant_of-self-inside : goal.invariant_of-self-inside
invariant_of-self-inside g c =
    let firms = map g.V.Valuation.firm c.args.market.now.firms in
    let trades = c.args.market.now.trades in
    let nodes_is : c.self.inside.nodes ≡ length trades + 1 =
    ap (λ (m : CostBlocks). m.nodes) c.self.view_is ∙ c.requires.sized in
    let laid : IsLaidTo firms trades c.args.on.now (length firms) 0 c.lay_out.new.self.raised.items
    c.lay_out.new.self.lowered.items c.lay_out.new.self.own.items =
    subst (λ (n : ℕ). IsLaidTo firms trades c.args.on.now n 0 c.lay_out.new.self.raised.items
    c.lay_out.new.self.lowered.items c.lay_out.new.self.own.items)
    (sym (length-map c.args.market.now.firms g.V.Valuation.firm)) c.lay_out.ensures in
    let long = c.fill.ensures.len in
    let was = c.self.inside.sound.cells_sized in
    let room = ap room_of nodes_is in
    let sized : length c.fill.new.self.items ≡ room_of (length trades + 1) = omega (arith, long, was, room) in
    let few = c.trades-trades.ensures.few in
    let count = c.trades-trades.ensures.count in (
      subst (λ (n : ℕ). HasRoomForBlocks n (record {
        laid = c.trades-trades.result;
        raised = c.lay_out.new.self.raised.items;
        lowered = c.lay_out.new.self.lowered.items;
        own = c.lay_out.new.self.own.items;
      }) c.fill.new.self.items) (sym nodes_is)
          (subst (λ (l : ℕ). HasRoomForBlocks (length trades + 1) (record {
            laid = l;
            raised = c.lay_out.new.self.raised.items;
            lowered = c.lay_out.new.self.lowered.items;
            own = c.lay_out.new.self.own.items;
          }) c.fill.new.self.items) (sym count)
          (sound firms trades c.trades-trades.ensures.network c.args.on.now _ _ _ laid
          (counts_few g.V.Valuation.firm c.args.market.now.firms (λ v. (g.met.V.Valuation.lawful v).few_trades))
          c.fill.new.self.items (omega (arith, few, count)) sized)),
      tt,
    )

pub returns-clause-without : goal.returns-clause-without
returns-clause-without g c = record {
  nodes = ap (λ (m : CostBlocks). m.nodes) c.self.view_is;
  none = (no_arcs _ _ (c.fill.ensures.items (λ y same. same))).none;
}

pub returns-clause-laid_out : goal.returns-clause-laid_out
returns-clause-laid_out g c =
    let firms = map g.V.Valuation.firm c.args.market.now.firms in
    let trades = c.args.market.now.trades in
    let laid : IsLaidTo firms trades c.args.on.now (length firms) 0 c.lay_out.new.self.raised.items
    c.lay_out.new.self.lowered.items c.lay_out.new.self.own.items =
    subst (λ (n : ℕ). IsLaidTo firms trades c.args.on.now n 0 c.lay_out.new.self.raised.items
    c.lay_out.new.self.lowered.items c.lay_out.new.self.own.items)
    (sym (length-map c.args.market.now.firms g.V.Valuation.firm)) c.lay_out.ensures in
    subst (λ (l : ℕ). IsLaidOut trades (has c.args.on.now) (record {
      laid = l;
      raised = c.lay_out.new.self.raised.items;
      lowered = c.lay_out.new.self.lowered.items;
      own = c.lay_out.new.self.own.items;
    })) (sym c.trades-trades.ensures.count)
    (laid_out firms trades c.trades-trades.ensures.network c.args.on.now _ _ _ laid)
