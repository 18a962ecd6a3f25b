-- What shows the clauses of `Stand::write_line` of `src/reading.rt`.
use Rattle.std.proofs.Common.{sym, ◌∙◌, ◌≡◌, ◌+◌, ℕ, true, false, map, length, subst, ap, ap₂, arith, lit<}
use Rattle.tn_base.specs.Sets.{has}
use Rattle.tn_firm_laws.specs.Places.{move}
use Rattle.tn_market.specs.ArcPlaces.{AreArcPlaces}
use Rattle.tn_graph.specs.Blocks.{CostBlocks}
use Rattle.tn_graph.specs.Layout.{IsLaidOut}
use Rattle.tn_graph.specs.Reading.{IsLineRead, HasArc, raised_place, lowered_place}
use Rattle.tn_graph.proofs.LineLemmas.{line_start, line_read, line_skipped, line_worth}
use Rattle.tn_graph.proofs.stand.Stand.write_line.Goals as goal
use Rattle.tn_graph.proofs.stand.Stand.write_line.Goals.{then-has, else-has}

pub loop-other-init : goal.loop-other-init
loop-other-init g c = line_start _ _ _ _ _ _ _ _ _

pub write_arc-requires : goal.write_arc-requires
write_arc-requires g c =
    let below = c.loop-other-test.true in
    let member : has c.args.others c.loop-other.other ≡ true = sym c.has.ensures ∙ c.if-has.true in
    let sized : c.loop-other.graph.nodes ≡ length c.args.self.now.market.now.trades + 1 =
    c.loop-other.invariant.improved.nodes ∙ c.requires.sized in
    let firm = g.V.Valuation.firm c.args.self.now.firm.now in
    let there = c.requires.places c.loop-other.other below member in
    let places = subst (λ (i : ℕ). AreArcPlaces firm c.args.self.now.bundle i c.ends_of-i.result.1)
    (sym c.ends_of-i.ensures.raised)
    (subst (λ (j : ℕ). AreArcPlaces firm c.args.self.now.bundle
    (raised_place c.args.rises c.args.k c.loop-other.other) j) (sym c.ends_of-i.ensures.lowered) there) in
    let worth = line_worth c.args.self.now.count c.args.self.now.bundle c.args.rises c.args.k c.loop-other.other
    c.args.others firm.worth c.args.worths.now c.requires.worths below member
    ∙ ap firm.worth (sym (ap₂ (move c.args.self.now.count c.args.self.now.bundle) c.ends_of-i.ensures.raised
    c.ends_of-i.ensures.lowered)) in
    let laid_out = subst (IsLaidOut c.args.self.now.market.now.trades (has c.args.self.now.on.now))
    (sym c.loop-other.invariant.improved.places) c.requires.laid_out in
    (lit< tt, (c.requires.stand, (sized, (laid_out, (places, worth)))))

pub loop-other-preserved : goal.loop-other-preserved
loop-other-preserved g c = elim c.if-has.branch [
  | then-has w ↦
      let arc = subst (λ (i : ℕ). HasArc (map g.V.Valuation.firm c.args.self.now.market.now.firms)
      c.args.self.now.market.now.trades c.args.self.now.on.now
      c.args.self.now.f c.args.self.now.count i
      (lowered_place c.args.rises c.args.k c.loop-other.other) w.write_arc.new.graph) w.ends_of-i.ensures.raised
      (subst (λ (j : ℕ). HasArc (map g.V.Valuation.firm c.args.self.now.market.now.firms)
      c.args.self.now.market.now.trades c.args.self.now.on.now
      c.args.self.now.f c.args.self.now.count w.ends_of-i.result.0 j w.write_arc.new.graph) w.ends_of-i.ensures.lowered
      w.write_arc.ensures.arc) in
      subst (λ (graph : CostBlocks). IsLineRead (map g.V.Valuation.firm c.args.self.now.market.now.firms)
      c.args.self.now.market.now.trades c.args.self.now.on.now c.args.self.now.f
      c.args.self.now.count c.args.rises c.args.k c.args.others c.args.graph.now (c.loop-other.other + 1) graph)
      (sym w.graph-is)
      (line_read _ _ _ _ _ _ _ _ _ c.loop-other.other c.loop-other.graph c.loop-other.invariant w.write_arc.new.graph
      w.write_arc.ensures.improved arc)
  | else-has w ↦
      let absent : has c.args.others c.loop-other.other ≡ false = sym c.has.ensures ∙ w.if-has.false in
      subst (λ (graph : CostBlocks). IsLineRead (map g.V.Valuation.firm c.args.self.now.market.now.firms)
      c.args.self.now.market.now.trades c.args.self.now.on.now c.args.self.now.f
      c.args.self.now.count c.args.rises c.args.k c.args.others c.args.graph.now (c.loop-other.other + 1) graph)
      (sym w.graph-is)
      (line_skipped _ _ _ _ _ _ _ _ _ c.loop-other.other c.loop-other.graph c.loop-other.invariant absent)
]

pub returns : goal.returns
returns g c =
    let past = c.loop-other-test.false in
    let end : c.loop-other.other ≡ c.args.self.now.count = omega (arith, past, c.loop-other.auto.other-end) in
    subst (λ (j : ℕ). IsLineRead (map g.V.Valuation.firm c.args.self.now.market.now.firms)
    c.args.self.now.market.now.trades c.args.self.now.on.now c.args.self.now.f
    c.args.self.now.count c.args.rises c.args.k c.args.others c.args.graph.now j c.loop-other.graph) end
    c.loop-other.invariant
