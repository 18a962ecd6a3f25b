-- What shows the clauses of `Stand::read_line` of `src/reading.rt`.
use Rattle.std.proofs.Common.{sym, ◌∙◌, ◌≡◌, ◌<◌, ◌+◌, ◌^◌, ℕ, ap, ap₂, length, map, subst, arith, lit<}
use Rattle.tn_base.specs.Sets.{has}
use Rattle.tn_firm_laws.specs.Places.{move}
use Rattle.tn_market.specs.ArcPlaces.{AreArcPlaces}
use Rattle.tn_market.specs.Valued.{HasToggledWorths}
use Rattle.tn_graph.specs.Layout.{IsLaidOut}
use Rattle.tn_graph.specs.Reading.{HasArc, raised_place, lowered_place}
use Rattle.tn_graph.proofs.ReadingLemmas.{improves-none, improves-trans}
use Rattle.tn_graph.proofs.LineLemmas.{whole_line, null_is_place, null_worth, partners_own, partner_is_place}
use Rattle.tn_graph.proofs.stand.Stand.read_line.Goals as goal

pub row-requires : goal.row-requires
row-requires g c =
    let counted = c.requires.stand.counted in
    let room = c.requires.room in
    record {
      own = c.toggled_at-toggled.ensures.own;
      own_wanted = subst (λ (n : ℕ). c.args.others < 2 ^ n) counted
          (partners_own _ _ _ c.args.rises _ c.args.others c.requires.others);
      room = omega (arith, counted, room);
    }

pub write_line-requires : goal.write_line-requires
write_line-requires g c =
    let worth_of = (g.V.Valuation.firm c.args.self.now.firm.now).worth in
    let room = c.requires.room in
    let worths =
    subst (λ (x : ℕ). HasToggledWorths worth_of x c.args.others c.row.new.worths) c.toggled_at-toggled.ensures.toggled
    c.row.ensures.worths in
    let places = partner_is_place _ _ _ _ _ _ _ _ _ c.requires.stand c.args.rises c.args.k c.args.others
    c.args.self.now.asked c.requires.place c.requires.moves c.requires.others in (
      lit< tt,
      (
        c.requires.stand,
        (c.requires.sized, (c.requires.laid_out, (places, (omega (arith, room, c.row.auto.worths), worths)))),
      ),
    )

pub write_arc-requires : goal.write_arc-requires
write_arc-requires g c =
    let firm = g.V.Valuation.firm c.args.self.now.firm.now in
    let sized : c.write_line.new.graph.nodes ≡ length c.args.self.now.market.now.trades + 1 =
    c.write_line.ensures.improved.nodes ∙ c.requires.sized in
    let there = null_is_place _ _ _ _ _ _ _ _ _ c.requires.stand c.args.rises c.args.k c.if-k-self.true
    c.requires.moves in
    let places = subst (λ (i : ℕ). AreArcPlaces firm c.args.self.now.bundle i c.ends_of-i.result.1)
    (sym c.ends_of-i.ensures.raised)
    (subst (λ (j : ℕ). AreArcPlaces firm c.args.self.now.bundle
    (raised_place c.args.rises c.args.k c.args.self.now.count) j) (sym c.ends_of-i.ensures.lowered) there) in
    let moved = null_worth c.args.self.now.count c.args.self.now.bundle c.args.rises c.args.k
    c.toggled_at-toggled.result c.toggled_at-toggled.ensures.toggled
    ∙ sym (ap₂ (move c.args.self.now.count c.args.self.now.bundle) c.ends_of-i.ensures.raised
    c.ends_of-i.ensures.lowered) in
    let laid_out = subst (IsLaidOut c.args.self.now.market.now.trades (has c.args.self.now.on.now))
    (sym c.write_line.ensures.improved.places) c.requires.laid_out in
    (lit< tt, (c.requires.stand, (sized, (laid_out, (places, c.value-worth.ensures.worth ∙ ap firm.worth moved)))))

pub returns-then-k-self-clause-improved : goal.returns-then-k-self-clause-improved
returns-then-k-self-clause-improved g c =
    improves-trans _ c.args.graph.now c.write_line.new.graph c.write_arc.new.graph c.write_line.ensures.improved
    c.write_arc.ensures.improved

pub returns-then-k-self-clause-line : goal.returns-then-k-self-clause-line
returns-then-k-self-clause-line g c =
    let arc = subst (λ (i : ℕ). HasArc (map g.V.Valuation.firm c.args.self.now.market.now.firms)
    c.args.self.now.market.now.trades c.args.self.now.on.now
    c.args.self.now.f c.args.self.now.count i
    (lowered_place c.args.rises c.args.k c.args.self.now.count) c.write_arc.new.graph) c.ends_of-i.ensures.raised
    (subst (λ (j : ℕ). HasArc (map g.V.Valuation.firm c.args.self.now.market.now.firms)
    c.args.self.now.market.now.trades c.args.self.now.on.now
    c.args.self.now.f c.args.self.now.count c.ends_of-i.result.0 j c.write_arc.new.graph) c.ends_of-i.ensures.lowered
    c.write_arc.ensures.arc) in
    whole_line _ _ _ _ _ _ _ _ _ c.requires.stand c.args.rises c.args.k c.args.others c.args.self.now.asked
    c.requires.place c.requires.others c.args.graph.now c.write_line.new.graph c.write_arc.new.graph
    c.write_line.ensures c.write_arc.ensures.improved (λ below. arc)

pub returns-else-k-self-clause-line : goal.returns-else-k-self-clause-line
returns-else-k-self-clause-line g c =
    whole_line _ _ _ _ _ _ _ _ _ c.requires.stand c.args.rises c.args.k c.args.others c.args.self.now.asked
    c.requires.place c.requires.others c.args.graph.now c.write_line.new.graph c.write_line.new.graph
    c.write_line.ensures (improves-none _ c.write_line.new.graph)
    (λ below. absurd (let past = c.if-k-self.false in omega (arith, below, past)))
