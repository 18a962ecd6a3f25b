-- What shows the clauses of `Stand::read_arcs` of `src/reading.rt`.
use Rattle.std.proofs.Common.{sym, ap, ◌∙◌, ◌≡◌, ◌+◌, ℕ, Bool, map, true, refl, rules, nat_lt, if◌then◌else◌, subst, arith, length, lit<}
use Rattle.std.proofs.lemmas.Bool.{lt-ltb, le-ltb}
use Rattle.tn_base.specs.Sets.{has, size}
use Rattle.tn_graph.specs.Layout.{IsLaidOut}
use Rattle.tn_graph.specs.Reading.{partners}
use Rattle.tn_graph.proofs.AskedLemmas.{AreSpared, spared_all}
use Rattle.tn_graph.proofs.LineLemmas.{AreRowsRead, carried, rows_none, rows_more, rows_same, row_moves, all_rows, partners_own, partners_asked}
use Rattle.tn_graph.proofs.stand.Stand.read_arcs.Goals as goal
use Rattle.tn_graph.proofs.stand.Stand.read_arcs.Goals.{then-is_partner, else-is_partner}

pub loop-k-init : goal.loop-k-init
loop-k-init g c = rows_none _ _ _ _ _ _ _ _ _ _ _

pub read_line-requires : goal.read_line-requires
read_line-requires g c =
    let below = c.loop-k-test.true in
    let few = c.requires.stand.few in
    let sized : c.loop-k.graph.nodes ≡ length c.args.self.now.market.now.trades + 1 =
    c.loop-k.invariant.improved.nodes ∙ c.requires.sized in
    let laid_out = subst (IsLaidOut c.args.self.now.market.now.trades (has c.args.self.now.on.now))
    (sym c.loop-k.invariant.improved.places) c.requires.laid_out in
    let moves = row_moves c.args.self.now.count (g.V.Valuation.firm c.args.self.now.firm.now).buys
    c.args.self.now.bundle c.args.self.now.asked c.loop-k.k c.is_partner.result below c.is_partner.ensures
    c.if-is_partner.true in (
      lit< tt,
      (
        c.requires.stand,
        (sized, (laid_out, (omega (arith, below), (moves.1, (c.partners-lowered.ensures, search rules))))),
      ),
    )

pub loop-k-preserved : goal.loop-k-preserved
loop-k-preserved g c =
    let below = c.loop-k-test.true in
    let firm = g.V.Valuation.firm c.args.self.now.firm.now in
    let others = partners firm.buys c.args.self.now.bundle c.args.self.now.asked true c.args.self.now.count in
    elim c.if-is_partner.branch [
      | then-is_partner w ↦
          let moves = row_moves c.args.self.now.count firm.buys c.args.self.now.bundle c.args.self.now.asked
          c.loop-k.k c.is_partner.result below c.is_partner.ensures w.if-is_partner.true in
          let one : ◌≡◌ {A = ℕ} (if nat_lt c.loop-k.k c.args.self.now.count then 1 else 0) 1 =
          ap (λ (b : Bool). if b then 1 else 0) (lt-ltb c.loop-k.k c.args.self.now.count below) in
          let same = ap size c.partners-lowered.ensures in
          carried (AreRowsRead (map g.V.Valuation.firm c.args.self.now.market.now.firms)
          c.args.self.now.market.now.trades
          c.args.self.now.on.now c.args.self.now.f c.args.self.now.count firm c.args.self.now.bundle
          c.args.self.now.asked others c.args.graph.now c.args.steps.now (c.loop-k.k + 1))
          w.read_line.new.graph c.if-is_partner.graph w.read_line.new.steps c.if-is_partner.steps w.graph-is w.steps-is
          (rows_more _ _ _ _ _ _ _ _ _ c.requires.stand c.args.self.now.asked others c.loop-k.k refl c.requires.own
          below moves.0 moves.1 c.args.graph.now c.loop-k.graph c.args.steps.now c.loop-k.steps w.read_line.new.steps
          w.read_line.new.graph c.loop-k.invariant w.read_line.ensures.improved w.read_line.ensures.line
          (let asked = w.read_line.ensures.asked in omega (arith, asked, one, same)))
      | else-is_partner w ↦
          carried (AreRowsRead (map g.V.Valuation.firm c.args.self.now.market.now.firms)
          c.args.self.now.market.now.trades
          c.args.self.now.on.now c.args.self.now.f c.args.self.now.count firm c.args.self.now.bundle
          c.args.self.now.asked others c.args.graph.now c.args.steps.now (c.loop-k.k + 1))
          c.loop-k.graph c.if-is_partner.graph c.loop-k.steps c.if-is_partner.steps w.graph-is w.steps-is
          (rows_same _ _ _ _ _ _ _ _ _ c.requires.stand c.args.self.now.asked others c.loop-k.k refl below
          c.is_partner.result c.is_partner.ensures w.if-is_partner.false c.args.graph.now c.args.steps.now
          c.loop-k.steps c.loop-k.graph c.loop-k.invariant)
    ]

pub returns-clause-arcs : goal.returns-clause-arcs
returns-clause-arcs g c =
    let past = c.loop-k-test.false in
    let end : c.loop-k.k ≡ c.args.self.now.count = omega (arith, past, c.loop-k.auto.k-end) in
    let firm = g.V.Valuation.firm c.args.self.now.firm.now in
    let others = partners firm.buys c.args.self.now.bundle c.args.self.now.asked true c.args.self.now.count in
    let rows = subst (λ (k : ℕ). AreRowsRead (map g.V.Valuation.firm c.args.self.now.market.now.firms)
    c.args.self.now.market.now.trades
    c.args.self.now.on.now c.args.self.now.f c.args.self.now.count firm c.args.self.now.bundle c.args.self.now.asked
    others c.args.graph.now c.args.steps.now k c.loop-k.graph c.loop-k.steps) end c.loop-k.invariant in
    all_rows _ _ _ _ _ _ _ _ _ c.requires.stand c.args.self.now.asked others c.args.graph.now c.loop-k.graph
    c.read_line-2.new.graph c.args.steps.now c.loop-k.steps rows c.read_line-2.ensures.improved
    c.read_line-2.ensures.line

pub returns-clause-asked : goal.returns-clause-asked
returns-clause-asked g c =
    let past = c.loop-k-test.false in
    let end : c.loop-k.k ≡ c.args.self.now.count = omega (arith, past, c.loop-k.auto.k-end) in
    let firm = g.V.Valuation.firm c.args.self.now.firm.now in
    let others = partners firm.buys c.args.self.now.bundle c.args.self.now.asked true c.args.self.now.count in
    let spared = subst (λ (k : ℕ). AreSpared c.args.self.now.asked others c.args.steps.now k c.loop-k.steps) end
    c.loop-k.invariant.spared in
    let none : ◌≡◌ {A = ℕ} (if nat_lt c.args.self.now.count c.args.self.now.count then 1 else 0) 0 =
    ap (λ (b : Bool). if b then 1 else 0) (le-ltb c.args.self.now.count c.args.self.now.count (omega arith)) in
    let same = ap size c.partners-lowered.ensures in
    let asked = c.read_line-2.ensures.asked in
    spared_all c.args.self.now.asked others c.args.steps.now c.args.self.now.count c.loop-k.steps
    c.read_line-2.new.steps c.requires.own
    (partners_own firm.buys c.args.self.now.bundle c.args.self.now.asked true c.args.self.now.count others refl)
    (partners_asked firm.buys c.args.self.now.bundle c.args.self.now.asked true c.args.self.now.count others refl)
    spared (omega (arith, asked, none, same))
