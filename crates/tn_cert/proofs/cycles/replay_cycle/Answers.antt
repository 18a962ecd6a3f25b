-- What shows the clauses of `replay_cycle` of `src/cycles.rt`.
use Rattle.std.proofs.Common.{rules, arith, ◌≡◌, ℕ, sym, ap, ◌∙◌, subst, map, length, Ok, Err}
use Rattle.std.proofs.lemmas.Int.{ints, to_z-of_z}
use mir.Syntax.{w128}
use mir.Val.{to_z, SFits, of_z}
use Rattle.tn_graph.specs.Blocks.{arcs_of}
use Rattle.tn_market.specs.Graph.{exchange_arc}
use Rattle.tn_cert.specs.Claims.{GoesRound, node_of}
use Rattle.tn_cert.specs.Replays.{Rounds}
use Rattle.tn_cert.proofs.RoundLemmas.{rounds-same}
use Rattle.tn_cert.proofs.cycles.replay_cycle.Goals as goal
use Rattle.tn_cert.proofs.cycles.replay_cycle.Goals.{else-actual-lt0-via-then-actual-lt0+else-actual-cost, else-actual-lt0-via-else-actual-lt0}

pub returns-in-Err : goal.returns-in-Err
returns-in-Err g c =
    let arc = exchange_arc (map g.V.Valuation.firm c.args.market.now.firms) c.args.market.now.trades c.args.on.now in (
      c.in_default.ensures.found,
      rounds-same (arcs_of c.fill.new.self) arc c.fill.ensures.graph.arcs
          (map (node_of (length c.args.market.now.trades)) c.args.nodes.now) (Err c.in-Err.index)
          (subst (λ (n : ℕ). Rounds (arcs_of c.fill.new.self) (map (node_of n) c.args.nodes.now) (Err c.in-Err.index))
          c.trades-null.ensures.count c.in-Err.ensures),
    )

pub returns : goal.returns
returns g c =
    let arc = exchange_arc (map g.V.Valuation.firm c.args.market.now.firms) c.args.market.now.trades c.args.on.now in
    let nodes = map (node_of (length c.args.market.now.trades)) c.args.nodes.now in
    let fits : SFits w128 c.in-Ok.actual = search rules in (
      c.in_default.ensures.found,
      subst (GoesRound arc nodes) (sym (to_z-of_z w128 c.in-Ok.actual fits))
          (rounds-same (arcs_of c.fill.new.self) arc c.fill.ensures.graph.arcs nodes (Ok c.in-Ok.actual)
          (subst (λ (n : ℕ). Rounds (arcs_of c.fill.new.self) (map (node_of n) c.args.nodes.now) (Ok c.in-Ok.actual))
          c.trades-null.ensures.count c.in-Ok.ensures)),
      elim c.else-actual-lt0.branch [
        | else-actual-lt0-via-then-actual-lt0+else-actual-cost w ↦
            (λ low same. w.if-actual-cost.false (ap (of_z w128) (sym (to_z-of_z w128 c.in-Ok.actual fits) ∙ same)))
        | else-actual-lt0-via-else-actual-lt0 w ↦ (λ low same. let high = w.if-actual-lt0.false in
            absurd (omega (arith, ints, high, low)))
      ],
    )

pub returns-then-actual-cost : goal.returns-then-actual-cost
returns-then-actual-cost g c =
    let arc = exchange_arc (map g.V.Valuation.firm c.args.market.now.firms) c.args.market.now.trades c.args.on.now in
    let nodes = map (node_of (length c.args.market.now.trades)) c.args.nodes.now in
    let fits : SFits w128 c.in-Ok.actual = search rules in
    let asked : SFits w128 c.args.cost = search rules in
    let same : c.in-Ok.actual ≡ c.args.cost = sym (to_z-of_z w128 c.in-Ok.actual fits)
    ∙ ap (to_z w128) c.if-actual-cost.true ∙ to_z-of_z w128 c.args.cost asked in
    let low = c.if-actual-lt0.true in (
      c.in_default.ensures.found,
      subst (GoesRound arc nodes) same
          (rounds-same (arcs_of c.fill.new.self) arc c.fill.ensures.graph.arcs nodes (Ok c.in-Ok.actual)
          (subst (λ (n : ℕ). Rounds (arcs_of c.fill.new.self) (map (node_of n) c.args.nodes.now) (Ok c.in-Ok.actual))
          c.trades-null.ensures.count c.in-Ok.ensures)),
      omega (arith, ints, low, same),
    )
