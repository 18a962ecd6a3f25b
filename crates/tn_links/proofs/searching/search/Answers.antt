-- What shows the clauses of `search` of `src/searching.rt`.
use Rattle.std.proofs.Common.{◌≡◌, ◌≢◌, ◌-◌, ℤ, ap, sym, subst, arith}
use Rattle.std.proofs.lemmas.Int.{ints}
use Rattle.tn_base.specs.Arcs.{IsAtMost}
use Rattle.tn_base.specs.Walks.{KeepsArcs, arcs_among, is_admitted}
use Rattle.tn_cycle.specs.Answers.{AreNear, label_in}
use Rattle.tn_cycle.specs.Widths.{most_label}
use Rattle.tn_links.specs.Lots.{link_arc}
use Rattle.tn_links.specs.LotLemmas.{between-link_arc, small_lots}
use Rattle.tn_links.specs.Rounds.{GoesRound}
use Rattle.tn_links.specs.Shown.{shown_arc}
use Rattle.tn_links.specs.Widths.{near_enough}
use Rattle.tn_links.proofs.SearchLemmas.{found_round, keeps_shown}
use Rattle.tn_links.proofs.searching.search.Goals as goal

-- near enough is near
wider : (z : ℤ) → IsAtMost z near_enough → IsAtMost z most_label
wider z near = record { low = omega (arith, ints, near.low); high = omega (arith, ints, near.high) }

pub invariant_of-graph-clause-light : goal.invariant_of-graph-clause-light
invariant_of-graph-clause-light c =
    small_lots c.args.links.now.links.items c.args.levels.now c.args.lot c.requires.light

pub push_round-requires-clause-round : goal.push_round-requires-clause-round
push_round-requires-clause-round c =
    let links = c.args.links.now in
    let arc = link_arc links.links.items c.args.levels.now c.args.lot in
    subst (GoesRound links.nodes arc) (sym c.listed.ensures)
    (found_round links.nodes _ _ c.args.node _ arc _ _ _ (between-link_arc links.nodes links.links.items c.args.levels.now
    c.args.lot links.plain) c.in-Cycle.ensures.answer)

pub through-found-requires : goal.through-found-requires
through-found-requires c =
    let links = c.args.links.now in
    let arc = link_arc links.links.items c.args.levels.now c.args.lot in
    let sized = c.bring_near.ensures.fits in
    let labelled = c.bring_near.ensures.labelled in
    let wide = c.requires.wide in
    let inside = c.requires.inside in
    let other : c.args.node ≢ c.bring_near.new.finder.nodes - 1 = λ e. omega (arith, e, inside, sized) in
    let near : AreNear most_label c.bring_near.new.finder.labels =
    λ v below. wider (label_in c.bring_near.new.finder.labels v) (c.bring_near.ensures.near v below) in
    let keeps = keeps_shown (label_in c.label_as.new.self.labels) c.args.node (c.bring_near.new.finder.nodes - 1)
    c.leave_out.new.nodes arc c.leave_out.ensures other in
    let same : label_in c.label_as.new.self.labels ≡ label_in c.bring_near.new.finder.labels =
    ap label_in c.label_as.ensures.labels in (
      omega arith,
      (
        sym sized,
        (
          omega (arith, sized, wide),
          (
            omega (arith, sized, inside),
            (
              omega (arith, sized, labelled),
              (
                near,
                subst (KeepsArcs
                    (arcs_among (is_admitted (c.bring_near.new.finder.nodes - 1) c.leave_out.new.nodes)
                    (shown_arc (label_in c.label_as.new.self.labels) c.args.node arc))) same keeps,
              ),
            ),
          ),
        ),
      ),
    )
