-- What shows the clauses of `are_cheap` of `src/least.rt`.
use Rattle.std.proofs.Common.{get_or, arith, pos}
use Rattle.std.proofs.lemmas.Int.{ints, to_z-of_z}
use Rattle.std.proofs.lemmas.Option.{slice_get-get_or, slice_get_within}
use mir.Syntax.{w64}
use mir.Val.{SFits}
use Rattle.tn_base.specs.Arcs.{IsAtMost}
use Rattle.tn_dimacs.specs.declared.problem.Arc.{Arc}
use Rattle.tn_links.specs.Widths.{most_each}
use Rattle.tn_links.proofs.CheckLemmas.{holds_more}
use Rattle.tn_dimacs.proofs.least.are_cheap.Goals as goal
use Rattle.tn_dimacs.proofs.least.are_cheap.Goals.{then-cost-via-then-cost, then-cost-via-else-cost+then-cost-gt-MOST_EACH}

pub returns-then-cost-clause-no : goal.returns-then-cost-clause-no
returns-then-cost-clause-no c is cheap =
    let none : Arc = record { tail = 0; head = 0; capacity = 0; cost = pos 0 } in
    let arc = get_or c.args.arcs.now c.loop-arc.arc-index none in
    let fits : SFits w64 arc.cost = omega (arith, ints) in
    let small = cheap c.loop-arc.arc-index arc
    (slice_get-get_or c.args.arcs.now c.loop-arc.arc-index none c.loop-arc-test.true) in
    elim c.then-cost.branch [
      | then-cost-via-then-cost w ↦
          let low = simp to_z-of_z at w.if-cost.true in grind (arith, ints, low, small.low)
      | then-cost-via-else-cost+then-cost-gt-MOST_EACH w ↦
          let high = simp to_z-of_z at w.if-cost-gt-MOST_EACH.true in grind (arith, ints, high, small.high)
    ]

pub loop-arc-preserved : goal.loop-arc-preserved
loop-arc-preserved c =
    let arc = get_or c.args.arcs.now c.loop-arc.arc-index (record { tail = 0; head = 0; capacity = 0; cost = pos 0 }) in
    let fits : SFits w64 arc.cost = omega (arith, ints) in
    let low = simp to_z-of_z at c.if-cost.false in
    let high = simp to_z-of_z at c.if-cost-gt-MOST_EACH.false in
    holds_more (λ i (one : Arc). IsAtMost one.cost most_each) c.args.arcs.now c.loop-arc.arc-index arc
    (slice_get-get_or c.args.arcs.now c.loop-arc.arc-index (record { tail = 0; head = 0; capacity = 0; cost = pos 0 }) c.loop-arc-test.true)
    (record { low = grind (arith, ints, low); high = grind (arith, ints, high) })
    c.loop-arc.invariant

pub returns-clause-yes : goal.returns-clause-yes
returns-clause-yes c is i arc at =
    let below = slice_get_within c.args.arcs.now i arc at in
    c.loop-arc.invariant i arc (omega (arith, below, c.loop-arc-test.false)) at
