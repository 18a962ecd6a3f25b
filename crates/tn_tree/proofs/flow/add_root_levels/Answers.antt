-- What shows the clauses of `add_root_levels` of `src/flow.rt`.
use Rattle.std.proofs.Common.{get_or, sym, ap, subst, arith, ◌∙◌, ℕ, pos, ◌+ℤ◌}
use Rattle.std.specs.Prelude.{unsigned_abs}
use Rattle.std.proofs.lemmas.Int.{ints, to_z-of_z}
use mir.Syntax.{w128}
use mir.Val.{SFits}
use Rattle.tn_base.specs.Arcs.{IsAtMost}
use Rattle.tn_counts.specs.Widths.{most_market_units, unbounded}
use Rattle.tn_tree.specs.Levels.{root_level}
use Rattle.tn_tree.proofs.ListLemmas.{append_more}
use Rattle.tn_tree.proofs.flow.add_root_levels.Goals as goal

pub loop-firm-preserved : goal.loop-firm-preserved
loop-firm-preserved c =
    let node = c.root_node.ensures in
    let small = subst (λ (v : ℕ). IsAtMost (get_or c.args.nets.now v (pos 0)) most_market_units) (sym node)
    (c.requires.small c.loop-firm.firm (omega arith)) in
    let fits : SFits w128 (get_or c.args.nets.now c.root_node.result (pos 0)) = omega (arith, ints, small.low, small.high) in
    let level = simp to_z-of_z at c.level_at.ensures in
    append_more (root_level c.args.market.now c.args.nets.now) c.args.levels.now.items c.loop-firm.levels.items
    c.push.new.self.items c.level_at.result c.loop-firm.firm c.in_ok-push.ensures.items c.loop-firm.invariant
    (level
    ∙ ap (λ (v : ℕ). unsigned_abs (get_or c.args.nets.now v (pos 0) +ℤ pos unbounded)) c.root_node.ensures)
