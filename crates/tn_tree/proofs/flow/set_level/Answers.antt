-- What shows the clauses of `set_level` of `src/flow.rt`.
use Rattle.std.proofs.Common.{length, get_or, refl, sym, ap, ◌∙◌, arith, pos, ◌+ℤ◌}
use Rattle.std.specs.Prelude.{unsigned_abs, Option}
use Rattle.std.proofs.lemmas.Int.{ints, to_z-of_z}
use Rattle.std.proofs.lemmas.Option.{slice_get_read}
use mir.Syntax.{w128}
use mir.Val.{SFits}
use Rattle.tn_counts.specs.declared.set.CountSet.{CountSet}
use Rattle.tn_tree.specs.Levels.{back_in}
use Rattle.tn_tree.proofs.flow.set_level.Goals as goal

pub level_at-requires-clause-few : goal.level_at-requires-clause-few
level_at-requires-clause-few c =
    let at = slice_get_read c.args.market.now.sets.items (length c.args.market.now.sets.items) c.args.i
    c.index.result.now refl c.requires.inside c.index.ensures in
    let own = c.requires.market.each c.args.i c.index.result.now at in
    let around = own.around in
    let few = own.few in
    omega (arith, around, few)

pub returns : goal.returns
returns c =
    let at = slice_get_read c.args.market.now.sets.items (length c.args.market.now.sets.items) c.args.i
    c.index.result.now refl c.requires.inside c.index.ensures in
    let small = c.requires.small in
    let fits : SFits w128 (get_or c.args.nets.now c.args.i (pos 0)) = omega (arith, ints, small.low, small.high) in
    let level = simp to_z-of_z at c.level_at.ensures in
    level
    ∙ ap (λ (o : Option CountSet). unsigned_abs (get_or c.args.nets.now c.args.i (pos 0) +ℤ pos (back_in o))) (sym at)
