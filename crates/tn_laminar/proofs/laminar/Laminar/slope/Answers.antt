-- What shows the clauses of `Laminar::slope` of `src/row.rt`.
use Rattle.std.proofs.Common.{rules, refl, sym, subst, ap, ◌∙◌, ◌≡◌, ◌<◌, length, ℤ, pos, ◌+ℤ◌, ◌-ℤ◌, arith}
use Rattle.std.proofs.lemmas.Int.{to_z-of_z, ints}
use Rattle.std.proofs.lemmas.List.{length-map}
use Rattle.std.proofs.lemmas.Option.{slice_get_read, same_Some}
use mir.Syntax.{w32, w128}
use mir.Val.{SFits}
use Rattle.tn_laminar.specs.declared.set.LaminarSet.{LaminarSet}
use Rattle.tn_laminar.specs.Masked.{masks_of}
use Rattle.tn_firm_laws.specs.Nested.{listed_from}
use Rattle.tn_laminar.specs.Rows.{IsSlope, counted_or_unlisted}
use Rattle.tn_laminar.proofs.RowLemmas.{slope_is}
use Rattle.tn_laminar.proofs.laminar.Laminar.slope.Goals as goal

pub returns-clause-slope : goal.returns-clause-slope
returns-clause-slope c = λ set is.
    let found = slice_get_read c.args.self.now.sets.items (length c.args.self.now.sets.items) c.args.k
    c.index-set.result.now refl c.requires c.index-set.ensures in
    let masked = ap length c.args.self.now.laminar.masked
    ∙ length-map c.args.self.now.sets.items (λ set. masks_of c.args.self.now.buys set.members) in
    let inside : c.args.k < length c.args.self.now.masks.items = rw masked c.requires in
    let mask = slice_get_read c.args.self.now.masks.items (length c.args.self.now.masks.items) c.args.k
    c.index.result.now refl inside c.index.ensures in
    let same : c.index-set.result.now ≡ set = same_Some _ _ (sym found ∙ is) in
    let count : SFits w32 c.net-count.result = search rules in
    let above : SFits w32 (c.net-count.result +ℤ pos 1) = search rules in
    let below : SFits w32 (c.net-count.result -ℤ pos 1) = search rules in
    let first : SFits w128 c.counted_at-here.result = search rules in
    let second : SFits w128 c.counted_at.result = search rules in
    let third : SFits w128 c.counted_at-2.result = search rules in
    let a = c.counted_at-here.ensures.small in
    let b = c.counted_at.ensures.small in
    let d = c.counted_at-2.ensures.small in
    let up : SFits w128 (c.counted_at.result -ℤ c.counted_at-here.result) =
    omega (arith, ints, a.low, a.high, b.low, b.high) in
    let down : SFits w128 (c.counted_at-2.result -ℤ c.counted_at-here.result) =
    omega (arith, ints, a.low, a.high, d.low, d.high) in
    let number_at : ℤ → ℤ = λ z. counted_or_unlisted (listed_from c.index-set.result.now.low c.index-set.result.now.numbers z) in
    let here_is = (simp to_z-of_z at c.counted_at-here.ensures.number) ∙ ap number_at c.net-count.ensures.count in
    let above_is = (simp to_z-of_z at c.counted_at.ensures.number)
    ∙ ap (λ (z : ℤ). number_at (z +ℤ pos 1)) c.net-count.ensures.count in
    let below_is = (simp to_z-of_z at c.counted_at-2.ensures.number)
    ∙ ap (λ (z : ℤ). number_at (z -ℤ pos 1)) c.net-count.ensures.count in
    let slope = slope_is c.args.self.now.buys c.args.x c.args.self.now.sets.items c.args.self.now.masks.items c.args.k
    c.index-set.result.now c.index.result.now
    c.counted_at-here.result c.counted_at.result c.counted_at-2.result c.args.self.now.laminar.masked found mask here_is
    above_is below_is in
    simp to_z-of_z (subst (λ (s : LaminarSet). IsSlope c.args.self.now.buys c.args.x s
    (record {
      up = c.counted_at.result -ℤ c.counted_at-here.result;
      down =
          c.counted_at-2.result -ℤ c.counted_at-here.result;
    })) same slope)
