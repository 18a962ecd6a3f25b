-- What shows the clauses of `stands_twice` of `src/quads.rt`.
use Rattle.std.proofs.lemmas.Int.{to_z-of_z}
use Rattle.tn_local.proofs.quads.stands_twice.Goals as goal

pub returns : goal.returns
returns c =
    let a_fits = c.ranges.a in
    let b_fits = c.ranges.b in
    let c_fits = c.ranges.c in
    let first = simp to_z-of_z at c.is_not_above_both.ensures in
    let second = simp to_z-of_z at c.is_not_above_both-2.ensures in
    let third = simp to_z-of_z at c.is_not_above_both-3.ensures in (
      (λ t. (first.0 c.if-not-is_not_above_both.false, second.0 c.if-not-is_not_above_both-2.false, third.0 t)),
      λ all. third.1 all.2,
    )
