-- What shows the clauses of `are_equal` of `src/blocking.rt`.
use Rattle.std.proofs.Common.{nat_eq, sym, ap₂, subst, ℤ, ◌*ℤ◌}
use Rattle.std.proofs.lemmas.Int.{to_z-of_z}
use mir.Syntax.{w128}
use mir.Val.{SFits, to_z, of_z}
use Rattle.tn_cert.specs.Greatest.{DecidesEqual}
use Rattle.tn_cert.proofs.BlockingLemmas.{decided_equal, product_fits}
use Rattle.tn_cert.proofs.blocking.are_equal.Goals as goal

pub overflow_mul-result : goal.overflow_mul-result
overflow_mul-result c =
    let first : SFits w128 c.args.a = c.ranges.a in
    let second : SFits w128 c.args.b = c.ranges.b in
    simp to_z-of_z (product_fits c.args.a c.args.b c.requires.small_a c.requires.small_b)

pub overflow_mul-result-2 : goal.overflow_mul-result-2
overflow_mul-result-2 c =
    let first : SFits w128 c.args.c = c.ranges.c in
    let second : SFits w128 c.args.d = c.ranges.d in
    simp to_z-of_z (product_fits c.args.c c.args.d c.requires.small_c c.requires.small_d)

pub returns : goal.returns
returns c =
    let first = ap₂ (λ (x y : ℤ). x *ℤ y) (to_z-of_z w128 c.args.a c.ranges.a) (to_z-of_z w128 c.args.b c.ranges.b) in
    let second = ap₂ (λ (x y : ℤ). x *ℤ y) (to_z-of_z w128 c.args.c c.ranges.c) (to_z-of_z w128 c.args.d c.ranges.d) in
    subst (λ (z : ℤ). DecidesEqual (c.args.a *ℤ c.args.b) (c.args.c *ℤ c.args.d)
    (nat_eq (of_z w128 z) (of_z w128 (to_z w128 (of_z w128 c.args.c) *ℤ to_z w128 (of_z w128 c.args.d)))))
    (sym first)
    (subst (λ (z : ℤ). DecidesEqual (c.args.a *ℤ c.args.b) (c.args.c *ℤ c.args.d)
    (nat_eq (of_z w128 (c.args.a *ℤ c.args.b)) (of_z w128 z))) (sym second)
    (decided_equal (c.args.a *ℤ c.args.b) (c.args.c *ℤ c.args.d)
    (product_fits c.args.a c.args.b c.requires.small_a c.requires.small_b)
    (product_fits c.args.c c.args.d c.requires.small_c c.requires.small_d)))
