-- What shows the clauses of `raised` of `src/kept_cycles.rt`.
use Rattle.std.proofs.Common.{◌≡◌, ℤ, Bool, true, false, cond, int_lt, refl, ◌∙◌, inl, inr, ◌⊎◌, rules}
use Rattle.std.specs.Int.{int_max}
use Rattle.std.proofs.lemmas.Int.{to_z-of_z}
use mir.Syntax.{w128}
use mir.Val.{SFits}
use Rattle.tn_cycle.proofs.KeptCycleLemmas.{raised_some}
use Rattle.tn_cycle.proofs.kept_cycles.raised.Goals as goal

-- the greater of two numbers is one of them
chosen : (b : Bool) (x y : ℤ) → (cond b x y ≡ x) ⊎ (cond b x y ≡ y)
chosen true x y = inl refl
chosen false x y = inr refl

one_of : (x y z : ℤ) → z ≡ int_max x y → (z ≡ x) ⊎ (z ≡ y)
one_of x y z is = elim (chosen (int_lt y x) x y) [ inl same ↦ inl (is ∙ same) | inr same ↦ inr (is ∙ same) ]

pub returns-in-Some-clause-others : goal.returns-in-Some-clause-others
returns-in-Some-clause-others c other =
    let label_fits : SFits w128 c.args.label = c.ranges.label in
    let limit_fits : SFits w128 c.args.limit = c.ranges.limit in
    let cost_fits : SFits w128 c.in-Some.cost = search rules in
    let lack_fits : SFits w128 c.lack.result = search rules in
    let result_fits : SFits w128 c.max.result = search rules in
    let greater = simp to_z-of_z at c.max.ensures in
    let lack = simp to_z-of_z at c.lack.ensures in
    simp to_z-of_z (raised_some c.args.label c.in-Some.cost c.args.limit c.lack.result c.max.result c.args.cost
    c.in-Some.is lack greater.self_bound greater.other_bound
    (one_of c.args.label c.lack.result c.max.result greater.value))
