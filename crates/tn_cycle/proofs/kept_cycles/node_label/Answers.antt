-- What shows the clauses of `node_label` of `src/kept_cycles.rt`.
use Rattle.std.proofs.Common.{◌≡◌, ◌+◌, ℤ, Option, None, Some, true, sym, ◌∙◌, subst, arith, rules}
use Rattle.std.proofs.lemmas.Int.{ints, to_z-of_z}
use Rattle.std.proofs.lemmas.Option.{same_Some}
use mir.Syntax.{w128}
use mir.Val.{SFits}
use Rattle.tn_base.specs.Arcs.{IsAtMost}
use Rattle.tn_base.specs.Widths.{most_cost}
use Rattle.tn_cycle.specs.Widths.{most_label}
use Rattle.tn_cycle.proofs.KeptCycleLemmas.{signed_near, unwrap_near}
use Rattle.tn_cycle.proofs.kept_cycles.node_label.Goals as goal

pub negated_if-requires : goal.negated_if-requires
negated_if-requires g c =
    let fits : SFits w128 c.unwrap_or.result = search rules in
    let near = unwrap_near c.least_number-in-None.result (most_label + most_cost)
    (c.least_number-in-None.ensures.near most_label c.requires.near) in
    simp to_z-of_z (record {
      low = omega (arith, ints, c.unwrap_or.ensures, near.low);
      high =
          omega (arith, ints, c.unwrap_or.ensures, near.high);
    })

pub returns-in-Some-clause-keeps : goal.returns-in-Some-clause-keeps
returns-in-Some-clause-keeps g c v cost off is =
    let fits : SFits w128 c.in-Some.label = search rules in
    let had = c.least_number.ensures.keeps v cost off is in
    let same : c.in-Some.label ≡ had.0 = same_Some c.in-Some.label had.0 (sym c.in-Some.is ∙ had.1) in
    simp to_z-of_z (omega (arith, ints, same, had.2))

pub returns-in-None-clause-near : goal.returns-in-None-clause-near
returns-in-None-clause-near g c reach all =
    let fits : SFits w128 c.unwrap_or.result = search rules in
    let signed_fits : SFits w128 c.negated_if.result = search rules in
    let near = unwrap_near c.least_number-in-None.result (reach + most_cost)
    (c.least_number-in-None.ensures.near reach all) in
    let own : IsAtMost c.unwrap_or.result (reach + most_cost) =
    subst (λ (z : ℤ). IsAtMost z (reach + most_cost)) (sym c.unwrap_or.ensures) near in
    let is = simp to_z-of_z at c.negated_if.ensures in
    simp to_z-of_z (subst (λ (z : ℤ). IsAtMost z (reach + most_cost)) (sym is)
    (signed_near true c.unwrap_or.result (reach + most_cost) own))

pub least_number-requires-in-None-clause-labels_sized : goal.least_number-requires-in-None-clause-labels_sized
least_number-requires-in-None-clause-labels_sized g c = c.requires.labels_sized

pub least_number-requires-in-None-clause-near : goal.least_number-requires-in-None-clause-near
least_number-requires-in-None-clause-near g c = c.requires.near

pub returns-in-Some-clause-near : goal.returns-in-Some-clause-near
returns-in-Some-clause-near g c reach all =
    let fits : SFits w128 c.in-Some.label = search rules in
    simp to_z-of_z (c.least_number.ensures.near reach all c.in-Some.label c.in-Some.is)

-- a number that keeps an arc is there
not_none : (found : Option ℤ) (number : ℤ) → found ≡ None → found ≡ Some number → ⊥
not_none found number none some = cc

pub returns-in-None-clause-keeps : goal.returns-in-None-clause-keeps
returns-in-None-clause-keeps g c v cost off is =
    let had = c.least_number.ensures.keeps v cost off is in
    absurd (not_none c.least_number.result had.0 c.in-None.is had.1)
