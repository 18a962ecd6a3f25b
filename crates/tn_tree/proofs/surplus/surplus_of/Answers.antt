-- What shows the clauses of `surplus_of` of `src/surplus.rt`.
use Rattle.std.proofs.Common.{◌≡◌, ℕ, ◌<◌, ◌∙◌, List, length, refl, sym, ap, subst, arith, ℤ, ◌+ℤ◌, get_or, Option, Some, None}
use Rattle.std.specs.Prelude.{slice_get}
use Rattle.std.proofs.lemmas.Int.{ints, to_z-of_z}
use Rattle.std.proofs.lemmas.Option.{same_Some}
use mir.Syntax.{w128}
use mir.Val.{SFits}
use Rattle.tn_base.specs.Arcs.{IsAtMost}
use Rattle.tn_links.specs.Flows.{total_gain}
use Rattle.tn_counts.specs.Laminar.{constants}
use Rattle.tn_counts.specs.Widths.{most_unit_surplus}
use Rattle.tn_counts.proofs.SizeLemmas.{market_gain_small}
use Rattle.tn_tree.proofs.SolveLemmas.{surplus_small}
use Rattle.tn_tree.proofs.SurplusOfLemmas.{no_surplus, possible_by, surplus_by_flow}
use Rattle.tn_tree.proofs.surplus.surplus_of.Goals as goal

pub constants-requires-clause-small : goal.constants-requires-clause-small
constants-requires-clause-small c = λ i set at.
    (c.requires.market.each i set (sym (ap (λ xs. slice_get xs i) c.deref-3.ensures.value) ∙ at)).constant

pub returns-then-not-are_there-clause-surplus : goal.returns-then-not-are_there-clause-surplus
returns-then-not-are_there-clause-surplus c =
    no_surplus c.args.market.now c.args.counts.now c.in_ok-worths.worths.items c.in_ok-worths.ensures.sized
    c.in_ok-worths.ensures.worths
    (subst (λ (xs : List (Option ℤ)). (f : ℕ) × (f < length xs) × (get_or xs f None ≡ None)) c.deref.ensures.value
    (c.if-not-are_there.ensures.no refl))

pub flow_of-requires-clause-possible : goal.flow_of-requires-clause-possible
flow_of-requires-clause-possible c =
    possible_by c.args.market.now c.args.counts.now c.in_ok-worths.worths.items c.in_ok-worths.ensures.sized
    c.in_ok-worths.ensures.worths
    (subst (λ (xs : List (Option ℤ)). (f : ℕ) → f < length xs → (worth : ℤ) × (get_or xs f None ≡ Some worth))
    c.deref.ensures.value (c.if-not-are_there.ensures.yes refl))

pub returns-clause-surplus : goal.returns-clause-surplus
returns-clause-surplus c =
    let gain = c.gain.ensures in
    let added = c.constants.ensures in
    let fit_gain : SFits w128 c.gain.result = omega (arith, ints, gain.small.low, gain.small.high) in
    let fit_constants : SFits w128 c.constants.result = omega (arith, ints, added.small.low, added.small.high) in
    let fit : SFits w128 (c.gain.result +ℤ c.constants.result) =
    omega (arith, ints, gain.small.low, gain.small.high, added.small.low, added.small.high) in
    let gains = ap (total_gain c.in_ok-links.links.links.items) c.deref-2.ensures.value in
    let numbers = ap constants c.deref-3.ensures.value in
    let whole : c.gain.result +ℤ c.constants.result
    ≡ total_gain c.in_ok-links.links.links.items c.in_ok-levels.levels.items +ℤ constants c.args.market.now.sets.items =
    omega (arith, ints, gain.gain, added.sum, gains, numbers) in
    simp to_z-of_z (ap Some whole ∙ sym (surplus_by_flow c.args.market.now c.in_ok-links.links.links.items
    c.in_ok-levels.levels.items c.args.counts.now c.requires.market c.in_ok-links.ensures.links c.in_ok-levels.ensures.kept
    c.in_ok-levels.ensures.counts.sold))

pub returns-clause-small : goal.returns-clause-small
returns-clause-small c =
    let gain = c.gain.ensures in
    let added = c.constants.ensures in
    let gains = ap (total_gain c.in_ok-links.links.links.items) c.deref-2.ensures.value in
    let fit_gain : SFits w128 c.gain.result = omega (arith, ints, gain.small.low, gain.small.high) in
    let fit_constants : SFits w128 c.constants.result = omega (arith, ints, added.small.low, added.small.high) in
    let fit : SFits w128 (c.gain.result +ℤ c.constants.result) =
    omega (arith, ints, gain.small.low, gain.small.high, added.small.low, added.small.high) in
    let small = market_gain_small c.args.market.now c.in_ok-links.links.links.items c.in_ok-levels.levels.items
    c.requires.market c.in_ok-links.ensures.links c.in_ok-levels.ensures.kept in
    let most : IsAtMost (c.gain.result +ℤ c.constants.result) most_unit_surplus =
    surplus_small (c.gain.result +ℤ c.constants.result) c.gain.result c.constants.result (record {
      low = omega (arith, ints, small.low, gains, gain.gain);
      high = omega (arith, ints, small.high, gains, gain.gain);
    }) added.small refl in
    simp to_z-of_z (λ value is. subst (λ (z : ℤ). IsAtMost z most_unit_surplus)
    (same_Some (c.gain.result +ℤ c.constants.result) value is) most)
