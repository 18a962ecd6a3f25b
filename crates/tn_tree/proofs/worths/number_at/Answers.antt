-- What shows the clauses of `number_at` of `src/worths.rt`.
use Rattle.std.proofs.Common.{◌≡◌, ◌≤◌, ◌∙◌, refl, sym, ap, subst, arith, ℤ, pos, ◌+ℤ◌, ◌-ℤ◌, Some, List}
use Rattle.std.proofs.lemmas.Int.{ints, to_z-of_z}
use Rattle.std.proofs.lemmas.Option.{same_Some}
use mir.Syntax.{w64, w128}
use mir.Val.{SFits}
use Rattle.tn_base.specs.Arcs.{IsAtMost}
use Rattle.tn_links.specs.declared.link.Step.{Step}
use Rattle.tn_links.specs.Links.{AddAtMost, AreSlight, rise, room}
use Rattle.tn_counts.specs.Widths.{most_wide_amount}
use Rattle.tn_tree.specs.Nets.{most_set_number}
use Rattle.tn_counts.proofs.WorthLemmas.{added_there}
use Rattle.tn_tree.proofs.FirmLemmas.{number_small}
use Rattle.tn_tree.proofs.worths.number_at.Goals as goal

-- what a step of a wide market adds is what links take
slight : (steps : List Step) → AddAtMost most_wide_amount steps → AreSlight steps
slight steps small k step at =
    let own = small k step at in record { low = omega (arith, ints, own.low); high = omega (arith, ints, own.high) }

pub rise-requires : goal.rise-requires
rise-requires c = subst AreSlight (sym c.deref-2.ensures.value) (slight c.args.set.now.steps.items c.requires.set.1.small)

pub rise-requires-2 : goal.rise-requires-2
rise-requires-2 c = subst AreSlight (sym c.deref-3.ensures.value) (slight c.args.set.now.steps.items c.requires.set.1.small)

pub returns-clause-number : goal.returns-clause-number
returns-clause-number c =
    let set = c.args.set.now in
    let constant = c.requires.set.1.constant in
    let first = c.rise.ensures.small in
    let second = c.rise-2.ensures.small in
    let fit_constant : SFits w64 set.constant = omega (arith, ints, constant.low, constant.high) in
    let fit_first : SFits w128 c.rise.result = omega (arith, ints, first.low, first.high) in
    let fit_second : SFits w128 c.rise-2.result = omega (arith, ints, second.low, second.high) in
    let is : c.risen.result ≡ set.constant +ℤ (c.rise.result -ℤ c.rise-2.result) = simp to_z-of_z at c.risen.ensures in
    let fits : SFits w128 c.risen.result =
    omega (arith, ints, is, constant.low, constant.high, first.low, first.high, second.low, second.high) in
    let up = c.rise.ensures.rise ∙ ap (λ (steps : List Step). rise steps c.in_ok-level.level) c.deref-2.ensures.value in
    let down = c.rise-2.ensures.rise ∙ ap (λ (steps : List Step). rise steps set.back) c.deref-3.ensures.value in
    let room_is = c.room.ensures ∙ ap room c.deref.ensures.value in
    let within : c.in_ok-level.level ≤ room set.steps.items =
    let test = c.if-room-level.false in omega (arith, test, room_is) in
    let whole : c.risen.result
    ≡ set.constant +ℤ (rise set.steps.items c.in_ok-level.level -ℤ rise set.steps.items set.back) =
    omega (arith, ints, is, up, down) in
    let net = c.requires.small in
    let fit_net : SFits w128 c.args.net = omega (arith, ints, net.low, net.high) in
    let some = c.in_ok-level.ensures.some c.in_ok-level.level refl in
    let level_is : c.args.net +ℤ pos set.back ≡ pos c.in_ok-level.level = simp to_z-of_z at some in
    simp to_z-of_z (ap Some whole ∙ sym (added_there set (c.args.net +ℤ pos set.back) c.in_ok-level.level level_is within))

pub returns-clause-small : goal.returns-clause-small
returns-clause-small c =
    let set = c.args.set.now in
    let constant = c.requires.set.1.constant in
    let first = c.rise.ensures.small in
    let second = c.rise-2.ensures.small in
    let fit_constant : SFits w64 set.constant = omega (arith, ints, constant.low, constant.high) in
    let fit_first : SFits w128 c.rise.result = omega (arith, ints, first.low, first.high) in
    let fit_second : SFits w128 c.rise-2.result = omega (arith, ints, second.low, second.high) in
    let is : c.risen.result ≡ set.constant +ℤ (c.rise.result -ℤ c.rise-2.result) = simp to_z-of_z at c.risen.ensures in
    let fits : SFits w128 c.risen.result =
    omega (arith, ints, is, constant.low, constant.high, first.low, first.high, second.low, second.high) in
    let up = c.rise.ensures.rise ∙ ap (λ (steps : List Step). rise steps c.in_ok-level.level) c.deref-2.ensures.value in
    let down = c.rise-2.ensures.rise ∙ ap (λ (steps : List Step). rise steps set.back) c.deref-3.ensures.value in
    let room_is = c.room.ensures ∙ ap room c.deref.ensures.value in
    let within : c.in_ok-level.level ≤ room set.steps.items =
    let test = c.if-room-level.false in omega (arith, test, room_is) in
    let own = number_small most_wide_amount c.requires.set.0 set c.in_ok-level.level c.requires.set.1 within in
    let whole : c.risen.result
    ≡ set.constant +ℤ (rise set.steps.items c.in_ok-level.level -ℤ rise set.steps.items set.back) =
    omega (arith, ints, is, up, down) in
    let small : IsAtMost c.risen.result most_set_number = subst (λ (z : ℤ). IsAtMost z most_set_number) (sym whole) own in
    simp to_z-of_z (λ value some. subst (λ (z : ℤ). IsAtMost z most_set_number) (same_Some c.risen.result value some) small)
