-- What shows the clauses of `Laminar::add_changes` of `src/row.rt`.
use Rattle.std.proofs.Common.{rules, arith, refl, sym, ap, ◌∙◌, subst, ◌≡◌, ◌<◌, ◌+◌, ◌==◌, not, List, length, get_or, Some, ℕ, pos, ◌+ℤ◌, inl, inr}
use Rattle.std.specs.Prelude.{slice_get}
use Rattle.std.specs.Prelude.{set as put}
use Rattle.std.proofs.lemmas.Bool.{cases_Bool, eqb-true}
use Rattle.std.proofs.lemmas.Int.{to_z-of_z, ints}
use Rattle.std.proofs.lemmas.Option.{slice_get_read, same_Some}
use mir.Syntax.{w128}
use mir.Val.{SFits}
use Rattle.tn_base.specs.Sets.{meet, size}
use Rattle.tn_base.proofs.SizeLemmas.{size-toggle_out}
use Rattle.tn_laminar.specs.declared.set.LaminarSet.{LaminarSet}
use Rattle.tn_laminar.specs.Rows.{counted_change, step_of}
use Rattle.tn_laminar.proofs.RowLemmas.{IsAdding, adding_start, adding_more, adding_end, member_changes, change_small, rest_own, rest_change}
use Rattle.tn_laminar.proofs.laminar.Laminar.add_changes.Goals as goal

-- the set at a place
set_at : (sets : List LaminarSet) (k : ℕ) (item : LaminarSet) → k < length sets → item ≡ get_or sets k item
    → slice_get sets k ≡ Some item
set_at sets k item inside is = slice_get_read sets (length sets) k item refl inside is

pub loop-x-init : goal.loop-x-init
loop-x-init c = λ set is.
    let found = set_at c.args.self.now.sets.items c.args.k c.index.result.now c.requires.place c.index.ensures in
    let same : c.index.result.now ≡ set = same_Some _ _ (sym found ∙ is) in
    adding_start c.args.self.now.buys c.args.self.now.sets.items c.args.k c.args.x c.args.wanted set c.meet-rest.result
    c.args.changes.now is
    (c.meet-rest.ensures ∙ ap (λ (s : LaminarSet). meet s.members c.args.wanted) same) c.requires.so_far

pub slice_copy_out-changes : goal.slice_copy_out-changes
slice_copy_out-changes c =
    let found = set_at c.args.self.now.sets.items c.args.k c.index.result.now c.requires.place c.index.ensures in
    let below = rest_own _ _ _ _ _ _ c.index.result.now _ _ _ c.args.self.now.laminar.own found
    (c.loop-x.invariant c.index.result.now found) c.lowest-j.ensures.member in
    let room = c.requires.room in
    omega (arith, below, room, c.loop-x.auto.changes)

pub overflow_add-changes : goal.overflow_add-changes
overflow_add-changes c =
    let found = set_at c.args.self.now.sets.items c.args.k c.index.result.now c.requires.place c.index.ensures in
    let adding = c.loop-x.invariant c.index.result.now found in
    let below = rest_own _ _ _ _ _ _ c.index.result.now _ _ _ c.args.self.now.laminar.own found adding
    c.lowest-j.ensures.member in
    let here = rest_change _ _ _ _ _ c.index.result.now _ _ _ adding c.lowest-j.ensures.member in
    let step = c.step.ensures in
    let next = member_changes c.args.self.now.buys c.args.self.now.sets.items c.args.k c.args.x c.lowest-j.result
    c.index.result.now c.slope-slope.result found
    (c.slope-slope.ensures.slope c.index.result.now found) (adding.within c.lowest-j.result c.lowest-j.ensures.member)
    in
    let a = change_small c.args.self.now.buys c.args.self.now.sets.items c.args.k c.args.x c.lowest-j.result
    c.args.self.now.laminar.numbered in
    let b = change_small c.args.self.now.buys c.args.self.now.sets.items (c.args.k + 1) c.args.x c.lowest-j.result
    c.args.self.now.laminar.numbered in
    let few = c.args.self.now.laminar.few_sets in
    let inside = c.requires.place in
    let first : SFits w128 (get_or c.loop-x.changes c.lowest-j.result (pos 0)) =
    omega (arith, ints, here, a.low, a.high, few, inside) in
    let second : SFits w128 c.step.result = search rules in
    let both : SFits w128 (get_or c.loop-x.changes c.lowest-j.result (pos 0) +ℤ c.step.result) =
    omega (arith, ints, here, step, next, b.low, b.high, few, inside) in
    simp to_z-of_z both

pub bounds-changes-j : goal.bounds-changes-j
bounds-changes-j c =
    let found = set_at c.args.self.now.sets.items c.args.k c.index.result.now c.requires.place c.index.ensures in
    let below = rest_own _ _ _ _ _ _ c.index.result.now _ _ _ c.args.self.now.laminar.own found
    (c.loop-x.invariant c.index.result.now found) c.lowest-j.ensures.member in
    let room = c.requires.room in
    omega (arith, below, room, c.loop-x.auto.changes)

pub loop-x-smaller : goal.loop-x-smaller
loop-x-smaller c =
    let less = size-toggle_out c.loop-x.rest c.lowest-j.result c.lowest-j.ensures.member in
    let next = ap size c.toggle-rest.ensures in
    omega (arith, less, next)

pub loop-x-preserved : goal.loop-x-preserved
loop-x-preserved c = λ set is.
    let adding = c.loop-x.invariant set is in
    let member = c.lowest-j.ensures.member in
    let slope = c.slope-slope.ensures.slope set is in
    let below = rest_own _ _ _ _ _ _ set _ _ _ c.args.self.now.laminar.own is adding member in
    let here = rest_change _ _ _ _ _ set _ _ _ adding member in
    let step = c.step.ensures in
    let next = member_changes c.args.self.now.buys c.args.self.now.sets.items c.args.k c.args.x c.lowest-j.result set
    c.slope-slope.result is slope (adding.within c.lowest-j.result member) in
    let a = change_small c.args.self.now.buys c.args.self.now.sets.items c.args.k c.args.x c.lowest-j.result
    c.args.self.now.laminar.numbered in
    let b = change_small c.args.self.now.buys c.args.self.now.sets.items (c.args.k + 1) c.args.x c.lowest-j.result
    c.args.self.now.laminar.numbered in
    let few = c.args.self.now.laminar.few_sets in
    let inside = c.requires.place in
    let room = c.requires.room in
    let first : SFits w128 (get_or c.loop-x.changes c.lowest-j.result (pos 0)) =
    omega (arith, ints, here, a.low, a.high, few, inside) in
    let second : SFits w128 c.step.result = search rules in
    let both : SFits w128 (get_or c.loop-x.changes c.lowest-j.result (pos 0) +ℤ c.step.result) =
    omega (arith, ints, here, step, next, b.low, b.high, few, inside) in
    let sum : get_or c.loop-x.changes c.lowest-j.result (pos 0) +ℤ c.step.result
    ≡ counted_change c.args.self.now.buys c.args.self.now.sets.items c.args.k c.args.x c.lowest-j.result
    +ℤ step_of c.args.self.now.buys c.args.x c.slope-slope.result c.lowest-j.result =
    omega (arith, ints, here, step) in
    let added = adding_more c.args.self.now.buys c.args.self.now.sets.items c.args.k c.args.x c.args.wanted set
    c.slope-slope.result c.loop-x.rest c.lowest-j.result c.loop-x.changes is slope adding member
    (omega (arith, below, room, c.loop-x.auto.changes)) (get_or c.loop-x.changes c.lowest-j.result (pos 0)
    +ℤ c.step.result) sum in
    let moved = subst (λ (rest : ℕ). IsAdding c.args.self.now.buys c.args.self.now.sets.items c.args.k c.args.x
    c.args.wanted set.members rest
    (put c.loop-x.changes c.lowest-j.result (get_or c.loop-x.changes c.lowest-j.result (pos 0) +ℤ c.step.result)))
    (sym c.toggle-rest.ensures) added in
    simp to_z-of_z moved

pub returns : goal.returns
returns c =
    let found = set_at c.args.self.now.sets.items c.args.k c.index.result.now c.requires.place c.index.ensures in
    let none : c.loop-x.rest ≡ 0 =
    elim (cases_Bool (c.loop-x.rest == c.empty.result)) [
      | inl e ↦ eqb-true _ _ e ∙ c.empty.ensures
      | inr d ↦ absurd (let off = c.loop-x-test.false in let is = c.ne.ensures ∙ ap not d in cc (off, is))
    ] in
    adding_end c.args.self.now.buys c.args.self.now.sets.items c.args.k c.args.x c.args.wanted
    c.index.result.now.members c.loop-x.rest c.loop-x.changes
    (c.loop-x.invariant c.index.result.now found) none
