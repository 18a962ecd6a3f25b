-- What shows the clauses of `Laminar::counted_numbers` of `src/row.rt`.
use Rattle.std.proofs.Common.{arith, rules, sym, ◌≡◌, ◌<◌, ◌+◌, ◌+ℤ◌, length}
use Rattle.std.proofs.lemmas.Int.{to_z-of_z, ints}
use mir.Syntax.{w128}
use mir.Val.{SFits, to_z}
use Rattle.tn_laminar.specs.Rows.{counted_sum}
use Rattle.tn_laminar.proofs.RowLemmas.{counted_sum-none, counted_sum-next, counted_sum_small}
use Rattle.tn_laminar.proofs.laminar.Laminar.counted_numbers.Goals as goal

pub loop-k-init : goal.loop-k-init
loop-k-init c = sym (counted_sum-none c.args.self.now.buys c.args.self.now.sets.items c.args.x)

pub overflow_add-total : goal.overflow_add-total
overflow_add-total c =
    let so_far = c.loop-k.invariant in
    let small = counted_sum_small c.args.self.now.buys c.args.self.now.sets.items c.loop-k.k c.args.x
    c.args.self.now.laminar.numbered in
    let few = c.args.self.now.laminar.few_sets in
    let inside : c.loop-k.k < length c.args.self.now.sets.items = search rules in
    let here = c.counted_number-total.ensures.small in
    let fit : SFits w128 c.counted_number-total.result = search rules in
    let sum : SFits w128 (to_z w128 c.loop-k.total-bits +ℤ c.counted_number-total.result) =
    omega (arith, ints, so_far, small.low, small.high, few, inside, here.low, here.high) in
    simp to_z-of_z sum

pub loop-k-preserved : goal.loop-k-preserved
loop-k-preserved c =
    let so_far = c.loop-k.invariant in
    let small = counted_sum_small c.args.self.now.buys c.args.self.now.sets.items c.loop-k.k c.args.x
    c.args.self.now.laminar.numbered in
    let few = c.args.self.now.laminar.few_sets in
    let inside : c.loop-k.k < length c.args.self.now.sets.items = search rules in
    let here = c.counted_number-total.ensures.small in
    let number = c.counted_number-total.ensures.number in
    let fit : SFits w128 c.counted_number-total.result = search rules in
    let sum : SFits w128 (to_z w128 c.loop-k.total-bits +ℤ c.counted_number-total.result) =
    omega (arith, ints, so_far, small.low, small.high, few, inside, here.low, here.high) in
    let next = counted_sum-next c.args.self.now.buys c.args.self.now.sets.items c.loop-k.k c.args.x in
    let is : to_z w128 c.loop-k.total-bits +ℤ c.counted_number-total.result
    ≡ counted_sum c.args.self.now.buys c.args.self.now.sets.items (c.loop-k.k + 1) c.args.x =
    omega (arith, ints, so_far, number, next) in
    simp to_z-of_z is

pub returns-clause-small : goal.returns-clause-small
returns-clause-small c =
    let small = counted_sum_small c.args.self.now.buys c.args.self.now.sets.items c.loop-k.k c.args.x
    c.args.self.now.laminar.numbered in
    let few = c.args.self.now.laminar.few_sets in
    let so_far = c.loop-k.invariant in
    let end : c.loop-k.k ≡ length c.args.self.now.sets.items =
    (let past = c.loop-k-test.false in let len = c.len-k-end.ensures in
    omega (arith, past, len, c.loop-k.auto.k-end)) in
    let low = small.low in
    let high = small.high in
    record { low = omega (arith, ints, so_far, low, few, end); high = omega (arith, ints, so_far, high, few, end) }
