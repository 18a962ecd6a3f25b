-- What shows the clauses of `cost_of` of `src/least.rt`.
use Rattle.std.proofs.Common.{◌≡◌, ◌^◌, ◌<◌, get_or, pos, ◌+ℤ◌, arith, length, ℤ, sym, subst, ◌∙◌, ap}
use Rattle.std.specs.Prelude.{◌*ℤ◌}
use Rattle.std.proofs.lemmas.Int.{ints, to_z-of_z}
use Rattle.std.proofs.lemmas.Option.{slice_get-get_or}
use mir.Syntax.{w64, w128}
use mir.Val.{SFits, of_z, to_z}
use Rattle.tn_base.specs.Arcs.{IsAtMost}
use Rattle.tn_links.specs.RiseLemmas.{times_small}
use Rattle.tn_links.specs.Widths.{most_each}
use Rattle.tn_dimacs.specs.declared.problem.Arc.{Arc}
use Rattle.tn_dimacs.specs.Circulations.{cost_of}
use Rattle.tn_dimacs.proofs.SumLemmas.{cost_more}
use Rattle.tn_dimacs.proofs.least.cost_of.Goals as goal

pub cost-sum-requires : goal.cost-sum-requires
cost-sum-requires c =
    let none : Arc = record { tail = 0; head = 0; capacity = 0; cost = pos 0 } in
    let arc = get_or c.args.arcs.now c.loop-k.k none in
    let small = c.requires.cheap c.loop-k.k arc (slice_get-get_or c.args.arcs.now c.loop-k.k none c.loop-k-test.true) in
    let fits : SFits w64 arc.cost = omega (arith, ints, small.low, small.high) in
    subst (λ (z : ℤ). IsAtMost z most_each) (sym (to_z-of_z w64 arc.cost fits)) small

pub overflow_add-sum : goal.overflow_add-sum
overflow_add-sum c =
    let none : Arc = record { tail = 0; head = 0; capacity = 0; cost = pos 0 } in
    let arc = get_or c.args.arcs.now c.loop-k.k none in
    let flow = get_or c.args.flows.now c.loop-k.k 0 in
    let small = c.requires.cheap c.loop-k.k arc (slice_get-get_or c.args.arcs.now c.loop-k.k none c.loop-k-test.true) in
    let fits : SFits w64 arc.cost = omega (arith, ints, small.low, small.high) in
    let result : c.cost-sum.result ≡ arc.cost *ℤ pos flow = simp to_z-of_z at c.cost-sum.ensures in
    let own = times_small arc.cost flow most_each small in
    let units : flow < 2 ^ 32 = (c.type_inv.flows c.loop-k.k).fits in
    let fits_own : SFits w128 c.cost-sum.result = omega (arith, ints, result, own.low, own.high, units) in
    let low = c.loop-k.invariant.small.low in
    let high = c.loop-k.invariant.small.high in
    let few = c.requires.few in
    simp to_z-of_z (omega (arith, ints, result, own.low, own.high, units, low, high, few, c.loop-k-test.true))

pub loop-k-preserved : goal.loop-k-preserved
loop-k-preserved c =
    let none : Arc = record { tail = 0; head = 0; capacity = 0; cost = pos 0 } in
    let k = c.loop-k.k in
    let arc = get_or c.args.arcs.now k none in
    let flow = get_or c.args.flows.now k 0 in
    let sum = to_z w128 c.loop-k.sum-bits in
    let small = c.requires.cheap k arc (slice_get-get_or c.args.arcs.now k none c.loop-k-test.true) in
    let fits : SFits w64 arc.cost = omega (arith, ints, small.low, small.high) in
    let result : c.cost-sum.result ≡ arc.cost *ℤ pos flow = simp to_z-of_z at c.cost-sum.ensures in
    let own = times_small arc.cost flow most_each small in
    let units : flow < 2 ^ 32 = (c.type_inv.flows k).fits in
    let fits_own : SFits w128 c.cost-sum.result = omega (arith, ints, result, own.low, own.high, units) in
    let low = c.loop-k.invariant.small.low in
    let high = c.loop-k.invariant.small.high in
    let few = c.requires.few in
    let fits_sum : SFits w128 (sum +ℤ c.cost-sum.result) =
    omega (arith, ints, result, own.low, own.high, units, low, high, few, c.loop-k-test.true) in
    let total : to_z w128 (of_z w128 (sum +ℤ to_z w128 (of_z w128 c.cost-sum.result))) ≡ sum +ℤ c.cost-sum.result =
    ap (λ (z : ℤ). to_z w128 (of_z w128 (sum +ℤ z))) (to_z-of_z w128 c.cost-sum.result fits_own)
    ∙ to_z-of_z w128 (sum +ℤ c.cost-sum.result) fits_sum in
    let flow_inside : k < length c.args.flows.now = omega (arith, c.loop-k-test.true, c.requires.one_each) in
    let more = cost_more c.args.arcs.now c.args.flows.now k none sum (cost_of c.args.arcs.now c.args.flows.now)
    c.loop-k-test.true flow_inside c.loop-k.invariant.whole in
    record {
      whole = omega (arith, ints, total, more, result);
      small = record {
        low = omega (arith, ints, total, result, own.low, units, low);
        high = omega (arith, ints, total, result, own.high, units, high);
      };
    }
