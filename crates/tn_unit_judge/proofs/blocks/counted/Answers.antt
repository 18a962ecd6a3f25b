-- What shows the clauses of `counted` of `src/blocks.rt`.
use Rattle.std.proofs.Common.{arith, get_or, pos, ◌*ℤ◌, ap}
use Rattle.std.specs.Prelude.{FitsSigned}
use Rattle.std.proofs.lemmas.Int.{ints, to_z-of_z}
use Rattle.std.proofs.lemmas.Option.{slice_get-get_or}
use Rattle.std.proofs.Math.IntN.{*ℤ_comm}
use Rattle.tn_counts.specs.Widths.{most_unit_price}
use Rattle.tn_counts.specs.declared.contract.UnitContract.{UnitContract}
use Rattle.tn_links.specs.RiseLemmas.{times_small}
use mir.Syntax.{w128}
use mir.Val.{SFits}
use Rattle.tn_unit_judge.proofs.MadeLemmas.{taken_more}
use Rattle.tn_unit_judge.proofs.blocks.counted.Goals as goal

pub overflow_mul-from : goal.overflow_mul-from
overflow_mul-from c =
    let contract : UnitContract =
    get_or c.args.contracts.now c.loop-contract.contract-index (record { trade = 0; units = 0; price = pos 0 }) in
    let small = c.requires.small c.loop-contract.contract-index contract
    (slice_get-get_or c.args.contracts.now c.loop-contract.contract-index (record { trade = 0; units = 0; price = pos 0 })
    c.loop-contract-test.true) in
    let few = c.requires.scale in
    let from = c.from.ensures in
    let fit_price : SFits w128 contract.price = omega (arith, ints, small.low, small.high) in
    let fit_from : SFits w128 c.from.result = omega (arith, ints, from, few) in
    let most = times_small contract.price c.args.scale most_unit_price small in
    let turned = *ℤ_comm (pos c.args.scale) contract.price in
    let same = ap (λ z. z *ℤ contract.price) from in
    let fits : FitsSigned w128 (c.from.result *ℤ contract.price) =
    omega (arith, ints, most.low, most.high, turned, same, few) in
    simp to_z-of_z fits

pub loop-contract-preserved : goal.loop-contract-preserved
loop-contract-preserved c =
    let contract : UnitContract =
    get_or c.args.contracts.now c.loop-contract.contract-index (record { trade = 0; units = 0; price = pos 0 }) in
    let small = c.requires.small c.loop-contract.contract-index contract
    (slice_get-get_or c.args.contracts.now c.loop-contract.contract-index (record { trade = 0; units = 0; price = pos 0 })
    c.loop-contract-test.true) in
    let few = c.requires.scale in
    let from = c.from.ensures in
    let fit_price : SFits w128 contract.price = omega (arith, ints, small.low, small.high) in
    let fit_from : SFits w128 c.from.result = omega (arith, ints, from, few) in
    let most = times_small contract.price c.args.scale most_unit_price small in
    let turned = *ℤ_comm (pos c.args.scale) contract.price in
    let same = ap (λ z. z *ℤ contract.price) from in
    let fits : SFits w128 (c.from.result *ℤ contract.price) =
    omega (arith, ints, most.low, most.high, turned, same, few) in
    let made = simp to_z-of_z at c.in_ok-push.ensures.items in
    taken_more (λ (one : UnitContract). record {
      trade = one.trade;
      units = one.units;
      price = pos c.args.scale *ℤ one.price;
    }) c.args.contracts.now c.loop-contract.made.items c.push.new.self.items
    (record { trade = contract.trade; units = contract.units; price = c.from.result *ℤ contract.price })
    c.loop-contract.contract-index (record { trade = 0; units = 0; price = pos 0 }) c.loop-contract-test.true made
    c.loop-contract.invariant (ap (λ z. record { trade = contract.trade; units = contract.units; price = z }) same)
