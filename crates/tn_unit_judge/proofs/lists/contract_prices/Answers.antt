-- What shows the clauses of `contract_prices` of `src/lists.rt`.
use Rattle.std.proofs.Common.{arith, get_or, pos}
use Rattle.std.proofs.lemmas.Int.{ints, to_z-of_z}
use Rattle.std.proofs.lemmas.Option.{slice_get-get_or}
use mir.Syntax.{w64}
use mir.Val.{SFits}
use Rattle.tn_unit_judge.proofs.MadeLemmas.{taken_more}
use Rattle.tn_unit_judge.proofs.lists.contract_prices.Goals as goal

pub price_of-requires : goal.price_of-requires
price_of-requires c =
    let small = c.requires c.loop-contract.contract-index
    (get_or c.args.contracts.now c.loop-contract.contract-index (record { trade = 0; units = 0; price = pos 0 }))
    (slice_get-get_or c.args.contracts.now c.loop-contract.contract-index (record { trade = 0; units = 0; price = pos 0 })
    c.loop-contract-test.true) in
    record { low = omega (arith, ints, small.low); high = omega (arith, ints, small.high) }

pub loop-contract-preserved : goal.loop-contract-preserved
loop-contract-preserved c =
    let small = c.requires c.loop-contract.contract-index
    (get_or c.args.contracts.now c.loop-contract.contract-index (record { trade = 0; units = 0; price = pos 0 }))
    (slice_get-get_or c.args.contracts.now c.loop-contract.contract-index (record { trade = 0; units = 0; price = pos 0 })
    c.loop-contract-test.true) in
    let same = c.price_of.ensures in
    let fits : SFits w64 c.price_of.result = omega (arith, ints, small.low, small.high, same) in
    let made = simp to_z-of_z at c.in_ok-push.ensures.items in
    taken_more (λ contract. contract.price) c.args.contracts.now c.loop-contract.prices.items c.push.new.self.items
    c.price_of.result c.loop-contract.contract-index (record { trade = 0; units = 0; price = pos 0 })
    c.loop-contract-test.true made c.loop-contract.invariant c.price_of.ensures
