-- What shows the clauses of `unsigned_of` of `src/completions.rt`.
use Rattle.std.proofs.Common.{get_or, pos, refl}
use Rattle.std.proofs.lemmas.Option.{slice_get-get_or}
use Rattle.tn_unit_judge.proofs.FreeLemmas.{left_first, left_more, left_within}
use Rattle.tn_unit_judge.proofs.completions.unsigned_of.Goals as goal

pub take_off-requires-clause-within : goal.take_off-requires-clause-within
take_off-requires-clause-within c =
    left_within c.args.trades.now c.args.contracts.now c.loop-contract.contract-index c.loop-contract.free.items
    (get_or c.args.contracts.now c.loop-contract.contract-index (record { trade = 0; units = 0; price = pos 0 }))
    c.requires.within refl c.loop-contract-test.true
    (c.requires.known c.loop-contract.contract-index
    (get_or c.args.contracts.now c.loop-contract.contract-index (record { trade = 0; units = 0; price = pos 0 }))
    (slice_get-get_or c.args.contracts.now c.loop-contract.contract-index (record { trade = 0; units = 0; price = pos 0 })
    c.loop-contract-test.true)) c.loop-contract.invariant

pub loop-contract-init : goal.loop-contract-init
loop-contract-init c = left_first c.args.trades.now c.args.contracts.now c.in_ok-free.free.items c.in_ok-free.ensures

pub loop-contract-preserved : goal.loop-contract-preserved
loop-contract-preserved c =
    left_more c.args.trades.now c.args.contracts.now c.loop-contract.contract-index c.loop-contract.free.items
    c.take_off.new.free.items
    (get_or c.args.contracts.now c.loop-contract.contract-index (record { trade = 0; units = 0; price = pos 0 }))
    refl c.loop-contract-test.true
    (c.requires.known c.loop-contract.contract-index
    (get_or c.args.contracts.now c.loop-contract.contract-index (record { trade = 0; units = 0; price = pos 0 }))
    (slice_get-get_or c.args.contracts.now c.loop-contract.contract-index (record { trade = 0; units = 0; price = pos 0 })
    c.loop-contract-test.true))
    (left_within c.args.trades.now c.args.contracts.now c.loop-contract.contract-index c.loop-contract.free.items
    (get_or c.args.contracts.now c.loop-contract.contract-index (record { trade = 0; units = 0; price = pos 0 }))
    c.requires.within refl c.loop-contract-test.true
    (c.requires.known c.loop-contract.contract-index
    (get_or c.args.contracts.now c.loop-contract.contract-index (record { trade = 0; units = 0; price = pos 0 }))
    (slice_get-get_or c.args.contracts.now c.loop-contract.contract-index (record { trade = 0; units = 0; price = pos 0 })
    c.loop-contract-test.true)) c.loop-contract.invariant) c.loop-contract.invariant c.take_off.ensures
