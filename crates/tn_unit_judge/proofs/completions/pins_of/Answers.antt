-- What shows the clauses of `pins_of` of `src/completions.rt`.
use Rattle.std.proofs.Common.{get_or, pos, ap, arith, ℤ}
use Rattle.std.proofs.lemmas.Int.{ints, to_z-of_z}
use Rattle.std.proofs.lemmas.Option.{slice_get-get_or}
use mir.Syntax.{w64}
use mir.Val.{SFits}
use Rattle.tn_tree.proofs.ListLemmas.{items_more}
use Rattle.tn_unit_judge.specs.Completion.{contract_pin}
use Rattle.tn_unit_judge.proofs.completions.pins_of.Goals as goal

pub price_of-requires : goal.price_of-requires
price_of-requires c =
    let small = c.requires.small c.loop-k.k
    (get_or c.args.contracts.now c.loop-k.k (record { trade = 0; units = 0; price = pos 0 }))
    (slice_get-get_or c.args.contracts.now c.loop-k.k (record { trade = 0; units = 0; price = pos 0 }) c.loop-k-test.true) in
    record { low = omega (arith, ints, small.low); high = omega (arith, ints, small.high) }

pub loop-k-preserved : goal.loop-k-preserved
loop-k-preserved c =
    let small = c.requires.small c.loop-k.k
    (get_or c.args.contracts.now c.loop-k.k (record { trade = 0; units = 0; price = pos 0 }))
    (slice_get-get_or c.args.contracts.now c.loop-k.k (record { trade = 0; units = 0; price = pos 0 }) c.loop-k-test.true) in
    let same = c.price_of.ensures in
    let fits : SFits w64 c.price_of.result = omega (arith, ints, small.low, small.high, same) in
    let made = simp to_z-of_z at c.in_ok-push.ensures.items in
    items_more (contract_pin c.args.contracts.now) c.loop-k.pins.items c.push.new.self.items
    (record { trade = c.loop-k.k; price = c.price_of.result }) c.loop-k.k made c.loop-k.invariant
    (ap (λ (z : ℤ). record { trade = c.loop-k.k; price = z }) c.price_of.ensures)
