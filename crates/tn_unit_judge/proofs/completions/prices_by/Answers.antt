-- What shows the clauses of `prices_by` of `src/completions.rt`.
use Rattle.std.proofs.Common.{◌+◌, Vec, Global, ℤ, get_or, pos, refl, ap, subst, sym, arith}
use Rattle.std.proofs.lemmas.Int.{ints, to_z-of_z}
use Rattle.std.proofs.lemmas.Option.{slice_get-get_or}
use mir.Syntax.{w128}
use mir.Val.{SFits}
use Rattle.tn_unit_judge.proofs.FreeLemmas.{ArePriced, priced_first, priced_set, priced_skip}
use Rattle.tn_unit_judge.proofs.completions.prices_by.Goals as goal
use Rattle.tn_unit_judge.proofs.completions.prices_by.Goals.{then-contract-gt0, else-contract-gt0}

pub loop-contract-init : goal.loop-contract-init
loop-contract-init c =
    priced_first c.args.trades c.args.contracts.now c.args.beside.now c.in_ok-prices.prices.items c.in_ok-prices.ensures

pub index_mut-requires : goal.index_mut-requires
index_mut-requires c =
    let below = c.requires.known c.loop-contract.contract-index
    (get_or c.args.contracts.now c.loop-contract.contract-index (record { trade = 0; units = 0; price = pos 0 }))
    (slice_get-get_or c.args.contracts.now c.loop-contract.contract-index (record { trade = 0; units = 0; price = pos 0 })
    c.loop-contract-test.true) in
    let long = c.loop-contract.invariant.one_each in
    let sized = c.loop-contract.prices.ok.0 in
    omega (arith, below, long, sized)

pub loop-contract-preserved : goal.loop-contract-preserved
loop-contract-preserved c = elim c.if-contract-gt0.branch [
  | then-contract-gt0 w ↦
      let small = c.requires.small c.loop-contract.contract-index
      (get_or c.args.contracts.now c.loop-contract.contract-index (record { trade = 0; units = 0; price = pos 0 }))
      (slice_get-get_or c.args.contracts.now c.loop-contract.contract-index (record { trade = 0; units = 0; price = pos 0 })
      c.loop-contract-test.true) in
      let fits : SFits w128 (get_or c.args.contracts.now c.loop-contract.contract-index
      (record { trade = 0; units = 0; price = pos 0 })).price = omega (arith, ints, small.low, small.high) in
      let made = simp to_z-of_z at (ap (λ (v : Vec ℤ Global). v.items) w.prices-is) in
      priced_set c.args.trades c.args.contracts.now c.args.beside.now c.loop-contract.contract-index
      c.loop-contract.prices.items c.if-contract-gt0.prices.items
      (get_or c.args.contracts.now c.loop-contract.contract-index (record { trade = 0; units = 0; price = pos 0 })) refl
      c.loop-contract-test.true
      (c.requires.known c.loop-contract.contract-index
      (get_or c.args.contracts.now c.loop-contract.contract-index (record { trade = 0; units = 0; price = pos 0 }))
      (slice_get-get_or c.args.contracts.now c.loop-contract.contract-index (record { trade = 0; units = 0; price = pos 0 })
      c.loop-contract-test.true)) w.if-contract-gt0.true c.loop-contract.invariant made
  | else-contract-gt0 w ↦
      subst (ArePriced c.args.trades c.args.contracts.now c.args.beside.now (c.loop-contract.contract-index + 1))
      (sym (ap (λ (v : Vec ℤ Global). v.items) w.prices-is))
      (priced_skip c.args.trades c.args.contracts.now c.args.beside.now c.loop-contract.contract-index
      c.loop-contract.prices.items
      (get_or c.args.contracts.now c.loop-contract.contract-index (record { trade = 0; units = 0; price = pos 0 })) refl
      c.loop-contract-test.true (let none = w.if-contract-gt0.false in omega (arith, none)) c.loop-contract.invariant)
]
