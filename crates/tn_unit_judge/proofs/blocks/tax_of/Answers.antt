-- What shows the clauses of `tax_of` of `src/blocks.rt`.
use Rattle.std.proofs.Common.{List, ℕ, length, refl, ap, arith}
use Rattle.tn_tree.specs.Lists.{count_in}
use Rattle.tn_unit_judge.proofs.CauseLemmas.{free_long, free_single, tax_is, unsigned_by}
use Rattle.tn_unit_judge.proofs.blocks.tax_of.Goals as goal

pub free_of-requires : goal.free_of-requires
free_of-requires c =
    let unsigned = (unsigned_by c.args.market.now.trades.items c.deref.result.now c.args.contracts.now
    c.in_ok-unsigned.unsigned.items c.deref-2.result.now c.deref.ensures.value c.deref-2.ensures.value
    c.in_ok-unsigned.ensures).one_each in
    let parts = c.requires.sized in
    omega (arith, unsigned, parts)

pub sum_of-requires-clause-few : goal.sum_of-requires-clause-few
sum_of-requires-clause-few c =
    let long = free_long c.args.market.now.trades.items c.deref.result.now c.args.contracts.now c.args.passed.now
    c.in_ok-unsigned.unsigned.items c.deref-2.result.now c.in_ok-free.free.items c.deref-3.result.now c.deref.ensures.value
    c.deref-2.ensures.value c.in_ok-unsigned.ensures c.in_ok-free.ensures c.deref-3.ensures.value in
    let most = c.requires.few in
    omega (arith, long, most)

pub sum_of-requires-clause-single : goal.sum_of-requires-clause-single
sum_of-requires-clause-single c = λ t.
    let lent = ap (λ (xs : List ℕ). count_in xs t) c.deref-3.ensures.value in
    let one = free_single (length c.args.contracts.now) c.args.passed.now c.deref-2.result.now c.in_ok-free.free.items
    c.in_ok-free.ensures c.requires.single t in
    omega (arith, lent, one)

pub overflow_mul-scale : goal.overflow_mul-scale
overflow_mul-scale c =
    let long = free_long c.args.market.now.trades.items c.deref.result.now c.args.contracts.now c.args.passed.now
    c.in_ok-unsigned.unsigned.items c.deref-2.result.now c.in_ok-free.free.items c.deref-3.result.now c.deref.ensures.value
    c.deref-2.ensures.value c.in_ok-unsigned.ensures c.in_ok-free.ensures c.deref-3.ensures.value in
    let most = c.requires.few in
    let few = c.sum_of.ensures.few in
    omega (arith, long, most, few)

pub overflow_add-scale : goal.overflow_add-scale
overflow_add-scale c =
    let long = free_long c.args.market.now.trades.items c.deref.result.now c.args.contracts.now c.args.passed.now
    c.in_ok-unsigned.unsigned.items c.deref-2.result.now c.in_ok-free.free.items c.deref-3.result.now c.deref.ensures.value
    c.deref-2.ensures.value c.in_ok-unsigned.ensures c.in_ok-free.ensures c.deref-3.ensures.value in
    let most = c.requires.few in
    let few = c.sum_of.ensures.few in
    omega (arith, long, most, few)

pub returns : goal.returns
returns c =
    tax_is c.args.market.now.trades.items c.args.contracts.now c.args.passed.now c.deref-2.result.now
    c.in_ok-free.free.items c.deref-3.result.now c.sum_of.result _ c.requires.few c.requires.contracts c.requires.single
    (unsigned_by c.args.market.now.trades.items c.deref.result.now c.args.contracts.now c.in_ok-unsigned.unsigned.items
    c.deref-2.result.now c.deref.ensures.value c.deref-2.ensures.value c.in_ok-unsigned.ensures) c.in_ok-free.ensures
    c.deref-3.ensures.value c.sum_of.ensures.sum c.sum_of.ensures.few refl refl
