-- What shows the clauses of `unsigned_before` of `src/numbers.rt`.
use Rattle.std.proofs.Common.{◌≡◌, ◌∙◌, ap, arith}
use Rattle.tn_residual.specs.Residual.{number_from}
use Rattle.tn_residual.proofs.MakingLemmas.{priced_or_not}
use Rattle.tn_chain.proofs.NumberLemmas.{number_more, number_small}
use Rattle.tn_chain.proofs.numbers.unsigned_before.Goals as goal

pub one_more_if-number-requires : goal.one_more_if-number-requires
one_more_if-number-requires c =
    let is = c.loop-i.invariant in
    let small = number_small c.args.contracts.now c.loop-i.i in
    let test = c.loop-i-test.true in
    let few = c.requires in
    omega (arith, is, small, test, few)

pub loop-i-preserved : goal.loop-i-preserved
loop-i-preserved c =
    number_more c.args.contracts.now c.loop-i.i c.loop-i.number c.one_more_if-number.result c.is_none.result
    c.loop-i.invariant
    (priced_or_not c.args.contracts.now c.loop-i.i c.contract_price.result c.is_none.result c.contract_price.ensures
    c.is_none.ensures) c.one_more_if-number.ensures

pub returns : goal.returns
returns c =
    let test = c.loop-i-test.false in
    let end = c.loop-i.auto.i-end in
    let done : c.loop-i.i ≡ c.args.t = omega (arith, test, end) in
    c.loop-i.invariant ∙ ap (number_from c.args.contracts.now 0) done
