-- What shows the clauses of `numbers_of` of `src/numbers.rt`.
use Rattle.std.proofs.Common.{◌≡◌, ◌∙◌, ℕ, refl, ap, arith, Bool, subst}
use Rattle.tn_chain.specs.Numbers.{AreNumbers, added_if}
use Rattle.tn_chain.proofs.NumberLemmas.{counted_more, no_numbers, number_small, numbers_more}
use Rattle.tn_chain.proofs.numbers.numbers_of.Goals as goal

pub loop-t-init : goal.loop-t-init
loop-t-init c = record {
  counted = refl;
  numbers = no_numbers c.args.contracts.now c.args.set.now c.empty-numbers.result c.empty-numbers.ensures;
}

pub loop-t-preserved : goal.loop-t-preserved
loop-t-preserved c = record {
  counted = counted_more c.args.contracts.now c.loop-t.t c.loop-t.before c.one_more_if-before.result
      c.number_after-number.result c.is_some.result c.loop-t.invariant.counted c.number_after-number.ensures.number
      c.is_some.ensures c.one_more_if-before.ensures;
  numbers = numbers_more c.args.contracts.now c.args.set.now c.loop-t.t c.loop-t.numbers c.add_if.new.set
      c.number_after-number.result c.loop-t.invariant.numbers c.number_after-number.ensures.number
      (c.add_if.ensures ∙ ap (λ (b : Bool). added_if b c.number_after-number.result c.loop-t.numbers) c.has.ensures);
}

pub one_more_if-before-requires : goal.one_more_if-before-requires
one_more_if-before-requires c =
    let is = c.loop-t.invariant.counted in
    let small = number_small c.args.contracts.now c.loop-t.t in
    let test = c.loop-t-test.true in
    let few = c.requires in
    omega (arith, is, small, test, few)

pub returns : goal.returns
returns c =
    let test = c.loop-t-test.false in
    let end = c.loop-t.auto.t-end in
    let done : c.loop-t.t ≡ c.args.count = omega (arith, test, end) in
    subst (λ (n : ℕ). AreNumbers c.args.contracts.now c.args.set.now n c.loop-t.numbers) done c.loop-t.invariant.numbers
