-- What shows the clauses of `add_numbers` of `src/numbers.rt`.
use Rattle.std.proofs.Common.{◌≡◌, ℕ, arith, subst}
use Rattle.tn_chain.specs.Numbers.{AreNumbersUpTo}
use Rattle.tn_chain.proofs.NumberLemmas.{none_added, one_added}
use Rattle.tn_chain.proofs.numbers.add_numbers.Goals as goal

pub loop-s-init : goal.loop-s-init
loop-s-init c = none_added c.args.numbers.now c.args.from c.requires.none

pub loop-s-preserved : goal.loop-s-preserved
loop-s-preserved c =
    one_added c.args.numbers.now c.args.from c.loop-s.s c.loop-s.numbers c.toggle.new.self c.loop-s.auto.s
    c.loop-s.invariant c.toggle.ensures.toggled

pub returns : goal.returns
returns c =
    let test = c.loop-s-test.false in
    let end = c.loop-s.auto.s-end in
    let order = c.requires.order in
    let done : c.loop-s.s ≡ c.args.to = omega (arith, test, end, order) in
    subst (λ (n : ℕ). AreNumbersUpTo c.args.numbers.now c.args.from n c.loop-s.numbers) done c.loop-s.invariant
