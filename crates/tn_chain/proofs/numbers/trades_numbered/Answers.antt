-- What shows the clauses of `trades_numbered` of `src/numbers.rt`.
use Rattle.std.proofs.Common.{◌≡◌, ◌∙◌, ℕ, refl, ap, arith, Bool}
use Rattle.tn_base.specs.Sets.{set_of}
use Rattle.tn_residual.specs.Residual.{unsigned_part}
use Rattle.tn_chain.specs.Numbers.{toggled_if}
use Rattle.tn_chain.proofs.NumberLemmas.{counted_more, number_small, part_more}
use Rattle.tn_chain.proofs.numbers.trades_numbered.Goals as goal

pub loop-t-init : goal.loop-t-init
unfolding set_of
loop-t-init c = record { counted = refl; trades = c.empty-trades.ensures }

pub loop-t-preserved : goal.loop-t-preserved
loop-t-preserved c = record {
  counted = counted_more c.args.contracts.now c.loop-t.t c.loop-t.before c.one_more_if-before.result
      c.number_after-number.result c.is_some.result c.loop-t.invariant.counted c.number_after-number.ensures.number
      c.is_some.ensures c.one_more_if-before.ensures;
  trades = part_more c.args.contracts.now c.loop-t.t c.args.numbers.now c.loop-t.trades c.toggle_if.new.set
      c.number_after-number.result c.loop-t.invariant.trades c.number_after-number.ensures.number
      (c.toggle_if.ensures ∙ ap (λ (b : Bool). toggled_if b c.loop-t.trades c.loop-t.t) c.is_among.ensures);
}

pub one_more_if-before-requires : goal.one_more_if-before-requires
one_more_if-before-requires c =
    let is = c.loop-t.invariant.counted in
    let small = number_small c.args.contracts.now c.loop-t.t in
    let test = c.loop-t-test.true in
    let few = c.requires in
    omega (arith, is, small, test, few)

pub returns : goal.returns
returns c =
    let test = c.loop-t-test.false in
    let end = c.loop-t.auto.t-end in
    let done : c.loop-t.t ≡ c.args.count = omega (arith, test, end) in
    c.loop-t.invariant.trades ∙ ap (λ (n : ℕ). unsigned_part c.args.contracts.now n c.args.numbers.now) done
