-- What shows the clauses of `answer_unit_check` of `src/check.rt`.
use Rattle.std.proofs.Common.{List, length, None, Some, subst, arith}
use Rattle.std.proofs.lemmas.Int.{ints, to_z-of_z}
use mir.Syntax.{w128}
use mir.Val.{SFits}
use Rattle.tn_tree.specs.declared.held.FirmCount.{FirmCount}
use Rattle.tn_unit_answers.specs.Judged.{AreContentBefore, IsFirstWith}
use Rattle.tn_unit_answers.proofs.CheckLemmas.{bundle_short}
use Rattle.tn_unit_answers.proofs.JudgedLemmas.{all_best, bundle_read, few_judged, first_bettered, first_impossible, gain_small, surplus_or_none}
use Rattle.tn_unit_answers.proofs.SolutionLemmas.{surplus_within}
use Rattle.tn_unit_answers.proofs.check.answer_unit_check.Goals as goal

pub verdict_of-requires : goal.verdict_of-requires
verdict_of-requires c = record {
  few = few_judged c.args.document.now c.args.counts.now c.args.prices.now c.in_ok-judged.judged.firms.items
      c.deref.result.now c.in_ok-judged.judged.best.sold.items c.in_ok-judged.judged.best.bought.items
      c.in_ok-judged.judged.surplus c.trades-trades.ensures.kept c.in_ok-judged.ensures c.deref.ensures.value;
}

pub returns-in-Content-clause-answer : goal.returns-in-Content-clause-answer
returns-in-Content-clause-answer c =
    let found = c.in_ok-judged.ensures in
    let small = surplus_or_none c.in_ok-judged.judged.surplus found.small_surplus in
    let value = c.unwrap_or.ensures in
    let fit : SFits w128 c.unwrap_or.result = omega (arith, ints, small.low, small.high, value) in
    simp to_z-of_z (all_best c.args.document.now c.args.counts.now c.args.prices.now c.in_ok-judged.judged.firms.items
    c.in_ok-judged.judged.best.sold.items c.in_ok-judged.judged.best.bought.items c.in_ok-judged.judged.surplus found
    c.requires.counts.within c.trades-trades.ensures.kept
    (subst (λ (xs : List FirmCount). AreContentBefore xs (length xs)) c.deref.ensures.value c.in-Content.ensures)
    c.unwrap_or.result value)

pub returns-in-Impossible-clause-answer : goal.returns-in-Impossible-clause-answer
returns-in-Impossible-clause-answer c =
    first_impossible c.args.document.now c.args.counts.now c.args.prices.now c.in_ok-judged.judged.firms.items
    c.in_ok-judged.judged.best.sold.items c.in_ok-judged.judged.best.bought.items c.in_ok-judged.judged.surplus
    c.in_ok-judged.ensures c.requires.counts.within c.in-Impossible.firm
    (subst (λ (xs : List FirmCount). IsFirstWith xs c.in-Impossible.firm None) c.deref.ensures.value
    c.in-Impossible.ensures)

pub returns-clause-answer : goal.returns-clause-answer
returns-clause-answer c =
    let first = subst (λ (xs : List FirmCount). IsFirstWith xs c.in-Better.firm (Some c.in-Better.gain))
    c.deref.ensures.value c.in-Better.ensures in
    let small = gain_small c.args.document.now c.args.counts.now c.args.prices.now c.in_ok-judged.judged.firms.items
    c.in_ok-judged.judged.best.sold.items c.in_ok-judged.judged.best.bought.items c.in_ok-judged.judged.surplus
    c.in_ok-judged.ensures c.requires.counts.within c.in-Better.firm c.in-Better.gain first in
    let fit : SFits w128 c.in-Better.gain = omega (arith, ints, small.low, small.high) in
    simp to_z-of_z (first_bettered c.args.document.now c.args.counts.now c.args.prices.now
    c.in_ok-judged.judged.firms.items c.in_ok-judged.judged.best.sold.items c.in_ok-judged.judged.best.bought.items
    c.in_ok-judged.judged.surplus c.in_ok-judged.ensures c.requires.counts.within c.in-Better.firm c.in-Better.gain
    c.in_ok-bundle-in-Better.bundle first
    (bundle_read c.trades-trades.result.now c.args.document.now.head.trades c.deref-in-Better.result.now
    c.in_ok-judged.judged.best.sold.items c.deref-in-Better-2.result.now c.in_ok-judged.judged.best.bought.items
    c.in-Better.firm c.in_ok-bundle-in-Better.bundle c.trades-trades.ensures.is c.deref-in-Better.ensures.value
    c.deref-in-Better-2.ensures.value c.in_ok-bundle-in-Better.ensures))

pub returns-clause-within : goal.returns-clause-within
returns-clause-within c =
    let first = subst (λ (xs : List FirmCount). IsFirstWith xs c.in-Better.firm (Some c.in-Better.gain))
    c.deref.ensures.value c.in-Better.ensures in
    let small = gain_small c.args.document.now c.args.counts.now c.args.prices.now c.in_ok-judged.judged.firms.items
    c.in_ok-judged.judged.best.sold.items c.in_ok-judged.judged.best.bought.items c.in_ok-judged.judged.surplus
    c.in_ok-judged.ensures c.requires.counts.within c.in-Better.firm c.in-Better.gain first in
    let fit : SFits w128 c.in-Better.gain = omega (arith, ints, small.low, small.high) in
    let answer = returns-clause-answer c in (
      bundle_short c.args.document.now c.trades-trades.ensures.kept c.in-Better.firm answer.best_counts
          c.in_ok-bundle-in-Better.bundle answer.bundle_is answer.best.within,
      simp to_z-of_z (surplus_within c.in-Better.gain small),
    )
