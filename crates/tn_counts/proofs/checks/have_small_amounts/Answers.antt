-- What shows the clauses of `have_small_amounts` of `src/checks.rt`.
use Rattle.std.proofs.Common.{get_or, arith, pos}
use Rattle.std.proofs.lemmas.Option.{slice_get-get_or, slice_get_within}
use Rattle.tn_counts.specs.Markets.{AreSmallAmounts}
use Rattle.tn_counts.specs.declared.trade.UnitAmounts.{UnitAmounts}
use Rattle.tn_links.proofs.CheckLemmas.{holds_more}
use Rattle.tn_counts.proofs.checks.have_small_amounts.Goals as goal

pub returns-then-not-are_small_amounts-clause-no : goal.returns-then-not-are_small_amounts-clause-no
returns-then-not-are_small_amounts-clause-no c is all =
    let none : UnitAmounts = record { seller = pos 0; buyer = pos 0 } in
    let one = get_or c.args.amounts.now c.loop-each.each-index none in
    let at = slice_get-get_or c.args.amounts.now c.loop-each.each-index none c.loop-each-test.true in
    c.are_small_amounts.ensures.no c.if-not-are_small_amounts.true (all c.loop-each.each-index one at)

pub loop-each-preserved : goal.loop-each-preserved
loop-each-preserved c =
    let none : UnitAmounts = record { seller = pos 0; buyer = pos 0 } in
    let one = get_or c.args.amounts.now c.loop-each.each-index none in
    let at = slice_get-get_or c.args.amounts.now c.loop-each.each-index none c.loop-each-test.true in
    holds_more (λ k (one : UnitAmounts). AreSmallAmounts one) c.args.amounts.now c.loop-each.each-index one at
    (c.are_small_amounts.ensures.yes c.if-not-are_small_amounts.false) c.loop-each.invariant

pub returns-clause-yes : goal.returns-clause-yes
returns-clause-yes c is k one at =
    let below = slice_get_within c.args.amounts.now k one at in
    c.loop-each.invariant k one (omega (arith, below, c.loop-each-test.false)) at
