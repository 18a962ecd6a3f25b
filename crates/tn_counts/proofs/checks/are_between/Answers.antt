-- What shows the clauses of `are_between` of `src/checks.rt`.
use Rattle.std.proofs.Common.{get_or, arith}
use Rattle.std.proofs.lemmas.Option.{slice_get-get_or, slice_get_within}
use Rattle.tn_counts.specs.Markets.{IsBetween}
use Rattle.tn_counts.specs.declared.trade.UnitTrade.{UnitTrade}
use Rattle.tn_links.proofs.CheckLemmas.{holds_more}
use Rattle.tn_counts.proofs.checks.are_between.Goals as goal

pub returns-then-not-is_between-clause-no : goal.returns-then-not-is_between-clause-no
returns-then-not-is_between-clause-no c is all =
    let none : UnitTrade = record { seller = 0; buyer = 0; units = 0 } in
    let one = get_or c.args.trades.now c.loop-trade.trade-index none in
    let at = slice_get-get_or c.args.trades.now c.loop-trade.trade-index none c.loop-trade-test.true in
    c.is_between.ensures.no c.if-not-is_between.true (all c.loop-trade.trade-index one at)

pub loop-trade-preserved : goal.loop-trade-preserved
loop-trade-preserved c =
    let none : UnitTrade = record { seller = 0; buyer = 0; units = 0 } in
    let one = get_or c.args.trades.now c.loop-trade.trade-index none in
    let at = slice_get-get_or c.args.trades.now c.loop-trade.trade-index none c.loop-trade-test.true in
    holds_more (λ k (one : UnitTrade). IsBetween c.args.firms one) c.args.trades.now c.loop-trade.trade-index one at
    (c.is_between.ensures.yes c.if-not-is_between.false) c.loop-trade.invariant

pub returns-clause-yes : goal.returns-clause-yes
returns-clause-yes c is k one at =
    let below = slice_get_within c.args.trades.now k one at in
    c.loop-trade.invariant k one (omega (arith, below, c.loop-trade-test.false)) at
