-- What shows the clauses of `are_count_sets` of `src/checks.rt`.
use Rattle.std.proofs.Common.{◌≡◌, Some, refl, arith, length, slice_get}
use Rattle.std.proofs.lemmas.Option.{slice_get_read, slice_get_within}
use Rattle.tn_counts.specs.Markets.{IsCountSet}
use Rattle.tn_counts.specs.declared.set.CountSet.{CountSet}
use Rattle.tn_links.proofs.CheckLemmas.{holds_more}
use Rattle.tn_counts.proofs.checks.are_count_sets.Goals as goal

pub returns-then-not-is_count_set-clause-no : goal.returns-then-not-is_count_set-clause-no
returns-then-not-is_count_set-clause-no c is all =
    let at : slice_get c.args.sets.now c.loop-set.set-index ≡ Some c.set-item.result =
    slice_get_read c.args.sets.now (length c.args.sets.now) c.loop-set.set-index c.set-item.result refl
    c.loop-set-test.true c.set-item.is in
    c.is_count_set.ensures.no c.if-not-is_count_set.true (all c.loop-set.set-index c.set-item.result at)

pub loop-set-preserved : goal.loop-set-preserved
loop-set-preserved c =
    let at : slice_get c.args.sets.now c.loop-set.set-index ≡ Some c.set-item.result =
    slice_get_read c.args.sets.now (length c.args.sets.now) c.loop-set.set-index c.set-item.result refl
    c.loop-set-test.true c.set-item.is in
    holds_more (λ k (one : CountSet). IsCountSet c.args.firms one) c.args.sets.now c.loop-set.set-index c.set-item.result at
    (c.is_count_set.ensures.yes c.if-not-is_count_set.false) c.loop-set.invariant

pub returns-clause-yes : goal.returns-clause-yes
returns-clause-yes c is k one at =
    let below = slice_get_within c.args.sets.now k one at in
    c.loop-set.invariant k one (omega (arith, below, c.loop-set-test.false)) at
