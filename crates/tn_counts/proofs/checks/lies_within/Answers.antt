-- What shows the clauses of `lies_within` of `src/checks.rt`.
use Rattle.std.proofs.Common.{◌≡◌, true, length, ap, arith}
use Rattle.std.proofs.lemmas.Option.{slice_get_within}
use Rattle.tn_counts.specs.Laminar.{holds}
use Rattle.tn_counts.proofs.CheckLemmas.{of_members}
use Rattle.tn_counts.proofs.checks.lies_within.Goals as goal

pub returns-clause-yes : goal.returns-clause-yes
returns-clause-yes c is =
    of_members (λ m. holds c.args.outer.now m ≡ true) c.args.inner.now
    (λ i m at.
    let below = slice_get_within c.args.inner.now.members.items i m at in
    let count : length c.deref-trade-items.result.now ≡ length c.args.inner.now.members.items =
    ap length c.deref-trade-items.ensures.value in
    c.loop-trade.invariant i m (omega (arith, below, count, c.loop-trade-test.false)) at)
