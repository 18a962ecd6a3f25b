-- What shows the clauses of `do_meet` of `src/checks.rt`.
use Rattle.std.proofs.Common.{◌≡◌, ◌∙◌, false, length, sym, ap, arith}
use Rattle.std.proofs.lemmas.Bool.{false≢true}
use Rattle.std.proofs.lemmas.Option.{slice_get_within}
use Rattle.tn_counts.specs.Laminar.{holds}
use Rattle.tn_counts.proofs.CheckLemmas.{of_members}
use Rattle.tn_counts.proofs.checks.do_meet.Goals as goal

pub returns-clause-no : goal.returns-clause-no
returns-clause-no c is t has other_has =
    let none : holds c.args.other.now t ≡ false = of_members (λ m. holds c.args.other.now m ≡ false) c.args.one.now
    (λ i m at.
    let below = slice_get_within c.args.one.now.members.items i m at in
    let count : length c.deref-trade-items.result.now ≡ length c.args.one.now.members.items =
    ap length c.deref-trade-items.ensures.value in
    c.loop-trade.invariant i m (omega (arith, below, count, c.loop-trade-test.false)) at) t has in
    false≢true (sym none ∙ other_has)
