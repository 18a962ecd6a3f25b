-- What shows the clauses of `has_position` of `src/plans.rt`.
use Rattle.std.proofs.Common.{◌^◌, ◌<◌, sym, arith, rules}
use Rattle.tn_base.proofs.SetLemmas.{has_above}
use Rattle.tn_cert.proofs.plans.has_position.Goals as goal

pub returns-else-k-lt64 : goal.returns-else-k-lt64
returns-else-k-lt64 c =
    let outside = c.if-k-lt64.false in
    let inside : c.args.bundle < 2 ^ 64 = search rules in
    sym (has_above c.args.bundle 64 c.args.k inside (omega (arith, outside)))
