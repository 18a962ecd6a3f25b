-- What shows the clauses of `test_from` of `src/local.rt`.
use Rattle.std.proofs.Common.{ℕ, subst}
use Rattle.tn_exchange.specs.Rows.{firm_of_table}
use Rattle.tn_exchange.specs.Verdicts.{IsVerdictOn}
use Rattle.tn_exchange.proofs.RowLemmas.{own_bundles}
use Rattle.tn_local.specs.Walk.{OfClose}
use Rattle.tn_local.proofs.VerdictLemmas.{all_close}
use Rattle.tn_local.proofs.local.test_from.Goals as goal

pub returns : goal.returns
returns c = all_close (firm_of_table c.args.table.now) (own_bundles c.args.table.now) c.args.x c.test_close.result
    c.requires.own
    (subst (λ (k : ℕ). IsVerdictOn (firm_of_table c.args.table.now)
    (OfClose (firm_of_table c.args.table.now) c.args.x c.args.x k) c.test_close.result)
    c.trades-null.ensures.count c.test_close.ensures)
