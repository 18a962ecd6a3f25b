-- What shows the clauses of `toggled_at` of `src/walk.rt`.
use Rattle.std.proofs.Common.{sym, ◌∙◌, arith}
use Rattle.tn_firm_laws.proofs.PlaceLemmas.{toggle_at-trade, toggle_at-null}
use Rattle.tn_local.proofs.walk.toggled_at.Goals as goal

pub returns-then-k-null : goal.returns-then-k-null
returns-then-k-null c = c.toggle.ensures ∙ sym (toggle_at-trade c.args.null c.args.x c.args.k c.if-k-null.true)

pub returns-else-k-null : goal.returns-else-k-null
returns-else-k-null c = sym (toggle_at-null c.args.null c.args.x c.args.k (omega (arith, c.if-k-null.false)))
