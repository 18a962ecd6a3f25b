-- What shows the clauses of `is_high` of `src/walk.rt`.
use Rattle.std.proofs.Common.{sym, ◌∙◌}
use Rattle.tn_local.proofs.WalkLemmas.{level_bought, level_sold}
use Rattle.tn_local.proofs.walk.is_high.Goals as goal

pub returns-then-has : goal.returns-then-has
returns-then-has c =
    level_bought c.args.buys c.args.x c.args.k _ (sym c.has.ensures ∙ c.if-has.true) (sym c.has-then-has.ensures)

pub returns-else-has : goal.returns-else-has
returns-else-has c =
    level_sold c.args.buys c.args.x c.args.k _ (sym c.has.ensures ∙ c.if-has.false) (sym c.has-else-has.ensures)
