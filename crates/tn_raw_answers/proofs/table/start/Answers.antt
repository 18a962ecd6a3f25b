-- What shows the clauses of `start` of `src/table.rt`.
use Rattle.std.proofs.Common.{sym, subst, ℤ, Option, IsSome}
use Rattle.tn_model.specs.Prices.{price_at}
use Rattle.tn_raw_answers.proofs.TableLemmas.{empty_valued}
use Rattle.tn_raw_answers.proofs.table.start.Goals as goal

pub unwrap-requires : goal.unwrap-requires
unwrap-requires c =
    subst (λ (o : Option ℤ). IsSome o) (sym c.table_utility.ensures.value)
    (empty_valued c.args.table.now (price_at c.args.prices.now) c.empty-bundle.result c.empty-bundle.ensures)
