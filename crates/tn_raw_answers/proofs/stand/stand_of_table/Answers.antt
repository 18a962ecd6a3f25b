-- What shows the clauses of `stand_of_table` of `src/stand.rt`.
use Rattle.std.proofs.Common.{◌∙◌}
use Rattle.tn_exchange.specs.Rows.{firm_of_table}
use Rattle.tn_model.specs.Prices.{price_at}
use Rattle.tn_raw_answers.proofs.StandLemmas.{stands}
use Rattle.tn_raw_answers.proofs.stand.stand_of_table.Goals as goal

pub returns : goal.returns
returns c =
    stands (firm_of_table c.args.table.now) (price_at c.args.prices.now) c.args.own c.best_of_table.result.bundle
    c.best_of_table.result.value c.table_utility-utility.result c.stand_beside.result
    (c.stand_beside.ensures.worth ∙ c.worth-worth.ensures.worth) c.stand_beside.ensures.utility
    c.table_utility-utility.ensures.value c.best_of_table.ensures
    c.stand_beside.ensures.value c.stand_beside.ensures.kept c.stand_beside.ensures.best
