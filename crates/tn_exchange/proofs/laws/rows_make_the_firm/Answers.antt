-- What shows the clauses of `rows_make_the_firm` of `src/laws.rt`.
use Rattle.tn_exchange.proofs.RowLemmas.{rows_make_the_firm}
use Rattle.tn_exchange.proofs.laws.rows_make_the_firm.Goals as goal

pub returns : goal.returns
returns c = record { same = rows_make_the_firm }
