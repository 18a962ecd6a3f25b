-- What shows the clauses of `tables_are_firms` of `src/laws.rt`.
use Rattle.tn_base.proofs.TableLemmas.{has-buys_of, listed_row, unlisted_row}
use Rattle.tn_base.proofs.laws.tables_are_firms.Goals as goal

pub returns : goal.returns
returns c = record { bought = has-buys_of; listed = listed_row; unlisted = unlisted_row }
