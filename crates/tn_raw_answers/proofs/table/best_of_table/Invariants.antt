-- What the loops of `best_of_table` of `src/table.rt` keep.
use Rattle.std.proofs.Common.{pos}
use Rattle.tn_base.specs.Firm.{utility}
use Rattle.tn_exchange.specs.Rows.{firm_of_table}
use Rattle.tn_model.specs.Prices.{price_at}
use Rattle.tn_raw_answers.proofs.TableLemmas.{IsBestBelow}
use Rattle.tn_raw_answers.proofs.table.best_of_table.Given as goal

abbrev pub invariant-loop-bits : goal.invariant-loop-bits
invariant-loop-bits l = IsBestBelow (utility (pos 1) (price_at l.prices) (firm_of_table l.table)) l.bits l.best
