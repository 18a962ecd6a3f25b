-- What shows the clauses of `Table::new` of `src/table.rt`.
use Rattle.tn_table.proofs.table.Table.new.Goals as goal

-- src/table.rt:40:31
pub invariant_of-result : goal.invariant_of-result
invariant_of-result c = record {
  within = c.test_table.ensures.within;
  none_fails =
      c.test_table.ensures.holds.0 c.in-Holds.is;
}
