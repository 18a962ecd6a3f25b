-- What shows the clauses of `RawTable::new` of `src/table.rt`.
use Rattle.std.proofs.Common.{◌≡◌, ◌^◌, length, rules}
use Rattle.std.specs.Prelude.{replicate, None}
use Rattle.tn_exchange.proofs.RowLemmas.{limits_without_rows}
use Rattle.tn_exchange.proofs.table.RawTable.new.Goals as goal

pub invariant_of-result : goal.invariant_of-result
invariant_of-result c =
    let is : c.in_ok-rows.rows.items ≡ replicate (2 ^ length c.args.sides.items) None = search rules in
    rw is (limits_without_rows c.args.sides.items c.requires)
