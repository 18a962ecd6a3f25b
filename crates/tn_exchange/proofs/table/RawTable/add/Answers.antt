-- What shows the clauses of `RawTable::add` of `src/table.rt`.
use Rattle.std.proofs.lemmas.Int.{to_z-of_z}
use Rattle.tn_exchange.proofs.RowLemmas.{limits_with_row}
use Rattle.tn_exchange.proofs.table.RawTable.add.Goals as goal

pub invariant_of-self : goal.invariant_of-self
invariant_of-self c =
    let fit = c.ranges.amount in
    let within = rw (← c.self.view_is, ← c.bits-at.ensures) at c.requires.own in
    simp to_z-of_z (limits_with_row _ c.self.invariant _ _ within c.requires.small)
