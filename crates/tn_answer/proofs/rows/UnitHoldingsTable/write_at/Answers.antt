-- What shows the clauses of `write_at` of the table of firms with units in `src/rows.rt`.
use Rattle.std.proofs.Common.{arith}
use Rattle.tn_answer.specs.Rows.{unit_firm_row}
use Rattle.tn_answer.specs.Sayable.{IsShortUnitHolding}
use Rattle.tn_answer.proofs.EachLemmas.{each-is, each-length}
use Rattle.tn_answer.proofs.FitLemmas.{all-there}
use Rattle.tn_answer.proofs.rows.UnitHoldingsTable.write_at.Goals as goal

pub at-requires : goal.at-requires
at-requires c =
    let counted = each-length (unit_firm_row c.args.names.now) 0 c.args.self.now in
    omega (arith, counted)

pub write_unit_firm-requires : goal.write_unit_firm-requires
write_unit_firm-requires c = all-there IsShortUnitHolding c.args.self.now c.args.k c.at.result.now c.requires.short c.at.ensures

pub returns : goal.returns
returns c = λ text row there before.
    let same = each-is (unit_firm_row c.args.names.now) c.args.self.now c.args.k c.at.result.now row c.at.ensures there in
    rw (← same) (c.write_unit_firm.ensures text before)
