-- What shows the clauses of `value_at` of the list of ranges with units in `src/ranges.rt`.
use Rattle.std.proofs.Common.{arith}
use Rattle.std.proofs.lemmas.Result.{IfOk-weaker}
use Rattle.tn_answer.specs.AnswerText.{unit_range_data}
use Rattle.tn_answer.specs.Sayable.{HasShortUnitBounds}
use Rattle.tn_answer.proofs.EachLemmas.{each-here, each-length}
use Rattle.tn_answer.proofs.FitLemmas.{all-there}
use Rattle.tn_answer.proofs.ranges.UnitRangesItems.value_at.Goals as goal

pub at-requires : goal.at-requires
at-requires c =
    let counted = each-length (unit_range_data c.args.names.now.trades) 0 c.args.self.now in
    omega (arith, counted)

pub unit_range_value-requires : goal.unit_range_value-requires
unit_range_value-requires c = all-there HasShortUnitBounds c.args.self.now c.args.k c.at.result.now c.requires.short c.at.ensures

pub returns : goal.returns
returns c = IfOk-weaker c.unit_range_value.result _ _ (λ value same.
    each-here (unit_range_data c.args.names.now.trades) c.args.self.now c.args.k c.at.result.now _ c.at.ensures
    same) c.unit_range_value.ensures
