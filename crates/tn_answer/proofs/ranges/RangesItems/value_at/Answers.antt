-- What shows the clauses of `value_at` of the list of ranges in `src/ranges.rt`.
use Rattle.std.proofs.Common.{arith}
use Rattle.std.proofs.lemmas.Result.{IfOk-weaker}
use Rattle.tn_answer.specs.AnswerText.{range_data}
use Rattle.tn_answer.specs.Sayable.{HasShortBounds}
use Rattle.tn_answer.proofs.EachLemmas.{each-here, each-length}
use Rattle.tn_answer.proofs.FitLemmas.{all-there}
use Rattle.tn_answer.proofs.ranges.RangesItems.value_at.Goals as goal

pub at-requires : goal.at-requires
at-requires c =
    let counted = each-length (range_data c.args.names.now.trades) 0 c.args.self.now in
    omega (arith, counted)

pub range_value-requires : goal.range_value-requires
range_value-requires c = all-there HasShortBounds c.args.self.now c.args.k c.at.result.now c.requires.short c.at.ensures

pub returns : goal.returns
returns c = IfOk-weaker c.range_value.result _ _ (λ value same.
    each-here (range_data c.args.names.now.trades) c.args.self.now c.args.k c.at.result.now _ c.at.ensures
    same) c.range_value.ensures
