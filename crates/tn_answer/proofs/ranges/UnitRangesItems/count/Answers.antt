-- What shows the clauses of `count` of the list of ranges with units in `src/ranges.rt`.
use Rattle.std.proofs.Common.{sym, ◌∙◌}
use Rattle.tn_answer.specs.AnswerText.{unit_range_data}
use Rattle.tn_answer.proofs.EachLemmas.{each-length}
use Rattle.tn_answer.proofs.ranges.UnitRangesItems.count.Goals as goal

pub returns : goal.returns
returns c = λ names. each-length (unit_range_data names.trades) 0 c.args.self.now ∙ sym c.len.ensures
