-- What shows the clauses of `count` of the list of holdings with units in `src/holdings.rt`.
use Rattle.std.proofs.Common.{sym, ◌∙◌}
use Rattle.tn_answer.specs.AnswerText.{unit_holding_data}
use Rattle.tn_answer.proofs.EachLemmas.{each-length}
use Rattle.tn_answer.proofs.holdings.UnitHoldingsItems.count.Goals as goal

pub returns : goal.returns
returns c = λ names. each-length (unit_holding_data names) 0 c.args.self.now ∙ sym c.len.ensures
