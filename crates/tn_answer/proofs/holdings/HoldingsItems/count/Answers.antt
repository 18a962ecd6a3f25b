-- What shows the clauses of `count` of the list of holdings in `src/holdings.rt`.
use Rattle.std.proofs.Common.{sym, ◌∙◌}
use Rattle.tn_answer.specs.AnswerText.{holding_data}
use Rattle.tn_answer.proofs.EachLemmas.{each-length}
use Rattle.tn_answer.proofs.holdings.HoldingsItems.count.Goals as goal

pub returns : goal.returns
returns c = λ names. each-length (holding_data names) 0 c.args.self.now ∙ sym c.len.ensures
