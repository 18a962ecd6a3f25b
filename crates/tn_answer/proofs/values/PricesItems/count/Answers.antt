-- What shows the clauses of `count` of the list of prices in `src/values.rt`.
use Rattle.std.proofs.Common.{sym, ◌∙◌}
use Rattle.tn_answer.specs.AnswerText.{price_data}
use Rattle.tn_answer.proofs.EachLemmas.{each-length}
use Rattle.tn_answer.proofs.values.PricesItems.count.Goals as goal

pub returns : goal.returns
returns c = λ names. each-length (price_data names.trades) 0 c.args.self.now ∙ sym c.len.ensures
