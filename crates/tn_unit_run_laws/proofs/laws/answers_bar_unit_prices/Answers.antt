-- What shows the clause of `answers_bar_unit_prices` of `src/laws.rt`.
use Rattle.tn_unit_run_laws.proofs.AnswerLemmas.{bar_prices}
use Rattle.tn_unit_run_laws.proofs.laws.answers_bar_unit_prices.Goals as goal

pub returns : goal.returns
returns c = bar_prices
