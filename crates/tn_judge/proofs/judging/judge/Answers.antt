-- What shows the clauses of `judge` of `src/judging.rt`.
use Rattle.std.proofs.Common.{map, subst}
use Rattle.tn_model.specs.Prices.{price_at}
use Rattle.tn_outcome_laws.proofs.FixedLemmas.{completed_is_rational}
use Rattle.tn_residual.proofs.MakingLemmas.{outcome_feasible}
use Rattle.tn_judge.specs.Completion.{AnswersCompletion}
use Rattle.tn_judge.proofs.judging.judge.Goals as goal

pub returns-in-Some : goal.returns-in-Some
returns-in-Some g c =
    let firms = map g.V.Valuation.firm c.args.market.now.firms in
    let trades = c.args.market.now.trades in
    let contracts = c.args.outcome.now.contracts in
    let answer =
    subst (AnswersCompletion firms trades c.args.outcome.now.over contracts) c.in-Some.is c.in_ok-prices.ensures.answer in (
      completed_is_rational firms trades c.args.outcome.now.over contracts (price_at c.in-Some.prices)
          c.trades-trades.ensures.network
          (outcome_feasible trades c.args.outcome.now.over contracts c.requires.outcome) answer.completes,
      answer,
    )
