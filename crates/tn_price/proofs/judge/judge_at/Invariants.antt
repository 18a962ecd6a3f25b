-- What the loops of `judge_at` of `src/judge.rt` keep.
use Rattle.std.proofs.Common.{map}
use Rattle.tn_model.specs.Prices.{price_at}
use Rattle.tn_price.proofs.JudgeLemmas.{AreJudged}
use Rattle.tn_price.proofs.judge.judge_at.Given as goal

abbrev pub invariant-loop-f : goal.invariant-loop-f
invariant-loop-f g l =
    AreJudged (map g.V.Valuation.firm l.market.firms) l.market.trades l.over l.on (price_at l.prices) l.f l.surplus
