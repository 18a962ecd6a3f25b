-- What shows the clauses of `answer_unit_range` of `src/range.rt`.
use Rattle.std.proofs.Common.{map, sym, ap, ◌∙◌, subst}
use Rattle.std.specs.Prelude.{All}
use Rattle.tn_answer.specs.Kept.{HasWithinUnitBounds}
use Rattle.tn_unit_answers.specs.Said.{said_range}
use Rattle.tn_unit_answers.specs.Solve.{unit_ends}
use Rattle.tn_unit_answers.proofs.RangedLemmas.{ranges_told, ranges_within}
use Rattle.tn_unit_answers.proofs.SolutionLemmas.{counts_short}
use Rattle.tn_unit_answers.proofs.range.answer_unit_range.Goals as goal

pub returns-clause-answer : goal.returns-clause-answer
returns-clause-answer c = rw c.from_vec.ensures (
  ranges_told c.args.document.now c.in_ok-market.market c.in_ok-found.found.counts.items
      c.in_ok-found.found.ranges.items c.in_ok-ranges.ranges (record {
        document_is = c.trades.ensures.kept;
        market_is = c.in_ok-market.ensures.market;
        firms = c.in_ok-market.ensures.firms;
        trades = c.in_ok-market.ensures.trades;
        worths = c.in_ok-market.ensures.worths;
      }) c.in_ok-found.ensures.ranges (c.in_ok-ranges.ensures ∙ ap (map said_range) c.deref.ensures.value),
  c.in_ok-ends.ensures ∙ ap (map unit_ends) c.trades.ensures.is,
)

pub returns-clause-within : goal.returns-clause-within
returns-clause-within c =
    let is = returns-clause-answer c in (
      counts_short c.args.document.now c.from_vec.result c.trades.ensures.kept is.0.efficient.1.within is.0.counted,
      subst (All HasWithinUnitBounds) (sym (c.in_ok-ranges.ensures ∙ ap (map said_range) c.deref.ensures.value))
          (ranges_within c.in_ok-found.found.ranges.items c.in_ok-found.ensures.small),
    )
