-- What shows the clauses of `answer_unit_solve` of `src/solve.rt`.
use Rattle.std.proofs.Common.{map, ap, ◌∙◌, arith}
use Rattle.std.proofs.lemmas.Int.{ints, to_z-of_z}
use Rattle.std.proofs.lemmas.List.Elements.{All-weaker}
use mir.Syntax.{w128}
use mir.Val.{SFits}
use Rattle.tn_base.specs.Arcs.{IsAtMost}
use Rattle.tn_answer.specs.Kept.{IsWithinPrices}
use Rattle.tn_counts.specs.Widths.{most_unit_price}
use Rattle.tn_unit_answers.specs.Solve.{unit_ends}
use Rattle.tn_unit_answers.proofs.SolutionLemmas.{counts_short, solution, surplus_within}
use Rattle.tn_unit_answers.proofs.solve.answer_unit_solve.Goals as goal

pub returns-clause-answer : goal.returns-clause-answer
returns-clause-answer c =
    let small = c.in_ok-solved.ensures.small_surplus in
    let fit : SFits w128 c.in_ok-solved.solved.surplus = omega (arith, ints, small.low, small.high) in
    rw (c.from_vec.ensures, c.from_vec-2.ensures)
    (simp to_z-of_z (solution c.args.document.now c.in_ok-market.market c.in_ok-solved.solved.counts.items
    c.in_ok-solved.solved.prices.items c.in_ok-solved.solved.surplus c.in_ok-ends.ends c.trades.ensures.kept
    c.in_ok-market.ensures.firms c.in_ok-market.ensures.trades c.in_ok-market.ensures.worths
    c.in_ok-solved.ensures.equilibrium c.in_ok-solved.ensures.surplus c.in_ok-solved.ensures.counts
    c.in_ok-solved.ensures.prices (c.in_ok-ends.ensures ∙ ap (map unit_ends) c.trades.ensures.is)))

pub returns-clause-within : goal.returns-clause-within
returns-clause-within c =
    let small = c.in_ok-solved.ensures.small_surplus in
    let fit : SFits w128 c.in_ok-solved.solved.surplus = omega (arith, ints, small.low, small.high) in
    let is = returns-clause-answer c in (
      counts_short c.args.document.now c.from_vec.result c.trades.ensures.kept is.efficient.1.within is.counted,
      rw c.from_vec-2.ensures (All-weaker (λ price. IsAtMost price most_unit_price) IsWithinPrices
          (λ price at. record { low = omega (arith, ints, at.low); high = omega (arith, ints, at.high) })
          c.in_ok-solved.solved.prices.items c.in_ok-solved.ensures.small_prices),
      simp to_z-of_z (surplus_within c.in_ok-solved.solved.surplus small),
    )
