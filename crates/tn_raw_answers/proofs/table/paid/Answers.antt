-- What shows the clauses of `paid` of `src/table.rt`.
use Rattle.std.proofs.Common.{arith}
use Rattle.std.proofs.lemmas.Int.{ints}
use Rattle.tn_base.specs.Firm.{payments}
use Rattle.tn_model.specs.Prices.{price_at}
use Rattle.tn_market.proofs.AscentLemmas.{sum_over-next}
use Rattle.tn_raw_answers.proofs.table.paid.Goals as goal

pub loop-k-preserved : goal.loop-k-preserved
loop-k-preserved c =
    let next = sum_over-next (payments c.args.buys (price_at c.args.prices.now)) c.loop-k.k c.args.x in
    let sum = c.loop-k.invariant.sum in
    let low = c.loop-k.invariant.small.low in
    let high = c.loop-k.invariant.small.high in
    let term = c.payment-total.ensures.term in
    let small = c.payment-total.ensures.small in
    let few = c.requires.few in
    let inside = c.loop-k-test.true in
    record {
      sum = omega (arith, ints, next, sum, term, low, high, small.low, small.high, few, inside);
      small = record {
        low = omega (arith, ints, low, small.low, high, small.high, few, inside);
        high =
            omega (arith, ints, high, small.high, low, small.low, few, inside);
      };
    }
