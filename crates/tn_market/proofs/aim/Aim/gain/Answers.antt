-- What shows the clauses of `Aim::gain` of `src/aim.rt`.
use Rattle.std.proofs.Common.{arith}
use Rattle.std.proofs.lemmas.Int.{ints}
use Rattle.tn_model.specs.Prices.{price_at}
use Rattle.tn_market.proofs.AscentLemmas.{sum_over-next}
use Rattle.tn_market.proofs.aim.Aim.gain.Goals as goal

pub loop-k-preserved : goal.loop-k-preserved
loop-k-preserved g c =
    let next = sum_over-next (price_at c.args.self.now.gains.now) c.loop-k.k c.args.x in
    let sum = c.loop-k.invariant.sum in
    let low = c.loop-k.invariant.small.low in
    let high = c.loop-k.invariant.small.high in
    let term = c.gain_at-total.ensures.term in
    let small = c.gain_at-total.ensures.small in
    let few = c.trades-k-end.ensures.few in
    let inside = c.loop-k-test.true in
    record {
      sum = omega (arith, ints, next, sum, term, low, high, small.low, small.high);
      small = record {
        low = omega (arith, ints, low, small.low, high, small.high);
        high =
            omega (arith, ints, high, small.high, low, small.low);
      };
    }
