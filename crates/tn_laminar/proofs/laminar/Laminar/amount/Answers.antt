-- What shows the clauses of `Laminar::amount` of `src/laminar.rt`.
use Rattle.std.proofs.Common.{arith}
use Rattle.std.proofs.lemmas.Int.{ints}
use Rattle.tn_market.specs.OwnNumbers.{own_number}
use Rattle.tn_laminar.proofs.ValueLemmas.{sum_over-next}
use Rattle.tn_laminar.proofs.laminar.Laminar.amount.Goals as goal

pub loop-k-preserved : goal.loop-k-preserved
loop-k-preserved c =
    let next = sum_over-next (own_number c.args.self.now.amounts.items) c.loop-k.k c.args.x in
    let sum = c.loop-k.invariant.sum in
    let low = c.loop-k.invariant.small.low in
    let high = c.loop-k.invariant.small.high in
    let term = c.amount_in-total.ensures.term in
    let small = c.amount_in-total.ensures.small in
    let few = c.args.self.now.laminar.few in
    let inside = c.loop-k-test.true in
    record {
      sum = omega (arith, ints, next, sum, term, low, high, small.low, small.high, few, inside);
      small = record {
        low = omega (arith, ints, low, small.low, high, small.high, few, inside);
        high = omega (arith, ints, high, small.high, low, small.low, few, inside);
      };
    }
