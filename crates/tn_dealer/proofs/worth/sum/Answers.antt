-- What shows the clauses of `sum` of `src/worth.rt`.
use Rattle.std.proofs.Common.{arith}
use Rattle.std.proofs.lemmas.Int.{ints}
use Rattle.tn_market.specs.OwnNumbers.{own_number}
use Rattle.tn_dealer.proofs.CertificateLemmas.{sum_over-next, sum_over-none}
use Rattle.tn_dealer.proofs.worth.sum.Goals as goal

pub loop-k-init : goal.loop-k-init
loop-k-init c = record {
  sum = sum_over-none (own_number c.args.numbers.now) c.args.x;
  small = record { low = omega (arith, ints); high = omega (arith, ints) };
}

pub loop-k-preserved : goal.loop-k-preserved
loop-k-preserved c =
    let next = sum_over-next (own_number c.args.numbers.now) c.loop-k.k c.args.x in
    let sum = c.loop-k.invariant.sum in
    let low = c.loop-k.invariant.small.low in
    let high = c.loop-k.invariant.small.high in
    let term = c.number_in-total.ensures.term in
    let small = c.number_in-total.ensures.small in
    let inside = c.loop-k-test.true in
    record {
      sum = omega (arith, ints, next, sum, term, low, high, small.low, small.high, inside);
      small = record {
        low = omega (arith, ints, low, small.low, high, small.high, inside);
        high = omega (arith, ints, high, small.high, low, small.low, inside);
      };
    }
