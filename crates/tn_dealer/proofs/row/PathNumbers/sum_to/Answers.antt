-- What shows the clauses of `PathNumbers::sum_to` of `src/row.rt`.
use Rattle.std.proofs.Common.{arith}
use Rattle.std.proofs.lemmas.Int.{ints}
use Rattle.tn_dealer.specs.Paths.{own_number_to}
use Rattle.tn_dealer.proofs.CertificateLemmas.{sum_over-next, sum_over-none}
use Rattle.tn_dealer.proofs.row.PathNumbers.sum_to.Goals as goal

pub loop-k-init : goal.loop-k-init
loop-k-init c =
    let self = c.args.self.now in
    record {
      sum = sum_over-none (own_number_to self.bought_rise c.args.buys c.args.path.now.distance self.near self.far) c.args.x;
      small = record { low = omega (arith, ints); high = omega (arith, ints) };
    }

pub loop-k-preserved : goal.loop-k-preserved
loop-k-preserved c =
    let self = c.args.self.now in
    let next = sum_over-next (own_number_to self.bought_rise c.args.buys c.args.path.now.distance self.near self.far)
    c.loop-k.k c.args.x in
    let sum = c.loop-k.invariant.sum in
    let low = c.loop-k.invariant.small.low in
    let high = c.loop-k.invariant.small.high in
    let term = c.number_in-total.ensures.term in
    let small = c.number_in-total.ensures.small in
    let inside = c.loop-k-test.true in
    record {
      sum = omega (arith, ints, next, sum, term, low, high, small.low, small.high, inside);
      small = record {
        low = omega (arith, ints, low, small.low, high, small.high, inside);
        high = omega (arith, ints, high, small.high, low, small.low, inside);
      };
    }
