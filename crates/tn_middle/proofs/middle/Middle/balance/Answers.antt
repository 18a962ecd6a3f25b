-- What shows the clauses of `Middle::balance` of `src/middle.rt`.
use Rattle.std.proofs.Common.{arith}
use Rattle.std.proofs.lemmas.Int.{ints}
use Rattle.tn_base.specs.Firm.{payments}
use Rattle.tn_market.specs.OwnNumbers.{own_number}
use Rattle.tn_middle.proofs.BalanceLemmas.{sum_over-next}
use Rattle.tn_middle.proofs.middle.Middle.balance.Goals as goal

pub loop-k-preserved : goal.loop-k-preserved
loop-k-preserved c =
    let next = sum_over-next (payments c.args.self.now.buys (own_number c.args.self.now.numbers.items)) c.loop-k.k
    c.args.x in
    let sum = c.loop-k.invariant.sum in
    let low = c.loop-k.invariant.small.low in
    let high = c.loop-k.invariant.small.high in
    let term = c.balance_at-total.ensures.term in
    let small = c.balance_at-total.ensures.small in
    let few = c.args.self.now.middle.few in
    let inside = c.loop-k-test.true in
    record {
      sum = omega (arith, ints, next, sum, term, low, high, small.low, small.high, few, inside);
      small = record {
        low = omega (arith, ints, low, small.low, high, small.high, few, inside);
        high = omega (arith, ints, high, small.high, low, small.low, few, inside);
      };
    }
