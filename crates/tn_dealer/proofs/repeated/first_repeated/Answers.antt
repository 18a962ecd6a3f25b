-- What shows the clauses of `first_repeated` of `src/repeated.rt`.
use Rattle.std.proofs.Common.{arith}
use Rattle.tn_dealer.proofs.RepeatLemmas.{few_different, different_all}
use Rattle.tn_dealer.proofs.repeated.first_repeated.Goals as goal

pub overflow_cast-result : goal.overflow_cast-result
overflow_cast-result c =
    let inside = c.loop-k-test.true in
    let few = few_different c.args.pairs.now c.loop-k.k (omega (arith, inside)) c.requires c.loop-k.invariant in
    omega (arith, few)

pub returns : goal.returns
returns c = different_all c.args.pairs.now c.loop-k.k (omega arith) c.loop-k.invariant
