-- What shows the clauses of `first_bend` of `src/faults.rt`.
use Rattle.std.proofs.Common.{arith}
use Rattle.tn_laminar.proofs.FaultLemmas.{concave_from}
use Rattle.tn_laminar.proofs.faults.first_bend.Goals as goal

pub returns : goal.returns
returns c = concave_from c.args.numbers.now (λ k h bend. c.loop-place.invariant k (omega (arith, h)) bend)
