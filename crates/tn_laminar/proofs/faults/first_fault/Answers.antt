-- What shows the clauses of `first_fault` of `src/faults.rt`.
use Rattle.std.proofs.Common.{arith}
use Rattle.tn_laminar.proofs.FaultLemmas.{fault_first, sound_more, sound_all}
use Rattle.tn_laminar.proofs.faults.first_fault.Goals as goal

pub returns-in-Some : goal.returns-in-Some
returns-in-Some c =
    fault_first c.args.sets.now c.loop-k.k c.in-Some.fault c.loop-k-test.true c.in-Some.ensures c.loop-k.invariant

pub loop-k-preserved : goal.loop-k-preserved
loop-k-preserved c = sound_more c.args.sets.now c.loop-k.k c.in_default.ensures c.loop-k.invariant

pub returns : goal.returns
returns c = sound_all c.args.sets.now c.loop-k.k (omega arith) c.loop-k.invariant
