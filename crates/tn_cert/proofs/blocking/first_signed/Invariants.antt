-- What the loops of `first_signed` of `src/blocking.rt` keep.
use Rattle.tn_cert.proofs.BlockingLemmas.{FindsContract}
use Rattle.tn_cert.proofs.blocking.first_signed.Given as goal

abbrev pub invariant-loop-k : goal.invariant-loop-k
invariant-loop-k l = FindsContract l.outcome l.over l.offers l.k l.first
