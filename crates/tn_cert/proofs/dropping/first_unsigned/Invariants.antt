-- What the loops of `first_unsigned` of `src/dropping.rt` keep.
use Rattle.tn_cert.proofs.KeptLemmas.{FindsOpen}
use Rattle.tn_cert.proofs.dropping.first_unsigned.Given as goal

abbrev pub invariant-loop-k : goal.invariant-loop-k
invariant-loop-k g l = FindsOpen l.k l.market.trades l.outcome.contracts l.f l.keeps l.first
