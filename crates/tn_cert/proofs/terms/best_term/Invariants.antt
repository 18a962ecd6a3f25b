-- What the loops of `best_term` of `src/terms.rt` keep.
use Rattle.tn_cert.specs.Terms.{FindsTerm}
use Rattle.tn_cert.proofs.terms.best_term.Given as goal

abbrev pub invariant-loop-k : goal.invariant-loop-k
invariant-loop-k l = FindsTerm l.contracts l.left_out l.t l.buys l.k l.best
