-- What the loops of `terms_of` of `src/terms.rt` keep.
use Rattle.tn_cert.specs.Terms.{HasTerms}
use Rattle.tn_cert.proofs.terms.terms_of.Given as goal

abbrev pub invariant-loop-k : goal.invariant-loop-k
invariant-loop-k g l = HasTerms l.market.trades l.contracts l.left_out l.f l.k l.free l.prices
