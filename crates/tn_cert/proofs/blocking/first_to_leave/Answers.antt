-- What shows the clauses of `first_to_leave` of `src/blocking.rt`.
use Rattle.std.proofs.Common.{arith}
use Rattle.std.proofs.lemmas.Int.{ints}
use Rattle.tn_cert.proofs.CountedLemmas.{numerators_small}
use Rattle.tn_cert.proofs.blocking.first_to_leave.Goals as goal

pub together-requires-clause-over_least : goal.together-requires-clause-over_least
together-requires-clause-over_least g c =
    let least = c.requires.over.least in
    let most = c.requires.over.most in
    omega (arith, ints, least, most)

pub together-requires-clause-outcome_most : goal.together-requires-clause-outcome_most
together-requires-clause-outcome_most g c =
    let most = c.requires.outcome.most in
    omega (arith, ints, most)

pub together-requires-clause-small_outcome : goal.together-requires-clause-small_outcome
together-requires-clause-small_outcome g c =
    numerators_small c.args.outcome.now.contracts c.requires.outcome.contracts.small
