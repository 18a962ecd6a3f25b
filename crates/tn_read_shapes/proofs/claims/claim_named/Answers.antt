-- What shows the clauses of `claim_named` of `src/claims.rt`.
use Rattle.tn_read_shapes.proofs.WordLemmas.{found_value}
use Rattle.tn_read_shapes.proofs.claims.claim_named.Goals as goal

pub returns : goal.returns
returns c = simp (found_value, c.value_of_word.ensures)
