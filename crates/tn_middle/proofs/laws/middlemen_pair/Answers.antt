-- What shows the clauses of `middlemen_pair` of `src/laws.rt`.
use Rattle.tn_middle.proofs.PairLemmas.{middlemen-pair}
use Rattle.tn_middle.proofs.laws.middlemen_pair.Goals as goal

pub returns : goal.returns
returns c = middlemen-pair
