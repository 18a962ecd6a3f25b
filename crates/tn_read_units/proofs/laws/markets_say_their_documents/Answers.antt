-- What shows the clauses of `markets_say_their_documents` of `src/laws.rt`.
use Rattle.tn_read_units.proofs.SameLemmas.{same_market}
use Rattle.tn_read_units.proofs.laws.markets_say_their_documents.Goals as goal

pub returns : goal.returns
returns c = same_market
