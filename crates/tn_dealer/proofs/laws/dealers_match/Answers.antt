-- What shows the clauses of `dealers_match` of `src/laws.rt`.
use Rattle.tn_dealer.proofs.MatchingLemmas.{dealers-match}
use Rattle.tn_dealer.proofs.laws.dealers_match.Goals as goal

pub returns : goal.returns
returns c = dealers-match
