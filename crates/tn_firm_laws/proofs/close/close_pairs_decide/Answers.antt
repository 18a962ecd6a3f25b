-- What shows the clauses of `close_pairs_decide` of `src/close.rt`.
use Rattle.tn_firm_laws.proofs.ClosePairs.{close_pairs_decide}
use Rattle.tn_firm_laws.proofs.close.close_pairs_decide.Goals as goal

pub returns : goal.returns
returns c = close_pairs_decide
