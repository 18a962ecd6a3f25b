-- What shows the clauses of `ordered_shifts_keep_best` of `src/ordered.rt`.
use Rattle.tn_firm_laws.proofs.OrderedLemmas.{ordered_keep_best}
use Rattle.tn_firm_laws.proofs.ordered.ordered_shifts_keep_best.Goals as goal

pub returns : goal.returns
returns c = ordered_keep_best
