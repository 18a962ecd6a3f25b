-- What shows the clauses of `is_unable` of `src/supporting.rt`.
use Rattle.tn_price.proofs.SupportLemmas.{is_none_of}
use Rattle.tn_price.proofs.supporting.is_unable.Goals as goal

pub returns-clause-found : goal.returns-clause-found
returns-clause-found g c =
    λ firm is. is_none_of c.worth_at.result _ c.is_none.result c.is_none.ensures (c.worth_at.ensures.worth firm is)
