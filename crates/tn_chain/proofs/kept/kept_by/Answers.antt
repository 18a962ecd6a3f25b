-- What shows the clauses of `kept_by` of `src/kept.rt`.
use Rattle.tn_chain.proofs.kept.kept_by.Goals as goal

pub returns : goal.returns
returns g c = λ v is. record {
  holds = c.signed_by-held.ensures v is;
  worth = c.kept_worth-worth.ensures.worth v is;
}
