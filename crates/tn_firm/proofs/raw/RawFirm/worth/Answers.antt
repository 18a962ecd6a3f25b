-- What shows the clauses of `RawFirm::worth` of `src/raw.rt`.
use Rattle.tn_dealer.specs.LawLemmas.{dealer_laws}
use Rattle.tn_laminar.specs.LawLemmas.{laminar_laws}
use Rattle.tn_middle.specs.LawLemmas.{middle_laws}
use Rattle.tn_firm.proofs.WorthLemmas.{worth_small, amount_small}
use Rattle.tn_firm.proofs.raw.RawFirm.worth.Goals as goal

pub returns-in-Table-clause-small : goal.returns-in-Table-clause-small
returns-in-Table-clause-small c = amount_small c.worth.result c.worth.ensures.small

pub returns-in-Laminar-clause-small : goal.returns-in-Laminar-clause-small
returns-in-Laminar-clause-small c =
    worth_small _ c.args.x c.value.result (laminar_laws c.in-Laminar.firm) c.value.ensures.worth

pub returns-in-Middle-clause-small : goal.returns-in-Middle-clause-small
returns-in-Middle-clause-small c =
    worth_small _ c.args.x c.value-in-Middle.result (middle_laws c.in-Middle.firm) c.value-in-Middle.ensures.worth

pub returns-in-Dealer-clause-small : goal.returns-in-Dealer-clause-small
returns-in-Dealer-clause-small c =
    worth_small _ c.args.x c.value-in-Dealer.result (dealer_laws c.in-Dealer.firm) c.value-in-Dealer.ensures.worth
