-- What shows the clauses of `stand_of` of `src/stand.rt`.
use Rattle.std.proofs.Common.{sym, subst}
use Rattle.tn_firm.specs.declared.raw.RawFirm.{RawFirm}
use Rattle.tn_market.specs.Widths.{most_worth}
use Rattle.tn_firm.specs.Raw.{raw_firm_of}
use Rattle.tn_market.specs.Valued.{IsWorthAtMost}
use Rattle.tn_raw_answers.proofs.StandLemmas.{table_worths, laminar_worths, middle_worths, dealer_worths}
use Rattle.tn_raw_answers.proofs.stand.stand_of.Goals as goal

pub returns-in-Table-clause-worths : goal.returns-in-Table-clause-worths
returns-in-Table-clause-worths c =
    subst (λ (firm : RawFirm). IsWorthAtMost most_worth (raw_firm_of firm)) (sym c.in-Table.is)
    (table_worths c.in-Table.table c.trades-count.ensures.within)

pub returns-in-Laminar-clause-worths : goal.returns-in-Laminar-clause-worths
returns-in-Laminar-clause-worths c =
    subst (λ (firm : RawFirm). IsWorthAtMost most_worth (raw_firm_of firm)) (sym c.in-Laminar.is)
    (laminar_worths c.in-Laminar.firm)

pub returns-in-Middle-clause-worths : goal.returns-in-Middle-clause-worths
returns-in-Middle-clause-worths c =
    subst (λ (firm : RawFirm). IsWorthAtMost most_worth (raw_firm_of firm)) (sym c.in-Middle.is)
    (middle_worths c.in-Middle.firm)

pub returns-in-Dealer-clause-worths : goal.returns-in-Dealer-clause-worths
returns-in-Dealer-clause-worths c =
    subst (λ (firm : RawFirm). IsWorthAtMost most_worth (raw_firm_of firm)) (sym c.in-Dealer.is)
    (dealer_worths c.in-Dealer.firm)
