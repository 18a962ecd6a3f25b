-- What shows the clauses of `RawFirm::test` of `src/raw.rt`.
use Rattle.std.proofs.Common.{◌≡◌, ◌⊎◌, inl, inr, refl, sym, subst}
use Rattle.std.specs.Prelude.{◌↔◌}
use Rattle.tn_base.specs.Firm.{Firm}
use Rattle.tn_base.specs.Exchange.{NoneFails}
use Rattle.tn_base.proofs.ExchangeLemmas.{none_fails_from_exchange}
use Rattle.tn_dealer.specs.declared.dealer.Dealer.{Dealer}
use Rattle.tn_dealer.specs.LawLemmas.{dealer_laws}
use Rattle.tn_exchange.specs.declared.verdict.Verdict.TheVariants.{Holds}
use Rattle.tn_laminar.specs.declared.laminar.Laminar.{Laminar}
use Rattle.tn_laminar.specs.LawLemmas.{laminar_laws}
use Rattle.tn_market.specs.Lawful.{IsLawful}
use Rattle.tn_middle.specs.declared.middle.Middle.{Middle}
use Rattle.tn_middle.specs.LawLemmas.{middle_laws}
use Rattle.tn_firm.specs.declared.raw.RawFirm.{RawFirm}
use Rattle.tn_firm.specs.declared.raw.RawFirm.TheVariants.{Laminar as IsLaminar, Middle as IsMiddle, Dealer as IsDealer}
use Rattle.tn_firm.specs.Raw.{raw_firm_of}
use Rattle.tn_firm.proofs.raw.RawFirm.test.Goals as goal
use Rattle.tn_market.specs.Widths.{most_worth}

pub returns-in-Table-clause-holds : goal.returns-in-Table-clause-holds
returns-in-Table-clause-holds c = subst (λ (raw : RawFirm). (c.test_table.result ≡ Holds)
    ↔ NoneFails (raw_firm_of raw)) (sym c.in-Table.is) c.test_table.ensures.holds

pub returns-in-Laminar-clause-holds : goal.returns-in-Laminar-clause-holds
returns-in-Laminar-clause-holds c = ((λ _. meets c.args.self.now c.in-Laminar.is), (λ _. refl))
  where
    lawful : (firm : Firm) → IsLawful most_worth firm → NoneFails firm
    lawful firm laws = none_fails_from_exchange firm (record { one = laws.exchange_one; net_count = laws.exchange_net })

    meets : (raw : RawFirm) → ((firm : Laminar) × (raw ≡ IsLaminar firm))
        ⊎ (((firm : Middle) × (raw ≡ IsMiddle firm)) ⊎ ((firm : Dealer) × (raw ≡ IsDealer firm)))
        → NoneFails (raw_firm_of raw)
    meets raw (inl (firm, is)) =
        subst (λ (raw : RawFirm). NoneFails (raw_firm_of raw)) (sym is) (lawful _ (laminar_laws firm))
    meets raw (inr (inl (firm, is))) =
        subst (λ (raw : RawFirm). NoneFails (raw_firm_of raw)) (sym is) (lawful _ (middle_laws firm))
    meets raw (inr (inr (firm, is))) =
        subst (λ (raw : RawFirm). NoneFails (raw_firm_of raw)) (sym is) (lawful _ (dealer_laws firm))
