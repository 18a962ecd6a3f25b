-- The unit firms of a document exchange as those of a market with its worths.
use Rattle.std.proofs.Common.{◌≡◌, ℕ, ◌^◌, nat_lt, if◌then◌else◌, List, Option, None, sym, ap, ◌∙◌, subst, arith, ℤ}
use Rattle.std.proofs.lemmas.Option.{slice_get_within}
use Rattle.tn_base.specs.Exchange.{MeetsExchange}
use Rattle.tn_base.specs.Firm.{Firm, HasOwnBundles}
use Rattle.tn_model.proofs.InOrderNetworks.{there}
use Rattle.tn_counts.specs.Counts.{CountFirm}
use Rattle.tn_counts.specs.Laminar.{firms_of}
use Rattle.tn_counts.specs.declared.trade.UnitTrade.{UnitTrade}
use Rattle.tn_counts.proofs.SurplusLemmas.{firm_at}
use Rattle.tn_read_units.specs.Worths.{written_firms}
use Rattle.tn_read_units.proofs.SameLemmas.{same_market}
use Rattle.tn_unit_laws.specs.Units.{counts_of, own_units, unit_firm}
use Rattle.tn_unit_laws.proofs.BundleLemmas.{counts_within}
use Rattle.tn_unit_laws.proofs.LaminarLemmas.{exchange_alike, markets_exchange}
use Rattle.tn_unit_laws.proofs.UnitLemmas.{comes_from, unit_firm_at}
use Rattle.tn_unit_run_laws.specs.Laws.{DocumentsMeetExchange}
use Rattle.tn_unit_run_laws.proofs.AnswerLemmas.{make_networks}

-- a firm with the same counts of positions and the same worths of counts exchanges too
alike : (trades : List UnitTrade) (f : ℕ) (one other : CountFirm)
    → ((x : ℕ) → one.worth (counts_of trades f x) ≡ other.worth (counts_of trades f x))
    → HasOwnBundles (unit_firm trades f other) × MeetsExchange (unit_firm trades f other)
    → HasOwnBundles (unit_firm trades f one) × MeetsExchange (unit_firm trades f one)
alike trades f one other same law =
    exchange_alike (own_units trades f) (unit_firm trades f one).buys (λ x. (unit_firm trades f one).worth x)
    (λ x. (unit_firm trades f other).worth x)
    (λ x. ap (λ (o : Option ℤ). if nat_lt x (2 ^ own_units trades f) then o else None) (same x)) law

pub documents_exchange : DocumentsMeetExchange
documents_exchange bytes doc market read is_market trades_are has f unit at =
    let fit = (make_networks bytes doc read).fit in
    let from = comes_from doc.head.trades 0 (written_firms doc) f f unit (omega arith) at in
    let within = slice_get_within (written_firms doc) f from.firm from.is in
    let long = (same_market doc market has).count in
    let here = there (firms_of market) f (omega (arith, within, long)) in
    let mine = (firm_at market f here.0 here.1).1 in
    let law = markets_exchange market is_market f (unit_firm market.trades.items f here.0)
    (unit_firm_at market.trades.items 0 (firms_of market) f f here.0 (omega arith) here.1) in
    let law_there = subst (λ (trades : List UnitTrade). HasOwnBundles (unit_firm trades f here.0)
    × MeetsExchange (unit_firm trades f here.0)) trades_are law in
    subst (λ (one : Firm). HasOwnBundles one × MeetsExchange one) from.same
    (alike doc.head.trades f from.firm here.0 (λ x.
    sym (has.worths f from.firm from.is (counts_of doc.head.trades f x)
    (counts_within (written_firms doc) doc.head.trades fit f from.firm from.is x))
    ∙ ap (λ (one : CountFirm). one.worth (counts_of doc.head.trades f x)) (sym mine)) law_there)
