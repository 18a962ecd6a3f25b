-- Wherever the reading of names and trades stops, the names beside its fault keep the rules.
use Rattle.std.proofs.Common.{◌≡◌, ℕ, ◌+◌, ◌≤◌, List, [], ◌∷◌, length, Some, refl, sym, subst, ◌∙◌, arith}
use Rattle.std.specs.Prelude.{codes, option_and_then}
use Rattle.serde_json.specs.Data.{Data}
use Rattle.serde_json.specs.Events.{items_len}
use Rattle.serde_json.specs.Find.{get, as_number, as_u64}
use Rattle.tn_said.specs.declared.fault.FaultKind.TheVariants.{Shape}
use Rattle.tn_model.specs.Limits.{AreLimits, limits_of, most_firms, most_trades}
use Rattle.tn_said.specs.declared.place.PlaceStep.TheVariants.{Key}
use Rattle.tn_said.specs.declared.place.Word.TheVariants.{Firms, Trades, Version}
use Rattle.tn_said.specs.declared.said.Fault.{Fault}
use Rattle.tn_names.specs.Names.{NameLists, IsNameList, no_names}
use Rattle.tn_read_shapes.specs.declared.members.ObjectKind.TheVariants.{Top}
use Rattle.tn_read_head.specs.Beside.{with_names, IsStop}
use Rattle.tn_read_shapes.specs.Reading.{each, wanted}
use Rattle.tn_read_shapes.specs.Shapes.{few_at, object_of}
use Rattle.tn_read_head.specs.Naming.{NamedTrades, ends_at, firm_name, one_firm_name, one_trade, trade_name}
use Rattle.tn_read_head.specs.Listing.{limits_at, listed_of}
use Rattle.tn_read_shapes.proofs.LeadLemmas.{Leads, leads_as, leads_both}
use Rattle.tn_read_head.proofs.BesideLemmas.{leads_beside, stops_beside}
use Rattle.tn_read_head.proofs.NameLeads.{AreListed, IsListWhileFew, IsMore, firm_name_leads, firms_count, firms_lead, more_count, more_names, no_trades_listed, none_named, one_trade_count, one_trade_leads, trade_name_leads}
use Rattle.tn_read_shapes.proofs.ShapeLeads.{few_lead}
use Rattle.tn_read_head.proofs.ListingLeads.{limits_lead}
use Rattle.tn_read_shapes.proofs.StopLemmas.{IsPlain, Stops, StopsPlainly, plain_wanted, stops_after, stops_bind, stops_each_few, stops_ok}
use Rattle.tn_read_references.proofs.ToldLemmas.{IsTold, told_plain}
use Rattle.tn_read_head.proofs.NameStops.{ends_stop, firm_name_stops, trade_name_stops}
use Rattle.tn_read_shapes.proofs.ShapeStops.{few_stops, object_stops}

-- names that keep the rules
pub record AreNames (names : NameLists) : Type 0 where
  pub firms : IsNameList names.firms
  pub trades : IsNameList names.trades

pub no_names_are : AreNames no_names
no_names_are = record { firms = none_named (omega arith); trades = none_named (omega arith) }

pub told_stop : (names : NameLists) → AreNames names → (f : Fault) → IsTold names.trades f
    → IsStop (record { fault = f; names = names })
told_stop names are f told = record {
  fault = told.sayable;
  short = told.short;
  ascending = told.ascending;
  firm_names =
      are.firms;
  trade_names = are.trades;
  read = told.read;
}

pub plain_stop : (names : NameLists) → AreNames names → (f : Fault) → IsPlain f
    → IsStop (record { fault = f; names = names })
plain_stop names are f plain = told_stop names are f (told_plain names.trades f plain)

-- the names of the firms so far
abbrev pub AreFirmNames : NameLists → Type 0
AreFirmNames names = IsListWhileFew names.firms × (names.trades ≡ [])

pub one_firm_name_leads : (names : NameLists) (firm : Data) → AreFirmNames names
    → Leads (λ next. AreFirmNames next × (length next.firms ≡ length names.firms + 1)) (one_firm_name names firm)
one_firm_name_leads names firm kept =
    leads_beside _ names (firm_name names firm)
    (leads_as (λ next. IsMore names.firms next.firms × (next.trades ≡ names.trades)) _ (firm_name names firm)
    (λ next more. (
      (more_names names.firms next.firms more.0 kept.0, more.1 ∙ kept.1),
      more_count names.firms next.firms more.0,
    )) (firm_name_leads names firm))

pub few_names : (names : NameLists) → AreFirmNames names → length names.firms ≤ most_firms → AreNames names
few_names names kept few = record {
  firms = kept.0 (omega (arith, few));
  trades =
      subst IsNameList (sym kept.1) (none_named (omega arith));
}

pub one_firm_name_stops : (names : NameLists) (firm : Data) → AreFirmNames names → length names.firms + 1 ≤ most_firms
    → Stops IsStop (one_firm_name names firm)
one_firm_name_stops names firm kept few =
    stops_beside IsStop IsPlain names (firm_name names firm)
    (plain_stop names (few_names names kept (omega (arith, few)))) (firm_name_stops names firm (omega (arith, few)))

-- a trade is named, and then its ends are read beside its name
one_trade_stops : (firms : List (List ℕ)) → IsNameList firms → (listed : NamedTrades) (trade : Data)
    → AreListed firms listed → length listed.ends + 1 ≤ most_trades → Stops IsStop (one_trade listed trade)
unfolding one_trade
one_trade_stops firms firm_names listed trade are few =
    let before : AreNames listed.names = record {
      firms = subst IsNameList (sym are.firms_are) firm_names;
      trades =
          are.kept (omega (arith, few, are.named));
    } in
    stops_after IsStop (λ next. IsMore listed.names.trades next.trades
    × (next.firms ≡ listed.names.firms)) (with_names listed.names (trade_name listed.names trade)) _
    (leads_beside _ listed.names (trade_name listed.names trade) (trade_name_leads listed.names trade))
    (stops_beside IsStop IsPlain listed.names (trade_name listed.names trade) (plain_stop listed.names before)
    (trade_name_stops listed.names trade (omega (arith, few, are.named)))) (λ names more.
    stops_bind IsStop (with_names names (ends_at names.firms listed.ends (length listed.ends) trade)) _
    (stops_beside IsStop IsPlain names (ends_at names.firms listed.ends (length listed.ends) trade)
    (plain_stop names (named names more)) (ends_stop names.firms listed.ends (length listed.ends) trade
    (omega (arith, few)))) (λ ends.
    stops_ok IsStop _))
  where
    named : (names : NameLists) → IsMore listed.names.trades names.trades × (names.firms ≡ listed.names.firms)
        → AreNames names
    named names more = record {
      firms = subst IsNameList (sym (more.1 ∙ are.firms_are)) firm_names;
      trades = more_names listed.names.trades names.trades more.0 are.kept
          (omega (arith, few, are.named, more_count listed.names.trades names.trades more.0));
    }

version_stops : (top : Data) → StopsPlainly (limits_at top)
unfolding limits_at
version_stops top =
    let version = option_and_then as_u64 (option_and_then as_number (get (codes "version") top)) in
    stops_bind IsPlain (wanted Shape (Key Version ∷ []) version) _
    (plain_wanted Shape (Key Version ∷ []) version refl (tt, tt)) (λ version.
    plain_wanted Shape (Key Version ∷ []) (limits_of version) refl (tt, tt))

pub listed_stops : (top : Data) → Stops IsStop (listed_of top)
unfolding listed_of
listed_stops top =
    stops_bind IsStop (with_names no_names (object_of Top [] (Some top))) _
    (stops_beside IsStop IsPlain no_names _ (plain_stop no_names no_names_are) (object_stops [] tt Top (Some top)))
    (λ object.
    stops_after IsStop AreLimits (with_names no_names (limits_at top)) _
    (leads_beside _ no_names (limits_at top) (limits_lead top))
    (stops_beside IsStop IsPlain no_names (limits_at top) (plain_stop no_names no_names_are) (version_stops top))
    (λ limits are_limits.
    stops_after IsStop (λ items. items_len items ≤ limits.firms)
    (with_names no_names (few_at limits.firms (Key Firms ∷ []) (get (codes "firms") top))) _
    (leads_beside _ no_names _ (few_lead limits.firms (Key Firms ∷ []) (get (codes "firms") top)))
    (stops_beside IsStop IsPlain no_names _ (plain_stop no_names no_names_are)
    (few_stops (Key Firms ∷ []) (tt, tt) limits.firms (get (codes "firms") top))) (λ firms few_firms.
    stops_after IsStop (λ end. AreFirmNames end × (length end.firms ≡ 0 + items_len firms))
    (each one_firm_name no_names firms) _
    (leads_both _ _ _ (firms_lead no_names firms refl refl) (firms_count no_names firms))
    (stops_each_few IsStop AreFirmNames (λ (names : NameLists). length names.firms) most_firms one_firm_name
    one_firm_name_leads one_firm_name_stops no_names firms (
      none_named,
      refl,
    ) (omega (arith, few_firms, are_limits.firms))) (λ names are_names.
    let named : AreNames names = few_names names are_names.0 (let count = are_names.1 in
    omega (arith, count, few_firms, are_limits.firms)) in
    stops_after IsStop (λ items. items_len items ≤ limits.trades)
    (with_names names (few_at limits.trades (Key Trades ∷ []) (get (codes "trades") top))) _
    (leads_beside _ names _ (few_lead limits.trades (Key Trades ∷ []) (get (codes "trades") top)))
    (stops_beside IsStop IsPlain names _ (plain_stop names named)
    (few_stops (Key Trades ∷ []) (tt, tt) limits.trades (get (codes "trades") top))) (λ trades few_trades.
    stops_bind IsStop (each one_trade (record { names = names; ends = [] }) trades) _
    (stops_each_few IsStop (AreListed names.firms) (λ (listed : NamedTrades). length listed.ends) most_trades one_trade
    (λ listed trade are. leads_both _ _ _ (one_trade_leads names.firms listed trade are) (one_trade_count listed trade))
    (one_trade_stops names.firms named.firms) (record { names = names; ends = [] }) trades
    (no_trades_listed names are_names.0.1) (omega (arith, few_trades, are_limits.trades))) (λ listed.
    stops_ok IsStop (record { limits = limits; names = listed.names; ends = listed.ends }, firms)))))))
