-- What the names and the trades of a document of units are, and where their reading stops.
use Rattle.std.proofs.Common.{◌≡◌, ◌≢◌, ℕ, ◌+◌, ◌<◌, ◌≤◌, true, false, List, [], ◌∷◌, ◌++◌, length, Some, None, Option, Result, refl, sym, ap, subst, ◌∙◌, arith, length-append}
use Rattle.std.specs.Prelude.{◌==◌, not, codes, nat_le, nat_lt, pos, int_lt, unsigned_abs, ◌&&◌, option_and_then, All, ◌<ℤ◌, ℤ}
use Rattle.std.proofs.lemmas.Int.{ints}
use Rattle.std.proofs.lemmas.Bool.{and_parts}
use Rattle.std.proofs.lemmas.List.Elements.{All-nil, All-push}
use Rattle.std.proofs.lemmas.Option.{none-some}
use Rattle.serde_json.specs.Data.{Data, Items}
use Rattle.serde_json.specs.Events.{items_len}
use Rattle.serde_json.specs.Find.{get, as_number, as_u64}
use Rattle.tn_said.specs.declared.fault.FaultKind.TheVariants.{AmountRange, Limit, SelfTrade, Shape}
use Rattle.tn_said.specs.declared.place.PlaceStep.{PlaceStep}
use Rattle.tn_said.specs.declared.place.PlaceStep.TheVariants.{Index, Key}
use Rattle.tn_said.specs.declared.place.Word.TheVariants.{Firms, Trades, Name, Seller, Buyer, Units, Version}
use Rattle.tn_names.specs.Names.{NameLists, IsNameList, no_names, with_trade}
use Rattle.tn_counts.specs.Markets.{IsBetween}
use Rattle.tn_counts.specs.Widths.{most_market_units, most_unit_firms, most_unit_trades}
use Rattle.tn_counts.specs.declared.trade.UnitTrade.{UnitTrade}
use Rattle.tn_model.specs.Limits.{most_firms}
use Rattle.tn_read_shapes.specs.declared.members.ObjectKind.TheVariants.{Top, UnitTrade as UnitTradeObject}
use Rattle.tn_read_shapes.specs.Reading.{each, holds, wanted}
use Rattle.tn_read_shapes.specs.Shapes.{few_at, object_of, whole_at}
use Rattle.tn_read_shapes.proofs.LeadLemmas.{Leads, apart_from_test, le_from_test, leads_after, leads_as, leads_bind, leads_both, leads_count, leads_each, leads_holds, leads_ok}
use Rattle.tn_read_shapes.proofs.ShapeLeads.{few_lead}
use Rattle.tn_read_shapes.proofs.ShapeStops.{few_stops, object_stops, whole_stops}
use Rattle.tn_read_shapes.proofs.StopLemmas.{IsPlain, IsPlainPlace, Stops, StopsPlainly, plain_holds, plain_wanted, stops_after, stops_bind, stops_each_few, stops_ok}
use Rattle.tn_read_references.specs.References.{firm_at}
use Rattle.tn_read_references.proofs.ReferenceLeads.{firm_at_leads}
use Rattle.tn_read_references.proofs.ReferenceStops.{firm_at_stops}
use Rattle.tn_read_head.specs.Beside.{IsStop, Stop, with_names}
use Rattle.tn_read_head.specs.Naming.{new_name, one_firm_name}
use Rattle.tn_read_head.proofs.BesideLemmas.{leads_beside, stops_beside}
use Rattle.tn_read_head.proofs.ListingStops.{AreFirmNames, AreNames, few_names, no_names_are, one_firm_name_leads, one_firm_name_stops, plain_stop}
use Rattle.tn_read_head.proofs.NameLeads.{IsListWhileFew, IsMore, IsNew, firms_count, firms_lead, more_count, more_names, new_name_leads, none_named}
use Rattle.tn_read_head.proofs.NameStops.{new_name_stops}
use Rattle.tn_read_units.specs.Counts.{count_at, units_at}
use Rattle.tn_read_units.specs.Heads.{AreUnitTrades, all_units, head_of, trades_of, version_at}
use Rattle.tn_read_units.specs.Limits.{most_units_at_once}
use Rattle.tn_read_units.specs.Trades.{IsUnitTrade, UnitTrades, one_trade, trade_name, trade_of}
use Rattle.tn_read_units.proofs.DocumentLeads.{IsCount, count_leads}

-- ---- counts of units

pub count_stops : (place : List PlaceStep) → IsPlainPlace place → (value : Option Data) → StopsPlainly (count_at place value)
unfolding count_at
count_stops place plain value =
    stops_bind IsPlain (whole_at place value) _ (whole_stops place plain value) (λ z.
    stops_bind IsPlain (holds AmountRange place (int_lt (pos 0) z && nat_le (unsigned_abs z) most_units_at_once)) _
    (plain_holds AmountRange place (int_lt (pos 0) z && nat_le (unsigned_abs z) most_units_at_once) refl plain)
    (λ few. stops_ok IsPlain (unsigned_abs z)))

units_lead : (place : List PlaceStep) (value : Option Data) → Leads IsCount (units_at place value)
units_lead place None = leads_ok IsCount 1 (record { some = omega arith; few = omega arith })
units_lead place (Some value) = count_leads place (Some value)

units_stop : (place : List PlaceStep) → IsPlainPlace place → (value : Option Data) → StopsPlainly (units_at place value)
units_stop place plain None = stops_ok IsPlain 1
units_stop place plain (Some value) = count_stops place plain (Some value)

-- ---- trades

name_leads : (names : NameLists) (trade : Data)
    → Leads (λ next. IsMore names.trades next.trades × (next.firms ≡ names.firms)) (trade_name names trade)
unfolding trade_name
name_leads names trade =
    leads_after _ (object_of UnitTradeObject (Key Trades ∷ Index (length names.trades) ∷ []) (Some trade)) _ (λ object.
    leads_bind (IsNew names.trades) (λ next. IsMore names.trades next.trades
    × (next.firms ≡ names.firms)) (new_name names.trades
    (Key Trades ∷ Index (length names.trades) ∷ Key Name ∷ []) (get (codes "name") trade)) _
    (new_name_leads names.trades (Key Trades ∷ Index (length names.trades) ∷ Key Name ∷ [])
    (get (codes "name") trade))
    (λ name is_new. leads_ok (λ next. IsMore names.trades next.trades
    × (next.firms ≡ names.firms)) (with_trade names name) (
      record { name = name; is_new = is_new; is = refl },
      refl,
    )))

name_stops : (names : NameLists) (trade : Data) → length names.trades ≤ 16384 → StopsPlainly (trade_name names trade)
unfolding trade_name
name_stops names trade few =
    stops_bind IsPlain (object_of UnitTradeObject (Key Trades ∷ Index (length names.trades) ∷ []) (Some trade)) _
    (object_stops (Key Trades ∷ Index (length names.trades) ∷ []) (tt, (few, tt)) UnitTradeObject (Some trade))
    (λ object.
    stops_bind IsPlain (new_name names.trades (Key Trades ∷ Index (length names.trades) ∷ Key Name ∷ [])
    (get (codes "name") trade)) _
    (new_name_stops (Key Trades ∷ Index (length names.trades) ∷ Key Name ∷ []) (
      tt,
      (few, (tt, tt)),
    ) names.trades (get (codes "name") trade)) (λ name.
    stops_ok IsPlain (with_trade names name)))

trade_leads : (firms : List (List ℕ)) (t : ℕ) (trade : Data)
    → Leads (IsUnitTrade (length firms)) (trade_of firms t trade)
unfolding trade_of
trade_leads firms t trade =
    leads_bind (λ f. f < length firms) (IsUnitTrade (length firms))
    (firm_at firms (Key Trades ∷ Index t ∷ Key Seller ∷ []) (get (codes "seller") trade)) _
    (firm_at_leads firms (Key Trades ∷ Index t ∷ Key Seller ∷ []) (get (codes "seller") trade)) (λ seller seller_known.
    leads_bind (λ f. f < length firms) (IsUnitTrade (length firms))
    (firm_at firms (Key Trades ∷ Index t ∷ Key Buyer ∷ []) (get (codes "buyer") trade)) _
    (firm_at_leads firms (Key Trades ∷ Index t ∷ Key Buyer ∷ []) (get (codes "buyer") trade)) (λ buyer buyer_known.
    leads_bind (λ _. not (seller == buyer) ≡ true) (IsUnitTrade (length firms))
    (holds SelfTrade (Key Trades ∷ Index t ∷ []) (not (seller == buyer))) _
    (leads_holds SelfTrade (Key Trades ∷ Index t ∷ []) (not (seller == buyer))) (λ u apart.
    leads_bind IsCount (IsUnitTrade (length firms))
    (units_at (Key Trades ∷ Index t ∷ Key Units ∷ []) (get (codes "units") trade)) _
    (units_lead (Key Trades ∷ Index t ∷ Key Units ∷ []) (get (codes "units") trade)) (λ units is.
    leads_ok (IsUnitTrade (length firms)) (record { seller = seller; buyer = buyer; units = units }) (record {
      between = record { seller = seller_known; buyer = buyer_known; apart = apart_from_test seller buyer apart };
      some = is.some;
      few = is.few;
    })))))

trade_stops : (firms : List (List ℕ)) (t : ℕ) (trade : Data) → t ≤ 16384 → StopsPlainly (trade_of firms t trade)
unfolding trade_of
trade_stops firms t trade few =
    stops_bind IsPlain (firm_at firms (Key Trades ∷ Index t ∷ Key Seller ∷ []) (get (codes "seller") trade)) _
    (firm_at_stops (Key Trades ∷ Index t ∷ Key Seller ∷ []) (tt, (few, (tt, tt))) firms (get (codes "seller") trade))
    (λ seller.
    stops_bind IsPlain (firm_at firms (Key Trades ∷ Index t ∷ Key Buyer ∷ []) (get (codes "buyer") trade)) _
    (firm_at_stops (Key Trades ∷ Index t ∷ Key Buyer ∷ []) (tt, (few, (tt, tt))) firms (get (codes "buyer") trade))
    (λ buyer.
    stops_bind IsPlain (holds SelfTrade (Key Trades ∷ Index t ∷ []) (not (seller == buyer))) _
    (plain_holds SelfTrade (Key Trades ∷ Index t ∷ []) (not (seller == buyer)) refl (tt, (few, tt))) (λ apart.
    stops_bind IsPlain (units_at (Key Trades ∷ Index t ∷ Key Units ∷ []) (get (codes "units") trade)) _
    (units_stop (Key Trades ∷ Index t ∷ Key Units ∷ []) (tt, (few, (tt, tt))) (get (codes "units") trade)) (λ units.
    stops_ok IsPlain (record { seller = seller; buyer = buyer; units = units })))))

one_counts : (read : UnitTrades) (trade : Data)
    → Leads (λ next. length next.trades ≡ length read.trades + 1) (one_trade read trade)
unfolding one_trade
one_counts read trade =
    leads_after _ (with_names read.names (trade_name read.names trade)) _ (λ names.
    leads_after _ (with_names names (trade_of names.firms (length read.trades) trade)) _ (λ next.
    leads_ok (λ made. length made.trades ≡ length read.trades + 1)
    (record { names = names; trades = read.trades ++ next ∷ [] }) (length-append read.trades (next ∷ []))))

-- the trades so far, over these firms
record AreTradesOver (firms : List (List ℕ)) (read : UnitTrades) : Type 0 where
  kept : IsListWhileFew read.names.trades
  named : length read.names.trades ≡ length read.trades
  each : All (IsUnitTrade (length firms)) read.trades
  firms_are : read.names.firms ≡ firms

one_leads : (firms : List (List ℕ)) (read : UnitTrades) (trade : Data) → AreTradesOver firms read
    → Leads (λ next. AreTradesOver firms next × (length next.trades ≡ length read.trades + 1)) (one_trade read trade)
unfolding one_trade
one_leads firms read trade are =
    leads_bind (λ next. IsMore read.names.trades next.trades × (next.firms ≡ read.names.firms))
    (λ next. AreTradesOver firms next × (length next.trades ≡ length read.trades + 1))
    (with_names read.names (trade_name read.names trade)) _
    (leads_beside _ read.names (trade_name read.names trade) (name_leads read.names trade)) (λ names more.
    leads_bind (IsUnitTrade (length names.firms))
    (λ next. AreTradesOver firms next × (length next.trades ≡ length read.trades + 1))
    (with_names names (trade_of names.firms (length read.trades) trade)) _
    (leads_beside _ names (trade_of names.firms (length read.trades) trade)
    (trade_leads names.firms (length read.trades) trade)) (λ next is.
    let same : names.firms ≡ firms = more.1 ∙ are.firms_are in
    let longer = length-append read.trades (next ∷ []) in
    leads_ok (λ made. AreTradesOver firms made × (length made.trades ≡ length read.trades + 1))
    (record { names = names; trades = read.trades ++ next ∷ [] }) (
      record {
        kept = more_names read.names.trades names.trades more.0 are.kept;
        named = more_count read.names.trades names.trades more.0 ∙ omega (arith, are.named, longer);
        each = All-push (IsUnitTrade (length firms)) read.trades next are.each
            (subst (λ (ns : List (List ℕ)). IsUnitTrade (length ns) next) same is);
        firms_are = same;
      },
      omega (arith, longer),
    )))

one_stops : (firms : List (List ℕ)) → IsNameList firms → (read : UnitTrades) (trade : Data) → AreTradesOver firms read
    → length read.trades + 1 ≤ most_unit_trades → Stops IsStop (one_trade read trade)
unfolding one_trade
one_stops firms firm_names read trade are few =
    let before : AreNames read.names = record {
      firms = subst IsNameList (sym are.firms_are) firm_names;
      trades = are.kept (omega (arith, few, are.named));
    } in
    stops_after IsStop (λ next. IsMore read.names.trades next.trades × (next.firms ≡ read.names.firms))
    (with_names read.names (trade_name read.names trade)) _
    (leads_beside _ read.names (trade_name read.names trade) (name_leads read.names trade))
    (stops_beside IsStop IsPlain read.names (trade_name read.names trade) (plain_stop read.names before)
    (name_stops read.names trade (omega (arith, few, are.named)))) (λ names more.
    stops_bind IsStop (with_names names (trade_of names.firms (length read.trades) trade)) _
    (stops_beside IsStop IsPlain names (trade_of names.firms (length read.trades) trade)
    (plain_stop names (named names more)) (trade_stops names.firms (length read.trades) trade (omega (arith, few))))
    (λ next. stops_ok IsStop _))
  where
    named : (names : NameLists) → IsMore read.names.trades names.trades × (names.firms ≡ read.names.firms)
        → AreNames names
    named names more = record {
      firms = subst IsNameList (sym (more.1 ∙ are.firms_are)) firm_names;
      trades = more_names read.names.trades names.trades more.0 are.kept
          (omega (arith, few, are.named, more_count read.names.trades names.trades more.0));
    }

-- ---- the head

version_stops : (top : Data) → StopsPlainly (version_at top)
unfolding version_at
version_stops top =
    let version = option_and_then as_u64 (option_and_then as_number (get (codes "version") top)) in
    stops_bind IsPlain (wanted Shape (Key Version ∷ []) version) _
    (plain_wanted Shape (Key Version ∷ []) version refl (tt, tt)) (λ version.
    plain_holds Shape (Key Version ∷ []) (version == 4) refl (tt, tt))

-- the head of a document with so many firms
pub record IsUnitHead (found : UnitTrades × Items) : Type 0 where
  pub names : AreNames found.0.names
  pub trades : AreUnitTrades found.0
  pub count : length found.0.names.firms ≡ items_len found.1

abbrev few_units : UnitTrades → Type 0
few_units read = all_units read.trades ≤ most_market_units

-- the trades of all items
module _ (names : NameLists) (are : AreFirmNames names × (length names.firms ≤ most_unit_firms)) (items : Items)
    (few : items_len items ≤ most_unit_trades) where
  abbrev start : UnitTrades
  start = record { names = names; trades = [] }

  begun : AreTradesOver names.firms start
  begun = record {
    kept = subst IsListWhileFew (sym are.0.1) none_named;
    named = ap length are.0.1;
    each = All-nil (IsUnitTrade (length names.firms));
    firms_are = refl;
  }

  abbrev AreAllTrades : UnitTrades → Type 0
  AreAllTrades read = AreTradesOver names.firms read × (length read.trades ≡ 0 + items_len items)

  all_lead : Leads AreAllTrades (each one_trade start items)
  all_lead =
      leads_both _ _ _ (leads_each (AreTradesOver names.firms) one_trade
      (λ read trade so. leads_as _ _ _ (λ next is. is.0) (one_leads names.firms read trade so)) start items begun)
      (leads_count (λ (read : UnitTrades). length read.trades) one_trade one_counts start items)

  trades_lead : Leads (λ read. AreAllTrades read × few_units read) (trades_of start items)
  unfolding trades_of
  trades_lead =
      leads_bind AreAllTrades (λ read. AreAllTrades read × few_units read) (each one_trade start items) _ all_lead
      (λ read all.
      leads_bind (λ _. nat_le (all_units read.trades) most_market_units ≡ true)
      (λ read. AreAllTrades read × few_units read)
      (with_names read.names (holds Limit (Key Trades ∷ []) (nat_le (all_units read.trades) most_market_units))) _
      (leads_beside _ read.names _
      (leads_holds Limit (Key Trades ∷ []) (nat_le (all_units read.trades) most_market_units))) (λ u test.
      leads_ok (λ read. AreAllTrades read × few_units read) read
      (all, le_from_test (all_units read.trades) most_market_units test)))

  made : (read : UnitTrades) → AreAllTrades read → AreNames read.names
  made read all = record {
    firms = subst IsNameList (sym all.0.firms_are) (few_names names are.0 (let small = are.1 in omega (arith, small))).firms;
    trades = all.0.kept (let named = all.0.named in let count = all.1 in omega (arith, named, count, few));
  }

  trades_stop : Stops IsStop (trades_of start items)
  unfolding trades_of
  trades_stop =
      stops_after IsStop AreAllTrades (each one_trade start items) _ all_lead
      (stops_each_few IsStop (AreTradesOver names.firms) (λ (read : UnitTrades). length read.trades) most_unit_trades
      one_trade (one_leads names.firms) (one_stops names.firms (few_names names are.0 (let small = are.1 in
      omega (arith, small))).firms) start items begun (omega (arith, few))) (λ read all.
      stops_bind IsStop (with_names read.names (holds Limit (Key Trades ∷ [])
      (nat_le (all_units read.trades) most_market_units))) _
      (stops_beside IsStop IsPlain read.names _ (plain_stop read.names (made read all))
      (plain_holds Limit (Key Trades ∷ []) (nat_le (all_units read.trades) most_market_units) refl (tt, tt)))
      (λ u. stops_ok IsStop read))

module _ (top : Data) where
  abbrev firm_items : Result Items Stop
  firm_items = with_names no_names (few_at most_unit_firms (Key Firms ∷ []) (get (codes "firms") top))

  firms_lead_few : Leads (λ items. items_len items ≤ most_unit_firms) firm_items
  firms_lead_few = leads_beside _ no_names _ (few_lead most_unit_firms (Key Firms ∷ []) (get (codes "firms") top))

  names_lead : (firms : Items)
      → Leads (λ end. AreFirmNames end × (length end.firms ≡ 0 + items_len firms)) (each one_firm_name no_names firms)
  names_lead firms = leads_both _ _ _ (firms_lead no_names firms refl refl) (firms_count no_names firms)

  abbrev trade_items : NameLists → Result Items Stop
  trade_items names = with_names names (few_at most_unit_trades (Key Trades ∷ []) (get (codes "trades") top))

  trades_lead_few : (names : NameLists) → Leads (λ items. items_len items ≤ most_unit_trades) (trade_items names)
  trades_lead_few names =
      leads_beside _ names _ (few_lead most_unit_trades (Key Trades ∷ []) (get (codes "trades") top))

  pub head_leads : Leads IsUnitHead (head_of top)
  unfolding head_of
  head_leads =
      leads_after IsUnitHead (with_names no_names (object_of Top [] (Some top))) _ (λ object.
      leads_after IsUnitHead (with_names no_names (version_at top)) _ (λ version.
      leads_bind (λ items. items_len items ≤ most_unit_firms) IsUnitHead firm_items _ firms_lead_few (λ firms few_firms.
      leads_bind (λ end. AreFirmNames end × (length end.firms ≡ 0 + items_len firms)) IsUnitHead
      (each one_firm_name no_names firms) _ (names_lead firms) (λ names are_names.
      let few : length names.firms ≤ most_unit_firms = let count = are_names.1 in omega (arith, count, few_firms) in
      leads_bind (λ items. items_len items ≤ most_unit_trades) IsUnitHead (trade_items names) _ (trades_lead_few names)
      (λ trades few_trades.
      leads_bind (λ read. AreAllTrades names (are_names.0, few) trades few_trades read × few_units read) IsUnitHead
      (trades_of (record { names = names; trades = [] }) trades) _
      (trades_lead names (are_names.0, few) trades few_trades) (λ read all.
      leads_ok IsUnitHead (read, firms) (record {
        names = made names (are_names.0, few) trades few_trades read all.0;
        trades = head_is names firms trades read few few_trades all.0.0 all.0.1 all.1;
        count = ap length all.0.0.firms_are ∙ (let count = are_names.1 in omega (arith, count));
      })))))))
    where
      head_is : (names : NameLists) (firms trades : Items) (read : UnitTrades) → length names.firms ≤ most_unit_firms
          → items_len trades ≤ most_unit_trades → AreTradesOver names.firms read
          → length read.trades ≡ 0 + items_len trades → few_units read → AreUnitTrades read
      head_is names firms trades read few few_trades are count units =
          let same = ap length are.firms_are in
          record {
            few_firms = omega (arith, few, same);
            named = are.named;
            few = omega (arith, few_trades, count);
            few_units = units;
            each = subst (λ (ns : List (List ℕ)). All (IsUnitTrade (length ns)) read.trades) (sym are.firms_are) are.each;
          }

  pub head_stops : Stops IsStop (head_of top)
  unfolding head_of
  head_stops =
      stops_bind IsStop (with_names no_names (object_of Top [] (Some top))) _
      (stops_beside IsStop IsPlain no_names _ (plain_stop no_names no_names_are) (object_stops [] tt Top (Some top)))
      (λ object.
      stops_bind IsStop (with_names no_names (version_at top)) _
      (stops_beside IsStop IsPlain no_names (version_at top) (plain_stop no_names no_names_are) (version_stops top))
      (λ version.
      stops_after IsStop (λ items. items_len items ≤ most_unit_firms) firm_items _ firms_lead_few
      (stops_beside IsStop IsPlain no_names _ (plain_stop no_names no_names_are)
      (few_stops (Key Firms ∷ []) (tt, tt) most_unit_firms (get (codes "firms") top))) (λ firms few_firms.
      stops_after IsStop (λ end. AreFirmNames end × (length end.firms ≡ 0 + items_len firms))
      (each one_firm_name no_names firms) _ (names_lead firms)
      (stops_each_few IsStop AreFirmNames (λ (names : NameLists). length names.firms) most_firms one_firm_name
      one_firm_name_leads one_firm_name_stops no_names firms (none_named, refl) (omega (arith, few_firms)))
      (λ names are_names.
      let few : length names.firms ≤ most_unit_firms = let count = are_names.1 in omega (arith, count, few_firms) in
      stops_after IsStop (λ items. items_len items ≤ most_unit_trades) (trade_items names) _ (trades_lead_few names)
      (stops_beside IsStop IsPlain names _ (plain_stop names (few_names names are_names.0 (omega (arith, few))))
      (few_stops (Key Trades ∷ []) (tt, tt) most_unit_trades (get (codes "trades") top))) (λ trades few_trades.
      stops_bind IsStop (trades_of (record { names = names; trades = [] }) trades) _
      (trades_stop names (are_names.0, few) trades few_trades) (λ read.
      stops_ok IsStop (read, firms)))))))
