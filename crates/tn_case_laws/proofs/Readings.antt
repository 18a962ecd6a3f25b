-- What the documents of the book are read as.
use Rattle.std.proofs.Common.{◌≡◌, ℕ, ℤ, pos, negsuc, List, [], ◌∷◌, ◌++◌, length, Option, Some, None, codes, refl, Result, Ok, true, false}
use Rattle.serde_json.specs.Data.{Data, Items, no_items, item}
use Rattle.serde_json.specs.View.{items_of}
use Rattle.tn_base.specs.Sets.{has, toggle, size, size_below}
use Rattle.tn_base.specs.Exchange.{NoneFails}
use Rattle.tn_base.specs.Firm.{Firm}
use Rattle.tn_base.proofs.ExchangeLemmas.{none_fails_from_exchange}
use Rattle.tn_exchange.specs.Rows.{TableRows, firm_of_table}
use Rattle.tn_said.specs.declared.said.Fault.{Fault}
use Rattle.tn_model.specs.declared.ends.Ends.{Ends}
use Rattle.tn_names.specs.Names.{NameLists}
use Rattle.tn_read_shapes.specs.declared.members.FirmKind.TheVariants.{Table}
use Rattle.tn_read_shapes.specs.Members.{allows}
use Rattle.tn_read_shapes.specs.Claims.{allows_in_claim}
use Rattle.tn_read_shapes.specs.Reading.{each}
use Rattle.tn_read_shapes.specs.Shapes.{few_at, two_at, number_in, object_of}
use Rattle.tn_model.specs.Limits.{limits_of, limits_with}
use Rattle.tn_read_references.specs.Ordered.{Listed, sides_of}
use Rattle.tn_read_references.specs.References.{firm_at, trade_at, new_trade, own_position, new_own, own_reference, bundle_at}
use Rattle.tn_read_references.specs.Entries.{entry_of, one_entry}
use Rattle.tn_read_head.specs.Listing.{limits_at, listed_of}
use Rattle.tn_read_head.specs.Naming.{name_at, new_name, firm_name, trade_name, ends_at, one_trade}
use Rattle.tn_read_firms.specs.Kinds.{firm_kind_of, firm_frame_of}
use Rattle.tn_read_firms.specs.Tables.{table_row_of, one_row, full_if_large, rows_of, table_of}
use Rattle.tn_read_firms.specs.OwnNumbers.{own_numbers}
use Rattle.tn_read_firms.specs.Laminars.{laminar_of, sets_at, checked_laminar}
use Rattle.tn_read_firms.specs.Firms.{exchange_of, tested_firm, firm_by, document_firm, one_firm}
use Rattle.tn_read_firms.proofs.FailureLemmas.{none}
use Rattle.tn_read_parts.specs.Lists.{one_on, named_prices, prices_of, contracts_at}
use Rattle.tn_read_parts.specs.Arranged.{on_of, trades_on_of, arrangement_of}
use Rattle.tn_read_parts.specs.Signed.{over_at, outcome_of}
use Rattle.tn_read_claims.specs.Claimed.{claim_of, blocks_of, kind_of as claim_kind, named_claim}
use Rattle.tn_read_claims.specs.Members.{claimed_contracts, one_offer}
use Rattle.tn_file.specs.declared.command.Command.{Command}
use Rattle.tn_file.specs.declared.command.Command.TheVariants.{Check, Judge, Replay, Solve, Support, Test}
use Rattle.tn_file.specs.Document.{DocumentData, ExtraData, nothing, arrangement, on_alone, outcome, claim, is_tested, extra_of, content_of, document_of, reading_of}
use Rattle.tn_file.specs.Json.{json_of}
use Rattle.tn_case_laws.proofs.Trees
use Rattle.tn_case_laws.proofs.Deal.{seller_table, buyer_table, seller, buyer, deal_firms, deal_trades, asks_3, asks_5, buyer_meets, meets_3, meets_5, meets_none}
use Rattle.tn_case_laws.proofs.Replayed.{blocks_claim}
use Rattle.tn_case_laws.proofs.Solved.{idle_table, idle, idle_firms, no_ends, idle_meets_7, idle_meets_none}
use Rattle.tn_case_laws.proofs.Tested.{both_firms, both_trades, dealer_firms, dealer_trades, tied_firms, tied_trades}

-- ---- the steps of a reading

pub reading_by : (command : Command) (bytes : List ℕ) (top : Data) (listed : Listed) (items : Items) (firms : List Firm)
    (extra : ExtraData) → json_of bytes ≡ Some top → listed_of top ≡ Ok (listed, items)
    → each (one_firm (is_tested command top) listed) [] items ≡ Ok firms → extra_of command listed top ≡ Ok extra
    → reading_of command bytes ≡ Ok (record { names = listed.names; firms = firms; ends = listed.ends; extra = extra })
unfolding reading_of document_of content_of
reading_by command bytes top listed items firms extra a b c d = rw (a, b, c, d) refl

-- a table that meets exchange passes the test
passes : (trades : List Ends) (f : ℕ) (table : TableRows) → NoneFails (firm_of_table table)
    → tested_firm true trades f table ≡ Ok (firm_of_table table)
unfolding tested_firm exchange_of
passes trades f table holds = rw (none table holds) refl

-- where a firm is read as such a table, it is the table's firm
pub table_read : (listed : Listed) (firms : List Firm) (value : Data) (table : TableRows)
    → firm_kind_of (length firms) value ≡ Ok Table → firm_frame_of listed (length firms) Table value ≡ Ok tt
    → firm_by true listed (length firms) Table value ≡ tested_firm true listed.ends (length firms) table
    → NoneFails (firm_of_table table) → one_firm true listed firms value ≡ Ok (firms ++ firm_of_table table ∷ [])
unfolding one_firm document_firm
table_read listed firms value table a b c holds = rw (a, b, c, passes listed.ends (length firms) table holds) refl

pub two_read : (step : List Firm → Data → Result (List Firm) Fault) (d e : Data) (some all : List Firm)
    → step [] d ≡ Ok some → step some e ≡ Ok all → each step [] (item d (item e no_items)) ≡ Ok all
unfolding each
two_read step d e some all a b = rw (a, b) refl

-- ---- the deal

abbrev pub deal_names : NameLists
deal_names = record { firms = codes "S" ∷ codes "B" ∷ []; trades = codes "a" ∷ [] }

abbrev pub deal_listed : Listed
deal_listed = record { limits = limits_with 64; names = deal_names; ends = deal_trades }

abbrev pub deal_items : List Data → Items
deal_items rows = items_of (Trees.deal_firms_data rows)

abbrev seller_data : List Data → Data
seller_data rows = Trees.table Trees.name_S rows

abbrev buyer_data : Data
buyer_data = Trees.table Trees.name_B (Trees.row (Trees.name_a ∷ []) (Trees.whole 5) ∷ [])

buyer_read : (row : Option ℤ) → one_firm true deal_listed (seller row ∷ []) buyer_data ≡ Ok (deal_firms row)
unfolding firm_by firm_kind_of firm_frame_of object_of allows sides_of table_of full_if_large rows_of each one_row table_row_of two_at
    bundle_at own_reference new_own own_position trade_at number_in has toggle size size_below
buyer_read row =
    table_read deal_listed (seller row ∷ []) buyer_data buyer_table refl refl refl
    (none_fails_from_exchange buyer buyer_meets)

firms_3 : each (one_firm true deal_listed) [] (deal_items (Trees.asks (negsuc 2))) ≡ Ok (deal_firms asks_3)
unfolding firm_by firm_kind_of firm_frame_of object_of allows sides_of table_of full_if_large rows_of each one_row table_row_of two_at
    bundle_at own_reference new_own own_position trade_at number_in has toggle size size_below
firms_3 = two_read (one_firm true deal_listed) (seller_data (Trees.asks (negsuc 2))) buyer_data (seller asks_3 ∷ [])
    (deal_firms asks_3)
    (table_read deal_listed [] (seller_data (Trees.asks (negsuc 2))) (seller_table asks_3) refl refl refl
    (none_fails_from_exchange (seller asks_3) meets_3)) (buyer_read asks_3)

firms_5 : each (one_firm true deal_listed) [] (deal_items (Trees.asks (negsuc 4))) ≡ Ok (deal_firms asks_5)
unfolding firm_by firm_kind_of firm_frame_of object_of allows sides_of table_of full_if_large rows_of each one_row table_row_of two_at
    bundle_at own_reference new_own own_position trade_at number_in has toggle size size_below
firms_5 = two_read (one_firm true deal_listed) (seller_data (Trees.asks (negsuc 4))) buyer_data (seller asks_5 ∷ [])
    (deal_firms asks_5)
    (table_read deal_listed [] (seller_data (Trees.asks (negsuc 4))) (seller_table asks_5) refl refl refl
    (none_fails_from_exchange (seller asks_5) meets_5)) (buyer_read asks_5)

firms_none : each (one_firm true deal_listed) [] (deal_items []) ≡ Ok (deal_firms None)
unfolding firm_by firm_kind_of firm_frame_of object_of allows sides_of table_of full_if_large rows_of each one_row table_row_of two_at
    bundle_at own_reference new_own own_position trade_at number_in has toggle size size_below
firms_none = two_read (one_firm true deal_listed) (seller_data []) buyer_data (seller None ∷ []) (deal_firms None)
    (table_read deal_listed [] (seller_data []) (seller_table None) refl refl refl
    (none_fails_from_exchange (seller None) meets_none)) (buyer_read None)

abbrev pub deal_document : Option ℤ → ExtraData → DocumentData
deal_document row extra = record { names = deal_names; firms = deal_firms row; ends = deal_trades; extra = extra }

abbrev pub extra_1 : ExtraData
extra_1 = arrangement (record { on = 1; prices = pos 4 ∷ [] })

listed_1 : listed_of Trees.top_1 ≡ Ok (deal_listed, deal_items (Trees.asks (negsuc 2)))
unfolding listed_of limits_at limits_of object_of allows few_at each firm_name new_name name_at trade_name ends_at
    firm_at one_trade sides_of
listed_1 = refl

extra_1_is : extra_of Check deal_listed Trees.top_1 ≡ Ok extra_1
unfolding extra_of arrangement_of on_of trades_on_of object_of allows each one_on new_trade trade_at prices_of
    named_prices one_entry entry_of two_at number_in has toggle size size_below
extra_1_is = refl

pub reading_1 : reading_of Check Trees.bytes_1 ≡ Ok (deal_document asks_3 extra_1)
reading_1 = reading_by Check Trees.bytes_1 Trees.top_1 deal_listed (deal_items (Trees.asks (negsuc 2)))
    (deal_firms asks_3) extra_1 Trees.tree_1 listed_1 firms_3 extra_1_is

abbrev pub extra_2 : ExtraData
extra_2 = arrangement (record { on = 1; prices = pos 6 ∷ [] })

listed_2 : listed_of Trees.top_2 ≡ Ok (deal_listed, deal_items (Trees.asks (negsuc 2)))
unfolding listed_of limits_at limits_of object_of allows few_at each firm_name new_name name_at trade_name ends_at
    firm_at one_trade sides_of
listed_2 = refl

extra_2_is : extra_of Check deal_listed Trees.top_2 ≡ Ok extra_2
unfolding extra_of arrangement_of on_of trades_on_of object_of allows each one_on new_trade trade_at prices_of
    named_prices one_entry entry_of two_at number_in has toggle size size_below
extra_2_is = refl

pub reading_2 : reading_of Check Trees.bytes_2 ≡ Ok (deal_document asks_3 extra_2)
reading_2 = reading_by Check Trees.bytes_2 Trees.top_2 deal_listed (deal_items (Trees.asks (negsuc 2)))
    (deal_firms asks_3) extra_2 Trees.tree_2 listed_2 firms_3 extra_2_is

abbrev pub extra_7 : ExtraData
extra_7 = on_alone 1

listed_7 : listed_of Trees.top_7 ≡ Ok (deal_listed, deal_items [])
unfolding listed_of limits_at limits_of object_of allows few_at each firm_name new_name name_at trade_name ends_at
    firm_at one_trade sides_of
listed_7 = refl

extra_7_is : extra_of Support deal_listed Trees.top_7 ≡ Ok extra_7
unfolding extra_of arrangement_of on_of trades_on_of object_of allows each one_on new_trade trade_at prices_of
    named_prices one_entry entry_of two_at number_in has toggle size size_below
extra_7_is = refl

pub reading_7 : reading_of Support Trees.bytes_7 ≡ Ok (deal_document None extra_7)
reading_7 = reading_by Support Trees.bytes_7 Trees.top_7 deal_listed (deal_items []) (deal_firms None) extra_7 Trees.tree_7
    listed_7 firms_none extra_7_is

abbrev pub extra_8 : ExtraData
extra_8 = outcome (record { over = pos 1; contracts = [] })

listed_8 : listed_of Trees.top_8 ≡ Ok (deal_listed, deal_items (Trees.asks (negsuc 4)))
unfolding listed_of limits_at limits_of object_of allows few_at each firm_name new_name name_at trade_name ends_at
    firm_at one_trade sides_of
listed_8 = refl

extra_8_is : extra_of Judge deal_listed Trees.top_8 ≡ Ok extra_8
unfolding extra_of outcome_of over_at contracts_at object_of allows each new_trade trade_at named_prices one_entry
    entry_of two_at number_in has toggle size size_below
extra_8_is = refl

pub reading_8 : reading_of Judge Trees.bytes_8 ≡ Ok (deal_document asks_5 extra_8)
reading_8 = reading_by Judge Trees.bytes_8 Trees.top_8 deal_listed (deal_items (Trees.asks (negsuc 4)))
    (deal_firms asks_5) extra_8 Trees.tree_8 listed_8 firms_5 extra_8_is

abbrev pub extra_9 : ExtraData
extra_9 = outcome (record { over = pos 1; contracts = record { trade = 0; price = pos 2 } ∷ [] })

listed_9 : listed_of Trees.top_9 ≡ Ok (deal_listed, deal_items (Trees.asks (negsuc 2)))
unfolding listed_of limits_at limits_of object_of allows few_at each firm_name new_name name_at trade_name ends_at
    firm_at one_trade sides_of
listed_9 = refl

extra_9_is : extra_of Judge deal_listed Trees.top_9 ≡ Ok extra_9
unfolding extra_of outcome_of over_at contracts_at object_of allows each new_trade trade_at named_prices one_entry
    entry_of two_at number_in has toggle size size_below
extra_9_is = refl

pub reading_9 : reading_of Judge Trees.bytes_9 ≡ Ok (deal_document asks_3 extra_9)
reading_9 = reading_by Judge Trees.bytes_9 Trees.top_9 deal_listed (deal_items (Trees.asks (negsuc 2)))
    (deal_firms asks_3) extra_9 Trees.tree_9 listed_9 firms_3 extra_9_is

abbrev pub extra_10 : ExtraData
extra_10 = outcome (record { over = pos 2; contracts = record { trade = 0; price = pos 9 } ∷ [] })

listed_10 : listed_of Trees.top_10 ≡ Ok (deal_listed, deal_items (Trees.asks (negsuc 2)))
unfolding listed_of limits_at limits_of object_of allows few_at each firm_name new_name name_at trade_name ends_at
    firm_at one_trade sides_of
listed_10 = refl

extra_10_is : extra_of Judge deal_listed Trees.top_10 ≡ Ok extra_10
unfolding extra_of outcome_of over_at contracts_at object_of allows each new_trade trade_at named_prices one_entry
    entry_of two_at number_in has toggle size size_below
extra_10_is = refl

pub reading_10 : reading_of Judge Trees.bytes_10 ≡ Ok (deal_document asks_3 extra_10)
reading_10 =
    reading_by Judge Trees.bytes_10 Trees.top_10 deal_listed (deal_items (Trees.asks (negsuc 2))) (deal_firms asks_3)
    extra_10 Trees.tree_10 listed_10 firms_3 extra_10_is

abbrev pub extra_11 : ExtraData
extra_11 = on_alone 0

listed_11 : listed_of Trees.top_11 ≡ Ok (deal_listed, deal_items (Trees.asks (negsuc 2)))
unfolding listed_of limits_at limits_of object_of allows few_at each firm_name new_name name_at trade_name ends_at
    firm_at one_trade sides_of
listed_11 = refl

extra_11_is : extra_of Support deal_listed Trees.top_11 ≡ Ok extra_11
unfolding extra_of arrangement_of on_of trades_on_of object_of allows each one_on new_trade trade_at prices_of
    named_prices one_entry entry_of two_at number_in has toggle size size_below
extra_11_is = refl

pub reading_11 : reading_of Support Trees.bytes_11 ≡ Ok (deal_document asks_3 extra_11)
reading_11 =
    reading_by Support Trees.bytes_11 Trees.top_11 deal_listed (deal_items (Trees.asks (negsuc 2))) (deal_firms asks_3)
    extra_11 Trees.tree_11 listed_11 firms_3 extra_11_is

abbrev pub extra_12 : ExtraData
extra_12 = claim blocks_claim

listed_12 : listed_of Trees.top_12 ≡ Ok (deal_listed, deal_items (Trees.asks (negsuc 2)))
unfolding listed_of limits_at limits_of object_of allows few_at each firm_name new_name name_at trade_name ends_at
    firm_at one_trade sides_of
listed_12 = refl

extra_12_is : extra_of Replay deal_listed Trees.top_12 ≡ Ok extra_12
unfolding extra_of claim_of named_claim claim_kind blocks_of claimed_contracts one_offer outcome_of over_at contracts_at object_of
    allows allows_in_claim each new_trade trade_at named_prices one_entry entry_of two_at number_in has toggle size
    size_below
extra_12_is = refl

pub reading_12 : reading_of Replay Trees.bytes_12 ≡ Ok (deal_document asks_3 extra_12)
unfolding named_claim claim_kind
reading_12 =
    reading_by Replay Trees.bytes_12 Trees.top_12 deal_listed (deal_items (Trees.asks (negsuc 2))) (deal_firms asks_3)
    extra_12 Trees.tree_12 listed_12 firms_3 extra_12_is

-- ---- no trades

abbrev pub idle_listed : Listed
idle_listed = record {
  limits = limits_with 64;
  names =
      record { firms = codes "S" ∷ codes "B" ∷ []; trades = [] };
  ends = no_ends;
}

abbrev idle_data : Data
idle_data = Trees.table Trees.name_S (Trees.row [] (Trees.whole 7) ∷ [])

abbrev idle_other : Data
idle_other = Trees.table Trees.name_B []

abbrev pub idle_document : DocumentData
idle_document = record { names = idle_listed.names; firms = idle_firms; ends = no_ends; extra = nothing }

listed_3 : listed_of Trees.top_3 ≡ Ok (idle_listed, item idle_data (item idle_other no_items))
unfolding listed_of limits_at limits_of object_of allows few_at each firm_name new_name name_at trade_name ends_at
    firm_at one_trade sides_of
listed_3 = refl

firms_idle : each (one_firm true idle_listed) [] (item idle_data (item idle_other no_items)) ≡ Ok idle_firms
unfolding firm_by firm_kind_of firm_frame_of object_of allows sides_of table_of full_if_large rows_of each one_row table_row_of two_at
    bundle_at own_reference new_own own_position trade_at number_in has toggle size size_below
firms_idle = two_read (one_firm true idle_listed) idle_data idle_other (idle (Some (pos 7)) ∷ []) idle_firms
    (table_read idle_listed [] idle_data (idle_table (Some (pos 7))) refl refl refl
    (none_fails_from_exchange (idle (Some (pos 7))) idle_meets_7))
    (table_read idle_listed (idle (Some (pos 7)) ∷ []) idle_other (idle_table None) refl refl refl
    (none_fails_from_exchange (idle None) idle_meets_none))

extra_3_is : extra_of Solve idle_listed Trees.top_3 ≡ Ok nothing
unfolding extra_of
extra_3_is = refl

pub reading_3 : reading_of Solve Trees.bytes_3 ≡ Ok idle_document
reading_3 = reading_by Solve Trees.bytes_3 Trees.top_3 idle_listed (item idle_data (item idle_other no_items))
    idle_firms nothing Trees.tree_3 listed_3 firms_idle extra_3_is

-- ---- networks that are read raw

abbrev pub listed_at_4 : Listed
listed_at_4 = record {
  limits = limits_with 64;
  names =
      record { firms = codes "S" ∷ codes "B" ∷ []; trades = codes "a" ∷ codes "b" ∷ [] };
  ends = both_trades;
}

abbrev pub document_4 : DocumentData
document_4 = record { names = listed_at_4.names; firms = both_firms; ends = both_trades; extra = nothing }

listed_4 : listed_of Trees.top_4 ≡ Ok (listed_at_4, items_of Trees.firms_4)
unfolding listed_of limits_at limits_of few_at firm_name new_name name_at trade_name ends_at firm_at one_trade one_firm
    document_firm firm_by tested_firm firm_kind_of firm_frame_of object_of allows sides_of table_of full_if_large rows_of each one_row
    table_row_of laminar_of own_numbers sets_at checked_laminar one_entry entry_of two_at bundle_at own_reference new_own
    own_position trade_at number_in has toggle size size_below
listed_4 = refl

firms_4_are : each (one_firm false listed_at_4) [] (items_of Trees.firms_4) ≡ Ok both_firms
unfolding listed_of limits_at limits_of few_at firm_name new_name name_at trade_name ends_at firm_at one_trade one_firm
    document_firm firm_by tested_firm firm_kind_of firm_frame_of object_of allows sides_of table_of full_if_large rows_of each one_row
    table_row_of laminar_of own_numbers sets_at checked_laminar one_entry entry_of two_at bundle_at own_reference new_own
    own_position trade_at number_in has toggle size size_below
firms_4_are = refl

extra_4_is : extra_of Test listed_at_4 Trees.top_4 ≡ Ok nothing
unfolding extra_of
extra_4_is = refl

pub reading_4 : reading_of Test Trees.bytes_4 ≡ Ok document_4
reading_4 = reading_by Test Trees.bytes_4 Trees.top_4 listed_at_4 (items_of Trees.firms_4) both_firms nothing
    Trees.tree_4 listed_4 firms_4_are extra_4_is

abbrev pub listed_at_5 : Listed
listed_at_5 = record {
  limits = limits_with 64;
  names =
      record { firms = codes "S" ∷ codes "M" ∷ codes "B" ∷ []; trades = codes "a" ∷ codes "b" ∷ [] };
  ends =
      dealer_trades;
}

abbrev pub document_5 : DocumentData
document_5 = record { names = listed_at_5.names; firms = dealer_firms; ends = dealer_trades; extra = nothing }

listed_5 : listed_of Trees.top_5 ≡ Ok (listed_at_5, items_of Trees.firms_5)
unfolding listed_of limits_at limits_of few_at firm_name new_name name_at trade_name ends_at firm_at one_trade one_firm
    document_firm firm_by tested_firm firm_kind_of firm_frame_of object_of allows sides_of table_of full_if_large rows_of each one_row
    table_row_of laminar_of own_numbers sets_at checked_laminar one_entry entry_of two_at bundle_at own_reference new_own
    own_position trade_at number_in has toggle size size_below
listed_5 = refl

firms_5_are : each (one_firm false listed_at_5) [] (items_of Trees.firms_5) ≡ Ok dealer_firms
unfolding listed_of limits_at limits_of few_at firm_name new_name name_at trade_name ends_at firm_at one_trade one_firm
    document_firm firm_by tested_firm firm_kind_of firm_frame_of object_of allows sides_of table_of full_if_large rows_of each one_row
    table_row_of laminar_of own_numbers sets_at checked_laminar one_entry entry_of two_at bundle_at own_reference new_own
    own_position trade_at number_in has toggle size size_below
firms_5_are = refl

extra_5_is : extra_of Test listed_at_5 Trees.top_5 ≡ Ok nothing
unfolding extra_of
extra_5_is = refl

pub reading_5 : reading_of Test Trees.bytes_5 ≡ Ok document_5
reading_5 = reading_by Test Trees.bytes_5 Trees.top_5 listed_at_5 (items_of Trees.firms_5) dealer_firms nothing
    Trees.tree_5 listed_5 firms_5_are extra_5_is

abbrev pub listed_at_6 : Listed
listed_at_6 = record {
  limits = limits_with 64;
  names =
      record {
        firms = codes "S" ∷ codes "M" ∷ codes "B" ∷ [];
        trades =
            codes "a1" ∷ codes "a2" ∷ codes "b1" ∷ codes "b2" ∷ [];
      };
  ends = tied_trades;
}

abbrev pub document_6 : DocumentData
document_6 = record { names = listed_at_6.names; firms = tied_firms; ends = tied_trades; extra = nothing }

listed_6 : listed_of Trees.top_6 ≡ Ok (listed_at_6, items_of Trees.firms_6)
unfolding listed_of limits_at limits_of few_at firm_name new_name name_at trade_name ends_at firm_at one_trade one_firm
    document_firm firm_by tested_firm firm_kind_of firm_frame_of object_of allows sides_of table_of full_if_large rows_of each one_row
    table_row_of laminar_of own_numbers sets_at checked_laminar one_entry entry_of two_at bundle_at own_reference new_own
    own_position trade_at number_in has toggle size size_below
listed_6 = refl

firms_6_are : each (one_firm false listed_at_6) [] (items_of Trees.firms_6) ≡ Ok tied_firms
unfolding listed_of limits_at limits_of few_at firm_name new_name name_at trade_name ends_at firm_at one_trade one_firm
    document_firm firm_by tested_firm firm_kind_of firm_frame_of object_of allows sides_of table_of full_if_large rows_of each one_row
    table_row_of laminar_of own_numbers sets_at checked_laminar one_entry entry_of two_at bundle_at own_reference new_own
    own_position trade_at number_in has toggle size size_below
firms_6_are = refl

extra_6_is : extra_of Test listed_at_6 Trees.top_6 ≡ Ok nothing
unfolding extra_of
extra_6_is = refl

pub reading_6 : reading_of Test Trees.bytes_6 ≡ Ok document_6
reading_6 = reading_by Test Trees.bytes_6 Trees.top_6 listed_at_6 (items_of Trees.firms_6) tied_firms nothing
    Trees.tree_6 listed_6 firms_6_are extra_6_is
