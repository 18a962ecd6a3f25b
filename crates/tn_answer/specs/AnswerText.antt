-- What is written for an answer: rows where its layout has them; else compact JSON, the members of an object in byte
-- order, and one line end; or a page.
use Rattle.std.specs.Prelude.{ℕ, ℤ, pos, negsuc, Bool, List, [], ◌∷◌, ◌++◌, map, flat_map, ◌==◌, if◌then◌else◌, Option, None, Some, codes}
use Rattle.serde_json.specs.Data.{Data, null, number, string, array, object, unsigned, no_items, item, Members, no_members, member}
use Rattle.serde_json.specs.View.{items_of}
use Rattle.serde_json.specs.Written.{compact_text}
use Rattle.tn_said.specs.declared.fault.FaultKind.{FaultKind}
use Rattle.tn_said.specs.Faults.{fault_number}
use Rattle.tn_said.specs.declared.place.PlaceStep.{PlaceStep}
use Rattle.tn_said.specs.declared.place.PlaceStep.TheVariants.{Key, Index, Trade}
use Rattle.tn_model.specs.declared.contract.Contract.{Contract}
use Rattle.tn_said.specs.declared.holding.Holding.{Holding}
use Rattle.tn_model.specs.declared.range.Range.{Range}
use Rattle.tn_said.specs.declared.session.State.{State}
use Rattle.tn_said.specs.declared.session.UnitState.{UnitState}
use Rattle.tn_said.specs.declared.said.Fault.{Fault}
use Rattle.tn_said.specs.declared.said.Shown.{Shown}
use Rattle.tn_said.specs.declared.units.TradeUnits.{TradeUnits}
use Rattle.tn_said.specs.declared.units.UnitStep.{UnitStep}
use Rattle.tn_said.specs.declared.units.UnitHolding.{UnitHolding}
use Rattle.tn_said.specs.declared.units.UnitRange.{UnitRange}
use Rattle.tn_said.specs.declared.said.Said.{Said}
use Rattle.tn_said.specs.declared.said.Said.TheVariants.{Usage, ReadFault, NoMemory, Fault as FaultIs, Equilibrium, Better, BetterByCounts, Impossible, Accepted, ExchangeFails, Supported, SupportedByCounts, Cycle, CycleByCounts, Solved, SolvedByCounts, Drill, Ranges, RangesByCounts, Session, SessionByCounts, Drops, DropsByCounts, Completes, CompletesByCounts, Blocks, Valid, Invalid, Cases, Page as PageIs, Firms, FirmsByCounts}
use Rattle.tn_names.specs.Names.{NameLists}
use Rattle.tn_answer.specs.Pages.{lines_text, page_lines}
use Rattle.tn_answer.specs.ReasonText.{reason_members}
use Rattle.tn_answer.specs.Rows.{each_from, deal_head, deal_row, firm_head, firm_row, on_flags, on_units, price_head, price_row, range_head, range_row, rows_text, table, unit_firm_row, unit_range_row}
use Rattle.tn_answer.specs.Values.{name_data, names_data, option_data, integer_data, bound_data, numbers_data}
use Rattle.tn_said.specs.Words.{word_text}
use Rattle.tn_answer.specs.Words.{kind_name}
use Rattle.tn_answer.specs.declared.layout.Layout.{Layout}
use Rattle.tn_answer.specs.declared.layout.Layout.TheVariants.{Rows, WideRows}

-- a price beside the name of its trade, and those of all trades from k on
abbrev pub price_data : List (List ℕ) → ℕ → ℤ → Data
price_data names k price = array (item (name_data names k) (item (integer_data price) no_items))

abbrev pub prices_from : List (List ℕ) → ℕ → List ℤ → List Data
prices_from names k prices = each_from (price_data names) k prices

abbrev pub prices_data : List (List ℕ) → List ℤ → Data
prices_data names prices = array (items_of (prices_from names 0 prices))

-- the units of a trade beside its name, where it has any, and those of all trades from k on
abbrev pub count_data : List (List ℕ) → ℕ → ℕ → Data
count_data names k units = array (item (name_data names k) (item (number (unsigned units)) no_items))

abbrev pub count_items : List (List ℕ) → ℕ → ℕ → List Data
count_items names k units = if units == 0 then [] else count_data names k units ∷ []

abbrev pub counts_from : List (List ℕ) → ℕ → List ℕ → List Data
counts_from names k counts = flat_map (λ ds. ds) (each_from (count_items names) k counts)

abbrev pub counts_data : List (List ℕ) → List ℕ → Data
counts_data names counts = array (items_of (counts_from names 0 counts))

-- a bundle of trades with units: how many beside the name of each of its trades
abbrev pub entry_data : List (List ℕ) → TradeUnits → Data
entry_data names entry = count_data names entry.trade entry.units

abbrev pub bundle_data : List (List ℕ) → List TradeUnits → Data
bundle_data names bundle = array (items_of (map (entry_data names) bundle))

-- contracts: each a price beside the name of its trade
abbrev pub contract_data : List (List ℕ) → Contract → Data
contract_data names contract = price_data names contract.trade contract.price

abbrev pub contracts_data : List (List ℕ) → List Contract → Data
contracts_data names contracts = array (items_of (map (contract_data names) contracts))

-- nodes of an exchange graph: the names of trades, and null for the null node
abbrev pub nodes_data : List (List ℕ) → List (Option ℕ) → Data
nodes_data names nodes = array (items_of (map (option_data names) nodes))

-- 1 for one more unit, -1 for one fewer
abbrev pub direction : Bool → ℤ
direction more = if more then pos 1 else negsuc 0

-- nodes of an exchange graph of trades with units: which way beside the name of a trade, and null for the null node
abbrev pub unit_step_data : List (List ℕ) → Option UnitStep → Data
unit_step_data names None = null
unit_step_data names (Some step) = price_data names step.trade (direction step.more)

abbrev pub steps_data : List (List ℕ) → List (Option UnitStep) → Data
steps_data names steps = array (items_of (map (unit_step_data names) steps))

-- the bounds of a trade's price, the paths to them being given, with its name
abbrev pub bounds_data : List (List ℕ) → ℕ → Option ℤ → Data → Option ℤ → Data → Data
bounds_data names k low low_path high high_path =
    object (member (codes "high") (bound_data high) (member (codes "high_path") high_path
    (member (codes "low") (bound_data low) (member (codes "low_path") low_path
    (member (codes "trade") (name_data names k) no_members)))))

-- the prices that a trade may have, and those of all trades
abbrev pub range_data : List (List ℕ) → ℕ → Range → Data
range_data names k range =
    bounds_data names k range.low (nodes_data names range.low_path) range.high (nodes_data names range.high_path)

abbrev pub ranges_data : List (List ℕ) → List Range → Data
ranges_data names ranges = array (items_of (each_from (range_data names) 0 ranges))

-- the same of trades with units
abbrev pub unit_range_data : List (List ℕ) → ℕ → UnitRange → Data
unit_range_data names k range =
    bounds_data names k range.low (steps_data names range.low_path) range.high (steps_data names range.high_path)

abbrev pub unit_ranges_data : List (List ℕ) → List UnitRange → Data
unit_ranges_data names ranges = array (items_of (each_from (unit_range_data names) 0 ranges))

-- an equilibrium of the admitted trades, and those after each of some changes
abbrev pub state_data : List (List ℕ) → State → Data
state_data names state =
    object (member (codes "on") (names_data names state.on)
    (member (codes "prices") (contracts_data names state.prices)
    (member (codes "surplus") (integer_data state.surplus) no_members)))

abbrev pub states_data : List (List ℕ) → List State → Data
states_data names states = array (items_of (map (state_data names) states))

-- the same of trades with units
abbrev pub unit_state_data : List (List ℕ) → UnitState → Data
unit_state_data names state =
    object (member (codes "on") (bundle_data names state.on)
    (member (codes "prices") (contracts_data names state.prices)
    (member (codes "surplus") (integer_data state.surplus) no_members)))

abbrev pub unit_states_data : List (List ℕ) → List UnitState → Data
unit_states_data names states = array (items_of (map (unit_state_data names) states))

-- what a firm has, its own bundle and a best one being given, with its name
abbrev pub held_data : List (List ℕ) → ℕ → Data → Data → Option ℤ → Option ℤ → ℤ → Option ℤ → Data
held_data firms k has best worth utility best_utility gain =
    object (member (codes "best") best (member (codes "best_utility") (integer_data best_utility)
    (member (codes "firm") (name_data firms k) (member (codes "gain") (bound_data gain) (member (codes "has") has
    (member (codes "utility") (bound_data utility) (member (codes "worth") (bound_data worth) no_members)))))))

-- what a firm has, and what each firm has
abbrev pub holding_data : NameLists → ℕ → Holding → Data
holding_data names k holding =
    held_data names.firms k (names_data names.trades holding.has) (names_data names.trades holding.best) holding.worth
    holding.utility holding.best_utility holding.gain

abbrev pub holdings_data : NameLists → List Holding → Data
holdings_data names holdings = array (items_of (each_from (holding_data names) 0 holdings))

-- the same of trades with units
abbrev pub unit_holding_data : NameLists → ℕ → UnitHolding → Data
unit_holding_data names k holding =
    held_data names.firms k (bundle_data names.trades holding.has) (bundle_data names.trades holding.best) holding.worth
    holding.utility holding.best_utility holding.gain

abbrev pub unit_holdings_data : NameLists → List UnitHolding → Data
unit_holdings_data names holdings = array (items_of (each_from (unit_holding_data names) 0 holdings))

abbrev pub step_data : List (List ℕ) → PlaceStep → Data
step_data trades (Key word) = string (word_text word)
step_data trades (Index k) = number (unsigned k)
step_data trades (Trade t) = name_data trades t

abbrev pub place_data : List (List ℕ) → List PlaceStep → Data
place_data trades place = array (items_of (map (step_data trades) place))

-- the answer of a kind, with its further members
abbrev pub answer : List ℕ → Members → Data
answer kind members = object (member (codes "answer") (string kind) members)

-- the members of every fault at a place, with those that follow
abbrev pub fault_members : FaultKind → Data → Members → Members
fault_members kind place rest =
    member (codes "fault") (number (unsigned (fault_number kind)))
    (member (codes "name") (string (kind_name kind)) (member (codes "place") place rest))

-- a failing triple stands around them
abbrev pub fault_data : List (List ℕ) → Fault → Option Shown → Data
fault_data trades fault None =
    answer (codes "fault") (fault_members fault.kind (place_data trades fault.place) no_members)
fault_data trades fault (Some shown) =
    answer (codes "fault") (member (codes "at") (option_data trades shown.at)
    (fault_members fault.kind (place_data trades fault.place)
    (member (codes "x") (names_data trades shown.x) (member (codes "y") (names_data trades shown.y) no_members))))

-- the form of an answer without rows: one JSON value, or lines of text
pub data Form : Type 0 where
  json : Data → Form
  lines : List (List ℕ) → Form

abbrev pub answer_form : NameLists → Said → Form
answer_form names Usage = json (answer (codes "usage") no_members)
answer_form names ReadFault = json (answer (codes "read_fault") no_members)
answer_form names NoMemory = json (answer (codes "no_memory") no_members)
answer_form names (FaultIs fault) = json (fault_data names.trades fault fault.shown)
answer_form names (Equilibrium surplus) =
    json (answer (codes "equilibrium") (member (codes "surplus") (integer_data surplus) no_members))
answer_form names (Better firm bundle gain) =
    json (answer (codes "better") (member (codes "bundle") (names_data names.trades bundle)
    (member (codes "firm") (name_data names.firms firm) (member (codes "gain") (integer_data gain) no_members))))
answer_form names (BetterByCounts firm bundle gain) =
    json (answer (codes "better") (member (codes "bundle") (bundle_data names.trades bundle)
    (member (codes "firm") (name_data names.firms firm) (member (codes "gain") (integer_data gain) no_members))))
answer_form names (Impossible firm) =
    json (answer (codes "impossible") (member (codes "firm") (name_data names.firms firm) no_members))
answer_form names Accepted = json (answer (codes "accepted") no_members)
answer_form names (ExchangeFails firm x y at) =
    json (answer (codes "exchange_fails") (member (codes "at") (option_data names.trades at)
    (member (codes "firm") (name_data names.firms firm)
    (member (codes "x") (names_data names.trades x) (member (codes "y") (names_data names.trades y) no_members)))))
answer_form names (Supported on prices ends) =
    json (answer (codes "prices") (member (codes "prices") (prices_data names.trades prices) no_members))
answer_form names (SupportedByCounts counts prices ends) =
    json (answer (codes "prices") (member (codes "prices") (prices_data names.trades prices) no_members))
answer_form names (Cycle nodes cost) =
    json (answer (codes "cycle") (member (codes "cost") (integer_data cost)
    (member (codes "nodes") (nodes_data names.trades nodes) no_members)))
answer_form names (CycleByCounts nodes cost) =
    json (answer (codes "cycle") (member (codes "cost") (integer_data cost)
    (member (codes "nodes") (steps_data names.trades nodes) no_members)))
answer_form names (Solved on prices surplus ends) =
    json (answer (codes "solved") (member (codes "on") (names_data names.trades on)
    (member (codes "prices") (prices_data names.trades prices)
    (member (codes "surplus") (integer_data surplus) no_members))))
answer_form names (SolvedByCounts counts prices surplus ends) =
    json (answer (codes "solved") (member (codes "on") (counts_data names.trades counts)
    (member (codes "prices") (prices_data names.trades prices)
    (member (codes "surplus") (integer_data surplus) no_members))))
answer_form names (Drill size start firms surplus) =
    json (answer (codes "drill") (member (codes "firms") (number (unsigned firms))
    (member (codes "size") (number (unsigned size)) (member (codes "start") (number (unsigned start))
    (member (codes "surplus") (integer_data surplus) no_members)))))
answer_form names (Ranges on ranges ends) =
    json (answer (codes "ranges") (member (codes "on") (names_data names.trades on)
    (member (codes "ranges") (ranges_data names.trades ranges) no_members)))
answer_form names (RangesByCounts counts ranges ends) =
    json (answer (codes "ranges") (member (codes "on") (counts_data names.trades counts)
    (member (codes "ranges") (unit_ranges_data names.trades ranges) no_members)))
answer_form names (Session edits) =
    json (answer (codes "session") (member (codes "edits") (states_data names.trades edits) no_members))
answer_form names (SessionByCounts edits) =
    json (answer (codes "session") (member (codes "edits") (unit_states_data names.trades edits) no_members))
answer_form names (Drops firm keeps gain over) =
    json (answer (codes "drops") (member (codes "firm") (name_data names.firms firm)
    (member (codes "gain") (bound_data gain) (member (codes "keeps") (names_data names.trades keeps)
    (member (codes "over") (integer_data over) no_members)))))
answer_form names (DropsByCounts firm keeps gain over) =
    json (answer (codes "drops") (member (codes "firm") (name_data names.firms firm)
    (member (codes "gain") (bound_data gain) (member (codes "keeps") (bundle_data names.trades keeps)
    (member (codes "over") (integer_data over) no_members)))))
answer_form names (Completes prices over) =
    json (answer (codes "completes") (member (codes "over") (integer_data over)
    (member (codes "prices") (prices_data names.trades prices) no_members)))
answer_form names (CompletesByCounts prices over) =
    json (answer (codes "completes") (member (codes "over") (integer_data over)
    (member (codes "prices") (contracts_data names.trades prices) no_members)))
answer_form names (Blocks contracts over) =
    json (answer (codes "blocks") (member (codes "contracts") (contracts_data names.trades contracts)
    (member (codes "over") (integer_data over) no_members)))
answer_form names Valid = json (answer (codes "valid") no_members)
answer_form names (Invalid reason) = json (answer (codes "invalid") (reason_members names reason))
answer_form names (Cases count failed) =
    json (answer (codes "cases") (member (codes "count") (number (unsigned count))
    (member (codes "failed") (numbers_data failed) no_members)))
answer_form names (PageIs page) = lines (page_lines page)
answer_form names (Firms content firms surplus) =
    json (answer (codes "firms") (member (codes "content") (number (unsigned content))
    (member (codes "firms") (holdings_data names firms) (member (codes "surplus") (bound_data surplus) no_members))))
answer_form names (FirmsByCounts content firms surplus) =
    json (answer (codes "firms") (member (codes "content") (number (unsigned content))
    (member (codes "firms") (unit_holdings_data names firms)
    (member (codes "surplus") (bound_data surplus) no_members))))

-- the JSON value of a form, null where it is lines
abbrev pub data_in : Form → Data
data_in (json value) = value
data_in (lines texts) = null

abbrev pub answer_data : NameLists → Said → Data
answer_data names said = data_in (answer_form names said)

-- the table of an answer in a layout, none where the two have none
abbrev pub answer_table : NameLists → Said → Layout → Option (List (List (List ℕ)))
answer_table names (Supported on prices ends) Rows = Some (table deal_head (deal_row names (on_flags on) ends) prices)
answer_table names (SupportedByCounts counts prices ends) Rows =
    Some (table deal_head (deal_row names (on_units counts) ends) prices)
answer_table names (Solved on prices surplus ends) Rows = Some (table price_head (price_row names (on_flags on)) prices)
answer_table names (Solved on prices surplus ends) WideRows =
    Some (table deal_head (deal_row names (on_flags on) ends) prices)
answer_table names (SolvedByCounts counts prices surplus ends) Rows =
    Some (table price_head (price_row names (on_units counts)) prices)
answer_table names (SolvedByCounts counts prices surplus ends) WideRows =
    Some (table deal_head (deal_row names (on_units counts) ends) prices)
answer_table names (Ranges on ranges ends) Rows = Some (table range_head (range_row names (on_flags on) ends) ranges)
answer_table names (RangesByCounts counts ranges ends) Rows =
    Some (table range_head (unit_range_row names (on_units counts) ends) ranges)
answer_table names (Firms content firms surplus) Rows = Some (table firm_head (firm_row names) firms)
answer_table names (FirmsByCounts content firms surplus) Rows = Some (table firm_head (unit_firm_row names) firms)
answer_table names said layout = None

-- a form as text: a JSON value is one compact line
abbrev pub form_text : Form → List ℕ
form_text (json value) = compact_text value ++ 10 ∷ []
form_text (lines texts) = lines_text texts

-- a table as text, or what stands for it
abbrev pub text_of : Option (List (List (List ℕ))) → Form → List ℕ
text_of None form = form_text form
text_of (Some rows) form = rows_text rows

-- an answer in a layout as text
unfoldable pub answer_line : Layout → NameLists → Said → List ℕ
answer_line layout names said = text_of (answer_table names said layout) (answer_form names said)
