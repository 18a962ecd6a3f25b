-- The object of some fields beside their keys.
use Rattle.std.specs.Prelude.{ℕ, List, All, IfSome, FitsSigned, fold}
use Rattle.std.specs.Borrow.{Bor}
use Rattle.std.specs.Int.{w64}
use Rattle.serde_json.specs.Data.{Data, number, string, unsigned, Members, no_members, put}
use Rattle.tn_names.specs.Names.{NameLists}
use Rattle.tn_answer.specs.declared.fields.Field.{Field}
use Rattle.tn_answer.specs.declared.fields.Field.TheVariants.{Word, Number, Natural, Bound, Firm, Trade, TradeOrNull, Trades, Nodes, Counts, UnitBundle, Steps, Prices, Contracts, Numbers, Place}
use Rattle.tn_answer.specs.AnswerText.{bundle_data, contracts_data, counts_data, nodes_data, place_data, prices_data, steps_data}
use Rattle.tn_answer.specs.Values.{bound_data, integer_data, name_data, names_data, numbers_data, option_data}

-- a field as a value
abbrev pub field_data : NameLists → Field → Data
field_data names (Word text) = string text.now
field_data names (Number z) = integer_data z
field_data names (Natural n) = number (unsigned n)
field_data names (Bound bound) = bound_data bound
field_data names (Firm firm) = name_data names.firms firm
field_data names (Trade trade) = name_data names.trades trade
field_data names (TradeOrNull trade) = option_data names.trades trade
field_data names (Trades trades) = names_data names.trades trades.now
field_data names (Nodes nodes) = nodes_data names.trades nodes.now
field_data names (Counts counts) = counts_data names.trades counts.now
field_data names (UnitBundle bundle) = bundle_data names.trades bundle.now
field_data names (Steps steps) = steps_data names.trades steps.now
field_data names (Prices prices) = prices_data names.trades prices.now
field_data names (Contracts contracts) = contracts_data names.trades contracts.now
field_data names (Numbers numbers) = numbers_data numbers.now
field_data names (Place place) = place_data names.trades place.now

-- its signed numbers fit 64 bits
abbrev pub IsShortField : Field → Type 0
IsShortField (Word text) = Unit {0}
IsShortField (Number z) = FitsSigned w64 z
IsShortField (Natural n) = Unit {0}
IsShortField (Bound bound) = IfSome bound (FitsSigned w64)
IsShortField (Firm firm) = Unit {0}
IsShortField (Trade trade) = Unit {0}
IsShortField (TradeOrNull trade) = Unit {0}
IsShortField (Trades trades) = Unit {0}
IsShortField (Nodes nodes) = Unit {0}
IsShortField (Counts counts) = Unit {0}
IsShortField (UnitBundle bundle) = Unit {0}
IsShortField (Steps steps) = Unit {0}
IsShortField (Prices prices) = All (FitsSigned w64) prices.now
IsShortField (Contracts contracts) = All (λ contract. FitsSigned w64 contract.price) contracts.now
IsShortField (Numbers numbers) = Unit {0}
IsShortField (Place place) = Unit {0}

-- the members that fields beside their keys make, each put to those before it
abbrev pub members_of : NameLists → List (Bor (List ℕ) × Field) → Members
members_of names fields = fold (λ members field. put field.0.now (field_data names field.1) members) no_members fields
