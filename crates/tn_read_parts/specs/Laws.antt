-- What an arrangement, an outcome and edits that are read say, in words that know nothing of the order of reading.
use Rattle.std.specs.Prelude.{◌≡◌, ℕ, ℤ, true, List, length, slice_get, codes, ◌↔◌, Contains, Some, Ok, option_and_then}
use Rattle.serde_json.specs.Data.{Data, array, Items, no_items, item}
use Rattle.serde_json.specs.Events.{items_len}
use Rattle.serde_json.specs.Find.{get, get_item, as_array, as_i64, as_number, as_str}
use Rattle.tn_base.specs.Sets.{has}
use Rattle.tn_model.specs.declared.contract.Contract.{Contract}
use Rattle.tn_model.specs.declared.contract.Outcome.{Outcome}
use Rattle.tn_said.specs.declared.session.Edit.{Edit}
use Rattle.tn_said.specs.declared.session.Edit.TheVariants.{Admit, AdmitAll, Bar, BarAll, Join, Leave}
use Rattle.tn_names.specs.Names.{NameLists, number_of}
use Rattle.tn_read_references.specs.Ordered.{Listed}
use Rattle.tn_read_parts.specs.Arranged.{Arranged, arrangement_of}
use Rattle.tn_read_parts.specs.Edited.{all_trades, edits_of}
use Rattle.tn_read_parts.specs.Signed.{outcome_of}

-- a text that is one of the names, the one with this number
pub record IsNameOf (names : List (List ℕ)) (reference : Data) (k : ℕ) : Type 0 where
  pub name : List ℕ
  pub is : as_str reference ≡ Some name
  pub known : number_of names name ≡ Some k

-- a list of a trade's name and a whole number: the contract on this trade at this numerator
pub record SaysContract (trades : List (List ℕ)) (entry : Data) (contract : Contract) : Type 0 where
  pub reference : Data
  pub numerator : Data
  pub is : entry ≡ array (item reference (item numerator no_items))
  pub trade : IsNameOf trades reference contract.trade
  pub price : option_and_then as_i64 (as_number numerator) ≡ Some contract.price

-- one of the entries says the contract
pub record IsSaid (trades : List (List ℕ)) (entries : Items) (contract : Contract) : Type 0 where
  pub at : ℕ
  pub entry : Data
  pub there : get_item at entries ≡ Some entry
  pub says : SaysContract trades entry contract

-- one of the references names the trade
pub record IsNamedIn (trades : List (List ℕ)) (references : Items) (t : ℕ) : Type 0 where
  pub at : ℕ
  pub reference : Data
  pub there : get_item at references ≡ Some reference
  pub names : IsNameOf trades reference t

-- a document's arrangement has exactly the trades on that its references name, and exactly the prices that its entries
-- say
pub record SaysArrangement (trades : List (List ℕ)) (top : Data) (arranged : Arranged) : Type 0 where
  pub part : Data
  pub part_is : get (codes "arrangement") top ≡ Some part
  pub references : Items
  pub references_are : option_and_then as_array (get (codes "on") part) ≡ Some references
  pub on : (t : ℕ) → (has arranged.on t ≡ true) ↔ IsNamedIn trades references t
  pub entries : Items
  pub entries_are : option_and_then as_array (get (codes "prices") part) ≡ Some entries
  pub prices : (t : ℕ) (price : ℤ) → (slice_get arranged.prices t ≡ Some price)
      ↔ IsSaid trades entries (record { trade = t; price = price })

abbrev pub ArrangementsHaveTheirEntries : Type 0
ArrangementsHaveTheirEntries = (listed : Listed) (top : Data) (arranged : Arranged)
    → arrangement_of listed top ≡ Ok arranged → SaysArrangement listed.names.trades top arranged

-- a document's outcome has the denominator that it says, and exactly the contracts that its entries say
pub record SaysOutcome (trades : List (List ℕ)) (top : Data) (outcome : Outcome) : Type 0 where
  pub part : Data
  pub part_is : get (codes "outcome") top ≡ Some part
  pub over : option_and_then as_i64 (option_and_then as_number (get (codes "over") part)) ≡ Some outcome.over
  pub entries : Items
  pub entries_are : option_and_then as_array (get (codes "contracts") part) ≡ Some entries
  pub contracts : (contract : Contract) → Contains outcome.contracts contract ↔ IsSaid trades entries contract

abbrev pub OutcomesHaveTheirEntries : Type 0
OutcomesHaveTheirEntries = (listed : Listed) (top : Data) (outcome : Outcome) → outcome_of listed top ≡ Ok outcome
    → SaysOutcome listed.names.trades top outcome

-- the text of what an edit does
abbrev pub edit_text : Edit → List ℕ
edit_text (Admit t) = codes "admit"
edit_text AdmitAll = codes "admit"
edit_text (Bar t) = codes "bar"
edit_text BarAll = codes "bar"
edit_text (Leave f) = codes "leave"
edit_text (Join f) = codes "join"

-- a text that is the name of the edit's trade, or of its firm, or the text for all trades
abbrev pub NamesEdited : NameLists → Data → Edit → Type 0
NamesEdited names reference (Admit t) = IsNameOf names.trades reference t
NamesEdited names reference AdmitAll = as_str reference ≡ Some all_trades
NamesEdited names reference (Bar t) = IsNameOf names.trades reference t
NamesEdited names reference BarAll = as_str reference ≡ Some all_trades
NamesEdited names reference (Leave f) = IsNameOf names.firms reference f
NamesEdited names reference (Join f) = IsNameOf names.firms reference f

-- a list of the text of what an edit does and of what it names
pub record SaysEdit (names : NameLists) (entry : Data) (edit : Edit) : Type 0 where
  pub word : Data
  pub reference : Data
  pub is : entry ≡ array (item word (item reference no_items))
  pub text : as_str word ≡ Some (edit_text edit)
  pub named : NamesEdited names reference edit

-- the entry with this index says the edit
pub record IsEditAt (names : NameLists) (entries : Items) (k : ℕ) (edit : Edit) : Type 0 where
  pub entry : Data
  pub there : get_item k entries ≡ Some entry
  pub says : SaysEdit names entry edit

-- a document's edits are as many as its entries, and each is what the entry with its index says
pub record SaysEdits (names : NameLists) (top : Data) (edits : List Edit) : Type 0 where
  pub entries : Items
  pub entries_are : option_and_then as_array (get (codes "edits") top) ≡ Some entries
  pub count : length edits ≡ items_len entries
  pub each : (k : ℕ) (edit : Edit) → slice_get edits k ≡ Some edit → IsEditAt names entries k edit

abbrev pub EditsHaveTheirEntries : Type 0
EditsHaveTheirEntries = (listed : Listed) (top : Data) (edits : List Edit) → edits_of listed top ≡ Ok edits
    → SaysEdits listed.names top edits
