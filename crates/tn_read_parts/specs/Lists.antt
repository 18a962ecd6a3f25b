-- Lists of an extra part, each at a place of two steps.
use Rattle.std.specs.Prelude.{ℕ, zero, suc, ◌+◌, ◌++◌, [], ◌∷◌, ℤ, pos, List, length, replicate, if◌then◌else◌, Option, Some, None, Result, Ok, Err}
use Rattle.serde_json.specs.Data.{Data, Items}
use Rattle.tn_base.specs.Sets.{has, toggle, size}
use Rattle.tn_said.specs.declared.fault.FaultKind.TheVariants.{PriceMissing}
use Rattle.tn_model.specs.Prices.{price_at}
use Rattle.tn_model.specs.Choices.{contracts_of}
use Rattle.tn_model.specs.declared.contract.Contract.{Contract}
use Rattle.tn_said.specs.declared.place.PlaceStep.{PlaceStep}
use Rattle.tn_said.specs.declared.place.PlaceStep.TheVariants.{Index, Trade}
use Rattle.tn_said.specs.declared.said.Fault.{Fault}
use Rattle.tn_read_shapes.specs.Reading.{◌>>=◌, fault, each}
use Rattle.tn_read_references.specs.References.{new_trade}
use Rattle.tn_read_references.specs.Entries.{Numbered, entry_of, one_entry}
use Rattle.tn_read_parts.specs.declared.lists.ListAt.{ListAt}

abbrev pub list_place : ListAt → List PlaceStep
list_place at = at.part ∷ at.member ∷ []

-- the set with one more trade; the index of a reference is the count of those before it
unfoldable pub one_on : List (List ℕ) → List PlaceStep → ℕ → Data → Result ℕ Fault
one_on trades place on value = do
  t ← new_trade trades (place ++ Index (size on) ∷ []) on value
  Ok (toggle on t)

-- the trade and the price of an entry, and the prices with one more entry, each price at most the limit
abbrev pub price_of : List (List ℕ) → List PlaceStep → ℕ → ℕ → Data → Result (ℕ × ℤ) Fault
price_of trades place limit named entry = entry_of (new_trade trades) place limit named entry

abbrev pub one_price : List (List ℕ) → List PlaceStep → ℕ → Numbered → Data → Result Numbered Fault
one_price trades place limit priced entry = one_entry (new_trade trades) place limit priced entry

-- the first of so many numbers from t on that isn't a member
abbrev pub first_without : ℕ → ℕ → ℕ → Option ℕ
first_without named t zero = None
first_without named t (suc n) = if has named t then first_without named (t + 1) n else Some t

abbrev pub unless_missing : List PlaceStep → Option ℕ → Result (Unit {0}) Fault
unless_missing place None = Ok tt
unless_missing place (Some t) = Err (fault PriceMissing (place ++ Trade t ∷ []))

-- the trades that the entries of a list name, and the prices by trade, 0 without an entry
unfoldable pub named_prices : List (List ℕ) → List PlaceStep → ℕ → Items → Result Numbered Fault
named_prices trades place limit entries =
    each (one_price trades place limit) (record { named = 0; numbers = replicate (length trades) (pos 0) }) entries

-- the prices of all trades
unfoldable pub prices_of : List (List ℕ) → List PlaceStep → ℕ → Items → Result (List ℤ) Fault
prices_of trades place limit entries = do
  priced ← named_prices trades place limit entries
  complete ← unless_missing place (first_without priced.named 0 (length trades))
  Ok priced.numbers

-- the contracts of a list, ascending by trade whatever the order of the entries
unfoldable pub contracts_at : List (List ℕ) → List PlaceStep → ℕ → Items → Result (List Contract) Fault
contracts_at trades place limit entries = do
  priced ← named_prices trades place limit entries
  Ok (contracts_of priced.named (price_at priced.numbers) (length trades))
