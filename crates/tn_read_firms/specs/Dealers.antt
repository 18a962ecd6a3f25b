-- Dealers: pairs of a purchase and a sale, each with what it costs.
use Rattle.std.specs.Prelude.{ℕ, ◌++◌, [], ◌∷◌, ◌==◌, ◌&&◌, not, Bool, List, length, codes, Some, Result, Ok}
use Rattle.std.specs.List.{list_any}
use Rattle.serde_json.specs.Data.{Data}
use Rattle.serde_json.specs.Find.{get}
use Rattle.tn_base.specs.Firm.{Firm}
use Rattle.tn_said.specs.declared.fault.FaultKind.TheVariants.{SamePair}
use Rattle.tn_base.specs.declared.side.Side.TheVariants.{Buy, Sell}
use Rattle.tn_dealer.specs.declared.pair.Pair.{Pair}
use Rattle.tn_dealer.specs.Pairs.{dealer_firm}
use Rattle.tn_said.specs.declared.place.PlaceStep.{PlaceStep}
use Rattle.tn_said.specs.declared.place.PlaceStep.TheVariants.{Index, Key}
use Rattle.tn_said.specs.declared.place.Word.TheVariants.{Firms, Pairs}
use Rattle.tn_said.specs.declared.said.Fault.{Fault}
use Rattle.tn_read_shapes.specs.Reading.{◌>>=◌, each, holds}
use Rattle.tn_read_shapes.specs.Shapes.{optional_list_at, number_at, three_at}
use Rattle.tn_read_references.specs.Ordered.{Listed, sides_of}
use Rattle.tn_read_references.specs.References.{own_position}

abbrev pub pairs_place : ℕ → List PlaceStep
pairs_place f = Key Firms ∷ Index f ∷ Key Pairs ∷ []

abbrev pub pair_place : ℕ → ℕ → List PlaceStep
pair_place f k = Key Firms ∷ Index f ∷ Key Pairs ∷ Index k ∷ []

-- the pair of an entry: an own purchase, an own sale, and what it costs
unfoldable pub pair_of : Listed → ℕ → ℕ → Data → Result Pair Fault
pair_of listed f k entry = do
  three ← three_at (pair_place f k) entry
  buy ← own_position listed f (Some Buy) (pair_place f k ++ Index 0 ∷ []) three.0
  sell ← own_position listed f (Some Sell) (pair_place f k ++ Index 1 ∷ []) three.1
  cost ← number_at listed.limits.amount (pair_place f k ++ Index 2 ∷ []) three.2
  Ok (record { buy = buy; sell = sell; cost = cost })

-- whether a pair has the purchase and the sale of another
abbrev pub is_same_pair : Pair → Pair → Bool
is_same_pair pair earlier = (earlier.buy == pair.buy) && (earlier.sell == pair.sell)

-- one more pair, whose purchase and sale no earlier one has; its index is the count of those before it
unfoldable pub one_pair : Listed → ℕ → List Pair → Data → Result (List Pair) Fault
one_pair listed f pairs entry = do
  next ← pair_of listed f (length pairs) entry
  new ← holds SamePair (pair_place f (length pairs)) (not (list_any (is_same_pair next) pairs))
  Ok (pairs ++ next ∷ [])

-- the dealer f
unfoldable pub dealer_of : Listed → ℕ → Data → Result Firm Fault
dealer_of listed f firm = do
  entries ← optional_list_at (pairs_place f) (get (codes "pairs") firm)
  pairs ← each (one_pair listed f) [] entries
  Ok (dealer_firm (sides_of listed.ends f) pairs)
