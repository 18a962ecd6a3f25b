-- The fixed graph of an outcome: the exchange graph at its signed trades over its denominator, where arcs between null
-- and each signed trade fix the trade's price.
use Rattle.std.specs.Prelude.{ℕ, ℤ, pos, neg_ℤ, ◌*ℤ◌, ◌-ℤ◌, ◌≤ℤ◌, ◌↔◌, List, length, ◌==◌, int_lt, if◌then◌else◌, Option, Some, None, option_map}
use Rattle.tn_base.specs.Firm.{Firm}
use Rattle.tn_base.specs.Walks.{HasNoNegativeCycle, KeepsArcs}
use Rattle.tn_model.specs.declared.ends.Ends.{Ends}
use Rattle.tn_model.specs.declared.contract.Contract.{Contract}
use Rattle.tn_model.specs.Network.{IsNetwork}
use Rattle.tn_model.specs.Choices.{IsFeasible, IsIndividuallyRational}
use Rattle.tn_market.specs.Graph.{exchange_arc, ArePossible}
use Rattle.tn_market.specs.Signed.{is_signed, signed, signed_price, Completes}
use Rattle.tn_network_laws.specs.Laws.{MeetExchange, price_of_node}

-- the lesser of two costs, where none is above all others
abbrev pub lesser : Option ℤ → Option ℤ → Option ℤ
lesser None second = second
lesser (Some a) None = Some a
lesser (Some a) (Some b) = if int_lt b a then Some b else Some a

-- arcs that fix prices of nodes: from null to the node at its price, and back at minus the price
abbrev pub fixing_arc : (ℕ → Option ℤ) → ℕ → ℕ → ℕ → Option ℤ
fixing_arc price null u v = if u == null then price v else (if v == null then option_map neg_ℤ (price u) else None)

-- a graph whose costs count so many times, with prices of nodes fixed
abbrev pub fixed_at : ℤ → (ℕ → Option ℤ) → ℕ → (ℕ → ℕ → Option ℤ) → ℕ → ℕ → Option ℤ
fixed_at scale price null arc u v = lesser (option_map (λ cost. scale *ℤ cost) (arc u v)) (fixing_arc price null u v)

-- the fixed graph of an outcome
abbrev pub fixed_arc : List Firm → List Ends → ℤ → List Contract → ℕ → ℕ → Option ℤ
fixed_arc firms trades over contracts =
    fixed_at over (λ t. if is_signed contracts t then Some (signed_price contracts t)
    else None) (length trades) (exchange_arc firms trades (signed (length trades) contracts))

-- contracts over a denominator of at least 1 that firms which meet exchange can sign together, and whose bundles are
-- possible
pub record IsPossibleOutcome (firms : List Firm) (trades : List Ends) (over : ℤ) (contracts : List Contract) : Type
    0 where
  pub network : IsNetwork firms trades
  pub meet : MeetExchange firms
  pub from_one : pos 1 ≤ℤ over
  pub feasible : IsFeasible trades contracts
  pub possible : ArePossible firms trades (signed (length trades) contracts)

pub record CompletionIsFixedLabels : Type 0 where
  -- some prices complete a possible outcome exactly where no closed walk of the fixed graph is negative
  pub some : (firms : List Firm) (trades : List Ends) (over : ℤ) (contracts : List Contract)
      → IsPossibleOutcome firms trades over contracts
      → ((prices : ℕ → ℤ) × Completes firms trades over contracts prices)
      ↔ HasNoNegativeCycle (fixed_arc firms trades over contracts)
  -- numbers that keep its arcs are such prices, once null's is taken off
  pub from_labels : (firms : List Firm) (trades : List Ends) (over : ℤ) (contracts : List Contract) (label : ℕ → ℤ)
      → IsPossibleOutcome firms trades over contracts
      → KeepsArcs (fixed_arc firms trades over contracts) label
      → Completes firms trades over contracts (λ t. label t -ℤ label (length trades))
  -- and such prices, with 0 for null, keep its arcs
  pub to_labels : (firms : List Firm) (trades : List Ends) (over : ℤ) (contracts : List Contract) (prices : ℕ → ℤ)
      → IsPossibleOutcome firms trades over contracts
      → Completes firms trades over contracts prices
      → KeepsArcs (fixed_arc firms trades over contracts) (price_of_node (length trades) prices)

-- an outcome that prices complete is individually rational
abbrev pub CompletedOutcomesAreRational : Type 0
CompletedOutcomesAreRational =
    (firms : List Firm) (trades : List Ends) (over : ℤ) (contracts : List Contract) (prices : ℕ → ℤ)
    → IsNetwork firms trades
    → IsFeasible trades contracts → Completes firms trades over contracts prices
    → IsIndividuallyRational firms trades over contracts
