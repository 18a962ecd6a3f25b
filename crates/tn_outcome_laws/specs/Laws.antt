-- The laws, each as one statement over all outcomes.
use Rattle.std.specs.Prelude.{◌≡◌, ℕ, ◌<◌, ◌≤◌, ℤ, pos, ◌-ℤ◌, ◌≤ℤ◌, ◌↔◌, false, List, length, if◌then◌else◌, Option, Some}
use Rattle.tn_base.specs.Sets.{meet}
use Rattle.tn_base.specs.Firm.{Firm, HasOwnBundles}
use Rattle.tn_base.specs.Walks.{arcs_among, is_admitted, HasNoNegativeCycle, KeepsArcs}
use Rattle.tn_model.specs.declared.ends.Ends.{Ends}
use Rattle.tn_model.specs.declared.contract.Contract.{Contract}
use Rattle.tn_model.specs.Network.{IsNetwork}
use Rattle.tn_market.specs.Best.{IsSubset}
use Rattle.tn_model.specs.Choices.{IsFeasible, IsIndividuallyRational, IsStable}
use Rattle.tn_market.specs.Equilibrium.{surplus_of}
use Rattle.tn_market.specs.Signed.{is_signed, signed_price, signed_bundle, HaveBestSigned, Completes}
use Rattle.tn_market.specs.Reduced.{reduced, reduced_firms, reduced_arc, IsReducedWorth}
use Rattle.tn_network_laws.specs.Laws.{price_of_node}
use Rattle.tn_outcome_laws.specs.Rational.{IsRationalOutcome}

-- an outcome is individually rational by lists of contracts exactly where it is so by bundles
abbrev pub RationalByBundles : Type 0
RationalByBundles = (firms : List Firm) (trades : List Ends) (over : ℤ) (contracts : List Contract)
    → IsNetwork firms trades → IsFeasible trades contracts
    → IsIndividuallyRational firms trades over contracts ↔ HaveBestSigned firms trades over contracts

-- a firm's reduced worth of unsigned trades is what the definition by bundles says
abbrev pub ReducedWorthsAreGreatest : Type 0
ReducedWorthsAreGreatest =
    (trades : List Ends) (over : ℤ) (contracts : List Contract) (f : ℕ) (firm : Firm) (x : ℕ) (worth : Option ℤ)
    → HasOwnBundles firm
    → meet x (signed_bundle trades contracts f firm) ≡ 0
    → ((reduced trades over contracts f firm).worth x ≡ worth) ↔ IsReducedWorth trades over contracts f firm x worth

-- a node of the market's graphs is null or a trade without a contract
pub record IsUnsignedNode (trades : List Ends) (contracts : List Contract) (u : ℕ) : Type 0 where
  pub within : u ≤ length trades
  pub unsigned : u < length trades → is_signed contracts u ≡ false

-- the arcs of reduced worths lead among unsigned trades and null
abbrev pub ReducedArcsAreUnsigned : Type 0
ReducedArcsAreUnsigned =
    (firms : List Firm) (trades : List Ends) (over : ℤ) (contracts : List Contract) (u v : ℕ) (cost : ℤ)
    → IsNetwork firms trades
    → reduced_arc firms trades over contracts u v ≡ Some cost → IsUnsignedNode trades contracts u
    × IsUnsignedNode trades contracts v

-- prices by numbers of the nodes: a signed trade has the price of its contract, and an unsigned one its number less
-- null's
abbrev pub completed : List Ends → List Contract → (ℕ → ℤ) → ℕ → ℤ
completed trades contracts label t = if is_signed contracts t then signed_price contracts t
    else label t -ℤ label (length trades)

pub record CompletionIsLabels : Type 0 where
  -- some prices complete an individually rational outcome exactly where no closed walk of the reduced graph is negative
  pub some : (firms : List Firm) (trades : List Ends) (over : ℤ) (contracts : List Contract)
      → IsRationalOutcome firms trades over contracts
      → ((prices : ℕ → ℤ) × Completes firms trades over contracts prices)
      ↔ HasNoNegativeCycle (reduced_arc firms trades over contracts)
  -- numbers that keep its arcs give such prices
  pub from_labels : (firms : List Firm) (trades : List Ends) (over : ℤ) (contracts : List Contract) (label : ℕ → ℤ)
      → IsRationalOutcome firms trades over contracts
      → KeepsArcs (reduced_arc firms trades over contracts) label
      → Completes firms trades over contracts (completed trades contracts label)
  -- and such prices, with 0 for null, keep its arcs
  pub to_labels : (firms : List Firm) (trades : List Ends) (over : ℤ) (contracts : List Contract) (prices : ℕ → ℤ)
      → IsRationalOutcome firms trades over contracts
      → Completes firms trades over contracts prices
      → KeepsArcs (reduced_arc firms trades over contracts) (price_of_node (length trades) prices)

-- an outcome that prices complete is stable
abbrev pub CompletedOutcomesAreStable : Type 0
CompletedOutcomesAreStable = (firms : List Firm) (trades : List Ends) (over : ℤ) (contracts : List Contract) (prices : ℕ
    → ℤ) → IsNetwork firms trades
    → pos 1 ≤ℤ over → IsFeasible trades contracts → Completes firms trades over contracts prices
    → IsStable firms trades over contracts

-- with no unsigned trade the firms have a sum of reduced worths, and no set of the allowed trades has more
pub record HasNoMore (firms : List Firm) (trades : List Ends) (over : ℤ) (contracts : List Contract)
    (allowed : ℕ) : Type 0 where
  pub least : ℤ
  pub is : surplus_of (reduced_firms trades over contracts firms) trades 0 ≡ Some least
  pub most : (on : ℕ) (other : ℤ) → IsSubset on allowed
      → surplus_of (reduced_firms trades over contracts firms) trades on ≡ Some other → other ≤ℤ least

abbrev pub NumbersLeaveNoMore : Type 0
NumbersLeaveNoMore =
    (firms : List Firm) (trades : List Ends) (over : ℤ) (contracts : List Contract) (allowed : ℕ) (label : ℕ → ℤ)
    → IsRationalOutcome firms trades over contracts
    → KeepsArcs (arcs_among (is_admitted (length trades) allowed) (reduced_arc firms trades over contracts)) label
    → HasNoMore firms trades over contracts allowed
