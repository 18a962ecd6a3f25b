-- The laws, each as one statement over all networks.
use Rattle.std.specs.Prelude.{◌≡◌, ℕ, ℤ, pos, ◌-ℤ◌, ◌≤ℤ◌, ◌<ℤ◌, ◌↔◌, List, length, nat_lt, if◌then◌else◌, Some, slice_get}
use Rattle.tn_base.specs.Firm.{Firm, HasOwnBundles}
use Rattle.tn_base.specs.Exchange.{MeetsExchange}
use Rattle.tn_base.specs.Walks.{walk_cost, KeepsArcs}
use Rattle.tn_model.specs.declared.ends.Ends.{Ends}
use Rattle.tn_model.specs.Network.{IsNetwork}
use Rattle.tn_market.specs.Equilibrium.{IsEquilibrium, IsEfficient}
use Rattle.tn_market.specs.Graph.{exchange_arc, ArePossible}
use Rattle.tn_model.specs.Choices.{contracts_of, IsStable}

-- each firm has bundles of own trades alone, and meets exchange
abbrev pub MeetExchange : List Firm → Type 0
MeetExchange firms = (f : ℕ) (firm : Firm) → slice_get firms f ≡ Some firm → HasOwnBundles firm × MeetsExchange firm

-- the trades of an equilibrium, at any scale of at least 1, have the greatest surplus
abbrev pub EquilibriaAreEfficient : Type 0
EquilibriaAreEfficient = (firms : List Firm) (trades : List Ends) (scale : ℤ) (on : ℕ) (prices : ℕ → ℤ)
    → IsNetwork firms trades
    → pos 1 ≤ℤ scale → IsEquilibrium firms trades scale on prices → IsEfficient firms trades on

-- the number of a node: the price of a trade, and 0 for the null node
abbrev pub price_of_node : ℕ → (ℕ → ℤ) → ℕ → ℤ
price_of_node count prices u = if nat_lt u count then prices u else pos 0

-- prices support a set of trades exactly where they keep every arc of the exchange graph
abbrev pub SupportsKeepArcs : Type 0
SupportsKeepArcs = (firms : List Firm) (trades : List Ends) (on : ℕ) (prices : ℕ → ℤ) → IsNetwork firms trades
    → MeetExchange firms
    → ArePossible firms trades on
    → IsEquilibrium firms trades (pos 1) on prices
    ↔ KeepsArcs (exchange_arc firms trades on) (price_of_node (length trades) prices)

-- numbers of the nodes that keep every arc are supporting prices, once the null node's is taken off
abbrev pub LabelsAreSupports : Type 0
LabelsAreSupports = (firms : List Firm) (trades : List Ends) (on : ℕ) (label : ℕ → ℤ) → IsNetwork firms trades
    → MeetExchange firms
    → ArePossible firms trades on → KeepsArcs (exchange_arc firms trades on) label
    → IsEquilibrium firms trades (pos 1) on (λ t. label t -ℤ label (length trades))

-- where a closed walk of the exchange graph is negative, no prices support the set, at any scale of at least 1
abbrev pub NegativeCyclesForbidSupports : Type 0
NegativeCyclesForbidSupports = (firms : List Firm) (trades : List Ends) (on u : ℕ) (vs : List ℕ) (cost : ℤ)
    → IsNetwork firms trades
    → walk_cost (exchange_arc firms trades on) u vs u ≡ Some cost → cost <ℤ pos 0
    → (scale : ℤ) (prices : ℕ → ℤ) → pos 1 ≤ℤ scale → IsEquilibrium firms trades scale on prices → ⊥

-- no contracts over any denominator block the outcome of an equilibrium
abbrev pub EquilibriaAreStable : Type 0
EquilibriaAreStable = (firms : List Firm) (trades : List Ends) (scale : ℤ) (on : ℕ) (prices : ℕ → ℤ)
    → IsNetwork firms trades
    → pos 1 ≤ℤ scale → IsEquilibrium firms trades scale on prices
    → IsStable firms trades scale (contracts_of on prices (length trades))
