-- One trade after another is admitted, and one cycle for each restores an equilibrium.
use Rattle.std.specs.Prelude.{◌≡◌, ℕ, ◌<◌, ℤ, pos, ◌+ℤ◌, ◌-ℤ◌, ◌≤ℤ◌, List, ◌∷◌, length, slice_get, true, false, Option, Some}
use Rattle.tn_base.specs.Sets.{has, toggle}
use Rattle.tn_base.specs.Firm.{Firm, MayAbstain}
use Rattle.tn_base.specs.Walks.{arcs_among, is_admitted, is_looked_at, CyclesCostAtLeast, IsLeastCycle, KeepsArcs, KeepsArcsEntering}
use Rattle.tn_model.specs.declared.ends.Ends.{Ends}
use Rattle.tn_model.specs.Network.{IsNetwork}
use Rattle.tn_market.specs.Equilibrium.{IsEquilibrium}
use Rattle.tn_market.specs.Admitted.{admitted}
use Rattle.tn_market.specs.Graph.{exchange_arc}
use Rattle.tn_network_laws.specs.Laws.{MeetExchange}
use Rattle.tn_network_laws.specs.Along.{along}
use Rattle.tn_network_laws.specs.Kept.{IsKept}

-- the exchange graph over the admitted trades, one more trade and null
abbrev pub arcs_with : List Firm → List Ends → ℕ → ℕ → ℕ → ℕ → ℕ → Option ℤ
arcs_with firms trades allowed on t = arcs_among (is_looked_at (length trades) t allowed) (exchange_arc firms trades on)

pub record OneCycleForEachTrade : Type 0 where
  -- before the first round no trade is admitted, and none is on
  pub start : (firms : List Firm) (trades : List Ends) → IsNetwork firms trades
      → ((f : ℕ) (firm : Firm) → slice_get firms f ≡ Some firm → MayAbstain firm)
      → IsKept firms trades 0 0
  -- any numbers of the nodes keep the arcs then, of which there is none
  pub start_labels : (firms : List Firm) (trades : List Ends) → IsNetwork firms trades → (label : ℕ → ℤ)
      → KeepsArcs (arcs_among (is_admitted (length trades) 0) (exchange_arc firms trades 0)) label
  -- where no cycle through the next trade is negative, it is admitted and nothing else changes
  pub still : (firms : List Firm) (trades : List Ends) (allowed on t : ℕ) → IsNetwork firms trades → MeetExchange firms
      → IsKept firms trades allowed on
      → t < length trades → has allowed t ≡ false → CyclesCostAtLeast (arcs_with firms trades allowed on t) t (pos 0)
      → IsKept firms trades (toggle allowed t) on
  -- and numbers of the nodes that keep the arcs with it keep those among the admitted trades and null then
  pub kept : (firms : List Firm) (trades : List Ends) (allowed on t : ℕ) → has allowed t ≡ false → (label : ℕ → ℤ)
      → KeepsArcs (arcs_with firms trades allowed on t) label
      → KeepsArcs (arcs_among (is_admitted (length trades) (toggle allowed t)) (exchange_arc firms trades on)) label
  -- otherwise it is admitted, and the set is toggled along a cycle of least cost and then of least arcs
  pub turned : (firms : List Firm) (trades : List Ends) (allowed on t : ℕ) → IsNetwork firms trades → MeetExchange firms
      → IsKept firms trades allowed on → t < length trades → has allowed t ≡ false
      → (vs : List ℕ) (cost : ℤ) → IsLeastCycle (arcs_with firms trades allowed on t) t vs cost → cost ≤ℤ pos 0
      → IsKept firms trades (toggle allowed t) (along (length trades) on (t ∷ vs))
  -- and numbers that keep the arcs with it before, where what enters it finds its number and the cost of the cycle,
  -- keep those among the admitted trades and null after it
  pub turned_labels : (firms : List Firm) (trades : List Ends) (allowed on t : ℕ) → IsNetwork firms trades
      → MeetExchange firms → IsKept firms trades allowed on
      → t < length trades → has allowed t ≡ false → (vs : List ℕ) (cost : ℤ) (label : ℕ → ℤ)
      → IsLeastCycle (arcs_with firms trades allowed on t) t vs cost → cost ≤ℤ pos 0
      → KeepsArcsEntering (arcs_with firms trades allowed on t) t (label t +ℤ cost) label
      → KeepsArcs (arcs_among (is_admitted (length trades) (toggle allowed t))
      (exchange_arc firms trades (along (length trades) on (t ∷ vs)))) label
  -- in the end numbers that keep the arcs among the admitted trades and null are prices, less null's, of an equilibrium
  pub ends : (firms : List Firm) (trades : List Ends) (allowed on : ℕ) → IsNetwork firms trades → MeetExchange firms
      → IsKept firms trades allowed on
      → (label : ℕ → ℤ)
      → KeepsArcs (arcs_among (is_admitted (length trades) allowed) (exchange_arc firms trades on)) label
      → IsEquilibrium (admitted trades allowed firms) trades (pos 1) on (λ t. label t -ℤ label (length trades))
  -- which is one of the market itself where every trade is admitted
  pub all : (firms : List Firm) (trades : List Ends) (allowed on : ℕ) → IsNetwork firms trades → MeetExchange firms
      → ((t : ℕ) → t < length trades → has allowed t ≡ true) → (prices : ℕ → ℤ)
      → IsEquilibrium (admitted trades allowed firms) trades (pos 1) on prices
      → IsEquilibrium firms trades (pos 1) on prices
