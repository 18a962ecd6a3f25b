-- A trade is barred from the market again, and one cycle restores an equilibrium of the others.
use Rattle.std.specs.Prelude.{◌≡◌, ℕ, ◌<◌, ℤ, ◌+ℤ◌, List, ◌∷◌, length, slice_get, true, false, Some, None}
use Rattle.tn_base.specs.Sets.{has, toggle}
use Rattle.tn_base.specs.Firm.{Firm, MayAbstain}
use Rattle.tn_base.specs.Walks.{walk_cost, arcs_among, is_admitted, Avoids, IsLeastCycle, KeepsArcs, KeepsArcsEntering}
use Rattle.tn_model.specs.declared.ends.Ends.{Ends}
use Rattle.tn_model.specs.Network.{IsNetwork}
use Rattle.tn_market.specs.Graph.{exchange_arc}
use Rattle.tn_network_laws.specs.Laws.{MeetExchange}
use Rattle.tn_network_laws.specs.Along.{along}
use Rattle.tn_network_laws.specs.Kept.{IsKept}
use Rattle.tn_network_laws.specs.Rounds.{arcs_with}

-- of a market where one trade beside the others is admitted
pub record OneCycleBarsATrade : Type 0 where
  -- where the trade is off, it is barred and nothing else changes
  pub still : (firms : List Firm) (trades : List Ends) (allowed on t : ℕ) → IsKept firms trades (toggle allowed t) on
      → has allowed t ≡ false → has on t ≡ false → IsKept firms trades allowed on
  -- and numbers that keep the arcs with it keep those without it
  pub off_labels : (firms : List Firm) (trades : List Ends) (allowed on t : ℕ) → has allowed t ≡ false
      → (label : ℕ → ℤ)
      → KeepsArcs (arcs_among (is_admitted (length trades) (toggle allowed t)) (exchange_arc firms trades on)) label
      → KeepsArcs (arcs_among (is_admitted (length trades) allowed) (exchange_arc firms trades on)) label
  -- where it is on, and the firms may do without any trade, some cycle leads through it
  pub passed : (firms : List Firm) (trades : List Ends) (allowed on t : ℕ) → IsNetwork firms trades → MeetExchange firms
      → ((f : ℕ) (firm : Firm) → slice_get firms f ≡ Some firm → MayAbstain firm)
      → IsKept firms trades (toggle allowed t) on
      → t < length trades → has allowed t ≡ false → has on t ≡ true
      → ((vs : List ℕ) → Avoids t vs → walk_cost (arcs_with firms trades allowed on t) t vs t ≡ None) → ⊥
  -- it is barred, and the set is toggled along a cycle of least cost and then of least arcs, whatever that costs
  pub turned : (firms : List Firm) (trades : List Ends) (allowed on t : ℕ) → IsNetwork firms trades → MeetExchange firms
      → IsKept firms trades (toggle allowed t) on
      → t < length trades → has allowed t ≡ false → has on t ≡ true → (vs : List ℕ) (cost : ℤ)
      → IsLeastCycle (arcs_with firms trades allowed on t) t vs cost
      → IsKept firms trades allowed (along (length trades) on (t ∷ vs))
  -- and numbers that keep the arcs with it before, where what enters it finds its number and the cost of the cycle,
  -- keep those without it after it
  pub turned_labels : (firms : List Firm) (trades : List Ends) (allowed on t : ℕ) → IsNetwork firms trades
      → MeetExchange firms → IsKept firms trades (toggle allowed t) on
      → t < length trades → has allowed t ≡ false → has on t ≡ true → (vs : List ℕ) (cost : ℤ) (label : ℕ → ℤ)
      → IsLeastCycle (arcs_with firms trades allowed on t) t vs cost
      → KeepsArcsEntering (arcs_with firms trades allowed on t) t (label t +ℤ cost) label
      → KeepsArcs (arcs_among (is_admitted (length trades) allowed)
      (exchange_arc firms trades (along (length trades) on (t ∷ vs)))) label
