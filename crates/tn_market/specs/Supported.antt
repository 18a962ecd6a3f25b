-- What may be said of a set of trades for which prices are wanted.
use Rattle.std.specs.Prelude.{◌≡◌, ℕ, ◌<◌, ◌≤◌, ◌⊎◌, ℤ, pos, ◌<ℤ◌, List, ◌∷◌, length, map, slice_get, All, ◌==◌, if◌then◌else◌, Option, Some, None, IsSome}
use Rattle.tn_base.specs.Firm.{Firm}
use Rattle.tn_base.specs.Walks.{IsCycle}
use Rattle.tn_model.specs.declared.ends.Ends.{Ends}
use Rattle.tn_model.specs.Network.{part}
use Rattle.tn_model.specs.Prices.{price_at}
use Rattle.tn_market.specs.Equilibrium.{IsEquilibrium}
use Rattle.tn_market.specs.Graph.{exchange_arc, ArePossible}

-- the prices, one for each trade, support the set: with them it is an equilibrium at scale 1
pub record AreSupports (firms : List Firm) (trades : List Ends) (on : ℕ) (prices : List ℤ) : Type 0 where
  pub one_each : length prices ≡ length trades
  pub equilibrium : IsEquilibrium firms trades (pos 1) on (price_at prices)

-- firm f is the first whose bundle of the set is impossible
pub record IsFirstUnable (firms : List Firm) (trades : List Ends) (on f : ℕ) : Type 0 where
  pub before : (g : ℕ) (firm : Firm) → g < f → slice_get firms g ≡ Some firm
      → IsSome (firm.worth (part trades g firm.count on))
  pub firm : Firm
  pub is : slice_get firms f ≡ Some firm
  pub impossible : firm.worth (part trades f firm.count on) ≡ None

-- a node as it is said: the null node as none
abbrev pub said_node : ℕ → ℕ → Option ℕ
said_node null v = if v == null then None else Some v

-- each firm's bundle is possible, and the nodes are a cycle of the exchange graph of this negative cost, in which none
-- stands twice: it begins with null, or it lacks null and begins with its lowest trade
pub record IsNegativeCycle (firms : List Firm) (trades : List Ends) (on : ℕ) (nodes : List (Option ℕ)) (cost : ℤ) : Type
    0 where
  pub possible : ArePossible firms trades on
  pub first : ℕ
  pub rest : List ℕ
  pub nodes_are : nodes ≡ map (said_node (length trades)) (first ∷ rest)
  pub cycle : IsCycle (exchange_arc firms trades on) first rest cost
  pub negative : cost <ℤ pos 0
  pub begins : (first ≡ length trades) ⊎ All (λ v. (first ≤ v) × (v < length trades)) (first ∷ rest)
