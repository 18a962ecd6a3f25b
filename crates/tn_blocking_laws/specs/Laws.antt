-- The laws, each as one statement over all outcomes.
use Rattle.std.specs.Prelude.{◌≡◌, ℕ, ◌*◌, ◌<◌, ℤ, pos, ◌*ℤ◌, ◌≤ℤ◌, ◌<ℤ◌, List, length, true}
use Rattle.tn_base.specs.Sets.{has, size}
use Rattle.tn_base.specs.Firm.{Firm}
use Rattle.tn_base.specs.Walks.{arcs_among, is_admitted, IsCycle, KeepsArcs}
use Rattle.tn_model.specs.declared.ends.Ends.{Ends}
use Rattle.tn_model.specs.declared.contract.Contract.{Contract}
use Rattle.tn_model.specs.Network.{IsNetwork}
use Rattle.tn_model.specs.Choices.{Blocks}
use Rattle.tn_market.specs.Reduced.{reduced_arc}
use Rattle.tn_outcome_laws.specs.Rational.{IsRationalOutcome}
use Rattle.tn_blocking_laws.specs.Taxed.{IsTaxedEquilibrium, AreOffers}

-- where no trade of a taxed equilibrium is on, and the scale is more than twice the number of allowed trades, no cycle
-- of the reduced graph on these is negative
abbrev pub NoneOnIsNoCycle : Type 0
NoneOnIsNoCycle =
    (firms : List Firm) (trades : List Ends) (over : ℤ) (contracts : List Contract) (scale : ℤ) (allowed : ℕ)
    (prices : ℕ → ℤ) → IsNetwork firms trades
    → IsTaxedEquilibrium firms trades over contracts scale allowed 0 prices → pos (2 * size allowed) <ℤ scale
    → (u : ℕ) (vs : List ℕ) (cost : ℤ)
    → IsCycle (arcs_among (is_admitted (length trades) allowed) (reduced_arc firms trades over contracts)) u vs cost
    → pos 0 ≤ℤ cost

-- where one is on, no numbers keep the reduced graph on those that are on: it has a negative cycle
abbrev pub SomeOnIsCycle : Type 0
SomeOnIsCycle =
    (firms : List Firm) (trades : List Ends) (over : ℤ) (contracts : List Contract) (scale : ℤ) (allowed on : ℕ)
    (prices : ℕ → ℤ)
    → IsRationalOutcome firms trades over contracts → pos 0 ≤ℤ scale
    → IsTaxedEquilibrium firms trades over contracts scale allowed on prices
    → (t : ℕ) → t < length trades → has on t ≡ true
    → (label : ℕ → ℤ)
    → KeepsArcs (arcs_among (is_admitted (length trades) on) (reduced_arc firms trades over contracts)) label → ⊥

-- the trades of a taxed equilibrium that are on, at its prices over the product of denominator and scale, block the
-- outcome
abbrev pub AllOnBlock : Type 0
AllOnBlock =
    (firms : List Firm) (trades : List Ends) (over : ℤ) (contracts : List Contract) (scale : ℤ) (allowed on : ℕ)
    (prices : ℕ → ℤ)
    → IsRationalOutcome firms trades over contracts → pos 0 ≤ℤ scale
    → IsTaxedEquilibrium firms trades over contracts scale allowed on prices
    → (offers : List Contract) → AreOffers trades contracts on prices offers
    → Blocks firms trades over contracts (over *ℤ scale) offers
