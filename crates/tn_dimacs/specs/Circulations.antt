-- Circulations, and what they cost.
use Rattle.std.specs.Prelude.{◌≡◌, ℕ, ◌≤◌, ℤ, pos, ◌+ℤ◌, ◌-ℤ◌, ◌*ℤ◌, ◌≤ℤ◌, List, [], ◌∷◌, length, slice_get, ◌==◌, if◌then◌else◌, Some}
use Rattle.tn_dimacs.specs.declared.problem.Arc.{Arc}

-- what the flow over an arc brings to a node
abbrev pub brings : Arc → ℕ → ℕ → ℤ
brings arc flow v = (if v == arc.head then pos flow else pos 0) -ℤ (if v == arc.tail then pos flow else pos 0)

-- what flows into a node, less what flows out
abbrev pub inflow : List Arc → List ℕ → ℕ → ℤ
inflow [] flows v = pos 0
inflow (arc ∷ arcs) [] v = pos 0
inflow (arc ∷ arcs) (flow ∷ flows) v = brings arc flow v +ℤ inflow arcs flows v

-- what the flows cost
abbrev pub cost_of : List Arc → List ℕ → ℤ
cost_of [] flows = pos 0
cost_of (arc ∷ arcs) [] = pos 0
cost_of (arc ∷ arcs) (flow ∷ flows) = arc.cost *ℤ pos flow +ℤ cost_of arcs flows

-- no flow is above the capacity of its arc
abbrev pub FitCapacities : List Arc → List ℕ → Type 0
FitCapacities arcs flows = (j flow : ℕ) (arc : Arc) → slice_get arcs j ≡ Some arc → slice_get flows j ≡ Some flow
    → flow ≤ arc.capacity

-- each arc has a flow within its capacity, and at each node as much flows in as out
pub record IsCirculation (arcs : List Arc) (flows : List ℕ) : Type 0 where
  pub one_each : length flows ≡ length arcs
  pub fits : FitCapacities arcs flows
  pub kept : (v : ℕ) → inflow arcs flows v ≡ pos 0

-- a circulation than which none costs less
pub record IsLeast (arcs : List Arc) (flows : List ℕ) : Type 0 where
  pub circulation : IsCirculation arcs flows
  pub least : (others : List ℕ) → IsCirculation arcs others → cost_of arcs flows ≤ℤ cost_of arcs others

-- what some circulation costs, and none costs less
pub record IsLeastCost (arcs : List Arc) (least : ℤ) : Type 0 where
  pub flows : List ℕ
  pub is_least : IsLeast arcs flows
  pub costs : cost_of arcs flows ≡ least
