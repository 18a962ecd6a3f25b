-- What the searches answer.
use Rattle.std.specs.Prelude.{◌≡◌, ◌≢◌, ℕ, ◌+◌, ◌-◌, ◌*◌, ◌<◌, ◌≤◌, ◌⊎◌, ℤ, pos, neg_ℤ, ◌≤ℤ◌, ◌<ℤ◌, List, [], ◌∷◌, ◌++◌, length, All, Option, Some, None, slice_index_or, unwrap_or, Bool, true, false}
use Rattle.tn_base.specs.Arcs.{AreSmall, IsAtMost}
use Rattle.tn_base.specs.Walks.{AreDifferent, Avoids, CyclesCostAtLeast, HasNoNegativeCycle, IsCycle, IsLeastCycle, KeepsArcs, IsLeastWalk, IsUnreached, is_admitted, is_looked_at}
use Rattle.tn_cycle.specs.declared.cell.Cell.{Cell}
use Rattle.tn_cycle.specs.declared.answer.Path.{Path}
use Rattle.tn_cycle.specs.declared.answer.Path.TheVariants as path
use Rattle.tn_cycle.specs.declared.kept_cycles.Cycles.{Cycles}
use Rattle.tn_cycle.specs.declared.kept_cycles.Cycles.TheVariants as cycles
use Rattle.tn_cycle.specs.declared.answer.Labels.{Labels}
use Rattle.tn_cycle.specs.declared.answer.Labels.TheVariants.{Feasible, Negative}
use Rattle.tn_cycle.specs.Graphs.{turned}
use Rattle.tn_cycle.specs.Reading.{Reading}
use Rattle.tn_cycle.specs.Widths.{most_label}

-- the listed nodes are a least cycle from the node, of negative cost
pub record IsFound (arc : ℕ → ℕ → Option ℤ) (node : ℕ) (listed : List ℕ) (cost : ℤ) (count : ℕ) : Type 0 where
  pub rest : List ℕ
  pub nodes_are : listed ≡ node ∷ rest
  pub counted : count ≡ length listed
  pub negative : cost <ℤ pos 0
  pub least : IsLeastCycle arc node rest cost

-- none where no cycle through the node is negative, and otherwise a least one
abbrev pub AnswersCycle : (ℕ → ℕ → Option ℤ) → ℕ → List ℕ → Path → Type 0
AnswersCycle arc node listed path.None = CyclesCostAtLeast arc node (pos 0) × (listed ≡ [])
AnswersCycle arc node listed (path.Cycle cost count) = IsFound arc node listed cost count

-- the listed nodes are a least cycle from the node, whatever it costs
pub record IsLeastFound (arc : ℕ → ℕ → Option ℤ) (node : ℕ) (listed : List ℕ) (cost : ℤ) (count : ℕ) : Type 0 where
  pub rest : List ℕ
  pub nodes_are : listed ≡ node ∷ rest
  pub counted : count ≡ length listed
  pub least : IsLeastCycle arc node rest cost

-- none where no closed walk leads through the node, and otherwise a least cycle
abbrev pub AnswersLeast : (ℕ → ℕ → Option ℤ) → ℕ → List ℕ → Path → Type 0
AnswersLeast arc node listed path.None = IsUnreached arc node node × (listed ≡ [])
AnswersLeast arc node listed (path.Cycle cost count) = IsLeastFound arc node listed cost count

-- of the cycles that are sought: a least one that is negative, or a least one whatever it costs
abbrev pub AnswersThrough : Cycles → (ℕ → ℕ → Option ℤ) → ℕ → List ℕ → Path → Type 0
AnswersThrough cycles.Negative = AnswersCycle
AnswersThrough cycles.All = AnswersLeast

-- the nodes with labels before that search: where negative cycles are sought, the trade's own isn't known yet
abbrev pub is_labelled : Cycles → ℕ → ℕ → ℕ → ℕ → Bool
is_labelled cycles.Negative null node allowed = is_admitted null allowed
is_labelled cycles.All null node allowed = is_looked_at null node allowed

-- what an answer costs, 0 where there is none
abbrev pub cost_of : Path → ℤ
cost_of path.None = pos 0
cost_of (path.Cycle cost count) = cost

-- how many arcs an answer has
abbrev pub arc_count : Path → ℕ
arc_count path.None = 0
arc_count (path.Cycle cost count) = count

-- numbers by node, 0 past the last node
abbrev pub label_in : List ℤ → ℕ → ℤ
label_in labels v = slice_index_or labels v (pos 0)

-- each label is at most so far from 0
abbrev pub AreNear : ℕ → List ℤ → Type 0
AreNear reach labels = (v : ℕ) → v < length labels → IsAtMost (label_in labels v) reach

-- no cost of an arc that neither begins nor ends at t is above this size
abbrev pub AreSmallOff : (ℕ → ℕ → Option ℤ) → ℕ → ℕ → Type 0
AreSmallOff arc t limit = (a b : ℕ) (cost : ℤ) → a ≢ t → b ≢ t → arc a b ≡ Some cost → IsAtMost cost limit

-- the labels keep the arcs, and are between 0 and the least cost of a path, which has two arcs at most at any node
pub record AreLabels (nodes : ℕ) (arc : ℕ → ℕ → Option ℤ) (labels : List ℤ) : Type 0 where
  pub one_each : length labels ≡ nodes
  pub keeps : KeepsArcs arc (label_in labels)
  pub high : (v : ℕ) → v < nodes → label_in labels v ≤ℤ pos 0
  pub low : (limit v : ℕ) → AreSmall arc limit → v < nodes → neg_ℤ (pos ((nodes - 1) * limit)) ≤ℤ label_in labels v
  pub low_off : (t off limit v : ℕ) → AreSmallOff arc t off → AreSmall arc limit → v < nodes
      → neg_ℤ (pos ((nodes - 1) * off + 2 * limit)) ≤ℤ label_in labels v

-- a number that is at most 0 and at most the costs of the first cells, and that no other such number is above
pub record IsLowestCost (nodes : ℕ) (cell : ℕ → Cell) (lowest : ℤ) : Type 0 where
  pub at_most_none : lowest ≤ℤ pos 0
  pub at_most_each : (v : ℕ) → v < nodes → lowest ≤ℤ unwrap_or (cell v).cost (pos 0)
  pub greatest : (bound : ℤ) → bound ≤ℤ pos 0 → ((v : ℕ) → v < nodes → bound ≤ℤ unwrap_or (cell v).cost (pos 0))
      → bound ≤ℤ lowest

-- a cycle begins with the last node, or it lacks that and begins with its lowest node
abbrev pub BeginsWell : ℕ → ℕ → List ℕ → Type 0
BeginsWell nodes first listed = (first + 1 ≡ nodes) ⊎ All (λ v. (first ≤ v) × (v + 1 < nodes)) listed

-- the listed nodes are a cycle of negative cost without a node twice
pub record IsNegative (nodes : ℕ) (arc : ℕ → ℕ → Option ℤ) (listed : List ℕ) (cost : ℤ) (count : ℕ) : Type 0 where
  pub first : ℕ
  pub rest : List ℕ
  pub nodes_are : listed ≡ first ∷ rest
  pub counted : count ≡ length listed
  pub negative : cost <ℤ pos 0
  pub cycle : IsCycle arc first rest cost
  pub begins : BeginsWell nodes first listed

-- labels, where no closed walk is negative, and otherwise a negative cycle
abbrev pub AnswersLabels : ℕ → (ℕ → ℕ → Option ℤ) → Reading → Labels → Type 0
AnswersLabels nodes arc reading Feasible = HasNoNegativeCycle arc × AreLabels nodes arc reading.labels
    × (reading.listed ≡ [])
AnswersLabels nodes arc reading (Negative cost count) = IsNegative nodes arc reading.listed cost count
    × (reading.labels ≡ [])

-- the nodes of a walk from u to w of least cost, in which no node stands twice but for the two ends, where they are one
pub record IsLeastPath (arc : ℕ → ℕ → Option ℤ) (u w : ℕ) (listed : List ℕ) (cost : ℤ) : Type 0 where
  pub inner : List ℕ
  pub nodes_are : listed ≡ (u ∷ inner) ++ w ∷ []
  pub least : IsLeastWalk arc u w inner cost
  pub different : AreDifferent (u ∷ inner)
  pub ends : Avoids w inner

-- the least cost of a walk from u to w with such a walk's nodes, none where there is no walk
abbrev pub LeadsLeast : (ℕ → ℕ → Option ℤ) → ℕ → ℕ → List ℕ → Option ℤ → Type 0
LeadsLeast arc u w listed None = IsUnreached arc u w
LeadsLeast arc u w listed (Some cost) = IsLeastPath arc u w listed cost

-- the same of walks from v to the end, or of the walks from the end to v in the graph turned round
abbrev pub LeadsAlong : Bool → (ℕ → ℕ → Option ℤ) → ℕ → ℕ → List ℕ → Option ℤ → Type 0
LeadsAlong false arc v end listed distance = LeadsLeast arc v end listed distance
LeadsAlong true arc v end listed distance = LeadsLeast (turned arc) end v listed distance

-- the least cost for a node, and its walk
abbrev pub distance_in : Reading → ℕ → Option ℤ
distance_in reading v = slice_index_or reading.distances v None

abbrev pub walk_in : Reading → ℕ → List ℕ
walk_in reading v = slice_index_or reading.walks v []

-- labels near 0 that keep the arcs, where no cycle is answered, and otherwise the listed nodes are a negative cycle
abbrev pub AnswersGrown : ℕ → (ℕ → ℕ → Option ℤ) → List ℕ → List ℤ → Path → Type 0
AnswersGrown nodes arc listed labels path.None = KeepsArcs arc (label_in labels) × AreNear most_label labels
AnswersGrown nodes arc listed labels (path.Cycle cost count) = IsNegative nodes arc listed cost count
