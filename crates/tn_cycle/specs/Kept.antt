-- What a search over kept labels goes by, and what it knows of each node.
use Rattle.std.specs.Prelude.{◌≡◌, ◌≢◌, ℕ, ◌+◌, ◌<◌, ◌≤◌, ◌⊎◌, ℤ, neg_ℤ, ◌+ℤ◌, ◌-ℤ◌, ◌≤ℤ◌, ◌<ℤ◌, List, [], ◌∷◌, All, Option, Some, None, Bool, true, false, ◌&&◌, is_some, slice_index_or}
use Rattle.tn_base.specs.Options.{both}
use Rattle.tn_base.specs.Walks.{is_admitted, walk_cost}
use Rattle.tn_cycle.specs.declared.cell.Cell.{Cell}
use Rattle.tn_cycle.specs.declared.kept.Sought.{Sought}
use Rattle.tn_cycle.specs.declared.kept.Sought.TheVariants as seek
use Rattle.tn_cycle.specs.declared.answer.Path.{Path}
use Rattle.tn_cycle.specs.declared.answer.Path.TheVariants as path
use Rattle.tn_cycle.specs.Cells.{trail}

-- the flag of a node
abbrev pub flag_at : List Bool → ℕ → Bool
flag_at flags v = slice_index_or flags v false

-- every node
abbrev pub every : ℕ → Bool
every v = true

-- the node at a place of a list
abbrev pub node_in_list : List ℕ → ℕ → ℕ
node_in_list list i = slice_index_or list i 0

-- the labels and the cells of a list's nodes, by their places
abbrev pub label_by : (ℕ → ℤ) → List ℕ → ℕ → ℤ
label_by label list i = label (node_in_list list i)

abbrev pub cell_by : (ℕ → Cell) → List ℕ → ℕ → Cell
cell_by cell list i = cell (node_in_list list i)

-- the first so many places of a list have the nodes that wait, each one once
pub record AreWaiting (nodes : ℕ) (waits : ℕ → Bool) (list : List ℕ) (count : ℕ) : Type 0 where
  pub each : (i : ℕ) → i < count → (node_in_list list i < nodes) × (waits (node_in_list list i) ≡ true)
  pub all : (v : ℕ) → v < nodes → waits v ≡ true → (i : ℕ) × (i < count) × (node_in_list list i ≡ v)
  pub once : (i k : ℕ) → i < count → k < count → node_in_list list i ≡ node_in_list list k → i ≡ k

-- a node waits, and has a walk
abbrev pub is_ready : Bool → Cell → Bool
is_ready waits own = waits && is_some own.cost

-- the first so many places of a list have the nodes that wait and have a walk
abbrev pub AreReady : ℕ → (ℕ → Bool) → (ℕ → Cell) → List ℕ → ℕ → Type 0
AreReady nodes waits cell list count = AreWaiting nodes (λ v. is_ready (waits v) (cell v)) list count

-- labels keep the arcs that don't end at t
abbrev pub KeepsArcsOff : (ℕ → ℕ → Option ℤ) → ℕ → (ℕ → ℤ) → Type 0
KeepsArcsOff arc t label = (u v : ℕ) (cost : ℤ) → v ≢ t → arc u v ≡ Some cost → label v ≤ℤ (label u +ℤ cost)

-- labels keep the arcs that neither begin nor end at t
abbrev pub KeepsArcsAvoiding : (ℕ → ℕ → Option ℤ) → ℕ → (ℕ → ℤ) → Type 0
KeepsArcsAvoiding arc t label = (u v : ℕ) (cost : ℤ) → u ≢ t → v ≢ t → arc u v ≡ Some cost
    → label v ≤ℤ (label u +ℤ cost)

-- an arc leads from v, and not to the end
abbrev pub LeadsOff : (ℕ → ℕ → Option ℤ) → ℕ → ℕ → Type 0
LeadsOff arc end v = (u : ℕ) × (cost : ℤ) × (u ≢ end) × (arc v u ≡ Some cost)

-- the first costs at most what the second does, and where both cost the same, it has no more nodes
abbrev pub IsNotAfter : ℤ → ℕ → ℤ → ℕ → Type 0
IsNotAfter a m b n = (a ≤ℤ b) × (b ≤ℤ a → m ≤ n)

-- a cell's walk isn't after one of this cost with so many nodes inside
pub record HasBy (own : Cell) (cost : ℤ) (inner : ℕ) : Type 0 where
  pub least : ℤ
  pub is : own.cost ≡ Some least
  pub before : IsNotAfter least own.inner_nodes cost inner

-- a cost is at least the cap
abbrev pub IsCapped : Option ℤ → ℤ → Type 0
IsCapped cap cost = (most : ℤ) × (cap ≡ Some most) × (most ≤ℤ cost)

-- a walk from the end to itself of this cost isn't sought: it is no better than the end's own, or doesn't count
abbrev pub IsPast : Sought → Cell → ℤ → ℕ → Type 0
IsPast seek.Walks own cost inner = ⊥
IsPast (seek.Cycle cap) own cost inner = HasBy own cost inner ⊎ IsCapped cap cost

-- a node that waits, with its walk, before which no other one comes
pub record ComesFirst (nodes : ℕ) (label : ℕ → ℤ) (cell : ℕ → Cell) (waits : ℕ
    → Bool) (u : ℕ) (key : ℤ) (inner_nodes : ℕ) : Type 0 where
  pub inside : u < nodes
  pub waiting : waits u ≡ true
  pub cost : ℤ
  pub cost_is : (cell u).cost ≡ Some cost
  pub key_is : key ≡ cost +ℤ label u
  pub inner_nodes_is : inner_nodes ≡ (cell u).inner_nodes
  pub first : (v : ℕ) (w : ℤ) → v < nodes → waits v ≡ true → (cell v).cost ≡ Some w
      → IsNotAfter key inner_nodes (w +ℤ label v) (cell v).inner_nodes

-- no node that waits matters
abbrev pub AllArePast : ℕ → ℤ → Sought → (ℕ → ℤ) → (ℕ → Cell) → Cell → (ℕ → Bool) → Type 0
AllArePast nodes base sought label cell own waits =
    (v : ℕ) (w : ℤ) → v < nodes → waits v ≡ true → (cell v).cost ≡ Some w
    → IsPast sought own ((w +ℤ label v) -ℤ base) (cell v).inner_nodes

abbrev pub IsNextToSettle : ℕ → ℤ → Sought → (ℕ → ℤ) → (ℕ → Cell) → Cell → (ℕ → Bool) → Option ℕ → Type 0
IsNextToSettle nodes base sought label cell own waits None = AllArePast nodes base sought label cell own waits
IsNextToSettle nodes base sought label cell own waits (Some u) = (key : ℤ) × (inner_nodes : ℕ)
    × ComesFirst nodes label cell waits u key inner_nodes

-- a cell goes on over u, whose own cell is the one beyond
pub record GoesOver (first : Option ℤ) (beyond : Cell) (u : ℕ) (new : Cell) : Type 0 where
  pub cost : ℤ
  pub cost_is : new.cost ≡ Some cost
  pub sum : both first beyond.cost ≡ Some cost
  pub inner_nodes_is : new.inner_nodes ≡ beyond.inner_nodes + 1
  pub next_is : new.next ≡ u

-- the better one of a cell and of going on over u
pub record IsOffered (own : Cell) (first : Option ℤ) (beyond : Cell) (u : ℕ) (new : Cell) : Type 0 where
  pub step : (new ≡ own) ⊎ GoesOver first beyond u new
  pub by_own : (x : ℤ) → own.cost ≡ Some x → HasBy new x own.inner_nodes
  pub by_offer : (x : ℤ) → both first beyond.cost ≡ Some x → HasBy new x (beyond.inner_nodes + 1)

-- the cell of v after u is settled: only a node that waits and the end may go on over it
abbrev pub AfterOffer : (ℕ → ℕ → Option ℤ) → ℕ → ℕ → Cell → Bool → ℕ → Cell → Cell → Type 0
AfterOffer arc end u beyond waits v own new =
    (((waits ≡ true) ⊎ (v ≡ end)) → IsOffered own (arc v u) beyond u new) × (waits ≡ false → v ≢ end → new ≡ own)

-- once u is settled: the nodes that wait and the end have the better one, and all other cells stay
abbrev pub AreOffered : ℕ → (ℕ → ℕ → Option ℤ) → ℕ → ℕ → (ℕ → Bool) → (ℕ → Cell) → (ℕ → Cell) → Type 0
AreOffered nodes arc end u waits cell new = (v : ℕ) → v < nodes
    → AfterOffer arc end u (cell u) (waits v) v (cell v) (new v)

-- what holds once so many nodes are settled, which are those with a walk that don't wait
pub record IsUnderWay (nodes : ℕ) (arc : ℕ → ℕ → Option ℤ) (end : ℕ) (label : ℕ → ℤ) (cell : ℕ → Cell) (waits : ℕ
    → Bool) (settled : ℕ) : Type 0 where
  pub shut : waits end ≡ false
  -- no cell is after the arc to the end, nor after going on over a settled node
  pub first : (v : ℕ) (cost : ℤ) → v < nodes → arc v end ≡ Some cost → HasBy (cell v) cost 0
  pub over : (v u : ℕ) (cost w : ℤ) → u ≢ end → waits u ≡ false → arc v u ≡ Some cost → (cell u).cost ≡ Some w
      → HasBy (cell v) (cost +ℤ w) ((cell u).inner_nodes + 1)
  -- no settled node that an arc leads from, other than to the end, is after a waiting one
  pub order : (v u : ℕ) (w x : ℤ) → v < nodes → u < nodes → v ≢ end → LeadsOff arc end v → waits v ≡ false
      → waits u ≡ true → (cell v).cost ≡ Some w → (cell u).cost ≡ Some x
      → IsNotAfter (w +ℤ label v) (cell v).inner_nodes (x +ℤ label u) (cell u).inner_nodes
  pub reached : (v u : ℕ) (cost : ℤ) → v ≢ end → waits v ≡ false → arc v u ≡ Some cost → (w : ℤ)
      × ((cell v).cost ≡ Some w)
  -- each cell leads along a walk of its cost over settled nodes
  pub leads : (v : ℕ) → v < nodes → walk_cost arc v (trail cell (cell v).inner_nodes v) end ≡ (cell v).cost
  pub passes : (v : ℕ) → v < nodes → All (λ x. (x < nodes) × (x ≢ end)
      × (waits x ≡ false)) (trail cell (cell v).inner_nodes v)
  pub none : (v : ℕ) → v < nodes → (cell v).cost ≡ None → (cell v).inner_nodes ≡ 0
  pub few : (v : ℕ) → v < nodes → (cell v).inner_nodes ≤ settled

-- a search that has stopped, as no node that waits matters
pub record IsStopped (nodes : ℕ) (arc : ℕ → ℕ → Option ℤ) (end : ℕ) (sought : Sought) (label : ℕ → ℤ) (cell : ℕ
    → Cell) (waits : ℕ → Bool) : Type 0 where
  pub settled : ℕ
  pub fewer : settled < nodes
  pub known : IsUnderWay nodes arc end label cell waits settled
  pub past : AllArePast nodes (label end) sought label cell (cell end) waits

-- a label after it was raised: at least what it was and what a cost lacks to the limit, and one of the two
pub record IsRaised (label : ℤ) (cost : Option ℤ) (limit new : ℤ) : Type 0 where
  pub grows : label ≤ℤ new
  pub lacks : (w : ℤ) → cost ≡ Some w → (limit -ℤ w) ≤ℤ new
  pub one : (new ≡ label) ⊎ ((w : ℤ) × (cost ≡ Some w) × (new ≡ limit -ℤ w))

-- the labels of all nodes but t are raised
abbrev pub AreRaised : ℕ → ℕ → (ℕ → ℤ) → (ℕ → Cell) → ℤ → (ℕ → ℤ) → Type 0
AreRaised nodes t label cell limit new = (v : ℕ) → v < nodes → (v ≡ t → new v ≡ label v)
    × (v ≢ t → IsRaised (label v) (cell v).cost limit (new v))

-- a cost is below the cap
abbrev pub IsCounted : Option ℤ → ℤ → Type 0
IsCounted cap cost = (most : ℤ) → cap ≡ Some most → cost <ℤ most

-- the end's own walk, listed, where it counts
abbrev pub IsCycleRead : (ℕ → Cell) → ℕ → Option ℤ → List ℕ → Path → Type 0
IsCycleRead cell t cap listed path.None = ((w : ℤ) → (cell t).cost ≡ Some w → IsCapped cap w) × (listed ≡ [])
IsCycleRead cell t cap listed (path.Cycle cost count) =
    ((cell t).cost ≡ Some cost) × IsCounted cap cost × (listed ≡ t ∷ trail cell (cell t).inner_nodes t)
    × (count ≡ (cell t).inner_nodes + 1)

-- the greater of a number so far and what a cost lacks to a label
pub record IsLiftedBy (least : Option ℤ) (label : ℤ) (cost found : Option ℤ) : Type 0 where
  pub by_least : (b : ℤ) → least ≡ Some b → (p : ℤ) × (found ≡ Some p) × (b ≤ℤ p)
  pub by_arc : (c : ℤ) → cost ≡ Some c → (p : ℤ) × (found ≡ Some p) × (label ≤ℤ (p +ℤ c))
  pub one : (found ≡ least) ⊎ ((c : ℤ) × (cost ≡ Some c) × (found ≡ Some (label -ℤ c)))

-- a number for t that keeps the arcs from t to the other nodes
abbrev pub IsLifted : (ℕ → ℕ → Option ℤ) → ℕ → (ℕ → ℤ) → Option ℤ → Type 0
IsLifted arc t label found = (v : ℕ) (cost : ℤ) → v ≢ t → arc t v ≡ Some cost → (p : ℤ) × (found ≡ Some p)
    × (label v ≤ℤ (p +ℤ cost))

-- a mark is that of an admitted trade or the null node, and the given node has none
abbrev pub IsOther : ℕ → ℕ → ℕ → ℕ → Bool → Type 0
IsOther null node allowed v mark = (v ≡ node → mark ≡ false) × (v ≢ node → mark ≡ is_admitted null allowed v)

-- a number or its negative
abbrev pub negated_if : Bool → ℤ → ℤ
negated_if true z = neg_ℤ z
negated_if false z = z
