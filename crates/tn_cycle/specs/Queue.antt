-- What a search keeps of the order in which its waiting nodes come.
use Rattle.std.specs.Prelude.{◌≡◌, ◌≢◌, ℕ, ◌+◌, ◌*◌, ◌<◌, ◌≤◌, ◌⊎◌, ℤ, pos, ◌+ℤ◌, List, length, unwrap_or, Bool}
use Rattle.std.specs.Option.{ForSome}
use Rattle.tn_base.specs.Arcs.{IsAtMost}
use Rattle.tn_cycle.specs.declared.cell.Cell.{Cell}
use Rattle.tn_cycle.specs.Answers.{label_in}
use Rattle.tn_cycle.specs.Cells.{cell_at}
use Rattle.tn_cycle.specs.Kept.{AreReady, IsNotAfter, node_in_list}
use Rattle.tn_cycle.specs.Widths.{most_walk_cost}

-- the key of a node: the cost of its walk, 0 where it has none, and its label
abbrev pub key_of : (ℕ → ℤ) → (ℕ → Cell) → ℕ → ℤ
key_of label cell v = unwrap_or (cell v).cost (pos 0) +ℤ label v

-- a node doesn't come after another one: by its key, and where the keys are the same, by the arcs of its walk
abbrev pub IsBefore : (ℕ → ℤ) → (ℕ → Cell) → ℕ → ℕ → Type 0
IsBefore label cell u v =
    IsNotAfter (key_of label cell u) (cell u).inner_nodes (key_of label cell v) (cell v).inner_nodes

-- a node whose key can be told
pub record HasKey (labels : List ℤ) (row : List Cell) (v : ℕ) : Type 0 where
  pub labelled : v < length labels
  pub inside : v < length row
  pub room : ForSome (cell_at row v).cost (λ cost. IsAtMost cost (2 * most_walk_cost))

-- the first so many places of a list have nodes with keys, and each of these has its place
pub record IsQueue (labels : List ℤ) (row : List Cell) (list places : List ℕ) (count : ℕ) : Type 0 where
  pub room : count ≤ length list
  pub keyed : (i : ℕ) → i < count → HasKey labels row (node_in_list list i)
  pub placed : (i : ℕ) → i < count → node_in_list places (node_in_list list i) ≡ i

-- two lists have the same nodes at their first so many places, in whatever order
pub record HaveSameNodes (list new : List ℕ) (count : ℕ) : Type 0 where
  pub from : (i : ℕ) → i < count → (k : ℕ) × (k < count) × (node_in_list list k ≡ node_in_list new i)
  pub to : (i : ℕ) → i < count → (k : ℕ) × (k < count) × (node_in_list new k ≡ node_in_list list i)

-- a place stands above two others
abbrev pub IsAbove : ℕ → ℕ → Type 0
IsAbove p c = (c ≡ 2 * p + 1) ⊎ (c ≡ 2 * p + 2)

-- the node above another one doesn't come after it
abbrev pub IsHeap : (ℕ → ℕ → Type 0) → List ℕ → ℕ → Type 0
IsHeap before list count = (p c : ℕ) → c < count → IsAbove p c → before (node_in_list list p) (node_in_list list c)

-- the nodes that wait and have a walk stand in the queue, each one once, and none comes after one that it stands above
pub record AreQueued (nodes : ℕ) (waits : ℕ
    → Bool) (labels : List ℤ) (row : List Cell) (list places : List ℕ) (count : ℕ) : Type 0 where
  pub listed : AreReady nodes waits (cell_at row) list count
  pub queue : IsQueue labels row list places count
  pub heap : IsHeap (IsBefore (label_in labels) (cell_at row)) list count

-- a heap, but that the node at a place may come before the one above it; the nodes below that place don't come before
-- the one above it
pub record IsHeapBelow (before : ℕ → ℕ → Type 0) (list : List ℕ) (count at : ℕ) : Type 0 where
  pub others : (p c : ℕ) → c < count → c ≢ at → IsAbove p c → before (node_in_list list p) (node_in_list list c)
  pub beyond : (p c : ℕ) → c < count → IsAbove p at → IsAbove at c → before (node_in_list list p) (node_in_list list c)

-- a heap, but that the node at a place may come after those that it stands above; these don't come before the one
-- above that place
pub record IsHeapAbove (before : ℕ → ℕ → Type 0) (list : List ℕ) (count at : ℕ) : Type 0 where
  pub others : (p c : ℕ) → c < count → p ≢ at → IsAbove p c → before (node_in_list list p) (node_in_list list c)
  pub beyond : (p c : ℕ) → c < count → IsAbove p at → IsAbove at c → before (node_in_list list p) (node_in_list list c)

-- of the places below one, the first: none of the others' nodes comes before its own
pub record IsFirstBelow (before : ℕ → ℕ → Type 0) (list : List ℕ) (count at below : ℕ) : Type 0 where
  pub is : IsAbove at below
  pub inside : below < count
  pub first : (c : ℕ) → c < count → IsAbove at c → before (node_in_list list below) (node_in_list list c)
