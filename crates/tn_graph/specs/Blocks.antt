-- A graph as blocks of costs: each trade raises one firm and lowers another one, and a firm has a block with a row for
-- each own trade that is raised, a column for each that is lowered, and one of each for null.
use Rattle.std.specs.Prelude.{◌≡◌, ℕ, ◌+◌, ◌*◌, ◌^◌, ◌<◌, ◌≤◌, nat_lt, ℤ, pos, neg_ℤ, int_le, Bool, true, false, ◌==◌, ◌&&◌, if◌then◌else◌, List, length, get_or, Option, Some, None, option_and_then}
use Rattle.tn_base.specs.Widths.{most_cost}
use Rattle.tn_market.specs.Widths.{most_market_trades}
use Rattle.tn_graph.specs.declared.spot.Spot.{Spot}

-- the place of no trade
abbrev pub no_spot : Spot
no_spot = record { start = 0; count = 0; own = 0; position = 0 }

-- how many costs a block of a firm with so many own trades has: one for each two places, but for null with itself
abbrev pub block_size : ℕ → ℕ
block_size count = count * (count + 2)

-- room for the blocks of every market of so many nodes: a trade is in two blocks, and a firm has at most 64 own trades,
-- so that its block has for each of them no more costs than 66, or than there are nodes
unfoldable pub room_of : ℕ → ℕ
room_of nodes = 2 * (nodes * (if nat_lt nodes 66 then nodes else 66))

-- trade t stands at its place, among different trades below `laid`, and the block lies within this room
pub record IsSpotOf (own : List ℕ) (laid room t : ℕ) (spot : Spot) : Type 0 where
  pub inside : spot.start + block_size spot.count ≤ room
  pub below : spot.position < spot.count
  pub owns : get_or own (spot.own + spot.position) laid ≡ t
  pub trades : (k : ℕ) → k < spot.count → get_or own (spot.own + k) laid < laid
  pub once : (i k : ℕ) → i < spot.count → k < spot.count
      → get_or own (spot.own + i) laid ≡ get_or own (spot.own + k) laid → i ≡ k

-- two places are of one block, or of blocks that lie apart
pub record AreOneOrApart (one other : Spot) : Type 0 where
  pub same_count : one.start ≡ other.start → one.count ≡ other.count
  pub same_own : one.start ≡ other.start → one.own ≡ other.own
  pub apart : one.start < other.start → one.start + block_size one.count ≤ other.start

-- where the trades stand: how many have places, none or all; their places in the blocks of the firms that they raise,
-- and in those of the firms that they lower; and the own trades of the firms, one firm after another
pub record Places : Type 0 where
  pub laid : ℕ
  pub raised : List Spot
  pub lowered : List Spot
  pub own : List ℕ

-- where trade t stands in the block of the firm that it raises, or of the one that it lowers
abbrev pub spot_at : Places → Bool → ℕ → Spot
spot_at places rises t = get_or (if rises then places.raised else places.lowered) t no_spot

-- there is room for the blocks of every market of so many nodes, and the blocks of the trades with places lie in it and
-- don't overlap
pub record HasRoomForBlocks (nodes : ℕ) (places : Places) (cells : List ℤ) : Type 0 where
  pub few : nodes ≤ most_market_trades + 1
  pub laid_few : places.laid < nodes
  pub all_laid : 0 < places.laid → places.laid + 1 ≡ nodes
  pub raised_sized : length places.raised ≡ nodes
  pub lowered_sized : length places.lowered ≡ nodes
  pub own_sized : length places.own ≡ 2 * nodes
  pub cells_sized : length cells ≡ room_of nodes
  pub spots : (rises : Bool) (t : ℕ) → t < places.laid
      → IsSpotOf places.own places.laid (room_of nodes) t (spot_at places rises t)
  pub blocks : (one other : Bool) (s t : ℕ) → s < places.laid → t < places.laid
      → AreOneOrApart (spot_at places one s) (spot_at places other t)

-- a graph: how many nodes there are, where the trades stand, and the costs block by block, each row by row
pub record CostBlocks : Type 0 where
  pub nodes : ℕ
  pub places : Places
  pub cells : List ℤ
  pub sound : HasRoomForBlocks nodes places cells

-- what a number stands for: a cost if it is no larger than one may be, else that there is no arc
unfoldable pub cost_in_cell : ℤ → Option ℤ
cost_in_cell number = if int_le (neg_ℤ (pos most_cost)) number && int_le number (pos most_cost) then Some number
    else None

-- the place of a row and a column of a block among all costs
abbrev pub place_in : Spot → ℕ → ℕ → ℕ
place_in spot row column = spot.start + (row * (spot.count + 1) + column)

-- the place of the cost between a trade that is raised, or null, and one that is lowered, or null: none for two firms
abbrev pub place_between : Spot → Spot → Bool → Bool → Option ℕ
place_between from to true true = if from.start == to.start then Some (place_in from from.position to.position)
    else None
place_between from to true false = Some (place_in from from.position from.count)
place_between from to false true = Some (place_in to to.count to.position)
place_between from to false false = None

-- the place of the cost of the arc from node u to node v, none where no block has both
unfoldable pub place_of : ℕ → Places → ℕ → ℕ → Option ℕ
place_of nodes places u v = if nat_lt u nodes && nat_lt v nodes
    then place_between (spot_at places true u) (spot_at places false v) (nat_lt u places.laid) (nat_lt v places.laid)
    else None

-- the cost of the arc from node u to node v, none where there is no arc
unfoldable pub arcs_of : CostBlocks → ℕ → ℕ → Option ℤ
arcs_of graph u v = option_and_then (λ place. cost_in_cell (get_or graph.cells place (pos (2 ^ 63))))
    (place_of graph.nodes graph.places u v)

-- the node at a place of a block: an own trade, or null after them
abbrev pub node_in : Places → Spot → ℕ → ℕ
node_in places spot k = if nat_lt k spot.count then get_or places.own (spot.own + k) places.laid else places.laid

-- the nodes in the block in which a node is raised or lowered: how many, and each of them. Null is in the blocks of all
-- trades.
unfoldable pub listed_count : Places → Bool → ℕ → ℕ
listed_count places rises v = if nat_lt v places.laid then (spot_at places rises v).count + 1 else places.laid

unfoldable pub listed_at : Places → Bool → ℕ → ℕ → ℕ
listed_at places rises v k = if nat_lt v places.laid then node_in places (spot_at places rises v) k else k
