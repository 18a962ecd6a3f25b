-- How much the cells of a search hold.
use Rattle.std.proofs.Common.{◌≡◌, ℕ, ◌<◌, ◌≤◌, ◌+◌, ◌∙◌, arith, length, ℤ, Option}
use Rattle.std.proofs.lemmas.Int.{ints}
use Rattle.tn_base.specs.Arcs.{AreSmall}
use Rattle.tn_base.specs.Walks.{walk_cost}
use Rattle.tn_base.specs.Widths.{most_cost}
use Rattle.tn_cycle.specs.declared.cell.Cell.{Cell}
use Rattle.tn_cycle.specs.Cells.{HasRoom, trail}
use Rattle.tn_cycle.specs.Widths.{most_graph_nodes}
use Rattle.tn_cycle.proofs.ReadLemmas.{length-trail}
use Rattle.tn_cycle.proofs.WalkLemmas.{walk_small}

-- the costs of cells that lead along short walks are far from the limits of their type
pub led_room : (nodes : ℕ) (arc : ℕ → ℕ → Option ℤ) (end : ℕ) (cell : ℕ → Cell) → AreSmall arc most_cost
    → nodes ≤ most_graph_nodes + 1
    → ((v : ℕ) → v < nodes → walk_cost arc v (trail cell (cell v).inner_nodes v) end ≡ (cell v).cost)
    → ((v : ℕ) → v < nodes → (cell v).inner_nodes < nodes) → HasRoom nodes cell
led_room nodes arc end cell small few leads short v inside cost is =
    let whole = walk_small arc most_cost small v (trail cell (cell v).inner_nodes v) end cost (leads v inside ∙ is) in
    let size : length (trail cell (cell v).inner_nodes v) ≡ (cell v).inner_nodes = length-trail cell (cell v).inner_nodes v in
    let fewer : (cell v).inner_nodes < nodes = short v inside in
    record {
      low = omega (arith, ints, whole.low, size, fewer, few);
      high = omega (arith, ints, whole.high, size, fewer, few);
    }
