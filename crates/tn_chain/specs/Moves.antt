-- The arcs of the exchange graph where no trade is on.
use Rattle.std.specs.Prelude.{◌≡◌, ℕ, ◌<◌, ℤ, List, slice_get, ◌==◌, if◌then◌else◌, Option, Some, None}
use Rattle.tn_base.specs.Sets.{toggle}
use Rattle.tn_model.specs.declared.ends.Ends.{Ends}
use Rattle.tn_graph.specs.Blocks.{CostBlocks, arcs_of}

-- the firm that buys the one trade and sells the other, with the bundle of the two; none where these are two firms, and
-- for the null node there is nothing to buy or to sell
abbrev pub move_between : Option Ends → Option Ends → Option (ℕ × ℕ)
move_between (Some bought) (Some sold) = if bought.buyer == sold.seller
    then Some (bought.buyer, toggle (toggle 0 bought.at_buyer) sold.at_seller) else None
move_between (Some bought) None = Some (bought.buyer, toggle 0 bought.at_buyer)
move_between None (Some sold) = Some (sold.seller, toggle 0 sold.at_seller)
move_between None None = None

-- the same by nodes
abbrev pub arc_move : List Ends → ℕ → ℕ → Option (ℕ × ℕ)
arc_move trades u v = move_between (slice_get trades u) (slice_get trades v)

-- the costs of the arcs from the first u nodes are written
pub record AreWritten (arc : ℕ → ℕ → Option ℤ) (nodes u : ℕ) (graph : CostBlocks) : Type 0 where
  pub nodes_are : graph.nodes ≡ nodes
  pub written : (a b : ℕ) → b < nodes → a < u → arcs_of graph a b ≡ arc a b
