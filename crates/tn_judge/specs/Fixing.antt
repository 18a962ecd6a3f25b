-- The fixed graph of an outcome, as its costs are read: the nodes with prices are raised, so that no least walk ends
-- there.
use Rattle.std.specs.Prelude.{◌≡◌, ℕ, ◌+◌, ℤ, pos, ◌+ℤ◌, ◌-ℤ◌, ◌≤ℤ◌, List, length, slice_index_or, Option, Some, None, option_map}
use Rattle.tn_base.specs.Arcs.{IsAtMost, AreSmall}
use Rattle.tn_model.specs.declared.contract.Contract.{Contract}
use Rattle.tn_model.specs.Limits.{most_numerator, most_over}
use Rattle.tn_graph.specs.Blocks.{CostBlocks, arcs_of}
use Rattle.tn_outcome_laws.specs.Fixed.{fixed_at}
use Rattle.tn_residual.specs.Held.{contract_price}
use Rattle.tn_judge.specs.Limits.{most_exchange_cost}

-- the price of a node, none where it has none
abbrev pub price_in : List (Option ℤ) → ℕ → Option ℤ
price_in prices v = slice_index_or prices v None

-- a node with a price stands as high as the largest price, and every other at 0
abbrev pub height : Option ℤ → ℤ
height None = pos 0
height (Some price) = pos most_numerator

-- a graph where each arc costs also how much its end stands higher than its begin
abbrev pub raised_arc : (ℕ → ℤ) → (ℕ → ℕ → Option ℤ) → ℕ → ℕ → Option ℤ
raised_arc high arc u v = option_map (λ cost. (cost +ℤ high v) -ℤ high u) (arc u v)

-- a graph whose costs count so many times, with these prices fixed, and their nodes raised
abbrev pub raised_fixed : ℤ → List (Option ℤ) → ℕ → (ℕ → ℕ → Option ℤ) → ℕ → ℕ → Option ℤ
raised_fixed over prices null arc =
    raised_arc (λ v. height (price_in prices v)) (fixed_at over (price_in prices) null arc)

-- the prices of the first so many nodes: those of the contracts on them
pub record ArePriced (contracts : List Contract) (nodes : ℕ) (prices : List (Option ℤ)) : Type 0 where
  pub counted : length prices ≡ nodes
  pub each : (v : ℕ) → price_in prices v ≡ contract_price contracts v

-- a graph that is laid out, a denominator and prices within the limits, with null as the last node, which has no price
pub record CanBeFixed (graph : CostBlocks) (over : ℤ) (null : ℕ) (prices : List (Option ℤ)) : Type 0 where
  pub nodes : graph.nodes ≡ null + 1
  pub laid : graph.places.laid ≡ null
  pub free : price_in prices null ≡ None
  pub counted : length prices ≡ null + 1
  pub small_costs : AreSmall (arcs_of graph) most_exchange_cost
  pub from_one : pos 1 ≤ℤ over
  pub small_over : over ≤ℤ pos most_over
  pub small_prices : (v : ℕ) (price : ℤ) → price_in prices v ≡ Some price → IsAtMost price most_numerator
