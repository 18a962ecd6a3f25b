-- Steps: one unit more or fewer of a trade, or null.
use Rattle.std.specs.Prelude.{◌≡◌, ℕ, ◌-◌, ℤ, pos, ◌+ℤ◌, ◌-ℤ◌, List, [], ◌∷◌, ◌++◌, Bool, true, false, ◌==◌, not, nat_le, if◌then◌else◌, Option, Some, None, option_map, slice_get, get_or, drop, length, ◌<◌}
use Rattle.tn_counts.specs.Counts.{trade_at}
use Rattle.tn_counts.specs.Tree.{inner_node, null_node, trade_node}
use Rattle.tn_counts.specs.declared.market.UnitMarket.{UnitMarket}
use Rattle.tn_tree.specs.declared.steps.UnitStep.{UnitStep}

-- the units of trade t that steps add
abbrev pub step_units : Option UnitStep → ℕ → ℤ
step_units None t = pos 0
step_units (Some step) t = if step.trade == t then (if step.more then pos 1 else pos 0 -ℤ pos 1) else pos 0

abbrev pub units_by : List (Option UnitStep) → ℕ → ℤ
units_by [] t = pos 0
units_by (step ∷ steps) t = step_units step t +ℤ units_by steps t

-- they are steps of trades of the market
abbrev pub AreKnown : UnitMarket → List (Option UnitStep) → Type 0
AreKnown market steps = (k : ℕ) (step : UnitStep) → slice_get steps k ≡ Some (Some step)
    → step.trade < length market.trades.items

-- no trade has two of them, and null is there once at most
abbrev pub AreOnce : List (Option UnitStep) → Type 0
AreOnce steps = (j k : ℕ) (one other : Option UnitStep) → slice_get steps j ≡ Some one → slice_get steps k ≡ Some other
    → option_map (λ step. step.trade) one ≡ option_map (λ step. step.trade) other → j ≡ k

-- ---- the steps of a walk

-- the trade with a node
abbrev pub trade_of : UnitMarket → ℕ → ℕ
trade_of market v = v - trade_node market 0

-- whether a node is that at which the seller of a trade has it
abbrev pub sells_at : UnitMarket → ℕ → ℕ → Bool
sells_at market t v = v == inner_node market (trade_at market.trades.items t).seller t

-- what node v is on a walk that enters it from another node, or leaves it to that: null, or one unit more of a trade where
-- the walk comes from its seller or goes to its buyer, or one fewer; nothing at a set or a root
abbrev pub step_at : UnitMarket → Bool → ℕ → ℕ → List (Option UnitStep)
step_at market enters v other = if v == null_node market then None ∷ []
    else if nat_le (trade_node market 0) v
    then Some (record {
      trade = trade_of market v;
      more = if enters then sells_at market (trade_of market v) other else not (sells_at market (trade_of market v) other);
    }) ∷ []
    else []

-- the steps of nodes, the first of which is entered from another node
abbrev pub entered : UnitMarket → ℕ → List ℕ → List (Option UnitStep)
entered market before [] = []
entered market before (v ∷ vs) = step_at market true v before ++ entered market v vs

-- the steps of a walk from a trade: the trade's own by where the walk leaves it, the others by where it enters them
abbrev pub stepped_down : UnitMarket → List ℕ → List (Option UnitStep)
stepped_down market nodes = step_at market false (get_or nodes 0 0) (get_or nodes 1 0)
    ++ entered market (get_or nodes 0 0) (drop 1 nodes)
