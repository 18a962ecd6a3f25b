-- The levels of a flow by counts of what is sold and of what is bought.
use Rattle.std.specs.Prelude.{◌≡◌, ℕ, ◌<◌, ℤ, pos, ◌+ℤ◌, List, ◌++◌, length, map, get_or, slice_get, unsigned_abs, Option, Some, None}
use Rattle.std.specs.List.{range_with_len}
use Rattle.tn_counts.specs.Laminar.{firm_of}
use Rattle.tn_counts.specs.Tree.{bought_at, pin_place, root_node, sold_at}
use Rattle.tn_counts.specs.Widths.{unbounded}
use Rattle.tn_counts.specs.declared.market.Pin.{Pin}
use Rattle.tn_counts.specs.declared.market.UnitMarket.{UnitMarket}
use Rattle.tn_counts.specs.declared.set.CountSet.{CountSet}

-- the counts of each firm, by firm numbers, are possible for it
abbrev pub ArePossible : UnitMarket → (ℕ → ℕ → ℕ) → Type 0
ArePossible market counts =
    (f : ℕ) → f < market.firms → (worth : ℤ) × ((firm_of market f).worth (counts f) ≡ Some worth)

-- the levels of a flow in which as much of each trade is bought as sold, these counts, so that nothing flows over pins
pub record AreLevelsOf (market : UnitMarket) (pins : List Pin) (counts : ℕ → ℕ) (levels : List ℕ) : Type 0 where
  pub sold : (t : ℕ) → t < length market.trades.items → sold_at market levels t ≡ counts t
  pub bought : (t : ℕ) → t < length market.trades.items → bought_at market levels t ≡ counts t
  pub pinned : (k : ℕ) → k < length pins → get_or levels (pin_place market k) 0 ≡ unbounded

-- how many units the steps of a set have below a net count of 0
abbrev pub back_in : Option CountSet → ℕ
back_in None = 0
back_in (Some set) = set.back

-- the levels of the links of sets and of roots by what flows into their nodes
abbrev pub set_level : UnitMarket → List ℤ → ℕ → ℕ
set_level market nets i = unsigned_abs (get_or nets i (pos 0) +ℤ pos (back_in (slice_get market.sets.items i)))

abbrev pub root_level : UnitMarket → List ℤ → ℕ → ℕ
root_level market nets f = unsigned_abs (get_or nets (root_node market f) (pos 0) +ℤ pos unbounded)

-- the levels of all links but those of pins
abbrev pub levels_by : UnitMarket → List ℤ → List ℕ → List ℕ → List ℕ
levels_by market nets sold bought =
    ((map (set_level market nets) (range_with_len 0 (length market.sets.items))
    ++ map (root_level market nets) (range_with_len 0 market.firms)) ++ sold) ++ bought
