-- The shapes of the links of sets.
use Rattle.std.specs.Prelude.{ℕ, suc, List, [], ◌∷◌}
use Rattle.tn_counts.specs.Tree.{LinkShape, set_shape}
use Rattle.tn_counts.specs.declared.market.UnitMarket.{UnitMarket}
use Rattle.tn_counts.specs.declared.set.CountSet.{CountSet}

-- those of the sets of a list, the first of which has this number
abbrev pub set_shapes : UnitMarket → ℕ → List CountSet → List LinkShape
set_shapes market i [] = []
set_shapes market i (set ∷ sets) = set_shape market i set ∷ set_shapes market (suc i) sets
