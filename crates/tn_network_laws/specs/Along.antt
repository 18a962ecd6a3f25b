-- A set of trades along a cycle of the exchange graph.
use Rattle.std.specs.Prelude.{ℕ, List, [], ◌∷◌, ltb, if◌then◌else◌}
use Rattle.tn_base.specs.Sets.{toggle}

-- the set with each of the nodes toggled that is a trade, of which there are so many
abbrev pub along : ℕ → ℕ → List ℕ → ℕ
along count on [] = on
along count on (v ∷ vs) = if ltb v count then toggle (along count on vs) v else along count on vs
