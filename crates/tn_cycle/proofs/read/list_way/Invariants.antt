-- What the loops of `list_way` of `src/read.rt` keep.
use Rattle.std.proofs.Common.{◌≡◌, ◌-◌, ◌<◌, ◌∷◌, ◌++◌, length, take}
use Rattle.std.specs.Prelude.{All}
use Rattle.tn_cycle.specs.Cells.{cell_at, trail}
use Rattle.tn_cycle.proofs.read.list_way.Given as goal

abbrev pub invariant-loop-k : goal.invariant-loop-k
invariant-loop-k l = record {
  inside : All (λ v. v < length l.row) (l.at ∷ trail (cell_at l.row) (l.count - l.k) l.at);
  so_far : take l.k l.path ++ (l.at ∷ trail (cell_at l.row) (l.count - l.k) l.at)
      ≡ l.v ∷ trail (cell_at l.row) l.count l.v;
}
