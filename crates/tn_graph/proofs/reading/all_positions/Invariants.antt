-- What the loop of `all_positions` of `src/reading.rt` keeps.
use Rattle.std.proofs.Common.{◌≡◌, true}
use Rattle.tn_base.specs.Sets.{set_of}
use Rattle.tn_graph.proofs.reading.all_positions.Given as goal

abbrev pub invariant-loop-k : goal.invariant-loop-k
invariant-loop-k l = l.all ≡ set_of (λ j. true) l.k
