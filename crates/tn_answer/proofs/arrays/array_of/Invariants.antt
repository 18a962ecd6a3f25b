-- What the loops of `array_of` of `src/arrays.rt` keep.
use Rattle.std.proofs.Common.{◌≡◌, map, take}
use Rattle.serde_json.specs.View.{view}
use Rattle.tn_answer.proofs.arrays.array_of.Given as goal

abbrev pub invariant-loop-k : goal.invariant-loop-k
invariant-loop-k g l = map view l.values.items ≡ take l.k (g.L.Items.values_data l.names l.list)
