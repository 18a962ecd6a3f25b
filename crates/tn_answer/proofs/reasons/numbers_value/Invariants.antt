-- What the loops of `numbers_value` of `src/reasons.rt` keep.
use Rattle.std.proofs.Common.{◌≡◌, map, take}
use Rattle.serde_json.specs.Data.{number, unsigned}
use Rattle.serde_json.specs.View.{view}
use Rattle.tn_answer.proofs.reasons.numbers_value.Given as goal

abbrev pub invariant-loop-k : goal.invariant-loop-k
invariant-loop-k l = map view l.values.items ≡ take l.k (map (λ n. number (unsigned n)) l.numbers)
