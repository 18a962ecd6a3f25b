-- What the loops of `counts_value` of `src/counts.rt` keep.
use Rattle.std.proofs.Common.{◌≡◌, map, take, flat_map}
use Rattle.serde_json.specs.View.{view}
use Rattle.tn_answer.specs.AnswerText.{count_items}
use Rattle.tn_answer.specs.Rows.{each_from}
use Rattle.tn_answer.proofs.counts.counts_value.Given as goal

abbrev pub invariant-loop-k : goal.invariant-loop-k
invariant-loop-k l =
    map view l.values.items ≡ flat_map (λ ds. ds) (take l.k (each_from (count_items l.names.trades) 0 l.counts))
