-- What the loops of `read_entries` of `src/own_numbers.rt` keep.
use Rattle.std.proofs.Common.{◌≡◌, length, drop}
use Rattle.serde_json.specs.View.{items_view}
use Rattle.tn_read_shapes.specs.Reading.{each}
use Rattle.tn_read_firms.specs.OwnNumbers.{one_own}
use Rattle.tn_read_firms.proofs.own_numbers.read_entries.Given as goal

abbrev pub invariant-loop-entry : goal.invariant-loop-entry
invariant-loop-entry l = record {
  places : length l.numbers ≡ length l.fn.numbers;
  rest : each (one_own l.head l.list) (record { named = l.named; numbers = l.numbers })
      (items_view (drop l.entry-index l.entries)) ≡ each (one_own l.head l.list) (record {
        named = 0;
        numbers =
            l.fn.numbers;
      }) (items_view l.entries);
}
