-- What the loops of `read_firm_names` of `src/names.rt` keep.
use Rattle.std.proofs.Common.{◌≡◌, length, drop}
use Rattle.serde_json.specs.View.{items_view}
use Rattle.tn_read_shapes.specs.Reading.{each}
use Rattle.tn_read_head.specs.Naming.{one_firm_name}
use Rattle.tn_read_head.proofs.names.read_firm_names.Given as goal

abbrev pub invariant-loop-firm : goal.invariant-loop-firm
invariant-loop-firm l = record {
  count : length l.names.firms ≡ l.firm-index;
  trades : l.names.trades ≡ l.initial.names.trades;
  rest : each one_firm_name l.names (items_view (drop l.firm-index l.firms))
      ≡ each one_firm_name l.initial.names (items_view l.firms);
}
