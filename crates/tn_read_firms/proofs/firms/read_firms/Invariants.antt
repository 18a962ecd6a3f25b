-- What the loops of `read_firms` of `src/firms.rt` keep.
use Rattle.std.proofs.Common.{◌≡◌, ℕ, ◌<◌, ◌≤◌, length, drop, map, []}
use Rattle.std.specs.Prelude.{All}
use Rattle.serde_json.specs.View.{items_view}
use Rattle.tn_model.specs.Limits.{most_own_trades}
use Rattle.tn_read_references.specs.Ordered.{sides_of}
use Rattle.tn_read_shapes.specs.Reading.{each}
use Rattle.tn_read_firms.specs.Firms.{one_firm}
use Rattle.tn_read_firms.proofs.firms.read_firms.Given as goal

abbrev pub invariant-loop-firm : goal.invariant-loop-firm
invariant-loop-firm g l = record {
  count : length l.made.items ≡ l.firm-index;
  few : (f : ℕ) → f < l.firm-index → length (sides_of l.head.ends f) ≤ most_own_trades;
  known : All g.F.FromKinds.known l.made.items;
  rest : each (one_firm g.F.FromKinds.tested l.head) (map g.F.FromKinds.firm l.made.items)
      (items_view (drop l.firm-index l.firms)) ≡ each (one_firm g.F.FromKinds.tested l.head) [] (items_view l.firms);
}
