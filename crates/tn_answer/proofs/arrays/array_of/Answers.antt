-- What shows the clauses of `array_of` of `src/arrays.rt`.
use Rattle.std.proofs.Common.{ap, map, ◌∙◌, arith}
use Rattle.serde_json.specs.Data.{array}
use Rattle.serde_json.proofs.Views.{view-Array}
use Rattle.serde_json.specs.View.{view, items_of}
use Rattle.tn_answer.proofs.MapLemmas.{take-push, taken-whole}
use Rattle.tn_answer.proofs.arrays.array_of.Goals as goal

pub loop-k-preserved : goal.loop-k-preserved
loop-k-preserved g c =
    ap (map view) c.in_ok-push.ensures.items
    ∙ take-push view c.loop-k.values.items (g.L.Items.values_data c.args.names.now c.args.list.now) c.loop-k.k
    c.loop-k.invariant _ c.in_ok-value_at.ensures

pub returns : goal.returns
returns g c =
    let counted = c.count-k-end.ensures c.args.names.now in
    let items = taken-whole (map view c.loop-k.values.items) (g.L.Items.values_data c.args.names.now c.args.list.now)
    c.loop-k.k c.loop-k.invariant (omega (arith, counted)) in
    view-Array c.loop-k.values ∙ ap (λ ds. array (items_of ds)) items
