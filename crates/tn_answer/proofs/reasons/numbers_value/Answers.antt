-- What shows the clauses of `numbers_value` of `src/reasons.rt`.
use Rattle.std.proofs.Common.{ap, map, ◌∙◌, arith}
use Rattle.std.proofs.lemmas.List.{length-map}
use Rattle.serde_json.specs.Data.{array, number, unsigned}
use Rattle.serde_json.proofs.Views.{view-Array}
use Rattle.serde_json.specs.View.{view, items_of}
use Rattle.tn_answer.proofs.MapLemmas.{map-there, take-push, taken-whole}
use Rattle.tn_answer.proofs.reasons.numbers_value.Goals as goal

pub loop-k-preserved : goal.loop-k-preserved
loop-k-preserved c =
    let all = map (λ n. number (unsigned n)) c.args.numbers.now in
    let there = map-there (λ n. number (unsigned n)) c.args.numbers.now c.loop-k.k c.at.result _ c.at.ensures
    c.number_value.ensures in
    ap (map view) c.in_ok-push.ensures.items
    ∙ take-push view c.loop-k.values.items all c.loop-k.k c.loop-k.invariant _ there

pub returns : goal.returns
returns c =
    let all = map (λ n. number (unsigned n)) c.args.numbers.now in
    let counted = length-map c.args.numbers.now (λ n. number (unsigned n)) in
    let items = taken-whole (map view c.loop-k.values.items) all c.loop-k.k c.loop-k.invariant
    (omega (arith, counted)) in
    view-Array c.loop-k.values ∙ ap (λ ds. array (items_of ds)) items
