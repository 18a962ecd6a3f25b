-- What shows the clauses of `counts_value` of `src/counts.rt`.
use Rattle.std.proofs.Common.{◌≡◌, ℕ, Bool, List, [], ◌∷◌, map, flat_map, if◌then◌else◌, ne_eqb, eq-eqb, sym, ap, ◌∙◌, arith}
use Rattle.serde_json.specs.Data.{Data, array}
use Rattle.serde_json.proofs.Views.{view-Array}
use Rattle.serde_json.specs.View.{view, items_of}
use Rattle.tn_answer.specs.AnswerText.{count_data, count_items}
use Rattle.tn_answer.specs.Rows.{each_from}
use Rattle.tn_answer.proofs.EachLemmas.{each-here, each-length}
use Rattle.tn_answer.proofs.MapLemmas.{flat-kept, flat-push, take-whole}
use Rattle.tn_answer.proofs.counts.counts_value.Goals as goal
use Rattle.tn_answer.proofs.counts.counts_value.Goals.{then-units-ne0+in_ok-count_value+in_ok-push, else-units-ne0}

-- a trade with units has an item, and one without has none
one_item : (names : List (List ℕ)) (k units : ℕ) → (units ≡ 0 → ⊥) → (value : Data) → value ≡ count_data names k units
    → value ∷ [] ≡ count_items names k units
one_item names k units some value same =
    ap (λ d. d ∷ []) same
    ∙ ap (λ (none : Bool). if none then [] else count_data names k units ∷ []) (sym (ne_eqb units 0 some))

no_item : (names : List (List ℕ)) (k units : ℕ) → units ≡ 0 → [] ≡ count_items names k units
no_item names k units none =
    ap (λ (none : Bool). if none then [] else count_data names k units ∷ []) (sym (eq-eqb units 0 none))

pub loop-k-preserved : goal.loop-k-preserved
loop-k-preserved c =
    let names = c.args.names.now.trades in
    let counts = c.args.counts.now in
    let done = c.loop-k.values.items in
    let all = each_from (count_items names) 0 counts in
    let units = c.at-units.result in
    elim c.if-units-ne0.branch [
      | then-units-ne0+in_ok-count_value+in_ok-push w ↦
          let there = each-here (count_items names) counts c.loop-k.k units _ c.at-units.ensures
          (one_item names c.loop-k.k units w.if-units-ne0.true _ w.in_ok-count_value.ensures) in
          ap (λ values. map view values.items) w.values-is ∙ ap (map view) w.in_ok-push.ensures.items
          ∙ flat-push view done all c.loop-k.k c.loop-k.invariant _ there
      | else-units-ne0 w ↦
          let there = each-here (count_items names) counts c.loop-k.k units [] c.at-units.ensures
          (no_item names c.loop-k.k units w.if-units-ne0.false) in
          ap (λ values. map view values.items) w.values-is
          ∙ flat-kept view done all c.loop-k.k c.loop-k.invariant there
    ]

pub returns : goal.returns
returns c =
    let names = c.args.names.now.trades in
    let all = each_from (count_items names) 0 c.args.counts.now in
    let counted = each-length (count_items names) 0 c.args.counts.now in
    let items = c.loop-k.invariant
    ∙ ap (flat_map (λ ds. ds)) (take-whole all c.loop-k.k (omega (arith, counted))) in
    view-Array c.loop-k.values ∙ ap (λ ds. array (items_of ds)) items
