-- What shows the clauses of `read_rows` of `src/rows.rt`.
use Rattle.std.proofs.Common.{Ok, ap, sym, ◌∙◌, ◌^◌, ◌≡◌, ◌≤◌, None, length, arith}
use Rattle.std.proofs.lemmas.List.{length-replicate}
use Rattle.std.proofs.lemmas.Result.{err_from_is_err_and}
use Rattle.std.proofs.Math.Nat.{pow-le-pow_right}
use Rattle.serde_json.specs.View.{items_view}
use Rattle.tn_exchange.specs.Rows.{TableRows, without_rows}
use Rattle.tn_read_shapes.specs.Reading.{◌>>=◌, each}
use Rattle.tn_read_references.specs.Ordered.{sides_of}
use Rattle.tn_read_firms.specs.Tables.{filled_count, full_if_large, one_row, rows_of}
use Rattle.tn_read_shapes.proofs.EachLemmas.{each_goes_on, each_is_done, each_fails, fails_then}
use Rattle.tn_read_firms.proofs.RowLemmas.{filled_le, filled-none}
use Rattle.tn_read_firms.proofs.rows.read_rows.Goals as goal

pub loop-row-init : goal.loop-row-init
loop-row-init c =
    let made = c.in_ok-table.ensures ∙ ap without_rows (c.in_ok-sides.ensures
    ∙ ap (λ ends. sides_of ends c.args.f) c.ends.ensures.is) in
    record {
      sides = ap (λ (t : TableRows). t.sides) made;
      places = ap (λ (t : TableRows). length t.rows) made ∙ length-replicate _ None
          ∙ ap (λ (t : TableRows). 2 ^ length t.sides) (sym made);
      filled = sym (ap (λ (t : TableRows). filled_count t.rows) made
          ∙ filled-none (2 ^ length (sides_of c.args.head.now.ends c.args.f)));
      rest = ap (λ (t : TableRows). each (one_row c.args.head.now c.args.f) (record { count = 0; table = t })
          (items_view c.args.rows.now)) made;
    }

pub returns-in_err-read_row-clause-gives : goal.returns-in_err-read_row-clause-gives
unfolding rows_of
returns-in_err-read_row-clause-gives c =
    let p = err_from_is_err_and c.from_residual-in_err-read_row.result c.from_residual-in_err-read_row.ensures.1 in
    rw (p.1, p.2) (fails_then c.in_err-read_row.field-0.0 _ _
    (each_fails (one_row c.args.head.now c.args.f) c.in_err-read_row.field-0.0 c.args.rows.now c.loop-row.row-index
    c.row-item.result _ _ c.loop-row-test.true (rw (← c.row-item.is) c.in_err-read_row.ensures.gives)
    c.loop-row.invariant.rest))

pub overflow_add-count : goal.overflow_add-count
overflow_add-count c =
    let i = c.loop-row.invariant in
    let most : 2 ^ length (sides_of c.args.head.now.ends c.args.f) ≤ 16384 =
    pow-le-pow_right (omega arith) c.requires.few in
    let places : length c.loop-row.table.rows ≡ 2 ^ length (sides_of c.args.head.now.ends c.args.f) =
    i.places ∙ ap (λ sides. 2 ^ length sides) i.sides in
    omega (arith, i.filled, filled_le c.loop-row.table.rows, places, most)

pub loop-row-preserved : goal.loop-row-preserved
loop-row-preserved c =
    let i = c.loop-row.invariant in
    let after = c.in_ok-read_row.ensures in
    record {
      sides = after.sides ∙ i.sides;
      places = after.places ∙ i.places ∙ ap (λ sides. 2 ^ length sides) (sym after.sides);
      filled = omega (arith, after.filled, i.filled);
      rest = each_goes_on (one_row c.args.head.now c.args.f) c.args.rows.now c.loop-row.row-index c.row-item.result _ _
          _ c.loop-row-test.true (rw (← c.row-item.is) after.gives) i.rest;
    }

pub returns-in_err-check_full-clause-gives : goal.returns-in_err-check_full-clause-gives
unfolding rows_of
returns-in_err-check_full-clause-gives c =
    let p = err_from_is_err_and c.from_residual-in_err-check_full.result c.from_residual-in_err-check_full.ensures.1 in
    let done = each_is_done (one_row c.args.head.now c.args.f) c.args.rows.now c.loop-row.row-index _ _
    c.loop-row-test.false c.loop-row.invariant.rest in
    rw (p.1, p.2, done) (fails_then c.in_err-check_full.field-0.0 (full_if_large c.args.f c.loop-row.table) _
    c.in_err-check_full.ensures.gives)

pub returns-clause-gives : goal.returns-clause-gives
unfolding rows_of
returns-clause-gives c =
    let done = each_is_done (one_row c.args.head.now c.args.f) c.args.rows.now c.loop-row.row-index _ _
    c.loop-row-test.false c.loop-row.invariant.rest in
    rw done (ap (λ r. r >>= λ full. Ok c.loop-row.table) c.in_ok-check_full.ensures.gives)

pub returns-clause-few : goal.returns-clause-few
returns-clause-few c =
    let same : length c.loop-row.table.sides ≡ length (sides_of c.args.head.now.ends c.args.f) =
    ap length c.loop-row.invariant.sides in
    omega (arith, same, c.requires.few)
