-- What shows the clauses of `check_full` of `src/rows.rt`.
use Rattle.std.proofs.Common.{◌≡◌, ◌++◌, [], ◌∷◌, length, Bool, ap, sym, ◌∙◌, subst, arith}
use Rattle.std.specs.Prelude.{nat_le, ◌||◌}
use Rattle.std.proofs.lemmas.Bool.{le-leb, lt-leb, or_left}
use Rattle.tn_said.specs.declared.fault.FaultKind.TheVariants.{Limit}
use Rattle.tn_said.specs.declared.place.PlaceStep.TheVariants.{Key}
use Rattle.tn_said.specs.declared.place.Word.TheVariants.{Rows as RowsWord}
use Rattle.tn_read_shapes.specs.Reading.{Gives, holds}
use Rattle.tn_read_references.specs.References.{firm_place}
use Rattle.tn_read_firms.specs.Tables.{full_if_large, has_each_row}
use Rattle.tn_read_firms.proofs.FullLemmas.{full_is}
use Rattle.tn_read_firms.proofs.rows.check_full.Goals as goal
use Rattle.tn_read_firms.proofs.rows.check_full.Goals.{then-trades-le10, else-trades-le10}

pub returns-clause-gives : goal.returns-clause-gives
unfolding full_if_large
returns-clause-gives c =
    let table = c.args.table.now in
    let many = length table.sides in
    let each = has_each_row table.rows in
    let same : c.if-trades-le10.full ≡ (nat_le many 10 || each) = elim c.if-trades-le10.branch [
      | then-trades-le10 w ↦ w.full-is ∙ le-leb c.trades.result 10 w.if-trades-le10.true
          ∙ sym (or_left (nat_le many 10) each (le-leb many 10
          (omega (arith, c.trades.ensures.count, w.if-trades-le10.true))))
      | else-trades-le10 w ↦
          w.full-is ∙ full_is table w.full-full.result c.trades.ensures.within.places w.full-full.ensures
          ∙ sym (ap (λ b. b || each) (lt-leb many 10 (omega (arith, c.trades.ensures.count, w.if-trades-le10.false))))
    ] in
    subst (λ (b : Bool). Gives (λ _. tt) c.require.result (holds Limit (firm_place c.args.f ++ Key RowsWord ∷ []) b))
    same c.require.ensures.gives
