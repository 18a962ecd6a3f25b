-- What shows the clauses of `write_unit_firm` of `src/rows.rt`.
use Rattle.std.proofs.Common.{◌≡◌, ℕ, List, ◌∷◌, [], ◌++◌, Some, subst, to_z, of_z}
use Rattle.std.specs.Prelude.{OnOk}
use Rattle.std.specs.Fmt.{signed_decimal}
use Rattle.std.proofs.lemmas.Int.{to_z-of_z}
use mir.Syntax.{w128}
use Rattle.csv.specs.Writing.{default_writer, fields_written, has_written, row_text, text_written, writer_setup}
use Rattle.tn_answer.specs.Rows.{IsBetweenRows, bound_text, unit_bundle_text, unit_firm_row, flag_text}
use Rattle.tn_answer.proofs.FitLemmas.{wide}
use Rattle.tn_answer.proofs.rows.write_unit_firm.Goals as goal

pub returns : goal.returns
returns c = λ text before.
    let written = c.write_row.new.writer in
    let told = c.args.holding.now in
    let trades = c.args.names.now.trades in
    let same : c.firm_name_at.result.now ∷ flag_text c.is_nothing.result ∷ bound_text told.worth ∷ bound_text
    told.utility ∷ signed_decimal (to_z w128 (of_z w128 told.best_utility)) ∷ bound_text told.gain
    ∷ unit_bundle_text trades told.has ∷ unit_bundle_text trades told.best ∷ [] ≡ unit_firm_row c.args.names.now c.args.k told =
    λ j. c.firm_name_at.ensures j ∷ flag_text (c.is_nothing.ensures j) ∷ bound_text told.worth ∷ bound_text told.utility
    ∷ signed_decimal (to_z-of_z w128 told.best_utility (wide told.best_utility c.requires.best_utility) j) ∷
    bound_text told.gain
    ∷ unit_bundle_text trades told.has ∷ unit_bundle_text trades told.best ∷ [] in
    subst (λ (row : List (List ℕ)). OnOk c.write_row.result
    (IsBetweenRows (text_written (λ v. Some v.items) written) (writer_setup written) (fields_written written)
    (has_written written) (text ++ row_text default_writer row)))
    same (c.write_row.ensures text before)
