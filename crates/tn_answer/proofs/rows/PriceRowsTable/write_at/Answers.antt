-- What shows the clauses of `write_at` of the table of `price_rows` in `src/rows.rt`.
use Rattle.std.proofs.Common.{sym, subst, ap, ◌∙◌, arith, FitsSigned}
use Rattle.std.specs.Int.{w64}
use Rattle.std.proofs.lemmas.Int.{to_z-of_z}
use mir.Syntax.{w128}
use Rattle.tn_answer.specs.Cells.{on_text}
use Rattle.tn_answer.specs.Rows.{price_row}
use Rattle.tn_answer.proofs.EachLemmas.{each-is, each-length}
use Rattle.tn_answer.proofs.FitLemmas.{all-there, fits, wide}
use Rattle.tn_answer.proofs.rows.PriceRowsTable.write_at.Goals as goal

pub at-requires : goal.at-requires
at-requires c =
    let counted = each-length (price_row c.args.names.now (on_text c.args.self.now.on)) 0 c.args.self.now.prices.now in
    omega (arith, counted)

pub write_price-requires : goal.write_price-requires
write_price-requires c =
    let short = all-there (FitsSigned w64) c.args.self.now.prices.now c.args.k c.at.result c.requires.short
    c.at.ensures in
    subst (FitsSigned w64) (sym (to_z-of_z w128 c.at.result (wide c.at.result short))) short

pub returns : goal.returns
returns c = λ text row there before.
    let same = ap (price_row c.args.names.now (on_text c.args.self.now.on) c.args.k) (to_z-of_z w128 c.at.result
    (fits c.args.self.now.prices.now c.args.k c.at.result c.requires.short c.at.ensures))
    ∙ each-is (price_row c.args.names.now (on_text c.args.self.now.on)) c.args.self.now.prices.now c.args.k c.at.result row
    c.at.ensures there in
    rw (← same) (c.write_price.ensures text before)
