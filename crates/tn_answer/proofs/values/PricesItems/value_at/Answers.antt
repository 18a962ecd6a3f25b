-- What shows the clauses of `value_at` of the list of prices in `src/values.rt`.
use Rattle.std.proofs.Common.{sym, subst, ap, ◌∙◌, arith, FitsSigned}
use Rattle.std.specs.Int.{w64}
use Rattle.std.proofs.lemmas.Int.{to_z-of_z}
use Rattle.std.proofs.lemmas.Result.{IfOk-weaker}
use mir.Syntax.{w128}
use Rattle.tn_answer.specs.AnswerText.{price_data}
use Rattle.tn_answer.proofs.EachLemmas.{each-here, each-length}
use Rattle.tn_answer.proofs.FitLemmas.{all-there, fits, wide}
use Rattle.tn_answer.proofs.values.PricesItems.value_at.Goals as goal

pub at-requires : goal.at-requires
at-requires c =
    let counted = each-length (price_data c.args.names.now.trades) 0 c.args.self.now in
    omega (arith, counted)

pub price_value-requires : goal.price_value-requires
price_value-requires c =
    let short = all-there (FitsSigned w64) c.args.self.now c.args.k c.at.result c.requires.short c.at.ensures in
    subst (FitsSigned w64) (sym (to_z-of_z w128 c.at.result (wide c.at.result short))) short

pub returns : goal.returns
returns c = IfOk-weaker c.price_value.result _ _ (λ value same.
    each-here (price_data c.args.names.now.trades) c.args.self.now c.args.k c.at.result _ c.at.ensures
    (same ∙ ap (price_data c.args.names.now.trades c.args.k) (to_z-of_z w128 c.at.result
    (fits c.args.self.now c.args.k c.at.result c.requires.short c.at.ensures)))) c.price_value.ensures
