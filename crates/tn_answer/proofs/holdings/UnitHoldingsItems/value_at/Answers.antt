-- What shows the clauses of `value_at` of the list of holdings with units in `src/holdings.rt`.
use Rattle.std.proofs.Common.{arith}
use Rattle.std.proofs.lemmas.Result.{IfOk-weaker}
use Rattle.tn_answer.specs.AnswerText.{unit_holding_data}
use Rattle.tn_answer.specs.Sayable.{IsShortUnitHolding}
use Rattle.tn_answer.proofs.EachLemmas.{each-here, each-length}
use Rattle.tn_answer.proofs.FitLemmas.{all-there}
use Rattle.tn_answer.proofs.holdings.UnitHoldingsItems.value_at.Goals as goal

pub at-requires : goal.at-requires
at-requires c =
    let counted = each-length (unit_holding_data c.args.names.now) 0 c.args.self.now in
    omega (arith, counted)

pub unit_holding_value-requires : goal.unit_holding_value-requires
unit_holding_value-requires c = all-there IsShortUnitHolding c.args.self.now c.args.k c.at.result.now c.requires.short
    c.at.ensures

pub returns : goal.returns
returns c = IfOk-weaker c.unit_holding_value.result _ _ (λ value same.
    each-here (unit_holding_data c.args.names.now) c.args.self.now c.args.k c.at.result.now _ c.at.ensures
    same) c.unit_holding_value.ensures
