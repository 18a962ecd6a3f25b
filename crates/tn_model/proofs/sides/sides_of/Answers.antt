-- What shows the clauses of `sides_of` of `src/sides.rt`.
use Rattle.std.proofs.Common.{ap, sym, ◌∙◌, ◌++◌, ◌∷◌, [], Vec, Global}
use Rattle.tn_base.specs.declared.side.Side.{Side}
use Rattle.tn_model.proofs.InOrderLemmas.{sides_of-none, sides_of-own, sides_of-other}
use Rattle.tn_model.proofs.sides.sides_of.Goals.{in-Some+in_ok-push, in_default}
use Rattle.tn_model.proofs.sides.sides_of.Goals as goal

pub loop-trade-init : goal.loop-trade-init
loop-trade-init c = c.new-sides.ensures.items ∙ sym (sides_of-none c.args.f)

pub loop-trade-preserved : goal.loop-trade-preserved
loop-trade-preserved c =
    elim c.match-side_in.branch [
      | in-Some+in_ok-push w ↦ ap (λ (v : Vec Side Global). v.items) w.sides-is ∙ w.in_ok-push.ensures.items
          ∙ ap (λ sides. sides ++ w.in-Some.side ∷ []) c.loop-trade.invariant
          ∙ sym (sides_of-own c.args.f c.args.trades.now c.loop-trade.trade-index _ w.in-Some.side
          c.loop-trade-test.true (sym c.side_in.ensures ∙ w.in-Some.is))
      | in_default w ↦ ap (λ (v : Vec Side Global). v.items) w.sides-is ∙ c.loop-trade.invariant
          ∙ sym (sides_of-other c.args.f c.args.trades.now c.loop-trade.trade-index _ c.loop-trade-test.true
          (sym c.side_in.ensures ∙ w.in_default.is))
    ]
