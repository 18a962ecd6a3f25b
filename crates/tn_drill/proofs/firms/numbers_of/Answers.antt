-- What shows the clauses of `numbers_of` of `src/firms.rt`.
use Rattle.std.proofs.Common.{ℤ, List, ap, sym, ◌∙◌, ◌++◌, ◌∷◌, [], Vec, Global, rules}
use Rattle.std.proofs.lemmas.Int.{to_z-of_z}
use mir.Syntax.{w128}
use mir.Val.{SFits}
use Rattle.tn_drill.proofs.NumberLemmas.{numbers_own, numbers_other}
use Rattle.tn_drill.proofs.firms.numbers_of.Goals.{in-Some+in_ok-push, in_default}
use Rattle.tn_drill.proofs.firms.numbers_of.Goals as goal

pub loop-draw-preserved : goal.loop-draw-preserved
loop-draw-preserved c =
    elim c.match-number_to.branch [
      | in-Some+in_ok-push w ↦
          let fits : SFits w128 w.in-Some.number = search rules in
          ap (λ (v : Vec ℤ Global). v.items) w.numbers-is ∙ w.in_ok-push.ensures.items
          ∙ ap (λ (z : ℤ). c.loop-draw.numbers.items ++ z ∷ []) (to_z-of_z w128 w.in-Some.number fits)
          ∙ ap (λ (numbers : List ℤ). numbers ++ w.in-Some.number ∷ []) c.loop-draw.invariant
          ∙ sym (numbers_own c.args.f c.args.draws.now c.loop-draw.draw-index _ w.in-Some.number c.loop-draw-test.true
          (sym c.number_to.ensures ∙ w.in-Some.is))
      | in_default w ↦
          ap (λ (v : Vec ℤ Global). v.items) w.numbers-is ∙ c.loop-draw.invariant
          ∙ sym (numbers_other c.args.f c.args.draws.now c.loop-draw.draw-index _ c.loop-draw-test.true
          (sym c.number_to.ensures ∙ w.in_default.is))
    ]
