-- What shows the clauses of `draw_trades` of `src/network.rt`.
use Rattle.std.proofs.Common.{◌≡◌, ◌+◌, ◌*◌, ◌∷◌, [], ◌++◌, ap, ap₂, ◌∙◌, sym, arith, subst, List, length}
use Rattle.tn_model.specs.declared.ends.Ends.{Ends}
use Rattle.tn_drill.specs.declared.draws.Drawn.{Drawn}
use Rattle.tn_drill.specs.Draws.{IsWithin, state_after}
use Rattle.tn_drill.specs.Drill.{ends_after}
use Rattle.tn_drill.proofs.DrawLemmas.{drawn_within, draws_more, trades_more, trades_counted}
use Rattle.tn_drill.proofs.network.draw_trades.Goals as goal

pub ends_after-requires-clause-within : goal.ends_after-requires-clause-within
ends_after-requires-clause-within c =
    let inside = c.loop-i-test.true in
    let few = c.requires.few in
    subst IsWithin (sym (c.draw-drawn.ensures.drawn c.args.start c.loop-i.invariant.state))
    (drawn_within c.args.start c.loop-i.i (omega (arith, inside, few)))

pub ends_after-requires-clause-few : goal.ends_after-requires-clause-few
ends_after-requires-clause-few c =
    let inside = c.loop-i-test.true in
    let few = c.requires.few in
    let count = ap length (c.deref.ensures.value ∙ c.loop-i.invariant.trades) ∙ trades_counted c.args.start c.loop-i.i
    in
    omega (arith, inside, few, count)

pub loop-i-preserved : goal.loop-i-preserved
loop-i-preserved c =
    let drawn_is = c.draw-drawn.ensures.drawn c.args.start c.loop-i.invariant.state in
    let before = c.loop-i.invariant.trades in
    let next : 3 * c.loop-i.i + 3 ≡ 3 * (c.loop-i.i + 1) = omega arith in
    record {
      trades = c.in_ok-push.ensures.items
          ∙ ap₂ (λ (ts : List Ends) (ends : Ends). ts ++ ends ∷ []) before (c.ends_after.ensures
          ∙ ap₂ ends_after (c.deref.ensures.value ∙ before) drawn_is) ∙ sym (trades_more c.args.start c.loop-i.i);
      draws = c.in_ok-push-2.ensures.items ∙ ap₂ (λ (ds : List Drawn) (d : Drawn). ds ++ d ∷ [])
          c.loop-i.invariant.draws drawn_is ∙ sym (draws_more c.args.start c.loop-i.i);
      state = c.draw-drawn.ensures.state c.args.start c.loop-i.invariant.state ∙ ap (state_after c.args.start) next;
    }
