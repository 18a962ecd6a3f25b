-- What shows the clauses of `ends_of` of `src/solve.rt`.
use Rattle.std.proofs.Common.{[], ◌∷◌, ◌++◌, ap, sym, ◌∙◌, arith, take, add-one}
use Rattle.tn_answer.proofs.MapLemmas.{take-suc-at, take-whole}
use Rattle.tn_commands.proofs.solve.ends_of.Goals as goal

pub loop-t-preserved : goal.loop-t-preserved
loop-t-preserved c =
    let trades = c.args.market.now.trades in
    c.in_ok-push.ensures.items ∙ (λ i. c.loop-t.invariant i ++ c.ends.result ∷ [])
    ∙ sym (take-suc-at trades c.loop-t.t c.ends.result c.ends.ensures)
    ∙ ap (λ n. take n trades) (sym (add-one c.loop-t.t))

pub returns : goal.returns
returns c =
    let trades = c.args.market.now.trades in
    let counted = c.trades-count.ensures.count in
    let end = c.loop-t-test.false in
    c.from_vec.ensures ∙ c.loop-t.invariant ∙ take-whole trades c.loop-t.t (omega (arith, counted, end))
