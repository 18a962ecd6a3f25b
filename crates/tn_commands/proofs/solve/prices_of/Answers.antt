-- What shows the clauses of `prices_of` of `src/solve.rt`.
use Rattle.std.proofs.Common.{ℤ, [], ◌∷◌, ◌++◌, ap, ◌∙◌, arith, rules}
use Rattle.std.proofs.lemmas.Int.{to_z-of_z}
use mir.Syntax.{w128}
use mir.Val.{SFits}
use Rattle.tn_commands.proofs.SolveLemmas.{one_more_price, all_prices}
use Rattle.tn_commands.proofs.solve.prices_of.Goals as goal

pub loop-t-preserved : goal.loop-t-preserved
loop-t-preserved c =
    let below = c.loop-t-test.true in
    let counted = c.requires in
    let fits : SFits w128 c.price.result = search rules in
    one_more_price c.args.solver.now.prices c.loop-t.prices.items c.push.new.self.items c.loop-t.t c.price.result
    (omega (arith, below, counted)) c.loop-t.invariant c.price.ensures
    (c.in_ok-push.ensures.items ∙ ap (λ (z : ℤ). c.loop-t.prices.items ++ z ∷ []) (to_z-of_z w128 c.price.result fits))

pub returns : goal.returns
returns c =
    let whole = all_prices c.args.solver.now.prices c.loop-t.prices.items c.loop-t.t c.args.count c.loop-t.invariant
    c.requires c.loop-t-test.false in
    c.from_vec.ensures ∙ whole
