-- What shows the clauses of `Laminar::numbers` of `src/laminar.rt`.
use Rattle.std.proofs.Common.{rules, ◌≡◌, ◌<◌, ◌≤◌, sym, ◌∙◌, subst, arith, length, None, ℤ, ◌+◌}
use Rattle.tn_laminar.proofs.ValueLemmas.{CountsSoFar, counts_more, counts_stop, step_is}
use Rattle.tn_laminar.proofs.laminar.Laminar.numbers.Goals as goal

pub returns-in_err-total-clause-sum : goal.returns-in_err-total-clause-sum
returns-in_err-total-clause-sum c =
    let none : c.number.result ≡ None = search rules in
    let gives : c.from_residual.result ≡ None = search rules in
    let inside : c.loop-k.k < length c.args.self.now.sets.items = search rules in
    gives ∙ counts_stop c.args.self.now.buys c.args.self.now.sets.items c.args.x c.loop-k.k _ inside
    (sym c.number.ensures.number ∙ none) c.loop-k.invariant

pub loop-k-preserved : goal.loop-k-preserved
loop-k-preserved c =
    let inside : c.loop-k.k < length c.args.self.now.sets.items = search rules in
    let few = c.args.self.now.laminar.few_sets in
    let number = c.in_ok-total.ensures in
    let here : c.loop-k.k ≤ 64 = omega (arith, inside, few) in
    subst (λ (z : ℤ). CountsSoFar c.args.self.now.buys c.args.self.now.sets.items c.args.x (c.loop-k.k + 1) z)
    (sym (step_is _ c.in_ok-total.field-0 c.loop-k.k here c.loop-k.invariant.small number.small))
    (counts_more c.args.self.now.buys c.args.self.now.sets.items c.args.x c.loop-k.k _ c.in_ok-total.field-0 inside
    (sym number.number) number.small c.loop-k.invariant)
