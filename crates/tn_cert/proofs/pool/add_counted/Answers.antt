-- What shows the clauses of `add_counted` of `src/pool.rt`.
use Rattle.std.proofs.Common.{◌∙◌, ◌++◌, ◌≤ℤ◌, ap, sym, subst, take, arith, pos, ℤ, List}
use Rattle.std.proofs.lemmas.Int.{to_z-of_z}
use Rattle.std.proofs.lemmas.List.{append-nil, take_all}
use mir.Syntax.{w128}
use mir.Val.{to_z, of_z}
use Rattle.tn_base.specs.Arcs.{IsAtMost}
use Rattle.tn_model.specs.declared.contract.Contract.{Contract}
use Rattle.tn_model.specs.Choices.{counted}
use Rattle.tn_model.specs.Limits.{most_claimed_over, most_number}
use Rattle.tn_cert.proofs.CountedLemmas.{all_at, counted_more}
use Rattle.tn_cert.proofs.pool.add_counted.Goals as goal

pub loop-k-init : goal.loop-k-init
loop-k-init c = sym (append-nil c.args.pool.now.items)

pub counted_contract-requires-clause-least : goal.counted_contract-requires-clause-least
counted_contract-requires-clause-least c =
    subst (λ (z : ℤ). pos 0 ≤ℤ z) (sym (to_z-of_z w128 c.args.times c.ranges.times)) c.requires.least

pub counted_contract-requires-clause-most : goal.counted_contract-requires-clause-most
counted_contract-requires-clause-most c =
    subst (λ (z : ℤ). z ≤ℤ pos most_claimed_over) (sym (to_z-of_z w128 c.args.times c.ranges.times)) c.requires.most

pub counted_contract-requires-clause-small : goal.counted_contract-requires-clause-small
counted_contract-requires-clause-small c =
    all_at (λ contract. IsAtMost contract.price most_number) c.args.contracts.now c.requires.small c.loop-k.k
    c.at.result c.at.ensures

pub loop-k-preserved : goal.loop-k-preserved
loop-k-preserved c =
    c.in_ok-push.ensures.items
    ∙ counted_more (to_z w128 (of_z w128 c.args.times)) c.args.contracts.now c.args.pool.now.items c.loop-k.pool.items
    c.loop-k.k c.at.result c.counted_contract.result
    c.loop-k.invariant c.at.ensures c.counted_contract.ensures.trade c.counted_contract.ensures.price

pub returns : goal.returns
returns c =
    let count = c.len-k-end.ensures in
    let end = c.loop-k-test.false in
    let items = c.args.pool.now.items in
    let contracts = c.args.contracts.now in
    c.loop-k.invariant
    ∙ ap (λ (z : ℤ). items ++ counted z (take c.loop-k.k contracts)) (to_z-of_z w128 c.args.times c.ranges.times)
    ∙ ap (λ (xs : List Contract). items ++ counted c.args.times xs)
    (take_all c.loop-k.k contracts (omega (arith, count, end)))
