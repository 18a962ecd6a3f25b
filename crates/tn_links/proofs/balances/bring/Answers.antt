-- What shows the clauses of `bring` of `src/balances.rt`.
use Rattle.std.proofs.Common.{◌≡◌, ◌+ℤ◌, ◌∙◌, ℤ, ap, length, get_or, arith, pos, to_z, of_z}
use Rattle.std.proofs.lemmas.Int.{ints}
use Rattle.std.proofs.lemmas.List.{length-set}
use mir.Syntax.{w128}
use Rattle.tn_links.specs.Flows.{brought}
use Rattle.tn_links.proofs.BalanceLemmas.{brought_by}
use Rattle.tn_links.proofs.balances.bring.Goals as goal

pub returns-clause-brought : goal.returns-clause-brought
returns-clause-brought c = λ v.
    let before = c.args.balances.now.items in
    let flow : ℤ = to_z w128 (of_z w128 c.flow_at-flow.result) in
    let small = c.flow_at-flow.ensures.small in
    let same : flow ≡ c.flow_at-flow.result = omega (arith, ints, small.low, small.high) in
    let sized = ap length c.add_at.ensures
    ∙ length-set before c.args.link.now.head (get_or before c.args.link.now.head (pos 0) +ℤ flow) in
    let tail = c.requires.tail in
    brought_by before c.add_at.new.numbers.items c.take_at.new.numbers.items c.args.link.now flow v
    c.requires.head (omega (arith, sized, tail)) c.add_at.ensures c.take_at.ensures
    ∙ ap (λ (z : ℤ). get_or before v (pos 0) +ℤ brought c.args.link.now z v) (same ∙ c.flow_at-flow.ensures.flow)
