-- What shows the clauses of `go_round` of `src/cycles.rt`.
use Rattle.std.proofs.Common.{◌+◌, map, arith, sym, subst, ℤ, ◌+ℤ◌}
use Rattle.std.proofs.lemmas.Int.{to_z-of_z}
use Rattle.std.proofs.lemmas.List.{length-map}
use mir.Syntax.{w128}
use mir.Val.{SFits, to_z, of_z}
use Rattle.tn_market.proofs.AscentLemmas.{smaller}
use Rattle.tn_base.specs.Widths.{most_cost}
use Rattle.tn_market.specs.Widths.{most_utility}
use Rattle.tn_market.proofs.AskLemmas.{as_is}
use Rattle.tn_cert.specs.Claims.{node_of}
use Rattle.tn_cert.proofs.RoundLemmas.{AreWalked, after_small, one_walked, walked_fits, first_break, all_walked}
use Rattle.tn_cert.proofs.cycles.go_round.Goals as goal

pub overflow_add-total : goal.overflow_add-total
overflow_add-total g c =
    let nodes = map (node_of c.args.null) c.args.nodes.now in
    let arc = g.C.Costs.arc c.args.costs.now in
    let small = after_small arc most_cost (g.met.C.Costs.small c.args.costs.now) nodes c.loop-k.k c.in-Some.cost
    (sym c.in-Some.ensures) in
    let plain = as_is c.in-Some.cost (smaller c.in-Some.cost most_cost most_utility (omega arith) small) in
    let inside = c.loop-k-test.true in
    let count = c.len-k-end.ensures in
    let few = c.requires.nodes.most in
    subst (λ (z : ℤ). SFits w128 (to_z w128 c.loop-k.total-bits +ℤ z)) (sym plain)
    (walked_fits arc nodes c.loop-k.k (to_z w128 c.loop-k.total-bits) c.in-Some.cost c.loop-k.invariant small
    (omega (arith, inside, count, few)))

pub returns-in-None : goal.returns-in-None
returns-in-None g c =
    let inside = c.loop-k-test.true in
    let count = c.len-k-end.ensures in
    let mapped = length-map c.args.nodes.now (node_of c.args.null) in
    first_break (g.C.Costs.arc c.args.costs.now) (map (node_of c.args.null) c.args.nodes.now) c.loop-k.k
    (to_z w128 c.loop-k.total-bits) c.loop-k.invariant
    (omega (arith, inside, count, mapped)) (sym c.in-None.ensures)

pub loop-k-preserved : goal.loop-k-preserved
loop-k-preserved g c =
    let nodes = map (node_of c.args.null) c.args.nodes.now in
    let arc = g.C.Costs.arc c.args.costs.now in
    let small = after_small arc most_cost (g.met.C.Costs.small c.args.costs.now) nodes c.loop-k.k c.in-Some.cost
    (sym c.in-Some.ensures) in
    let plain = as_is c.in-Some.cost (smaller c.in-Some.cost most_cost most_utility (omega arith) small) in
    let inside = c.loop-k-test.true in
    let count = c.len-k-end.ensures in
    let few = c.requires.nodes.most in
    let sum = to_z-of_z w128 (to_z w128 c.loop-k.total-bits +ℤ c.in-Some.cost)
    (walked_fits arc nodes c.loop-k.k (to_z w128 c.loop-k.total-bits) c.in-Some.cost c.loop-k.invariant small
    (omega (arith, inside, count, few))) in
    subst (λ (w : ℤ). AreWalked arc nodes (c.loop-k.k + 1) (to_z w128 (of_z w128 (to_z w128 c.loop-k.total-bits +ℤ w))))
    (sym plain)
    (subst (AreWalked arc nodes (c.loop-k.k + 1)) (sym sum)
    (one_walked arc nodes c.loop-k.k (to_z w128 c.loop-k.total-bits) c.in-Some.cost small c.loop-k.invariant
    (sym c.in-Some.ensures)))

pub returns : goal.returns
returns g c =
    let outside = c.loop-k-test.false in
    let end = c.loop-k.auto.k-end in
    let count = c.len-k-end.ensures in
    let least = c.requires.nodes.least in
    let mapped = length-map c.args.nodes.now (node_of c.args.null) in
    all_walked (g.C.Costs.arc c.args.costs.now) (map (node_of c.args.null) c.args.nodes.now) c.loop-k.k
    (to_z w128 c.loop-k.total-bits) c.loop-k.invariant
    (omega (arith, outside, end, count, mapped)) (omega (arith, outside, count, least))
