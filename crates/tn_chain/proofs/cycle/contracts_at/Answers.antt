-- What shows the clauses of `contracts_at` of `src/cycle.rt`.
use Rattle.std.proofs.Common.{◌≡◌, ℕ, arith, sym, subst}
use Rattle.tn_chain.specs.Listed.{AreAtNodes}
use Rattle.tn_chain.proofs.CycleLemmas.{none_at_nodes, one_at_node}
use Rattle.tn_chain.proofs.cycle.contracts_at.Goals as goal

pub loop-k-init : goal.loop-k-init
loop-k-init c =
    none_at_nodes c.args.contracts.now c.args.solver.now.prices c.args.finder.now.listed c.args.first
    c.in_ok-made.made.items c.in_ok-made.ensures.items

pub loop-k-preserved : goal.loop-k-preserved
loop-k-preserved c =
    one_at_node c.args.contracts.now c.args.solver.now.prices c.args.finder.now.listed c.args.first c.loop-k.k
    c.at.result c.loop-k.made.items _ c.contract_on.result
    c.loop-k.invariant c.at.ensures c.contract_on.ensures.trade c.contract_on.ensures.price c.in_ok-push.ensures.items

pub returns : goal.returns
returns c =
    let test = c.loop-k-test.false in
    let end = c.loop-k.auto.k-end in
    let order = c.requires.order in
    let done : c.loop-k.k ≡ c.args.count = omega (arith, test, end, order) in
    subst (λ (n : ℕ). AreAtNodes c.args.contracts.now c.args.solver.now.prices c.args.finder.now.listed c.args.first n
    c.from_vec.result) done
    (subst (AreAtNodes c.args.contracts.now c.args.solver.now.prices c.args.finder.now.listed c.args.first c.loop-k.k)
    (sym c.from_vec.ensures) c.loop-k.invariant)
