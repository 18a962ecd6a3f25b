-- What shows the clauses of `Sunk::successors` of `src/graphs.rt`.
use Rattle.std.proofs.Common.{◌<◌, arith}
use Rattle.tn_cycle.proofs.CountLemmas.{predecessors_most}
use Rattle.tn_cycle.proofs.graphs.SunkCosts.successors.Goals as goal

pub overflow_add-result : goal.overflow_add-result
overflow_add-result g c =
    let it = c.args.self.now in
    let costs = it.costs.now in
    let a = c.args.a in
    let inside : a < g.C.Costs.node_count costs = omega (arith, c.requires.from, c.if-a-self.false, it.last) in
    let most = predecessors_most (g.C.Costs.node_count costs) (λ u v. g.C.Costs.arc costs v u) a
    (g.C.Costs.successor_count costs a) (g.C.Costs.successor_at costs a)
    (g.met.C.Costs.lists_successors costs a inside) in
    omega (arith, most, c.successors.ensures, it.last, it.few)
