-- What shows the clauses of `Graph::cut` of `src/reading.rt`.
use Rattle.std.proofs.Common.{arith}
use Rattle.tn_graph.proofs.DetachLemmas.{cut_all, listed_node}
use Rattle.tn_graph.proofs.graph.Graph.cut.Goals as goal

pub set-requires-clause-to : goal.set-requires-clause-to
set-requires-clause-to c =
    listed_node c.args.rises c.args.t c.loop-k.k c.listed_at-u.result c.listed-k-end.result c.args.self.now
    c.loop-k.self c.loop-k.invariant c.requires c.listed-k-end.ensures c.loop-k-test.true c.listed_at-u.ensures

pub set-requires-else-rises-clause-from : goal.set-requires-else-rises-clause-from
set-requires-else-rises-clause-from c =
    listed_node c.args.rises c.args.t c.loop-k.k c.listed_at-u.result c.listed-k-end.result c.args.self.now
    c.loop-k.self c.loop-k.invariant c.requires c.listed-k-end.ensures c.loop-k-test.true c.listed_at-u.ensures

pub returns : goal.returns
returns c =
    let past = c.loop-k-test.false in
    let count = c.listed-k-end.ensures in
    cut_all c.args.rises c.args.t c.loop-k.k c.args.self.now c.loop-k.self c.loop-k.invariant c.requires
    (omega (arith, past, count))
