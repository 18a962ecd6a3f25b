-- What the loops of `said_nodes` of `src/nodes.rt` keep.
use Rattle.std.proofs.Common.{◌≡◌, map, take}
use Rattle.tn_market.specs.Supported.{said_node}
use Rattle.tn_market.proofs.nodes.said_nodes.Given as goal

abbrev pub invariant-loop-node : goal.invariant-loop-node
invariant-loop-node l = l.said.items ≡ map (said_node l.null) (take l.node-index l.nodes)
