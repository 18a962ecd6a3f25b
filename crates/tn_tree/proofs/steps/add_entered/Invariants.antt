-- The steps so far, before those of the nodes left.
use Rattle.std.proofs.Common.{◌≡◌, ◌++◌, drop}
use Rattle.tn_tree.specs.Steps.{entered}
use Rattle.tn_tree.proofs.steps.add_entered.Given as goal

abbrev pub invariant-loop-node : goal.invariant-loop-node
invariant-loop-node l = l.steps.items ++ entered l.market l.before (drop l.node-index l.nodes)
    ≡ l.initial.steps.items ++ entered l.market l.from l.nodes
