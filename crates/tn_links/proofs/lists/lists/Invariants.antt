-- What the making of the lists keeps.
use Rattle.std.proofs.Common.{take}
use Rattle.tn_links.specs.Near.{AreListed, rows}
use Rattle.tn_links.proofs.lists.lists.Given as goal

-- each node has its links among the first ones
abbrev pub invariant-loop-j : goal.invariant-loop-j
invariant-loop-j l = AreListed l.nodes (take l.j l.links) (rows l.near.items)
