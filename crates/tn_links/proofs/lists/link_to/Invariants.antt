-- What the search of a node's list keeps.
use Rattle.std.proofs.Common.{◌≡◌, drop}
use Rattle.tn_links.specs.Near.{link_to}
use Rattle.tn_links.proofs.lists.link_to.Given as goal

-- the link is that of the rest of the list
abbrev pub invariant-loop-one : goal.invariant-loop-one
invariant-loop-one l = link_to l.near l.v ≡ link_to (drop l.one-index l.near) l.v
