-- What the making of links keeps.
use Rattle.std.proofs.Common.{take}
use Rattle.tn_dimacs.specs.Served.{AreLinksOf}
use Rattle.tn_dimacs.proofs.least.links_of.Given as goal

-- the links so far are those of the first arcs
abbrev pub invariant-loop-arc : goal.invariant-loop-arc
invariant-loop-arc l = AreLinksOf (take l.arc-index l.arcs) l.links.items
