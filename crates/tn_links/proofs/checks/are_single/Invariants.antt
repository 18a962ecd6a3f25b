-- What the look at the links keeps.
use Rattle.tn_links.proofs.ListLemmas.{AreFound}
use Rattle.tn_links.proofs.checks.are_single.Given as goal

-- each of the first ones is found between its ends
abbrev pub invariant-loop-j : goal.invariant-loop-j
invariant-loop-j l = AreFound l.links l.j
