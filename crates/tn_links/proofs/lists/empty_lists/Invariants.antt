-- What the making of empty lists keeps.
use Rattle.std.proofs.Common.{[]}
use Rattle.tn_links.specs.Near.{AreListed, rows}
use Rattle.tn_links.proofs.lists.empty_lists.Given as goal

-- each of the first nodes has none
abbrev pub invariant-loop-v : goal.invariant-loop-v
invariant-loop-v l = AreListed l.v [] (rows l.near.items)
