-- What the look at the levels keeps.
use Rattle.std.proofs.Common.{◌≡◌, ℕ, ◌<◌, ◌≤◌, Some}
use Rattle.std.specs.Prelude.{slice_get}
use Rattle.tn_links.specs.declared.link.Link.{Link}
use Rattle.tn_links.specs.Links.{room}
use Rattle.tn_links.proofs.balances.are_within.Given as goal

-- the first levels are within
abbrev pub invariant-loop-j : goal.invariant-loop-j
invariant-loop-j l = (j level : ℕ) (link : Link) → j < l.j → slice_get l.links j ≡ Some link → slice_get l.levels j ≡ Some level
    → level ≤ room link.steps.items
