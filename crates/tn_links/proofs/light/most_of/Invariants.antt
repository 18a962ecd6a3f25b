-- What the look at the links keeps.
use Rattle.std.proofs.Common.{◌≡◌, ◌<◌, ℕ, Some}
use Rattle.std.specs.Prelude.{slice_get}
use Rattle.tn_links.specs.declared.link.Link.{Link}
use Rattle.tn_links.specs.Links.{AddAtMost}
use Rattle.tn_links.proofs.light.most_of.Given as goal

-- no unit of the first links adds more
abbrev pub invariant-loop-j : goal.invariant-loop-j
invariant-loop-j l = (i : ℕ) (link : Link) → i < l.j → slice_get l.links.links.items i ≡ Some link
    → AddAtMost l.most link.steps.items
