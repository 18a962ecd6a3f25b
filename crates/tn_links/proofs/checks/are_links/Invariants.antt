-- What the look at the links keeps.
use Rattle.std.proofs.Common.{◌≡◌, ◌<◌, ℕ, Some}
use Rattle.std.specs.Prelude.{slice_get}
use Rattle.tn_links.specs.declared.link.Link.{Link}
use Rattle.tn_links.specs.Links.{IsLink}
use Rattle.tn_links.proofs.checks.are_links.Given as goal

-- the first ones are links
abbrev pub invariant-loop-link : goal.invariant-loop-link
invariant-loop-link l = (j : ℕ) (link : Link) → j < l.link-index → slice_get l.links j ≡ Some link → IsLink l.nodes link
