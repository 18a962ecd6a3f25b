-- What shows the clauses of `Link::less_cost` of `src/link.rt`.
use Rattle.std.proofs.Common.{sym, subst}
use Rattle.tn_links.specs.Links.{AreSlight}
use Rattle.tn_links.proofs.link.Link.less_cost.Goals as goal

pub rise-requires : goal.rise-requires
rise-requires c = subst AreSlight (sym c.deref.ensures.value) c.requires.slight

pub rise-requires-then-lot-level : goal.rise-requires-then-lot-level
rise-requires-then-lot-level c = subst AreSlight (sym c.deref-then-lot-level.ensures.value) c.requires.slight
