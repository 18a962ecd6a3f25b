-- What shows the clauses of `Link::more_cost` of `src/link.rt`.
use Rattle.std.proofs.Common.{sym, subst}
use Rattle.tn_links.specs.Links.{AreSlight}
use Rattle.tn_links.proofs.link.Link.more_cost.Goals as goal

pub rise-requires : goal.rise-requires
rise-requires c = subst AreSlight (sym c.deref-then-level-lot.ensures.value) c.requires.slight

pub rise-requires-then-level-lot : goal.rise-requires-then-level-lot
rise-requires-then-level-lot c = subst AreSlight (sym c.deref-then-level-lot-2.ensures.value) c.requires.slight
