-- What shows the clauses of `gain` of `src/gains.rt`.
use Rattle.std.proofs.Common.{sym, subst}
use Rattle.tn_links.specs.Links.{AreSlight}
use Rattle.tn_links.proofs.gains.gain.Goals as goal

pub rise-requires : goal.rise-requires
rise-requires c = subst AreSlight (sym c.deref.ensures.value) c.requires

pub rise-requires-2 : goal.rise-requires-2
rise-requires-2 c = subst AreSlight (sym c.deref-2.ensures.value) c.requires
