-- What shows the clauses of `Links::new` of `src/links.rt`.
use Rattle.std.proofs.Common.{List, sym, subst}
use Rattle.tn_links.specs.declared.link.Link.{Link}
use Rattle.tn_links.specs.Links.{AreLinks}
use Rattle.tn_links.proofs.links.Links.new.Goals as goal

pub lists-requires-clause-each : goal.lists-requires-clause-each
lists-requires-clause-each c =
    subst (λ (links : List Link). AreLinks c.args.nodes links) (sym c.deref.ensures.value) c.requires.plain.each
