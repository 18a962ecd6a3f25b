-- What shows the clauses of `Links::keeps` of `src/balances.rt`.
use Rattle.std.proofs.Common.{List, sym, subst}
use Rattle.tn_links.specs.declared.link.Link.{Link}
use Rattle.tn_links.specs.Links.{AreLinks}
use Rattle.tn_links.proofs.links.Links.keeps.Goals as goal

pub balances-requires-clause-each : goal.balances-requires-clause-each
balances-requires-clause-each c =
    subst (λ (links : List Link). AreLinks c.args.self.now.nodes links) (sym c.deref-2.ensures.value)
    c.args.self.now.plain.each
