-- What shows the clause of `Links::between` of `src/links.rt`.
use Rattle.std.proofs.Common.{◌∙◌, ap, sym, subst}
use Rattle.tn_links.specs.Near.{AreListed, rows}
use Rattle.tn_links.proofs.ListLemmas.{found_by}
use Rattle.tn_links.proofs.links.Links.between.Goals as goal

pub returns : goal.returns
returns c =
    let links = c.args.self.now in
    c.link_by.ensures
    ∙ found_by links.nodes links.links.items (rows c.deref.result.now) c.args.u c.args.v links.plain.each
    (subst (AreListed links.nodes links.links.items) (sym (ap rows c.deref.ensures.value)) links.listed) c.requires.first
    c.requires.second
