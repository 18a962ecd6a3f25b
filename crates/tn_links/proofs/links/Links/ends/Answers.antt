-- What shows the clauses of `Links::ends` of `src/links.rt`.
use Rattle.std.proofs.Common.{◌≡◌, Some, arith}
use Rattle.std.proofs.lemmas.Option.{slice_get_read}
use Rattle.std.specs.Prelude.{slice_get}
use Rattle.tn_links.proofs.links.Links.ends.Goals as goal

pub returns-clause-inside : goal.returns-clause-inside
returns-clause-inside c =
    let links = c.args.self.now in
    let at : slice_get links.links.items c.args.j ≡ Some c.index-link.result.now =
    slice_get_read links.links.items links.links.len c.args.j c.index-link.result.now (omega (arith, links.links.ok.0))
    (omega (arith, links.links.ok.0, c.requires)) c.index-link.ensures in
    let is = links.plain.each c.args.j c.index-link.result.now at in
    (is.tail_inside, is.head_inside)

pub returns-clause-apart : goal.returns-clause-apart
returns-clause-apart c =
    let links = c.args.self.now in
    let at : slice_get links.links.items c.args.j ≡ Some c.index-link.result.now =
    slice_get_read links.links.items links.links.len c.args.j c.index-link.result.now (omega (arith, links.links.ok.0))
    (omega (arith, links.links.ok.0, c.requires)) c.index-link.ensures in
    (links.plain.each c.args.j c.index-link.result.now at).apart
