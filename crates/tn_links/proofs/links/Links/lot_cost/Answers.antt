-- What shows the clauses of `Links::lot_cost` of `src/links.rt`.
use Rattle.std.proofs.Common.{◌≡◌, ◌∙◌, Some, sym, ap, arith}
use Rattle.std.proofs.lemmas.Option.{same_Some, slice_get_read}
use Rattle.std.specs.Prelude.{slice_get}
use Rattle.tn_links.specs.declared.link.Link.{Link}
use Rattle.tn_links.specs.Lots.{lot_cost}
use Rattle.tn_links.proofs.links.Links.lot_cost.Goals as goal

pub lot_cost-requires-clause-slight : goal.lot_cost-requires-clause-slight
lot_cost-requires-clause-slight c =
    let links = c.args.self.now in
    let at : slice_get links.links.items c.args.j ≡ Some c.index.result.now =
    slice_get_read links.links.items links.links.len c.args.j c.index.result.now (omega (arith, links.links.ok.0))
    (omega (arith, links.links.ok.0, c.requires.inside)) c.index.ensures in
    (links.plain.each c.args.j c.index.result.now at).steps.slight

pub lot_cost-requires-clause-within : goal.lot_cost-requires-clause-within
lot_cost-requires-clause-within c =
    let links = c.args.self.now in
    let at : slice_get links.links.items c.args.j ≡ Some c.index.result.now =
    slice_get_read links.links.items links.links.len c.args.j c.index.result.now (omega (arith, links.links.ok.0))
    (omega (arith, links.links.ok.0, c.requires.inside)) c.index.ensures in
    let few = (links.plain.each c.args.j c.index.result.now at).steps.few_units in
    let within = c.requires.within c.index.result.now at in
    omega (arith, few, within)

pub returns : goal.returns
returns c link is =
    let links = c.args.self.now in
    let at : slice_get links.links.items c.args.j ≡ Some c.index.result.now =
    slice_get_read links.links.items links.links.len c.args.j c.index.result.now (omega (arith, links.links.ok.0))
    (omega (arith, links.links.ok.0, c.requires.inside)) c.index.ensures in
    c.lot_cost.ensures ∙ ap (λ (l : Link). lot_cost l c.args.level c.args.lot c.args.from)
    (same_Some c.index.result.now link (sym at ∙ is))
