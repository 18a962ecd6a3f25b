-- What shows the clauses of `Finder::distance` of `src/finder.rt`.
use Rattle.std.proofs.Common.{◌≡◌, ◌<◌, ◌∙◌, sym, ap, arith, length}
use Rattle.std.proofs.lemmas.List.{get_or_read}
use Rattle.tn_cycle.specs.declared.cell.Cell.{Cell}
use Rattle.tn_cycle.specs.Cells.{cell_at, no_cell}
use Rattle.tn_cycle.specs.Reading.{Reading}
use Rattle.tn_cycle.specs.Answers.{distance_in}
use Rattle.tn_cycle.proofs.ViewLemmas.{distance-read, reached-read}
use Rattle.tn_cycle.proofs.finder.Finder.distance.Goals as goal

pub index-requires : goal.index-requires
index-requires c =
    let f = c.self.inside in
    let many : length c.args.self.now.distances ≡ f.reached = reached-read f c.args.self.now c.self.view_is in
    omega (arith, many, c.requires, c.self.invariant.row_sized, c.self.invariant.walks_read)

pub returns : goal.returns
returns c =
    let f = c.self.inside in
    let many : length c.args.self.now.distances ≡ f.reached = reached-read f c.args.self.now c.self.view_is in
    let inside : c.args.v < f.reached = omega (arith, many, c.requires) in
    let item : c.index.result.now ≡ cell_at f.row.items c.args.v =
    get_or_read f.row.items c.args.v c.index.result.now
    (omega (arith, f.row.ok.0, inside, c.self.invariant.row_sized, c.self.invariant.walks_read)) c.index.ensures
    no_cell in
    ap (λ (cell : Cell). cell.cost) item
    ∙ sym (distance-read f.nodes f.count f.path.items f.labelled f.labels.items f.reached f.turns f.end f.row.items
    c.args.v inside)
    ∙ ap (λ (reading : Reading). distance_in reading c.args.v) c.self.view_is
