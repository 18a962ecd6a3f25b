-- What shows the clauses of `Finder::walk` of `src/finder.rt`.
use Rattle.std.proofs.Common.{◌≡◌, ◌+◌, ◌<◌, ◌≤◌, ◌∙◌, ◌++◌, ℕ, List, sym, ap, subst, arith, length, take, drop}
use Rattle.std.proofs.lemmas.List.{length-take}
use Rattle.tn_cycle.specs.declared.cell.Cell.{Cell}
use Rattle.tn_cycle.specs.Cells.{cell_at}
use Rattle.tn_cycle.specs.Reading.{IsListable, Reading, finder_reading, walk_nodes}
use Rattle.tn_cycle.specs.Answers.{walk_in}
use Rattle.tn_cycle.proofs.ReadLemmas.{front-written}
use Rattle.tn_cycle.proofs.ViewLemmas.{places_kept, walk-read, reached-read}
use Rattle.tn_cycle.proofs.finder.Finder.walk.Goals as goal

pub list_walk-self-inside-requires-clause-inside : goal.list_walk-self-inside-requires-clause-inside
list_walk-self-inside-requires-clause-inside c =
    let f = c.self.inside in
    let many : length c.args.self.now.distances ≡ f.reached = reached-read f c.args.self.now c.self.view_is in
    omega (arith, many, c.requires.inside, c.deref.ensures.len, c.self.invariant.row_sized, c.self.invariant.walks_read)

pub list_walk-self-inside-requires-clause-listable : goal.list_walk-self-inside-requires-clause-listable
list_walk-self-inside-requires-clause-listable c =
    let f = c.self.inside in
    let many : length c.args.self.now.distances ≡ f.reached = reached-read f c.args.self.now c.self.view_is in
    let inside : c.args.v < f.reached = omega (arith, many, c.requires.inside) in
    let places : f.nodes + 2 ≡ length c.deref_mut.result.now =
    omega (arith, c.deref_mut.ensures.len, c.self.invariant.path_sized) in
    subst (λ (n : ℕ). IsListable n c.deref.result.now c.args.v) places
    (subst (λ (row : List Cell). IsListable (f.nodes + 2) row c.args.v) (sym c.deref.ensures.value)
    (c.self.invariant.listable c.args.v inside))

pub invariant_of-self : goal.invariant_of-self
invariant_of-self c =
    let f = c.self.inside in
    let had = c.self.invariant in
    let many : length c.args.self.now.distances ≡ f.reached = reached-read f c.args.self.now c.self.view_is in
    let listable = had.listable c.args.v (omega (arith, many, c.requires.inside)) in
    let counted : c.list_walk-self-inside.result ≡ (cell_at f.row.items c.args.v).inner_nodes + 2 =
    c.list_walk-self-inside.ensures.count ∙ ap (λ (row : List Cell). (cell_at row c.args.v).inner_nodes + 2)
    c.deref.ensures.value in
    places_kept f.nodes _ _ _ _ _ _ _ _ f.row.items c.list_walk-self-inside.result f.labelled f.reached f.row.items had
    (omega (arith, listable.few, counted))
    had.labels_read had.walks_read had.listable

pub returns-clause-listed : goal.returns-clause-listed
returns-clause-listed c =
    let f = c.self.inside in
    let had = c.self.invariant in
    let v = c.args.v in
    let written = c.list_walk-self-inside.new.path in
    let rest = drop (length written) f.path.items in
    let count = c.list_walk-self-inside.result in
    let reading = finder_reading f.nodes f.count f.path.items f.labelled f.labels.items f.reached f.turns f.end f.row.items
    in
    let many : length c.args.self.now.distances ≡ f.reached = reached-read f c.args.self.now c.self.view_is in
    let inside : v < f.reached = omega (arith, many, c.requires.inside) in
    let listable = had.listable v inside in
    let counted : count ≡ (cell_at f.row.items v).inner_nodes + 2 =
    c.list_walk-self-inside.ensures.count ∙ ap (λ (row : List Cell). (cell_at row v).inner_nodes + 2) c.deref.ensures.value in
    let places : count ≤ f.path.len = omega (arith, counted, listable.few, had.path_sized) in
    let size : count ≤ length written = omega (
      arith,
      places,
      c.list_walk-self-inside.auto.path,
      c.deref_mut.ensures.len,
    ) in
    let listed : take count (take f.path.len (written ++ rest)) ≡ walk_in reading v =
    front-written written rest count f.path.len places size
    ∙ c.list_walk-self-inside.ensures.nodes
    ∙ ap (λ (row : List Cell). walk_nodes f.turns f.end (cell_at row) v) c.deref.ensures.value
    ∙ sym (walk-read f.nodes f.count f.path.items f.labelled f.labels.items f.reached f.turns f.end f.row.items v
    inside) in
    subst (λ (one : Reading). record {
      nodes = f.nodes;
      listed =
          take count (take f.path.len (written ++ rest));
      labels = reading.labels;
      distances = reading.distances;
      walks =
          reading.walks;
    }
    ≡ record one { listed = walk_in one v })
    c.self.view_is
    (ap (λ (xs : List ℕ). record reading { listed = xs }) listed)

pub returns-clause-count : goal.returns-clause-count
returns-clause-count c =
    let f = c.self.inside in
    let many : length c.args.self.now.distances ≡ f.reached = reached-read f c.args.self.now c.self.view_is in
    let written = c.list_walk-self-inside.new.path in
    let count = c.list_walk-self-inside.result in
    let listable = c.self.invariant.listable c.args.v (omega (arith, many, c.requires.inside)) in
    let counted : count ≡ (cell_at f.row.items c.args.v).inner_nodes + 2 =
    c.list_walk-self-inside.ensures.count ∙ ap (λ (row : List Cell). (cell_at row c.args.v).inner_nodes + 2)
    c.deref.ensures.value in
    let places : count ≤ f.path.len = omega (arith, counted, listable.few, c.self.invariant.path_sized) in
    let size : count ≤ length written = omega (
      arith,
      places,
      c.list_walk-self-inside.auto.path,
      c.deref_mut.ensures.len,
    ) in
    let same = ap length (front-written written (drop (length written) f.path.items) count f.path.len places size) in
    omega (arith, same, length-take count written, size)
