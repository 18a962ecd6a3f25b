-- What shows the clauses of `Finder::least_walks` of `src/finder.rt`.
use Rattle.std.proofs.Common.{◌≡◌, ◌+◌, ◌∙◌, ℕ, List, sym, ap, subst, refl, arith, length, ℤ}
use Rattle.tn_base.specs.Arcs.{AreBetweenNodes}
use Rattle.tn_base.specs.Walks.{HasNoNegativeCycle, KeepsArcs}
use Rattle.tn_cycle.specs.declared.cell.Cell.{Cell}
use Rattle.tn_cycle.specs.Cells.{cell_at}
use Rattle.tn_cycle.specs.Kept.{negated_if}
use Rattle.tn_cycle.specs.Searched.{IsSettled}
use Rattle.tn_cycle.specs.Reading.{IsListable, Reading, finder_reading}
use Rattle.tn_cycle.specs.Answers.{AreNear, LeadsAlong, distance_in, label_in, walk_in}
use Rattle.tn_cycle.specs.Widths.{most_label}
use Rattle.tn_cycle.proofs.LabelLemmas.{none_negative_kept}
use Rattle.tn_cycle.proofs.ViewLemmas.{all-read, distances-count, listable_all, places_kept, reads_along, signed_keep, signed_near_all, written-back}
use Rattle.tn_cycle.proofs.finder.Finder.least_walks.Goals as goal

pub find_walks-requires-clause-near : goal.find_walks-requires-clause-near
find_walks-requires-clause-near g c =
    let f = c.self.inside in
    let written = c.sign.new.labels in
    let places : length written ≡ f.labels.len = omega (arith, c.sign.auto.labels, c.deref_mut.ensures.len) in
    let same : c.args.self.now.nodes ≡ f.nodes = ap (λ (reading : Reading). reading.nodes) (sym c.self.view_is) in
    let given : c.args.self.now.labels ≡ c.deref_mut.result.now =
    all-read f c.args.self.now c.self.view_is (omega (arith, c.requires.labelled, same, c.self.invariant.labels_sized))
    ∙ sym c.deref_mut.ensures.value in
    let near = signed_near_all c.args.turns c.deref_mut.result.now written (omega (arith, c.sign.auto.labels))
    (subst (AreNear most_label) given c.requires.near) c.sign.ensures in
    subst (AreNear most_label) (sym (c.deref.ensures.value ∙ written-back written f.labels.items f.labels.len places))
    near

pub find_walks-requires-clause-keeps : goal.find_walks-requires-clause-keeps
find_walks-requires-clause-keeps g c =
    let f = c.self.inside in
    let arc = g.C.Costs.arc c.args.costs.now in
    let written = c.sign.new.labels in
    let places : length written ≡ f.labels.len = omega (arith, c.sign.auto.labels, c.deref_mut.ensures.len) in
    let same : c.args.self.now.nodes ≡ f.nodes = ap (λ (reading : Reading). reading.nodes) (sym c.self.view_is) in
    let given : c.args.self.now.labels ≡ c.deref_mut.result.now =
    all-read f c.args.self.now c.self.view_is (omega (arith, c.requires.labelled, same, c.self.invariant.labels_sized))
    ∙ sym c.deref_mut.ensures.value in
    let keeps : KeepsArcs arc (λ v. negated_if c.args.turns (label_in c.deref_mut.result.now v)) =
    subst (λ (labels : List ℤ). KeepsArcs arc (λ v. negated_if c.args.turns (label_in labels v))) given c.requires.keeps in
    let kept = signed_keep c.args.turns (g.C.Costs.node_count c.args.costs.now) arc c.deref_mut.result.now written
    (g.met.C.Costs.between_nodes c.args.costs.now)
    (omega (arith, c.requires.sized, same, c.self.invariant.labels_sized, c.deref_mut.ensures.len)) c.sign.ensures keeps
    in
    subst (λ (labels : List ℤ). KeepsArcs arc (label_in labels))
    (sym (c.deref.ensures.value ∙ written-back written f.labels.items f.labels.len places)) kept

pub invariant_of-self : goal.invariant_of-self
invariant_of-self g c =
    let f = c.self.inside in
    let arc = g.C.Costs.arc c.args.costs.now in
    let written = c.find_walks.new.row in
    let sized : g.C.Costs.node_count c.args.costs.now ≡ f.nodes =
    c.requires.sized ∙ ap (λ (reading : Reading). reading.nodes) (sym c.self.view_is) in
    let between : AreBetweenNodes f.nodes arc =
    subst (λ (n : ℕ). AreBetweenNodes n arc) sized (g.met.C.Costs.between_nodes c.args.costs.now) in
    let none : HasNoNegativeCycle arc =
    none_negative_kept arc (λ v. negated_if c.args.turns (label_in c.args.self.now.labels v)) c.requires.keeps in
    let found : IsSettled f.nodes arc c.args.node (cell_at written) =
    subst (λ (n : ℕ). IsSettled n arc c.args.node (cell_at written)) sized c.find_walks.ensures in
    let places : length written ≡ f.row.len = omega (arith, c.find_walks.auto.row, c.deref_mut-3.ensures.len) in
    let listable =
    listable_all f.nodes arc c.args.node written between none found
    (omega (arith, places, c.self.invariant.row_sized)) in
    places_kept f.nodes _ _ _ _ _ _ _ _ _ 0 0 f.nodes _ c.self.invariant (omega arith) (omega arith) (omega arith)
    (λ v inside. subst (λ (row : List Cell). IsListable (f.nodes + 2) row v)
    (sym (written-back written f.row.items f.row.len places)) (listable v inside))

pub returns-clause-walks : goal.returns-clause-walks
returns-clause-walks g c v inside =
    let f = c.self.inside in
    let arc = g.C.Costs.arc c.args.costs.now in
    let written = c.find_walks.new.row in
    let same : c.args.self.now.nodes ≡ f.nodes = ap (λ (reading : Reading). reading.nodes) (sym c.self.view_is) in
    let sized : g.C.Costs.node_count c.args.costs.now ≡ f.nodes = c.requires.sized ∙ same in
    let between : AreBetweenNodes f.nodes arc =
    subst (λ (n : ℕ). AreBetweenNodes n arc) sized (g.met.C.Costs.between_nodes c.args.costs.now) in
    let none : HasNoNegativeCycle arc =
    none_negative_kept arc (λ v. negated_if c.args.turns (label_in c.args.self.now.labels v)) c.requires.keeps in
    let found : IsSettled f.nodes arc c.args.node (cell_at written) =
    subst (λ (n : ℕ). IsSettled n arc c.args.node (cell_at written)) sized c.find_walks.ensures in
    let places : length written ≡ f.row.len = omega (arith, c.find_walks.auto.row, c.deref_mut-3.ensures.len) in
    subst
    (λ (row : List Cell). LeadsAlong c.args.turns arc v c.args.node
    (walk_in (finder_reading f.nodes 0 f.path.items 0 f.labels.items f.nodes c.args.turns c.args.node row) v)
    (distance_in (finder_reading f.nodes 0 f.path.items 0 f.labels.items f.nodes c.args.turns c.args.node row) v))
    (sym (written-back written f.row.items f.row.len places))
    (reads_along c.args.turns f.nodes arc c.args.node f.path.items f.labels.items written between none found v
    (omega (arith, inside, same)))

pub returns-clause-rest : goal.returns-clause-rest
returns-clause-rest g c =
    let f = c.self.inside in
    let same : c.args.self.now.nodes ≡ f.nodes = ap (λ (reading : Reading). reading.nodes) (sym c.self.view_is) in
    record {
      same_nodes = sym same;
      one_each = distances-count f.nodes 0 f.path.items 0 f.labels.items f.nodes c.args.turns c.args.node _ ∙ sym same;
      no_list = refl;
      no_labels = refl;
    }
