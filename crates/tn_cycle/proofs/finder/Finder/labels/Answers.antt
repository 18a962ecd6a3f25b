-- What shows the clauses of `Finder::labels` of `src/finder.rt`.
use Rattle.std.proofs.Common.{◌≡◌, ◌≤◌, ◌∙◌, ◌++◌, ℕ, ℤ, List, sym, ap, subst, refl, arith, length, take, drop, rules}
use Rattle.std.proofs.lemmas.Int.{to_z-of_z}
use Rattle.std.proofs.lemmas.List.{length-take, take_all}
use mir.Syntax.{w128}
use Rattle.tn_base.specs.Walks.{KeepsArcs}
use mir.Val.{SFits}
use Rattle.tn_cycle.specs.declared.answer.Path.{Path}
use Rattle.tn_cycle.specs.Reading.{Reading}
use Rattle.tn_cycle.specs.Answers.{AnswersGrown, AreLabels, AreNear, IsNegative, arc_count, label_in}
use Rattle.tn_cycle.specs.Widths.{most_label}
use Rattle.tn_cycle.proofs.ReadLemmas.{front-written}
use Rattle.tn_cycle.proofs.ViewLemmas.{nodes-read, places_free, written-back}
use Rattle.tn_cycle.proofs.LabelLemmas.{none_negative_kept}
use Rattle.tn_cycle.proofs.finder.Finder.labels.Goals as goal

pub returns-in-None-clause-answer : goal.returns-in-None-clause-answer
returns-in-None-clause-answer g c =
    let arc = g.C.Costs.arc c.args.costs.now in
    let labels = c.relabel_whole.new.self.labels in
    let same : c.args.self.now.nodes ≡ c.self.inside.nodes =
    ap (λ (reading : Reading). reading.nodes) (sym c.self.view_is) in
    let are : AreLabels c.args.self.now.nodes arc labels =
    subst (λ (n : ℕ). AreLabels n arc labels) (sym same) c.relabel_whole.ensures.labels in
    (none_negative_kept arc (label_in labels) are.keeps, are, c.relabel_whole.ensures.none_listed)

pub returns-in-Cycle-clause-answer : goal.returns-in-Cycle-clause-answer
returns-in-Cycle-clause-answer g c =
    let nodes = g.C.Costs.node_count c.args.costs.now in
    let arc = g.C.Costs.arc c.args.costs.now in
    let grown = c.grow_labels-found in
    let written = grown.new.path in
    let rest = drop (length written) c.self.inside.path.items in
    let is = c.in-Cycle.is in
    let counted : arc_count grown.result ≡ c.in-Cycle.length = ap arc_count is in
    let arcs : c.arcs-self-inside.result ≡ c.in-Cycle.length = c.arcs-self-inside.ensures ∙ counted in
    let same : c.args.self.now.nodes ≡ c.self.inside.nodes =
    ap (λ (reading : Reading). reading.nodes) (sym c.self.view_is) in
    let few : c.in-Cycle.length ≤ nodes = omega (arith, counted, grown.ensures.few_arcs) in
    let places : c.in-Cycle.length ≤ c.self.inside.path.len =
    omega (arith, few, c.requires.sized, same, c.self.invariant.path_sized) in
    let answer : IsNegative nodes arc (take c.in-Cycle.length written) c.in-Cycle.cost c.in-Cycle.length =
    subst (λ (one : Path). AnswersGrown nodes arc (take (arc_count one) written) grown.new.labels one) is
    grown.ensures.answer in
    let size : c.in-Cycle.length ≤ length written = omega (arith, answer.counted, length-take c.in-Cycle.length written)
    in
    let listed : take c.arcs-self-inside.result (take c.self.inside.path.len (written ++ rest))
    ≡ take c.in-Cycle.length written =
    ap (λ (k : ℕ). take k (take c.self.inside.path.len (written ++ rest))) arcs
    ∙ front-written written rest c.in-Cycle.length c.self.inside.path.len places size in
    let fits : SFits w128 c.in-Cycle.cost = search rules in
    simp to_z-of_z (
      subst (λ (xs : List ℕ). IsNegative c.args.self.now.nodes arc xs c.in-Cycle.cost c.in-Cycle.length) (sym listed)
          (subst (λ (n : ℕ). IsNegative n arc (take c.in-Cycle.length written) c.in-Cycle.cost c.in-Cycle.length)
          c.requires.sized answer),
      refl,
    )

pub invariant_of-self : goal.invariant_of-self
invariant_of-self g c =
    let f = c.self.inside in
    let same : c.args.self.now.nodes ≡ f.nodes = nodes-read f c.args.self.now c.self.view_is in
    places_free f.nodes _ _ _ _ _ _ _ _ _ _ _ _ c.self.invariant
    (omega (
      arith,
      c.arcs-self-inside.ensures,
      c.grow_labels-found.ensures.few_arcs,
      c.requires.sized,
      same,
    )) (omega arith)

pub invariant_of-self-in-Cycle : goal.invariant_of-self-in-Cycle
invariant_of-self-in-Cycle g c =
    let f = c.self.inside in
    let same : c.args.self.now.nodes ≡ f.nodes = nodes-read f c.args.self.now c.self.view_is in
    places_free f.nodes _ _ _ _ _ _ _ _ _ _ _ _ c.self.invariant
    (omega (
      arith,
      c.arcs-self-inside.ensures,
      c.grow_labels-found.ensures.few_arcs,
      c.requires.sized,
      same,
    )) (omega arith)

-- labels that are written, one for each node, are read whole
all-written : (written old : List ℤ) (places nodes : ℕ) → length written ≡ places → places ≡ nodes
    → take nodes (take places (written ++ drop (length written) old)) ≡ written
all-written written old places nodes whole sized =
    ap (take nodes) (written-back written old places whole) ∙ take_all nodes written (omega (arith, whole, sized))

pub relabel_whole-requires-clause-labelled : goal.relabel_whole-requires-clause-labelled
relabel_whole-requires-clause-labelled g c =
    let f = c.self.inside in
    let labels = c.grow_labels-found.new.labels in
    let whole : length labels ≡ f.labels.len = c.grow_labels-found.auto.labels ∙ c.deref_mut.ensures.len in
    ap length (all-written labels f.labels.items f.labels.len f.nodes whole c.self.invariant.labels_sized) ∙ whole
    ∙ c.self.invariant.labels_sized

pub relabel_whole-requires-clause-near : goal.relabel_whole-requires-clause-near
relabel_whole-requires-clause-near g c =
    let f = c.self.inside in
    let arc = g.C.Costs.arc c.args.costs.now in
    let found = c.grow_labels-found in
    let labels = found.new.labels in
    let answer : KeepsArcs arc (label_in labels) × AreNear most_label labels =
    subst (λ (one : Path). AnswersGrown (g.C.Costs.node_count c.args.costs.now) arc
    (take (arc_count one) found.new.path) labels one) c.in-None.is found.ensures.answer in
    subst (AreNear most_label)
    (sym (all-written labels f.labels.items f.labels.len f.nodes (found.auto.labels ∙ c.deref_mut.ensures.len)
    c.self.invariant.labels_sized)) answer.1

pub relabel_whole-requires-clause-keeps : goal.relabel_whole-requires-clause-keeps
relabel_whole-requires-clause-keeps g c =
    let f = c.self.inside in
    let arc = g.C.Costs.arc c.args.costs.now in
    let found = c.grow_labels-found in
    let labels = found.new.labels in
    let answer : KeepsArcs arc (label_in labels) × AreNear most_label labels =
    subst (λ (one : Path). AnswersGrown (g.C.Costs.node_count c.args.costs.now) arc
    (take (arc_count one) found.new.path) labels one) c.in-None.is found.ensures.answer in
    subst (λ (all : List ℤ). KeepsArcs arc (label_in all))
    (sym (all-written labels f.labels.items f.labels.len f.nodes (found.auto.labels ∙ c.deref_mut.ensures.len)
    c.self.invariant.labels_sized)) answer.0
