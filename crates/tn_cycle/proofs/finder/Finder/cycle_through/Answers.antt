-- What shows the clauses of `Finder::cycle_through` of `src/finder.rt`.
use Rattle.std.proofs.Common.{◌≡◌, ◌+◌, ◌-◌, ◌≤◌, ◌∙◌, ◌++◌, ◌+ℤ◌, ℕ, ℤ, List, sym, ap, subst, refl, arith, length, take, drop}
use Rattle.tn_base.specs.Walks.{KeepsArcsEntering, arcs_among, is_looked_at}
use Rattle.tn_cycle.specs.Answers.{AnswersThrough, AreNear, arc_count, cost_of, label_in}
use Rattle.tn_cycle.specs.Widths.{label_step}
use Rattle.tn_cycle.proofs.ReadLemmas.{front-written}
use Rattle.tn_cycle.proofs.ViewLemmas.{lent-read, nodes-read, places_free, written-read}
use Rattle.tn_cycle.proofs.finder.Finder.cycle_through.Goals as goal

pub invariant_of-self : goal.invariant_of-self
invariant_of-self g c =
    let f = c.self.inside in
    let had = c.self.invariant in
    places_free f.nodes _ _ _ _ _ _ _ _ _ _ _ _ had
    (omega (
      arith,
      c.arcs-self-inside.ensures,
      c.cycle_kept-found.ensures.few_arcs,
      c.deref_mut.ensures.len,
      had.labels_sized,
    ))
    had.labels_read

pub returns-clause-answer : goal.returns-clause-answer
returns-clause-answer g c =
    let f = c.self.inside in
    let had = c.self.invariant in
    let arc = g.C.Costs.arc c.args.costs.now in
    let found = c.cycle_kept-found in
    let path = found.new.path in
    let same : c.args.self.now.nodes ≡ f.nodes = nodes-read f c.args.self.now c.self.view_is in
    let few : c.arcs-self-inside.result ≤ f.nodes =
    omega (arith, c.arcs-self-inside.ensures, found.ensures.few_arcs, c.deref_mut.ensures.len, had.labels_sized) in
    let places : c.arcs-self-inside.result ≤ f.path.len = omega (arith, few, had.path_sized) in
    let size : c.arcs-self-inside.result ≤ length path =
    omega (arith, few, had.path_sized, found.auto.path, c.deref_mut-4.ensures.len) in
    let listed : take c.arcs-self-inside.result (take f.path.len (path ++ drop (length path) f.path.items))
    ≡ take (arc_count found.result) path =
    front-written path (drop (length path) f.path.items) c.arcs-self-inside.result f.path.len places size
    ∙ ap (λ (n : ℕ). take n path) c.arcs-self-inside.ensures in
    subst (λ (xs : List ℕ). AnswersThrough c.args.cycles (arcs_among (is_looked_at (c.args.self.now.nodes - 1)
    c.args.node c.args.admitted.now) arc) c.args.node xs found.result) (sym listed)
    (subst (λ (n : ℕ). AnswersThrough c.args.cycles (arcs_among (is_looked_at (n - 1) c.args.node
    c.args.admitted.now) arc) c.args.node (take (arc_count found.result) path) found.result) (sym same)
    found.ensures.answer)

pub returns-clause-labelled : goal.returns-clause-labelled
returns-clause-labelled g c =
    let f = c.self.inside in
    let now = c.args.self.now in
    let labels = c.cycle_kept-found.new.labels in
    let same : now.nodes ≡ f.nodes = nodes-read f now c.self.view_is in
    let whole : length labels ≡ f.labels.len = c.cycle_kept-found.auto.labels ∙ c.deref_mut.ensures.len in
    ap length (written-read f now c.self.view_is c.self.invariant.labels_sized c.requires.labelled labels whole) ∙ whole
    ∙ c.self.invariant.labels_sized ∙ sym same

pub returns-clause-keeps : goal.returns-clause-keeps
returns-clause-keeps g c =
    let f = c.self.inside in
    let now = c.args.self.now in
    let arc = g.C.Costs.arc c.args.costs.now in
    let node = c.args.node in
    let cost = cost_of c.cycle_kept-found.result in
    let labels = c.cycle_kept-found.new.labels in
    let same : now.nodes ≡ f.nodes = nodes-read f now c.self.view_is in
    let back = written-read f now c.self.view_is c.self.invariant.labels_sized c.requires.labelled labels
    (c.cycle_kept-found.auto.labels ∙ c.deref_mut.ensures.len) in
    subst (λ (all : List ℤ). KeepsArcsEntering (arcs_among (is_looked_at (now.nodes - 1) node c.args.admitted.now) arc)
    node (label_in all node +ℤ cost) (label_in all)) (sym back)
    (subst (λ (n : ℕ). KeepsArcsEntering (arcs_among (is_looked_at (n - 1) node c.args.admitted.now) arc) node
    (label_in labels node +ℤ cost) (label_in labels)) (sym same) c.cycle_kept-found.ensures.keeps)

pub returns-clause-near : goal.returns-clause-near
returns-clause-near g c reach near =
    let f = c.self.inside in
    let now = c.args.self.now in
    let lent = c.deref_mut.result.now in
    let labels = c.cycle_kept-found.new.labels in
    let back = written-read f now c.self.view_is c.self.invariant.labels_sized c.requires.labelled labels
    (c.cycle_kept-found.auto.labels ∙ c.deref_mut.ensures.len) in
    let given = lent-read f now c.self.view_is c.self.invariant.labels_sized c.requires.labelled lent
    c.deref_mut.ensures.value c.deref_mut.ensures.len in
    let sizes : length lent ≡ now.nodes = ap length (sym given) ∙ c.requires.labelled in
    subst (AreNear (reach + label_step now.nodes)) (sym back)
    (subst (λ (n : ℕ). AreNear (reach + label_step n) labels) sizes
    (c.cycle_kept-found.ensures.near reach (subst (AreNear reach) given near)))

pub returns-clause-rest : goal.returns-clause-rest
returns-clause-rest g c = record {
  same_nodes = sym (nodes-read c.self.inside c.args.self.now c.self.view_is);
  no_distances = refl;
  no_walks = refl;
}
