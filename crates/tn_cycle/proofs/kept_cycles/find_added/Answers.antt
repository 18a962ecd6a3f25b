-- What shows the clauses of `find_added` of `src/kept_cycles.rt`.
use Rattle.std.proofs.Common.{◌+◌, ◌<◌, ◌∙◌, inl, length, set, refl, arith, rules}
use Rattle.std.proofs.lemmas.Int.{ints, to_z-of_z}
use Rattle.std.proofs.lemmas.List.{length-set}
use mir.Syntax.{w128}
use mir.Val.{SFits}
use Rattle.tn_base.specs.Widths.{most_cost}
use Rattle.tn_cycle.specs.Widths.{most_label}
use Rattle.tn_cycle.specs.Answers.{label_in}
use Rattle.tn_cycle.specs.Kept.{KeepsArcsOff}
use Rattle.tn_cycle.proofs.KeptCycleLemmas.{entered_none, entered_own, set_keep, set_near}
use Rattle.tn_cycle.proofs.kept_cycles.find_added.Goals as goal

pub find_kept-requires-clause-near : goal.find_kept-requires-clause-near
find_kept-requires-clause-near g c =
    let fits : SFits w128 c.node_label.result = search rules in
    simp to_z-of_z (set_near most_label c.args.labels.now c.args.node c.node_label.result c.requires.near
    (c.node_label.ensures.near most_label c.requires.near))

pub find_kept-requires-clause-keeps : goal.find_kept-requires-clause-keeps
find_kept-requires-clause-keeps g c =
    let fits : SFits w128 c.node_label.result = search rules in
    let places : c.args.node < length c.args.labels.now = omega (arith, c.requires.inside, c.requires.labels_sized) in
    simp to_z-of_z (set_keep (g.C.Costs.arc c.args.costs.now) c.args.labels.now c.args.node c.node_label.result places
    c.requires.keeps c.node_label.ensures.keeps)

pub break_into-requires-clause-near : goal.break_into-requires-clause-near
break_into-requires-clause-near g c =
    let fits : SFits w128 c.node_label.result = search rules in
    simp to_z-of_z (set_near most_label c.args.labels.now c.args.node c.node_label.result c.requires.near
    (c.node_label.ensures.near most_label c.requires.near))

pub returns-then-break_into-clause-near : goal.returns-then-break_into-clause-near
returns-then-break_into-clause-near g c reach near v inside =
    let fits : SFits w128 c.node_label.result = search rules in
    let moved = set_near reach c.args.labels.now c.args.node c.node_label.result near
    (c.node_label.ensures.near reach near) in
    let all = simp to_z-of_z at c.find_kept.ensures.near in
    let far = all (reach + most_cost) moved v inside in
    record { low = omega (arith, ints, far.low); high = omega (arith, ints, far.high) }

pub returns-else-break_into-clause-answer : goal.returns-else-break_into-clause-answer
returns-else-break_into-clause-answer g c =
    let fits : SFits w128 c.node_label.result = search rules in
    let arc = g.C.Costs.arc c.args.costs.now in
    let labels = set c.args.labels.now c.args.node c.node_label.result in
    let places : c.args.node < length c.args.labels.now = omega (arith, c.requires.inside, c.requires.labels_sized) in
    let keeps : KeepsArcsOff arc c.args.node (label_in labels) =
    set_keep arc c.args.labels.now c.args.node c.node_label.result places c.requires.keeps
    c.node_label.ensures.keeps in
    let into = simp to_z-of_z at c.break_into.ensures in
    (entered_none arc c.args.node (label_in labels) keeps (λ u cost is. into u cost c.if-break_into.false is), refl)

pub returns-else-break_into-clause-keeps : goal.returns-else-break_into-clause-keeps
returns-else-break_into-clause-keeps g c =
    let fits : SFits w128 c.node_label.result = search rules in
    let arc = g.C.Costs.arc c.args.costs.now in
    let labels = set c.args.labels.now c.args.node c.node_label.result in
    let places : c.args.node < length c.args.labels.now = omega (arith, c.requires.inside, c.requires.labels_sized) in
    let keeps : KeepsArcsOff arc c.args.node (label_in labels) =
    set_keep arc c.args.labels.now c.args.node c.node_label.result places c.requires.keeps
    c.node_label.ensures.keeps in
    let into = simp to_z-of_z at c.break_into.ensures in
    simp to_z-of_z (entered_own arc c.args.node (label_in labels) keeps
    (λ u cost is. into u cost c.if-break_into.false is))

pub returns-else-break_into-clause-near : goal.returns-else-break_into-clause-near
returns-else-break_into-clause-near g c reach near =
    let fits : SFits w128 c.node_label.result = search rules in
    let moved = set_near reach c.args.labels.now c.args.node c.node_label.result near
    (c.node_label.ensures.near reach near) in
    simp to_z-of_z (λ v inside. let far = moved v inside in
    record { low = omega (arith, ints, far.low); high = omega (arith, ints, far.high) })

pub node_label-requires-clause-near : goal.node_label-requires-clause-near
node_label-requires-clause-near g c = c.requires.near

pub bounds-labels-node : goal.bounds-labels-node
bounds-labels-node g c = omega (arith, c.requires.inside, c.requires.labels_sized)

pub break_into-requires-clause-labels_sized : goal.break_into-requires-clause-labels_sized
break_into-requires-clause-labels_sized g c =
    length-set c.args.labels.now c.args.node _ ∙ c.requires.labels_sized

pub find_kept-requires-clause-labels_sized : goal.find_kept-requires-clause-labels_sized
find_kept-requires-clause-labels_sized g c =
    length-set c.args.labels.now c.args.node _ ∙ c.requires.labels_sized

pub find_kept-requires-clause-covers : goal.find_kept-requires-clause-covers
find_kept-requires-clause-covers g c = c.requires.covers

pub find_kept-requires-clause-shut : goal.find_kept-requires-clause-shut
find_kept-requires-clause-shut g c = c.requires.shut

pub returns-then-break_into-clause-answer : goal.returns-then-break_into-clause-answer
returns-then-break_into-clause-answer g c = c.find_kept.ensures.negative refl

pub returns-then-break_into-clause-keeps : goal.returns-then-break_into-clause-keeps
returns-then-break_into-clause-keeps g c = c.find_kept.ensures.keeps (inl refl)
