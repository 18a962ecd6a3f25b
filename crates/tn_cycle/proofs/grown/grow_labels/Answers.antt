-- What shows the clauses of `grow_labels` of `src/grown.rt`.
use Rattle.std.proofs.Common.{◌+◌, ◌-◌, ◌*◌, arith, length, take}
use Rattle.tn_base.specs.Walks.{arcs_among}
use Rattle.tn_cycle.specs.Answers.{arc_count, label_in}
use Rattle.tn_cycle.specs.Graphs.{is_trade_from}
use Rattle.tn_cycle.specs.Kept.{flag_at}
use Rattle.tn_cycle.specs.Widths.{label_step, most_graph_nodes, most_label}
use Rattle.tn_cycle.proofs.GrownLemmas.{first_avoiding, marked_all, marked_off, near_more, none_keeps, null_avoiding, null_unmarked, part_grown, unmarked, whole_grown}
use Rattle.tn_cycle.proofs.grown.grow_labels.Goals as goal

pub returns-then-arcs-gt0-clause-answer : goal.returns-then-arcs-gt0-clause-answer
returns-then-arcs-gt0-clause-answer g c =
    let found = c.find_added-found in
    part_grown (g.C.Costs.node_count c.args.costs.now) (c.nodes-null.result - 1) (c.loop-first.first - 1)
    (g.C.Costs.arc c.args.costs.now)
    (take (arc_count found.result) found.new.path) found.new.labels found.result
    (omega (arith, c.nodes-null.ensures, c.requires.some)) found.ensures.answer
    (omega (arith, c.arcs.ensures, c.if-arcs-gt0.true))

pub loop-first-preserved : goal.loop-first-preserved
loop-first-preserved g c =
    let null = c.nodes-null.result - 1 in
    let found = c.find_added-found in
    let reach = (null - c.loop-first.first) * label_step most_graph_nodes in
    record {
      keeps = none_keeps (arcs_among (is_trade_from (c.loop-first.first - 1) null) (g.C.Costs.arc c.args.costs.now))
          (c.loop-first.first - 1) (label_in found.new.labels)
          (take (arc_count found.result) found.new.path) found.result found.ensures.answer found.ensures.keeps
          (omega (arith, c.arcs.ensures, c.if-arcs-gt0.false));
      near = near_more (reach + label_step (g.C.Costs.node_count c.args.costs.now))
          ((null - (c.loop-first.first - 1)) * label_step most_graph_nodes) found.new.labels
          (omega (arith, c.requires.few, c.loop-first-test.true, c.loop-first.auto.first))
          (found.ensures.near reach c.loop-first.invariant.near);
    }

pub find_added-requires-clause-keeps : goal.find_added-requires-clause-keeps
find_added-requires-clause-keeps g c =
    null_avoiding (g.C.Costs.node_count c.args.costs.now) (c.nodes-null.result - 1) c.loop-first.first
    (g.C.Costs.arc c.args.costs.now) (label_in c.loop-first.labels)
    (omega (arith, c.nodes-null.ensures, c.requires.some)) (omega (arith, c.loop-first-test.false))
    (g.met.C.Costs.between_nodes c.args.costs.now) c.loop-first.invariant.keeps

pub returns-clause-answer : goal.returns-clause-answer
returns-clause-answer g c =
    let nodes = g.C.Costs.node_count c.args.costs.now in
    let null = c.nodes-null.result - 1 in
    let found = c.find_added in
    let reach = (null - c.loop-first.first) * label_step most_graph_nodes in
    whole_grown nodes null (g.C.Costs.arc c.args.costs.now) (take (arc_count found.result) found.new.path)
    found.new.labels found.result
    (omega (arith, c.nodes-null.ensures, c.requires.some)) found.ensures.answer found.ensures.keeps
    (near_more (reach + label_step nodes) most_label found.new.labels
    (omega (arith, c.nodes-null.ensures, c.requires.few)) (found.ensures.near reach c.loop-first.invariant.near))

pub overflow_sub-null : goal.overflow_sub-null
overflow_sub-null g c = omega (arith, c.nodes-null.ensures, c.requires.some)

pub loop-first-smaller : goal.loop-first-smaller
loop-first-smaller g c = omega (arith, c.loop-first-test.true)

pub find_added-found-requires-clause-sized : goal.find_added-found-requires-clause-sized
find_added-found-requires-clause-sized g c = omega (arith, c.requires.sized, c.loop-first.auto.row)

pub find_added-found-requires-clause-near : goal.find_added-found-requires-clause-near
find_added-found-requires-clause-near g c =
    near_more ((c.nodes-null.result - 1 - c.loop-first.first) * label_step most_graph_nodes) most_label
    c.loop-first.labels (omega (arith, c.nodes-null.ensures, c.requires.few)) c.loop-first.invariant.near

pub find_added-found-requires-clause-covers : goal.find_added-found-requires-clause-covers
find_added-found-requires-clause-covers g c =
    marked_off (c.loop-first.first - 1) (c.nodes-null.result - 1) (length c.loop-first.waits)
    (flag_at c.mark_between.new.marks) c.mark_between.ensures (g.C.Costs.arc c.args.costs.now)
    (omega (arith, c.nodes-null.ensures, c.requires.waits_sized, c.loop-first.auto.waits))

pub find_added-found-requires-clause-shut : goal.find_added-found-requires-clause-shut
find_added-found-requires-clause-shut g c =
    unmarked (c.loop-first.first - 1) (c.nodes-null.result - 1) (length c.loop-first.waits)
    (flag_at c.mark_between.new.marks) c.mark_between.ensures
    (omega (
      arith,
      c.nodes-null.ensures,
      c.requires.some,
      c.requires.waits_sized,
      c.loop-first.auto.waits,
      c.loop-first.auto.first,
      c.loop-first-test.true,
    ))

pub find_added-found-requires-clause-keeps : goal.find_added-found-requires-clause-keeps
find_added-found-requires-clause-keeps g c =
    first_avoiding (c.loop-first.first - 1) c.loop-first.first (c.nodes-null.result - 1)
    (g.C.Costs.arc c.args.costs.now) (label_in c.loop-first.labels) (omega (arith, c.loop-first-test.true))
    c.loop-first.invariant.keeps

pub find_added-requires-clause-sized : goal.find_added-requires-clause-sized
find_added-requires-clause-sized g c = omega (arith, c.requires.sized, c.loop-first.auto.row)

pub find_added-requires-clause-near : goal.find_added-requires-clause-near
find_added-requires-clause-near g c =
    near_more ((c.nodes-null.result - 1 - c.loop-first.first) * label_step most_graph_nodes) most_label
    c.loop-first.labels (omega (arith, c.nodes-null.ensures, c.requires.few)) c.loop-first.invariant.near

pub find_added-requires-clause-covers : goal.find_added-requires-clause-covers
find_added-requires-clause-covers g c =
    marked_all (g.C.Costs.node_count c.args.costs.now) (c.nodes-null.result - 1) (length c.loop-first.waits)
    (flag_at c.mark_between-2.new.marks) (omega (arith, c.nodes-null.ensures, c.requires.some))
    (omega (arith, c.requires.waits_sized, c.loop-first.auto.waits)) c.mark_between-2.ensures
    (g.C.Costs.arc c.args.costs.now) (g.met.C.Costs.between_nodes c.args.costs.now)

pub find_added-requires-clause-shut : goal.find_added-requires-clause-shut
find_added-requires-clause-shut g c =
    null_unmarked (g.C.Costs.node_count c.args.costs.now) (c.nodes-null.result - 1) (length c.loop-first.waits)
    (flag_at c.mark_between-2.new.marks) (omega (arith, c.nodes-null.ensures, c.requires.some))
    (omega (arith, c.requires.waits_sized, c.loop-first.auto.waits)) c.mark_between-2.ensures

pub returns-clause-few_arcs : goal.returns-clause-few_arcs
returns-clause-few_arcs g c = c.find_added.ensures.few_arcs

pub returns-then-arcs-gt0-clause-few_arcs : goal.returns-then-arcs-gt0-clause-few_arcs
returns-then-arcs-gt0-clause-few_arcs g c = c.find_added-found.ensures.few_arcs
