-- What shows the clauses of `relabel_kept` of `src/kept_cycles.rt`.
use Rattle.std.proofs.Common.{◌≡◌, ◌≢◌, ◌∙◌, ℕ, ℤ, List, Option, Some, Bool, true, false, set, sym, subst, arith, rules}
use Rattle.std.proofs.lemmas.Int.{to_z-of_z}
use Rattle.std.proofs.lemmas.List.{get_or-set_other, get_or-set_same, length-set}
use mir.Syntax.{w128}
use mir.Val.{SFits}
use Rattle.tn_cycle.specs.Answers.{IsLowestCost, label_in}
use Rattle.tn_cycle.specs.Cells.{cell_at}
use Rattle.tn_cycle.specs.Graphs.{with_sink}
use Rattle.tn_cycle.specs.Kept.{flag_at}
use Rattle.tn_cycle.proofs.GraphLemmas.{arc_off_sink}
use Rattle.tn_cycle.proofs.KeptCycleLemmas.{sunk_settled}
use Rattle.tn_cycle.proofs.LabelLemmas.{sunk_at, lowest_small, are_labels}
use Rattle.tn_cycle.proofs.kept_cycles.relabel_kept.Goals as goal

pub write_labels-requires-clause-lowest : goal.write_labels-requires-clause-lowest
write_labels-requires-clause-lowest g c =
    let nodes = g.C.Costs.node_count c.args.costs.now in
    let arc = g.C.Costs.arc c.args.costs.now in
    let cell = cell_at c.search_kept.new.row in
    let between = g.met.C.Costs.between_nodes c.args.costs.now in
    let settled =
    sunk_settled nodes c.nodes-sink.result arc (label_in c.args.labels.now) cell (flag_at c.search_kept.new.waits)
    between c.nodes-sink.ensures c.requires.keeps c.search_kept.ensures in
    let sunk = sunk_at nodes c.nodes-sink.result arc cell (g.met.C.Costs.small c.args.costs.now) c.requires.few
    c.nodes-sink.ensures settled in
    let least : IsLowestCost nodes cell c.lowest_cost.result =
    subst (λ (k : ℕ). IsLowestCost k cell c.lowest_cost.result) c.nodes-sink.ensures c.lowest_cost.ensures in
    let fits : SFits w128 c.lowest_cost.result = search rules in
    simp to_z-of_z (lowest_small nodes arc cell between sunk.0 c.lowest_cost.result sunk.1 least)

pub write_labels-requires-clause-room : goal.write_labels-requires-clause-room
write_labels-requires-clause-room g c v inside =
    let nodes = g.C.Costs.node_count c.args.costs.now in
    let arc = g.C.Costs.arc c.args.costs.now in
    let cell = cell_at c.search_kept.new.row in
    let settled =
    sunk_settled nodes c.nodes-sink.result arc (label_in c.args.labels.now) cell (flag_at c.search_kept.new.waits)
    (g.met.C.Costs.between_nodes c.args.costs.now)
    c.nodes-sink.ensures c.requires.keeps c.search_kept.ensures in
    (sunk_at nodes c.nodes-sink.result arc cell (g.met.C.Costs.small c.args.costs.now) c.requires.few
    c.nodes-sink.ensures settled).1 v (omega (arith, inside, c.requires.labels_sized))

pub returns : goal.returns
returns g c =
    let nodes = g.C.Costs.node_count c.args.costs.now in
    let arc = g.C.Costs.arc c.args.costs.now in
    let cell = cell_at c.search_kept.new.row in
    let between = g.met.C.Costs.between_nodes c.args.costs.now in
    let settled =
    sunk_settled nodes c.nodes-sink.result arc (label_in c.args.labels.now) cell (flag_at c.search_kept.new.waits)
    between c.nodes-sink.ensures c.requires.keeps c.search_kept.ensures in
    let sunk = sunk_at nodes c.nodes-sink.result arc cell (g.met.C.Costs.small c.args.costs.now) c.requires.few
    c.nodes-sink.ensures settled in
    let least : IsLowestCost nodes cell c.lowest_cost.result =
    subst (λ (k : ℕ). IsLowestCost k cell c.lowest_cost.result) c.nodes-sink.ensures c.lowest_cost.ensures in
    let fits : SFits w128 c.lowest_cost.result = search rules in
    let are = simp to_z-of_z at c.write_labels.ensures in
    are_labels nodes arc cell between sunk.0 c.lowest_cost.result c.write_labels.new.labels least
    (omega (arith, c.write_labels.auto.labels, c.requires.labels_sized))
    (λ v inside. are v (omega (arith, inside, c.requires.labels_sized)))

pub search_kept-requires-clause-waits_sized : goal.search_kept-requires-clause-waits_sized
search_kept-requires-clause-waits_sized g c =
    omega (arith, c.requires.waits_sized, length-set c.args.waits.now c.nodes-sink.result false)

pub search_kept-requires-clause-labelled : goal.search_kept-requires-clause-labelled
search_kept-requires-clause-labelled g c v inside off =
    omega (arith, inside, off, c.requires.labels_sized, c.nodes-sink.ensures)

pub search_kept-requires-clause-shut : goal.search_kept-requires-clause-shut
search_kept-requires-clause-shut g c =
    get_or-set_same c.args.waits.now c.nodes-sink.result false false
    (omega (arith, c.requires.waits_sized, c.nodes-sink.ensures))

-- the nodes of an arc that doesn't end at the sink wait, once the sink doesn't
module _ (nodes sink : ℕ) (arc : ℕ → ℕ → Option ℤ) (waits : List Bool) (last : sink ≡ nodes)
    (marked : (u v : ℕ) (cost : ℤ) → arc u v ≡ Some cost → (flag_at waits u ≡ true) × (flag_at waits v ≡ true))
    (u v : ℕ) (cost : ℤ) (off : v ≢ sink) (is : with_sink nodes arc u v ≡ Some cost) where
  own : arc u v ≡ Some cost
  own = arc_off_sink nodes arc u v cost (λ e. off (e ∙ sym last)) is

  begin_waits : u ≢ sink → flag_at (set waits sink false) u ≡ true
  begin_waits begin_off = get_or-set_other waits sink u false false begin_off ∙ (marked u v cost own).0

  end_waits : flag_at (set waits sink false) v ≡ true
  end_waits = get_or-set_other waits sink v false false off ∙ (marked u v cost own).1

pub search_kept-requires-clause-begins : goal.search_kept-requires-clause-begins
search_kept-requires-clause-begins g c v u cost v_off u_off is =
    begin_waits (g.C.Costs.node_count c.args.costs.now) c.nodes-sink.result (g.C.Costs.arc c.args.costs.now)
    c.args.waits.now c.nodes-sink.ensures c.requires.marked v u cost u_off is v_off

pub search_kept-requires-clause-passes : goal.search_kept-requires-clause-passes
search_kept-requires-clause-passes g c v u cost last off is _ =
    end_waits (g.C.Costs.node_count c.args.costs.now) c.nodes-sink.result (g.C.Costs.arc c.args.costs.now)
    c.args.waits.now c.nodes-sink.ensures c.requires.marked v u cost off is

pub search_kept-requires-clause-keeps : goal.search_kept-requires-clause-keeps
search_kept-requires-clause-keeps g c u v cost off is =
    c.requires.keeps u v cost (arc_off_sink (g.C.Costs.node_count c.args.costs.now) (g.C.Costs.arc c.args.costs.now) u v
    cost (λ e. off (e ∙ sym c.nodes-sink.ensures)) is)
