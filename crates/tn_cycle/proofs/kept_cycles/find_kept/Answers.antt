-- What shows the clauses of `find_kept` of `src/kept_cycles.rt`.
use Rattle.std.proofs.Common.{◌≡◌, ◌≢◌, ◌<◌, ◌≤◌, ◌∙◌, ℕ, ℤ, ◌+ℤ◌, List, Option, false, length, sym, ap, subst, arith, rules}
use Rattle.std.specs.Prelude.{take}
use Rattle.std.proofs.lemmas.Int.{ints, to_z-of_z}
use Rattle.std.proofs.lemmas.List.Elements.{All-weaker}
use mir.Syntax.{w128}
use mir.Val.{SFits}
use Rattle.tn_cycle.specs.Answers.{arc_count, cost_of, label_in}
use Rattle.tn_cycle.specs.declared.answer.Path.{Path}
use Rattle.tn_cycle.specs.declared.answer.Path.TheVariants as path
use Rattle.tn_cycle.specs.declared.cell.Cell.{Cell}
use Rattle.tn_cycle.specs.Cells.{HasRoom, cell_at, trail}
use Rattle.tn_cycle.specs.Kept.{AreRaised, IsCycleRead, flag_at}
use Rattle.tn_cycle.proofs.StoppedLemmas.{raised_keep}
use Rattle.tn_cycle.proofs.KeptCycleLemmas.{kept_room, raised_near, read_least, read_negative, read_small, read_under}
use Rattle.tn_cycle.proofs.kept_cycles.find_kept.Goals as goal

pub search_kept-requires-clause-near : goal.search_kept-requires-clause-near
search_kept-requires-clause-near g c v inside =
    let near = c.requires.near v inside in
    record { low = omega (arith, ints, near.low); high = omega (arith, ints, near.high) }

pub gain-requires-clause-cost : goal.gain-requires-clause-cost
gain-requires-clause-cost g c =
    let nodes = g.C.Costs.node_count c.args.costs.now in
    let fits : SFits w128 c.cost.result = search rules in
    let small = read_small nodes (g.C.Costs.arc c.args.costs.now) c.args.node c.args.cap (label_in c.args.labels.now)
    (cell_at c.search_kept.new.row) (flag_at c.search_kept.new.waits)
    (g.met.C.Costs.between_nodes c.args.costs.now) (g.met.C.Costs.small c.args.costs.now) c.requires.keeps
    c.search_kept.ensures c.requires.inside
    (take (arc_count c.read_cycle-found.result) c.read_cycle-found.new.path) c.read_cycle-found.result
    c.read_cycle-found.ensures in
    simp to_z-of_z (record {
      low = omega (arith, ints, c.cost.ensures, small.low, c.requires.few);
      high =
          omega (arith, ints, c.cost.ensures, small.high, c.requires.few);
    })

pub raise-requires-clause-room : goal.raise-requires-clause-room
raise-requires-clause-room g c =
    let nodes = g.C.Costs.node_count c.args.costs.now in
    let room = kept_room nodes (g.C.Costs.arc c.args.costs.now) c.args.node c.args.cap (label_in c.args.labels.now)
    (cell_at c.search_kept.new.row) (flag_at c.search_kept.new.waits)
    (g.met.C.Costs.between_nodes c.args.costs.now) (g.met.C.Costs.small c.args.costs.now) c.requires.keeps
    c.search_kept.ensures c.requires.inside c.requires.few in
    subst (λ (n : ℕ). HasRoom n (cell_at c.search_kept.new.row)) (sym c.requires.labels_sized) room

pub raise-requires-clause-near : goal.raise-requires-clause-near
raise-requires-clause-near g c v inside =
    let near = c.requires.near v inside in
    record { low = omega (arith, ints, near.low); high = omega (arith, ints, near.high) }

pub raise-requires-clause-limit : goal.raise-requires-clause-limit
raise-requires-clause-limit g c =
    let nodes = g.C.Costs.node_count c.args.costs.now in
    let near = c.requires.near c.args.node (omega (arith, c.requires.inside, c.requires.labels_sized)) in
    let label_fits : SFits w128 (label_in c.args.labels.now c.args.node) = omega (arith, ints, near.low, near.high) in
    let fits : SFits w128 c.cost.result = search rules in
    let gain_fits : SFits w128 c.gain.result = search rules in
    let small = read_small nodes (g.C.Costs.arc c.args.costs.now) c.args.node c.args.cap (label_in c.args.labels.now)
    (cell_at c.search_kept.new.row) (flag_at c.search_kept.new.waits)
    (g.met.C.Costs.between_nodes c.args.costs.now) (g.met.C.Costs.small c.args.costs.now) c.requires.keeps
    c.search_kept.ensures c.requires.inside
    (take (arc_count c.read_cycle-found.result) c.read_cycle-found.new.path) c.read_cycle-found.result
    c.read_cycle-found.ensures in
    let gain = simp to_z-of_z at c.gain.ensures in
    simp to_z-of_z (record {
      low = omega (arith, ints, gain, c.cost.ensures, small.low, near.low, c.requires.few);
      high = omega (arith, ints, gain, c.cost.ensures, small.high, near.high, c.requires.few);
    })

pub returns-clause-negative : goal.returns-clause-negative
returns-clause-negative g c cap_is =
    read_negative (g.C.Costs.node_count c.args.costs.now) (g.C.Costs.arc c.args.costs.now) c.args.node c.args.cap
    (label_in c.args.labels.now) (cell_at c.search_kept.new.row) (flag_at c.search_kept.new.waits)
    (g.met.C.Costs.between_nodes c.args.costs.now) (g.met.C.Costs.small c.args.costs.now) c.requires.keeps
    c.search_kept.ensures c.requires.inside
    cap_is (take (arc_count c.read_cycle-found.result) c.read_cycle-found.new.path) c.read_cycle-found.result
    c.read_cycle-found.ensures

pub returns-clause-least : goal.returns-clause-least
returns-clause-least g c uncapped =
    read_least (g.C.Costs.node_count c.args.costs.now) (g.C.Costs.arc c.args.costs.now) c.args.node c.args.cap
    (label_in c.args.labels.now) (cell_at c.search_kept.new.row) (flag_at c.search_kept.new.waits)
    (g.met.C.Costs.between_nodes c.args.costs.now) (g.met.C.Costs.small c.args.costs.now) c.requires.keeps
    c.search_kept.ensures c.requires.inside
    uncapped (take (arc_count c.read_cycle-found.result) c.read_cycle-found.new.path) c.read_cycle-found.result
    c.read_cycle-found.ensures

-- the labels are raised to the node's own and the cost of the cycle
limit_is : (nodes places node : ℕ) (label new : ℕ → ℤ) (cell : ℕ → Cell) (limit gained gap : ℤ) → places ≡ nodes
    → limit ≡ label node +ℤ gained → gained ≡ gap
    → AreRaised places node label cell limit new → AreRaised nodes node label cell (label node +ℤ gap) new
limit_is nodes places node label new cell limit gained gap same limit_at gained_at raised =
    subst (λ (n : ℕ). AreRaised n node label cell (label node +ℤ gap) new) same
    (subst (λ (z : ℤ). AreRaised places node label cell z new) (limit_at ∙ ap (λ (z : ℤ). label node +ℤ z) gained_at)
    raised)

pub returns-clause-keeps : goal.returns-clause-keeps
returns-clause-keeps g c which =
    let nodes = g.C.Costs.node_count c.args.costs.now in
    let label = label_in c.args.labels.now in
    let new = label_in c.raise.new.labels in
    let cell = cell_at c.search_kept.new.row in
    let found = c.read_cycle-found.result in
    let near = c.requires.near c.args.node (omega (arith, c.requires.inside, c.requires.labels_sized)) in
    let label_fits : SFits w128 (label c.args.node) = omega (arith, ints, near.low, near.high) in
    let fits : SFits w128 c.cost.result = search rules in
    let gain_fits : SFits w128 c.gain.result = search rules in
    let gain = simp to_z-of_z at c.gain.ensures in
    let raised = simp to_z-of_z at c.raise.ensures in
    let under = read_under cell c.args.node c.args.cap which (take (arc_count found) c.read_cycle-found.new.path) found
    c.read_cycle-found.ensures in
    raised_keep nodes (g.C.Costs.arc c.args.costs.now) c.args.node c.args.cap label cell
    (flag_at c.search_kept.new.waits) (g.met.C.Costs.between_nodes c.args.costs.now)
    c.requires.keeps c.search_kept.ensures (cost_of found) new c.requires.inside under.0 under.1
    (limit_is nodes (length c.args.labels.now) c.args.node label new cell c.gain.result c.cost.result (cost_of found)
    c.requires.labels_sized gain c.cost.ensures raised)

pub returns-clause-near : goal.returns-clause-near
returns-clause-near g c reach all v inside =
    let nodes = g.C.Costs.node_count c.args.costs.now in
    let label = label_in c.args.labels.now in
    let new = label_in c.raise.new.labels in
    let cell = cell_at c.search_kept.new.row in
    let found = c.read_cycle-found.result in
    let near = c.requires.near c.args.node (omega (arith, c.requires.inside, c.requires.labels_sized)) in
    let label_fits : SFits w128 (label c.args.node) = omega (arith, ints, near.low, near.high) in
    let fits : SFits w128 c.cost.result = search rules in
    let gain_fits : SFits w128 c.gain.result = search rules in
    let gain = simp to_z-of_z at c.gain.ensures in
    let raised = simp to_z-of_z at c.raise.ensures in
    let between = g.met.C.Costs.between_nodes c.args.costs.now in
    let small = g.met.C.Costs.small c.args.costs.now in
    let waits = flag_at c.search_kept.new.waits in
    raised_near nodes (g.C.Costs.arc c.args.costs.now) c.args.node c.args.cap label cell waits between small
    c.requires.keeps c.search_kept.ensures c.requires.inside reach (cost_of found) new
    (λ u within. all u (omega (arith, within, c.requires.labels_sized)))
    (read_small nodes (g.C.Costs.arc c.args.costs.now) c.args.node c.args.cap label cell waits between small
    c.requires.keeps c.search_kept.ensures c.requires.inside
    (take (arc_count found) c.read_cycle-found.new.path) found c.read_cycle-found.ensures)
    (limit_is nodes (length c.args.labels.now) c.args.node label new cell c.gain.result c.cost.result (cost_of found)
    c.requires.labels_sized gain c.cost.ensures raised)
    v (omega (arith, inside, c.raise.auto.labels, c.requires.labels_sized))

pub search_kept-requires-clause-begins : goal.search_kept-requires-clause-begins
search_kept-requires-clause-begins g c v u cost off _ is = c.requires.covers v u cost off is

pub search_kept-requires-clause-passes : goal.search_kept-requires-clause-passes
search_kept-requires-clause-passes g c v u cost last off _ is = c.requires.covers u c.args.node last off is

pub search_kept-requires-clause-labelled : goal.search_kept-requires-clause-labelled
search_kept-requires-clause-labelled g c v inside _ = omega (arith, inside, c.requires.labels_sized)

pub gain-requires-clause-number : goal.gain-requires-clause-number
gain-requires-clause-number g c =
    let near = c.requires.near c.args.node (omega (arith, c.requires.inside, c.requires.labels_sized)) in
    let fits : SFits w128 (label_in c.args.labels.now c.args.node) = omega (arith, ints, near.low, near.high) in
    simp to_z-of_z (record { low = omega (arith, ints, near.low); high = omega (arith, ints, near.high) })

pub read_cycle-found-requires-clause-inside : goal.read_cycle-found-requires-clause-inside
read_cycle-found-requires-clause-inside g c =
    omega (arith, c.requires.inside, c.requires.sized, c.search_kept.auto.row)

-- the walk of a search that stopped can be listed
pub read_cycle-found-requires-clause-listable : goal.read_cycle-found-requires-clause-listable
read_cycle-found-requires-clause-listable g c =
    let nodes = g.C.Costs.node_count c.args.costs.now in
    let row = c.search_kept.new.row in
    let stopped = c.search_kept.ensures in
    let places : nodes ≤ length row = omega (arith, c.requires.sized, c.search_kept.auto.row) in
    record {
      few = omega (
        arith,
        stopped.known.few c.args.node c.requires.inside,
        stopped.fewer,
        c.requires.path_sized,
        c.search_kept.auto.list,
      );
      inside =
          All-weaker (λ u. (u < nodes) × (u ≢ c.args.node) × (flag_at c.search_kept.new.waits u ≡ false))
          (λ u. u < length row) (λ u h. omega (arith, h.0, places))
          (trail (cell_at row) (cell_at row c.args.node).inner_nodes c.args.node)
          (stopped.known.passes c.args.node c.requires.inside);
    }

-- a cycle that was read has few arcs
read_few : (nodes node : ℕ) (cell : ℕ → Cell) (cap : Option ℤ) (listed : List ℕ) (found : Path)
    → (cell node).inner_nodes < nodes → IsCycleRead cell node cap listed found → arc_count found ≤ nodes
read_few nodes node cell cap listed path.None few read = omega arith
read_few nodes node cell cap listed (path.Cycle cost count) few read = omega (arith, few, read.3)

pub returns-clause-few_arcs : goal.returns-clause-few_arcs
returns-clause-few_arcs g c =
    let stopped = c.search_kept.ensures in
    read_few (g.C.Costs.node_count c.args.costs.now) c.args.node (cell_at c.search_kept.new.row) c.args.cap
    (take (arc_count c.read_cycle-found.result) c.read_cycle-found.new.path) c.read_cycle-found.result
    (omega (arith, stopped.known.few c.args.node c.requires.inside, stopped.fewer)) c.read_cycle-found.ensures

pub raise-requires-clause-sized : goal.raise-requires-clause-sized
raise-requires-clause-sized g c =
    omega (arith, c.requires.labels_sized, c.requires.sized, c.search_kept.auto.row)
