-- What shows the clauses of `front_counts` of `src/kept.rt`.
use Rattle.std.proofs.Common.{◌≡◌, ◌∙◌, ◌<◌, ◌*◌, ◌+ℤ◌, ◌-ℤ◌, ℕ, ℤ, List, Option, sym, ap, subst, arith, rules, is_some, true}
use Rattle.std.specs.Prelude.{pos, unwrap_or}
use Rattle.tn_base.specs.Arcs.{IsAtMost}
use Rattle.std.proofs.lemmas.Bool.{not-false}
use Rattle.std.proofs.lemmas.Int.{ints, to_z-of_z}
use mir.Syntax.{w128}
use mir.Val.{SFits}
use Rattle.tn_cycle.specs.declared.cell.Cell.{Cell}
use Rattle.tn_cycle.specs.Answers.{AreNear, label_in}
use Rattle.tn_cycle.specs.Cells.{cell_at}
use Rattle.tn_cycle.specs.Kept.{IsPast, cell_by, every, label_by, node_in_list}
use Rattle.tn_cycle.specs.Queue.{HasKey, key_of}
use Rattle.tn_cycle.specs.Widths.{most_label}
use Rattle.tn_cycle.proofs.KeyLemmas.{past_all}
use Rattle.tn_cycle.proofs.QueueLemmas.{front_comes, key_small, some_cost}
use Rattle.tn_cycle.proofs.kept.front_counts.Goals as goal

-- what a key has over the label of the end fits
over_fits : (key base : ℤ) → IsAtMost key (4 * most_label) → IsAtMost base (2 * most_label) → SFits w128 (key -ℤ base)
over_fits key base one other = omega (arith, ints, one.low, one.high, other.low, other.high)

-- the key of the front is small
front_small : (labels : List ℤ) (row : List Cell) (list : List ℕ) (count : ℕ) (key : ℤ) → 0 < count
    → ((i : ℕ) → i < count → HasKey labels row (node_in_list list i))
    → ((i : ℕ) → i < count → is_some (cell_at row (node_in_list list i)).cost ≡ true) → AreNear (2 * most_label) labels
    → key ≡ key_of (label_in labels) (cell_at row) (node_in_list list 0) → IsAtMost key (4 * most_label)
front_small labels row list count key some keyed reached near is =
    let front = node_in_list list 0 in
    let own = some_cost (cell_at row front).cost (reached 0 some) in
    let has = keyed 0 some in
    subst (λ (z : ℤ). IsAtMost z (4 * most_label)) (sym is)
    (key_small labels row front own.0 own.1 has (near front has.labelled))

pub overflow_sub-key : goal.overflow_sub-key
overflow_sub-key c =
    let some : 0 < c.args.queue.now.count = omega (arith, c.if-queue-eq0.false) in
    let base_fits : SFits w128 c.args.base = c.ranges.base in
    let key_fits : SFits w128 c.key_at-key.result = search rules in
    simp to_z-of_z (over_fits c.key_at-key.result c.args.base
    (front_small c.args.labels.now c.args.row.now c.args.queue.now.list.now c.args.queue.now.count c.key_at-key.result
    some c.requires.keyed c.requires.reached c.requires.near c.key_at-key.ensures) c.requires.base)

pub returns-clause-yes : goal.returns-clause-yes
returns-clause-yes c _ =
    let front = node_in_list c.args.queue.now.list.now 0 in
    let some : 0 < c.args.queue.now.count = omega (arith, c.if-queue-eq0.false) in
    let own = some_cost (cell_at c.args.row.now front).cost (c.requires.reached 0 some) in (
      _,
      _,
      front_comes (label_in c.args.labels.now) (cell_at c.args.row.now) c.args.queue.now.list.now
          c.args.queue.now.count own.0 some own.1 c.requires.heap,
    )

pub returns-clause-no : goal.returns-clause-no
returns-clause-no c ends =
    let list = c.args.queue.now.list.now in
    let count = c.args.queue.now.count in
    let front = node_in_list list 0 in
    let label = label_in c.args.labels.now in
    let cell = cell_at c.args.row.now in
    let key = c.key_at-key.result in
    let some : 0 < count = omega (arith, c.if-queue-eq0.false) in
    let own = some_cost (cell front).cost (c.requires.reached 0 some) in
    let first = front_comes label cell list count own.0 some own.1 c.requires.heap in
    let base_fits : SFits w128 c.args.base = c.ranges.base in
    let key_fits : SFits w128 key = search rules in
    let past_fits : SFits w128 (key -ℤ c.args.base) = over_fits key c.args.base
    (front_small c.args.labels.now c.args.row.now list count key some c.requires.keyed c.requires.reached
    c.requires.near c.key_at-key.ensures) c.requires.base in
    let yes = c.is_past.ensures (not-false c.is_past.result ends) in
    let past : IsPast c.args.sought (cell c.args.end) (key -ℤ c.args.base) (cell front).inner_nodes =
    simp to_z-of_z at yes in
    let key_is : key ≡ own.0 +ℤ label front =
    c.key_at-key.ensures ∙ ap (λ (o : Option ℤ). unwrap_or o (pos 0) +ℤ label front) own.1 in
    past_all count c.args.base c.args.sought (label_by label list) (cell_by cell list) (cell c.args.end) every 0
    (own.0 +ℤ label front) (cell front).inner_nodes first
    (subst (λ (z : ℤ). IsPast c.args.sought (cell c.args.end) (z -ℤ c.args.base) (cell front).inner_nodes) key_is past)
