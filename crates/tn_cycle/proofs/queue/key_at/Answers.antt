-- What shows the clauses of `key_at` of `src/queue.rt`.
use Rattle.std.proofs.Common.{◌≡◌, ◌*◌, ◌+ℤ◌, ℕ, ℤ, pos, Option, Some, None, refl, ap, arith}
use Rattle.std.specs.Prelude.{unwrap_or}
use Rattle.std.proofs.lemmas.Int.{ints, to_z-of_z}
use mir.Syntax.{w128}
use mir.Val.{SFits}
use Rattle.tn_base.specs.Arcs.{IsAtMost}
use Rattle.tn_cycle.specs.Answers.{label_in}
use Rattle.tn_cycle.specs.Cells.{cell_at}
use Rattle.tn_cycle.specs.Widths.{most_label, most_walk_cost}
use Rattle.tn_cycle.proofs.queue.key_at.Goals as goal

-- a cost that may not be there is as small as one that is
or_small : (o : Option ℤ) (limit : ℕ) → ((x : ℤ) → o ≡ Some x → IsAtMost x limit)
    → IsAtMost (unwrap_or o (pos 0)) limit
or_small None limit small = record { low = omega (arith, ints); high = omega (arith, ints) }
or_small (Some x) limit small = small x refl

-- a cost, a label, and their sum fit
record Fit (cost label : ℤ) : Type 0 where
  pub one : SFits w128 cost
  pub other : SFits w128 label
  pub sum : SFits w128 (cost +ℤ label)

fits : (cost label : ℤ) (o : Option ℤ) → cost ≡ unwrap_or o (pos 0)
    → ((x : ℤ) → o ≡ Some x → IsAtMost x (2 * most_walk_cost)) → IsAtMost label (2 * most_label) → Fit cost label
fits cost label o is small near =
    let own = or_small o (2 * most_walk_cost) small in
    record {
      one = omega (arith, ints, is, own.low, own.high);
      other = omega (arith, ints, near.low, near.high);
      sum = omega (arith, ints, is, own.low, own.high, near.low, near.high);
    }

pub overflow_add-result : goal.overflow_add-result
overflow_add-result c =
    let label = label_in c.args.labels.now c.args.v in
    let all = fits c.unwrap_or.result label (cell_at c.args.row.now c.args.v).cost c.unwrap_or.ensures
    c.requires.has.room (c.requires.near c.args.v c.requires.has.labelled) in
    let one : SFits w128 c.unwrap_or.result = all.one in
    let other : SFits w128 label = all.other in
    simp to_z-of_z all.sum

pub returns : goal.returns
returns c =
    let label = label_in c.args.labels.now c.args.v in
    let all = fits c.unwrap_or.result label (cell_at c.args.row.now c.args.v).cost c.unwrap_or.ensures
    c.requires.has.room (c.requires.near c.args.v c.requires.has.labelled) in
    let one : SFits w128 c.unwrap_or.result = all.one in
    let other : SFits w128 label = all.other in
    let sum : SFits w128 (c.unwrap_or.result +ℤ label) = all.sum in
    simp to_z-of_z (ap (λ (z : ℤ). z +ℤ label) c.unwrap_or.ensures)
