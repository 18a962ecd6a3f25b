-- How far labels are apart.
use Rattle.std.proofs.Common.{◌≡◌, ℕ, ◌+◌, ◌-◌, ◌*◌, ◌<◌, arith, ℤ, pos, neg_ℤ, ◌-ℤ◌, List, Option, ◌≤◌, sym, ◌∙◌, length}
use Rattle.std.specs.Prelude.{◌≤ℤ◌}
use Rattle.std.proofs.lemmas.Int.{ints}
use Rattle.tn_base.specs.Arcs.{IsAtMost, AreSmall}
use Rattle.tn_base.specs.Widths.{most_cost}
use Rattle.tn_base.proofs.WalkLemmas.{SameArcs}
use Rattle.tn_cycle.specs.Answers.{AreLabels, label_in}
use Rattle.tn_cycle.specs.Widths.{most_graph_nodes, most_read}

-- labels are within the bound of a path
pub label_within : (nodes : ℕ) (arc : ℕ → ℕ → Option ℤ) (labels : List ℤ) → AreLabels nodes arc labels → (limit v : ℕ)
    → AreSmall arc limit → v < nodes
    → (neg_ℤ (pos ((nodes - 1) * limit)) ≤ℤ label_in labels v) × (label_in labels v ≤ℤ pos 0)
label_within nodes arc labels are limit v small below = (are.low limit v small below, are.high v below)

-- and so are their differences
pub difference_within : (count limit : ℕ) (arc : ℕ → ℕ → Option ℤ) (labels : List ℤ) → AreLabels (count + 1) arc labels
    → AreSmall arc limit → (t : ℕ) → t < count
    → IsAtMost (label_in labels t -ℤ label_in labels count) (limit * count)
difference_within count limit arc labels are small t below =
    let first = label_within (count + 1) arc labels are limit t small (omega (arith, below)) in
    let second = label_within (count + 1) arc labels are limit count small (omega arith) in
    by ((count + 1 - 1) * limit) (limit * count) (label_in labels t) (label_in labels count) (grind arith) first.0
    first.1 second.0 second.1
  where
    by : (n m : ℕ) (a b : ℤ) → n ≡ m → neg_ℤ (pos n) ≤ℤ a → a ≤ℤ pos 0 → neg_ℤ (pos n) ≤ℤ b → b ≤ℤ pos 0
        → IsAtMost (a -ℤ b) m
    by n m a b e a_low a_high b_low b_high = record {
      low = omega (arith, ints, e, a_low, a_high, b_low, b_high);
      high =
          omega (arith, ints, e, a_low, a_high, b_low, b_high);
    }

-- labels that keep the arcs of a graph keep those of one with the same arcs, and are within the same bounds
pub labels-same : (nodes : ℕ) (one other : ℕ → ℕ → Option ℤ) (labels : List ℤ) → SameArcs one other
    → AreLabels nodes other labels → AreLabels nodes one labels
labels-same nodes one other labels same are = record {
  one_each = are.one_each;
  keeps = λ u v c is. are.keeps u v c (sym (same u v) ∙ is);
  high = are.high;
  low = λ limit v small below. are.low limit v (λ a b cost is. small a b cost (same a b ∙ is)) below;
  low_off = λ t off limit v small_off small below. are.low_off t off limit v
      (λ a b cost a_off b_off is. small_off a b cost a_off b_off (same a b ∙ is))
      (λ a b cost is. small a b cost (same a b ∙ is)) below;
}

-- labels of a graph of small costs are small
pub label_small : (nodes : ℕ) (arc : ℕ → ℕ → Option ℤ) (labels : List ℤ) → AreLabels nodes arc labels
    → AreSmall arc most_cost → nodes ≤ most_graph_nodes → (v : ℕ) → v < length labels
    → IsAtMost (label_in labels v) most_read
label_small nodes arc labels are small few v below =
    let sized = are.one_each in
    let within = label_within nodes arc labels are most_cost v small (omega (arith, sized, below)) in
    by nodes (label_in labels v) few within.0 within.1
  where
    by : (n : ℕ) (a : ℤ) → n ≤ most_graph_nodes → neg_ℤ (pos ((n - 1) * most_cost)) ≤ℤ a → a ≤ℤ pos 0
        → IsAtMost a most_read
    by n a few low high = record {
      low = omega (arith, ints, few, low, high);
      high =
          omega (arith, ints, few, low, high);
    }
