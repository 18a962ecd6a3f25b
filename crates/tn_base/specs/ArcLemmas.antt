-- A graph that lists all its nodes for each node.
use Rattle.std.specs.Prelude.{ℕ, ℤ, Option}
use Rattle.std.proofs.Common.{refl}
use Rattle.tn_base.specs.Arcs.{AreBetweenNodes, ListsPredecessors, ListsSuccessors}

pub lists_all_predecessors : (nodes : ℕ) (arc : ℕ → ℕ → Option ℤ) → AreBetweenNodes nodes arc → (b : ℕ)
    → ListsPredecessors nodes arc b nodes (λ k. k)
lists_all_predecessors nodes arc between b = record {
  inside = λ k below. below;
  all = λ a cost is. (a, (between a b cost is).0, refl);
  once = λ i k _ _ same. same;
}

pub lists_all_successors : (nodes : ℕ) (arc : ℕ → ℕ → Option ℤ) → AreBetweenNodes nodes arc → (a : ℕ)
    → ListsSuccessors nodes arc a nodes (λ k. k)
lists_all_successors nodes arc between a = record {
  inside = λ k below. below;
  all = λ b cost is. (b, (between a b cost is).1, refl);
  once = λ i k _ _ same. same;
}
