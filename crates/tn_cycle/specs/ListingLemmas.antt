-- That graphs made from a graph list the nodes from which and to which their arcs lead.
use Rattle.std.proofs.Common.{◌≡◌, ◌≢◌, ℕ, ◌+◌, ◌<◌, refl, sym, ap, ◌∙◌, arith, inl, inr, ℤ, pos, Option, Some, Bool, true, false, ◌&&◌, ◌==◌, if◌then◌else◌, nat_lt}
use Rattle.std.proofs.lemmas.Bool.{cases_eq, eq-eqb, eqb-true, eqb-false, ltb-true, ne_eqb}
use Rattle.tn_base.specs.Arcs.{ListsPredecessors, ListsSuccessors}
use Rattle.tn_base.specs.Walks.{arcs_among}
use Rattle.tn_cycle.specs.Graphs.{with_sink}
use Rattle.tn_cycle.specs.GraphLemmas.{some_if}

-- a list for a graph is one for a graph of some of its arcs
lists_fewer : (nodes : ℕ) (arc other : ℕ → ℕ → Option ℤ) (b count : ℕ) (node : ℕ → ℕ)
    → ((a : ℕ) (cost : ℤ) → other a b ≡ Some cost → arc a b ≡ Some cost) → ListsPredecessors nodes arc b count node
    → ListsPredecessors nodes other b count node
lists_fewer nodes arc other b count node some lists = record {
  inside = lists.inside;
  all = λ a cost is. lists.all a cost (some a cost is);
  once = lists.once;
}

module _ (test : ℕ → Bool) (nodes : ℕ) (arc : ℕ → ℕ → Option ℤ) (count : ℕ → ℕ) (node : ℕ → ℕ → ℕ) where
  pub lists_predecessors-arcs_among : ((b : ℕ) → b < nodes → ListsPredecessors nodes arc b (count b) (node b))
      → (b : ℕ) → b < nodes → ListsPredecessors nodes (arcs_among test arc) b (count b) (node b)
  lists_predecessors-arcs_among lists b inside =
      lists_fewer nodes arc (arcs_among test arc) b (count b) (node b)
      (λ a cost is. (some_if (test a && test b) (arc a b) cost is).1) (lists b inside)

  pub lists_successors-arcs_among : ((a : ℕ) → a < nodes → ListsSuccessors nodes arc a (count a) (node a))
      → (a : ℕ) → a < nodes → ListsSuccessors nodes (arcs_among test arc) a (count a) (node a)
  lists_successors-arcs_among lists a inside =
      lists_fewer nodes (λ u v. arc v u) (λ u v. arcs_among test arc v u) a (count a) (node a)
      (λ b cost is. (some_if (test a && test b) (arc a b) cost is).1) (lists a inside)

module _ (nodes sink : ℕ) (arc : ℕ → ℕ → Option ℤ) (last : nodes ≡ sink) where
  -- an arc of the graph with a sink begins at one of the other nodes, and is an arc of the graph where it doesn't end
  -- at the sink
  begins : (a b : ℕ) (cost : ℤ) → with_sink nodes arc a b ≡ Some cost → a < nodes
  begins a b cost is =
      ltb-true a nodes (some_if (nat_lt a nodes) (if b == nodes then Some (pos 0) else arc a b) cost is).0

  plain : (a b : ℕ) (cost : ℤ) → b ≢ nodes → with_sink nodes arc a b ≡ Some cost → arc a b ≡ Some cost
  plain a b cost off is =
      sym (ap (λ (s : Bool). if s then Some (pos 0) else arc a b) (ne_eqb b nodes off))
      ∙ (some_if (nat_lt a nodes) (if b == nodes then Some (pos 0) else arc a b) cost is).1

  module _ (count : ℕ → ℕ) (node : ℕ → ℕ → ℕ)
      (lists : (b : ℕ) → b < nodes → ListsPredecessors nodes arc b (count b) (node b)) where
    pub lists_predecessors-with_sink : (b : ℕ) → b < nodes + 1
        → ListsPredecessors (nodes + 1) (with_sink nodes arc) b (if b == sink then sink else count b)
        (λ k. if b == sink then k else node b k)
    lists_predecessors-with_sink b inside = by (b == sink) refl
      where
        by : (t : Bool) → (b == sink) ≡ t
            → ListsPredecessors (nodes + 1) (with_sink nodes arc) b (if t then sink else count b)
            (λ k. if t then k else node b k)
        by true same = record {
          inside = λ k below. omega (arith, below, last);
          all = λ a cost is. let first : a < nodes = begins a b cost is in (a, omega (arith, first, last), refl);
          once = λ i k _ _ e. e;
        }
        by false other =
            let off : b ≢ sink = eqb-false b sink other in
            let own = lists b (omega (arith, inside, off, last)) in
            record {
              inside = λ k below. let within : node b k < nodes = own.inside k below in omega (arith, within);
              all = λ a cost is. own.all a cost (plain a b cost (λ e. off (e ∙ last)) is);
              once = own.once;
            }

  module _ (count : ℕ → ℕ) (node : ℕ → ℕ → ℕ)
      (lists : (a : ℕ) → a < nodes → ListsSuccessors nodes arc a (count a) (node a)) where
    at_last : (a k : ℕ) → k ≡ count a → (if k == count a then sink else node a k) ≡ sink
    at_last a k same = ap (λ (s : Bool). if s then sink else node a k) (eq-eqb k (count a) same)

    at_other : (a k : ℕ) → k ≢ count a → (if k == count a then sink else node a k) ≡ node a k
    at_other a k other = ap (λ (s : Bool). if s then sink else node a k) (ne_eqb k (count a) other)

    pub lists_successors-with_sink : (a : ℕ) → a < nodes + 1
        → ListsSuccessors (nodes + 1) (with_sink nodes arc) a (if a == sink then 0 else count a + 1)
        (λ k. if k == count a then sink else node a k)
    lists_successors-with_sink a inside = by (a == sink) refl
      where
        by : (t : Bool) → (a == sink) ≡ t
            → ListsSuccessors (nodes + 1) (with_sink nodes arc) a (if t then 0 else count a + 1)
            (λ k. if k == count a then sink else node a k)
        by true same =
            let here : a ≡ sink = eqb-true a sink same in
            record {
              inside = λ k below. absurd (omega (arith, below));
              all = λ b cost is.
                  let first : a < nodes = begins a b cost is in absurd (omega (arith, first, here, last));
              once = λ i k below _ _. absurd (omega (arith, below));
            }
        by false other =
            let off : a ≢ sink = eqb-false a sink other in
            let own = lists a (omega (arith, inside, off, last)) in
            record {
              inside = λ k below. elim (cases_eq k (count a)) [
                | inl same ↦ omega (arith, at_last a k same, last)
                | inr before ↦
                    let within : node a k < nodes = own.inside k (omega (arith, below, before)) in
                    omega (arith, at_other a k before, within)
              ];
              all = λ b cost is. elim (cases_eq b nodes) [
                | inl here ↦ (count a, omega arith, at_last a (count a) refl ∙ sym (here ∙ last))
                | inr there ↦
                    let had = own.all b cost (plain a b cost there is) in
                    (had.0, omega (arith, had.1), at_other a had.0 (λ e. omega (arith, e, had.1)) ∙ had.2)
              ];
              once = λ i k i_below k_below same. elim (cases_eq i (count a)) [
                | inl i_last ↦ elim (cases_eq k (count a)) [
                  | inl k_last ↦ omega (arith, i_last, k_last)
                  | inr k_other ↦
                      let within : node a k < nodes = own.inside k (omega (arith, k_below, k_other)) in
                      absurd (omega (arith, within, same, at_last a i i_last, at_other a k k_other, last))
                ]
                | inr i_other ↦
                    let i_in : i < count a = omega (arith, i_below, i_other) in
                    elim (cases_eq k (count a)) [
                      | inl k_last ↦
                          let within : node a i < nodes = own.inside i i_in in
                          absurd (omega (arith, within, same, at_last a k k_last, at_other a i i_other, last))
                      | inr k_other ↦
                          own.once i k i_in (omega (arith, k_below, k_other))
                          (sym (at_other a i i_other) ∙ same ∙ at_other a k k_other)
                    ]
              ];
            }
