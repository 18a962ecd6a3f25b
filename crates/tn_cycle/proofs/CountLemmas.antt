-- How many nodes wait.
use Rattle.std.proofs.Common.{◌≡◌, ◌≢◌, ℕ, zero, suc, ◌+◌, ◌<◌, ◌≤◌, refl, sym, ap, ◌∙◌, subst, arith, inl, inr, List, ℤ, Option, Bool, true, false, ◌==◌, if◌then◌else◌}
use Rattle.std.proofs.lemmas.Bool.{cases_eq, eq-eqb, ne_eqb}
use Rattle.tn_base.specs.Arcs.{ListsPredecessors}
use Rattle.tn_cycle.specs.declared.cell.Cell.{Cell}
use Rattle.tn_cycle.specs.Kept.{AreReady, every, is_ready, node_in_list}

-- how many of the first nodes wait
abbrev pub one_if : Bool → ℕ
one_if true = 1
one_if false = 0

unfoldable pub waiting : ℕ → (ℕ → Bool) → ℕ
waiting zero waits = 0
waiting (suc n) waits = waiting n waits + one_if (waits n)

one_at_most : (b : Bool) → one_if b ≤ 1
one_at_most true = omega arith
one_at_most false = omega arith

waiting_most : (n : ℕ) (waits : ℕ → Bool) → waiting n waits ≤ n
unfolding waiting
waiting_most zero waits = omega arith
waiting_most (suc n) waits = omega (arith, waiting_most n waits, one_at_most (waits n))

-- not all wait
pub waiting_fewer : (n : ℕ) (waits : ℕ → Bool) (v : ℕ) → v < n → waits v ≡ false → waiting n waits < n
unfolding waiting
waiting_fewer zero waits v inside shut = absurd (omega (arith, inside))
waiting_fewer (suc n) waits v inside shut = elim (cases_eq v n) [
  | inl same ↦
      let e : one_if (waits n) ≡ 0 = ap one_if (subst (λ (z : ℕ). waits z ≡ false) same shut) in
      omega (arith, e, waiting_most n waits)
  | inr other ↦ omega (arith, waiting_fewer n waits v (omega (arith, inside, other)) shut, one_at_most (waits n))
]

waiting_same : (n : ℕ) (waits now : ℕ → Bool) → ((v : ℕ) → v < n → now v ≡ waits v) → waiting n now ≡ waiting n waits
unfolding waiting
waiting_same zero waits now same = refl
waiting_same (suc n) waits now same =
    let rest : waiting n now ≡ waiting n waits = waiting_same n waits now (λ v inside. same v (omega (arith, inside)))
    in
    let e : one_if (now n) ≡ one_if (waits n) = ap one_if (same n (omega arith)) in
    omega (arith, rest, e)

-- one waits no more
pub waiting_less : (n : ℕ) (waits now : ℕ → Bool) (u : ℕ) → u < n → waits u ≡ true → now u ≡ false
    → ((v : ℕ) → v ≢ u → now v ≡ waits v) → waiting n now + 1 ≡ waiting n waits
unfolding waiting
waiting_less zero waits now u inside was shut same = absurd (omega (arith, inside))
waiting_less (suc n) waits now u inside was shut same = elim (cases_eq u n) [
  | inl here ↦
      let rest : waiting n now ≡ waiting n waits =
      waiting_same n waits now (λ v below. same v (λ e. omega (arith, e, here, below))) in
      let one : one_if (waits n) ≡ 1 = ap one_if (subst (λ (z : ℕ). waits z ≡ true) here was) in
      let none : one_if (now n) ≡ 0 = ap one_if (subst (λ (z : ℕ). now z ≡ false) here shut) in
      omega (arith, rest, one, none)
  | inr other ↦
      let rest : waiting n now + 1 ≡ waiting n waits =
      waiting_less n waits now u (omega (arith, inside, other)) was shut same in
      let e : one_if (now n) ≡ one_if (waits n) = ap one_if (same n (λ q. other (sym q))) in
      omega (arith, rest, e)
]

-- different nodes that wait are no more than those that do
listed_most : (count n : ℕ) (waits : ℕ → Bool) (node : ℕ → ℕ)
    → ((i : ℕ) → i < count → (node i < n) × (waits (node i) ≡ true))
    → ((i k : ℕ) → i < count → k < count → node i ≡ node k → i ≡ k) → count ≤ waiting n waits
listed_most zero n waits node each once = omega arith
listed_most (suc count) n waits node each once =
    let last = each count (omega arith) in
    let rest : count ≤ waiting n now =
    listed_most count n now node (λ i below. let own = each i (omega (arith, below)) in
    (own.0, others (node i) (λ e. omega (arith, below, once i count (omega (arith, below)) (omega arith) e)) ∙ own.1))
    (λ i k i_below k_below. once i k (omega (arith, i_below)) (omega (arith, k_below))) in
    let less : waiting n now + 1 ≡ waiting n waits =
    waiting_less n waits now (node count) last.0 last.1 closed others in
    omega (arith, rest, less)
  where
    now : ℕ → Bool
    now v = if v == node count then false else waits v

    closed : now (node count) ≡ false
    closed = ap (λ (s : Bool). if s then false else waits (node count)) (eq-eqb (node count) (node count) refl)

    others : (v : ℕ) → v ≢ node count → now v ≡ waits v
    others v other = ap (λ (s : Bool). if s then false else waits v) (ne_eqb v (node count) other)

-- listed nodes are fewer than all, where some node doesn't wait
pub ready_fewer : (nodes : ℕ) (waits : ℕ → Bool) (cell : ℕ → Cell) (list : List ℕ) (count v : ℕ)
    → AreReady nodes waits cell list count → v < nodes → waits v ≡ false → count < nodes
ready_fewer nodes waits cell list count v lists inside shut = omega (
  arith,
  listed_most count nodes (λ u. is_ready (waits u) (cell u)) (node_in_list list) lists.each lists.once,
  waiting_fewer nodes (λ u. is_ready (waits u) (cell u)) v inside (ap (λ (s : Bool). is_ready s (cell v)) shut),
)

-- predecessors are no more than all nodes
pub predecessors_most : (nodes : ℕ) (arc : ℕ → ℕ → Option ℤ) (b count : ℕ) (node : ℕ → ℕ)
    → ListsPredecessors nodes arc b count node → count ≤ nodes
predecessors_most nodes arc b count node lists = omega (
  arith,
  listed_most count nodes every node (λ i below. (lists.inside i below, refl)) lists.once,
  waiting_most nodes every,
)
