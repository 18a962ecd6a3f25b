-- Least walks as they are found, and as they are said.
use Rattle.std.proofs.Common.{◌≡◌, ℕ, zero, suc, ◌+◌, ◌*◌, ◌<◌, ◌≤◌, List, [], ◌∷◌, ◌++◌, length, slice_get, Some, None, Option, refl, sym, ◌∙◌, arith, inl, inr, ℤ}
use Rattle.std.specs.Prelude.{IfSome}
use Rattle.std.proofs.lemmas.Int.{ints}
use Rattle.std.proofs.lemmas.Option.{none-some, same_Some, slice_get_within, get_or_from_slice_get}
use Rattle.tn_base.specs.Arcs.{IsAtMost, AreBetweenNodes, AreSmall}
use Rattle.tn_base.specs.Walks.{AreDifferent, Avoids}
use Rattle.tn_base.specs.Widths.{most_cost}
use Rattle.tn_base.proofs.WalkLemmas.{SameArcs, walk-same}
use Rattle.tn_cycle.specs.Answers.{LeadsLeast}
use Rattle.tn_cycle.specs.Widths.{most_graph_nodes, most_read}
use Rattle.tn_cycle.proofs.WalkLemmas.{AreApart, apart_from_different, few_apart, walk_inside, walk_small}
use Rattle.tn_network_laws.specs.Bounds.{IsDistance}
use Rattle.tn_network_laws.proofs.PoolLemmas.{append_cases}

-- the cost of a least walk is the distance
pub leads-distance : (arc : ℕ → ℕ → Option ℤ) (u w : ℕ) (listed : List ℕ) (o : Option ℤ) → LeadsLeast arc u w listed o
    → IsDistance arc u w o
leads-distance arc u w listed None none = none
leads-distance arc u w listed (Some cost) some = (some.inner, some.least)

-- least walks are those of a graph with the same arcs
pub leads-same : (one other : ℕ → ℕ → Option ℤ) → SameArcs one other → (u w : ℕ) (listed : List ℕ) (o : Option ℤ)
    → LeadsLeast other u w listed o → LeadsLeast one u w listed o
leads-same one other same u w listed None none = λ vs. walk-same one other same u vs w ∙ none vs
leads-same one other same u w listed (Some cost) some = record {
  inner = some.inner;
  nodes_are = some.nodes_are;
  least = record {
    walk = walk-same one other same u some.inner w ∙ some.least.walk;
    least = λ ws sum walk. some.least.least ws sum (sym (walk-same one other same u ws w) ∙ walk);
  };
  different = some.different;
  ends = some.ends;
}

-- a number that isn't in a list may stand behind it
pub different-push : (xs : List ℕ) (w : ℕ) → AreDifferent xs → Avoids w xs → AreDifferent (xs ++ w ∷ [])
different-push xs w different avoids j k v at_j at_k = elim (append_cases xs (w ∷ []) j v at_j) [
  | inl front ↦ elim (append_cases xs (w ∷ []) k v at_k) [
    | inl also ↦ different j k v front.0 also.0
    | inr behind ↦ absurd (outside j front.0 (last behind.place behind.is).1)
  ]
  | inr behind ↦ elim (append_cases xs (w ∷ []) k v at_k) [
    | inl front ↦ absurd (outside k front.0 (last behind.place behind.is).1)
    | inr also ↦
        let first = (last behind.place behind.is).0 in
        let second = (last also.place also.is).0 in
        let at = behind.at in
        let there = also.at in
        omega (arith, first, second, at, there)
  ]
]
  where
    last : (place : ℕ) → slice_get (w ∷ []) place ≡ Some v → (place ≡ 0) × (w ≡ v)
    last zero is = (refl, same_Some w v is)
    last (suc place) is = absurd (none-some v is)

    outside : (i : ℕ) → slice_get xs i ≡ Some v → w ≡ v → ⊥
    outside i is same = avoids i v (slice_get_within xs i v is) (get_or_from_slice_get xs i v v is ∙ sym same)

-- in a graph of few nodes and small costs least walks have small costs
pub least-small : (n : ℕ) (arc : ℕ → ℕ → Option ℤ) → AreBetweenNodes n arc → AreSmall arc most_cost
    → n ≤ most_graph_nodes → (u w : ℕ) (listed : List ℕ) (o : Option ℤ) → u < n
    → LeadsLeast arc u w listed o → IfSome o (λ cost. IsAtMost cost most_read)
unfolding AreApart
least-small n arc between small few u w listed None inside none = tt
least-small n arc between small few u w listed (Some cost) inside some =
    let apart = apart_from_different (u ∷ some.inner) some.different in
    let fewer = few_apart n u some.inner inside (walk_inside n arc between u some.inner w cost some.least.walk) apart.0
    apart.1 in
    by (length some.inner) (omega (arith, fewer, few)) (walk_small arc most_cost small u some.inner w cost
    some.least.walk)
  where
    by : (k : ℕ) → k < most_graph_nodes → IsAtMost cost ((k + 1) * most_cost) → IsAtMost cost most_read
    by k below at = let low = at.low in let high = at.high in
        record { low = omega (arith, ints, below, low, high); high = omega (arith, ints, below, low, high) }
