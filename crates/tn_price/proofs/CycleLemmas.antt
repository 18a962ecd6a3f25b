-- The nodes and the cost of a cycle of the exchange graph.
use Rattle.std.proofs.Common.{◌≡◌, ℕ, ◌+◌, ◌*◌, ◌<◌, ◌≤◌, ◌⊎◌, inl, inr, Bool, if◌then◌else◌, sym, subst, arith, ℤ, List, [], ◌∷◌, length, map, slice_get, Option, Some, None}
use Rattle.std.specs.Prelude.{All, IfSome}
use Rattle.std.proofs.lemmas.Int.{ints}
use Rattle.std.proofs.lemmas.Bool.{cases_eq, eq-eqb, ne_eqb}
use Rattle.std.proofs.Math.Nat.{mul-le-mul_right}
use Rattle.std.proofs.lemmas.List.Elements.{All-head, All-tail, All-cons, All-nil}
use Rattle.tn_base.specs.Arcs.{AreBetweenNodes, IsAtMost}
use Rattle.tn_base.specs.Firm.{Firm}
use Rattle.tn_model.specs.declared.ends.Ends.{Ends}
use Rattle.tn_model.specs.Network.{IsNetwork}
use Rattle.tn_market.specs.Graph.{exchange_arc}
use Rattle.tn_market.specs.Valued.{IsWorthAtMost}
use Rattle.tn_market.specs.Supported.{IsNegativeCycle, said_node}
use Rattle.tn_market.proofs.GraphLemmas.{arc_within}
use Rattle.tn_cycle.proofs.WalkLemmas.{AreApart, apart_from_different, few_apart, walk_inside, walk_small}
use Rattle.tn_network_laws.proofs.RoundLemmas.{cycle_avoids}
use Rattle.tn_network_laws.proofs.SupportLemmas.{arcs_small}

-- the arcs lead from trade or null to trade or null
pub arcs_between : (firms : List Firm) (trades : List Ends) (on : ℕ)
    → AreBetweenNodes (length trades + 1) (exchange_arc firms trades on)
arcs_between firms trades on u v cost is = let inside = arc_within firms trades on u v cost is in
    (omega (arith, inside.0), omega (arith, inside.1))

first_inside : (n first : ℕ) (rest : List ℕ) → (first ≡ n) ⊎ All (λ v. (first ≤ v) × (v < n)) (first ∷ rest)
    → first < n + 1
first_inside n first rest (inl last) = omega (arith, last)
first_inside n first rest (inr all) = let here = (All-head (λ v. (first ≤ v) × (v < n)) first rest all).1 in
    omega (arith, here)

rest_inside : (firms : List Firm) (trades : List Ends) (on : ℕ) (nodes : List (Option ℕ)) (cost : ℤ)
    (cycle : IsNegativeCycle firms trades on nodes cost) → All (λ v. v < length trades + 1) cycle.rest
rest_inside firms trades on nodes cost cycle =
    walk_inside (length trades + 1) (exchange_arc firms trades on) (arcs_between firms trades on) cycle.first cycle.rest
    cycle.first cost cycle.cycle.walk

pub said_inside : (n : ℕ) (vs : List ℕ) → All (λ v. v < n + 1) vs
    → All (λ node. IfSome node (λ t. t < n)) (map (said_node n) vs)
said_inside n [] inside = All-nil (λ node. IfSome node (λ t. t < n))
said_inside n (v ∷ vs) inside =
    All-cons (λ node. IfSome node (λ t. t < n)) (said_node n v) (map (said_node n) vs)
    (one (All-head (λ u. u < n + 1) v vs inside)) (said_inside n vs (All-tail (λ u. u < n + 1) v vs inside))
  where
    one : v < n + 1 → IfSome (said_node n v) (λ t. t < n)
    one below = elim (cases_eq v n) [
      | inl e ↦ subst (λ (b : Bool). IfSome (if b then None else Some v) (λ t. t < n)) (sym (eq-eqb v n e)) tt
      | inr d ↦ subst (λ (b : Bool). IfSome (if b then None else Some v) (λ t. t < n)) (sym (ne_eqb v n d))
          (omega (arith, below, d))
    ]

-- the nodes are trades and null
pub nodes_inside : (firms : List Firm) (trades : List Ends) (on : ℕ) (nodes : List (Option ℕ)) (cost : ℤ)
    → IsNegativeCycle firms trades on nodes cost
    → All (λ node. IfSome node (λ t. t < length trades)) nodes
nodes_inside firms trades on nodes cost cycle =
    subst (All (λ node. IfSome node (λ t. t < length trades))) (sym cycle.nodes_are)
    (said_inside (length trades) (cycle.first ∷ cycle.rest)
    (All-cons (λ v. v < length trades + 1) cycle.first cycle.rest
    (first_inside (length trades) cycle.first cycle.rest cycle.begins)
    (rest_inside firms trades on nodes cost cycle)))

-- the cost is at most that of as many arcs as there are nodes
pub cycle_small : (firms : List Firm) (trades : List Ends) (on : ℕ) (nodes : List (Option ℕ)) (cost : ℤ)
    → IsNetwork firms trades → (bound : ℕ)
    → ((f : ℕ) (firm : Firm) → slice_get firms f ≡ Some firm → IsWorthAtMost bound firm)
    → IsNegativeCycle firms trades on nodes cost → IsAtMost cost ((length trades + 1) * (2 * bound))
unfolding AreApart
cycle_small firms trades on nodes cost network bound within cycle =
    let walk = walk_small (exchange_arc firms trades on) (2 * bound) (arcs_small firms trades network bound on within)
    cycle.first cycle.rest cycle.first cost cycle.cycle.walk in
    let avoids = cycle_avoids cycle.first cycle.rest cycle.cycle.different in
    let apart = (apart_from_different (cycle.first ∷ cycle.rest) cycle.cycle.different).1 in
    let few : length cycle.rest < length trades + 1 =
    few_apart (length trades + 1) cycle.first cycle.rest
    (first_inside (length trades) cycle.first cycle.rest cycle.begins)
    (rest_inside firms trades on nodes cost cycle) avoids apart in
    let more : (length cycle.rest + 1) * (2 * bound) ≤ (length trades + 1) * (2 * bound) =
    mul-le-mul_right (2 * bound) (omega (arith, few)) in
    wider cost ((length cycle.rest + 1) * (2 * bound)) ((length trades + 1) * (2 * bound)) walk more
  where
    wider : (z : ℤ) (n m : ℕ) → IsAtMost z n → n ≤ m → IsAtMost z m
    wider z n m small le = let low = small.low in let high = small.high in
        record { low = omega (arith, ints, low, high, le); high = omega (arith, ints, low, high, le) }
