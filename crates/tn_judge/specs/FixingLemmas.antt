-- What the impl for the fixed graph needs: arcs between nodes, small costs, and nodes listed as the graph lists them.
use Rattle.std.specs.Prelude.{◌≡◌, ℕ, ◌+◌, ◌*◌, ◌<◌, ℤ, pos, neg_ℤ, ◌+ℤ◌, ◌-ℤ◌, ◌*ℤ◌, ◌≤ℤ◌, ◌⊎◌, Bool, true, false, ◌==◌, if◌then◌else◌, List, length, Option, Some, None, option_map}
use Rattle.std.proofs.Common.{refl, sym, ap, ◌∙◌, subst, inl, inr, arith}
use Rattle.std.proofs.lemmas.Int.{ints}
use Rattle.std.proofs.lemmas.Bool.{cases_eq, cases_lt, eqb-true}
use Rattle.std.proofs.lemmas.List.{get_or_past}
use Rattle.tn_base.specs.Arcs.{IsAtMost, AreBetweenNodes, AreSmall, ListsPredecessors, ListsSuccessors}
use Rattle.tn_base.specs.Widths.{most_cost}
use Rattle.tn_firm_laws.proofs.BoundLemmas.{times_small}
use Rattle.tn_firm_laws.proofs.KeepLemmas.{option_map-some}
use Rattle.tn_model.specs.Limits.{most_numerator, most_over}
use Rattle.tn_graph.specs.Blocks.{CostBlocks, arcs_of, listed_count, listed_at}
use Rattle.tn_graph.specs.BlockLemmas.{arcs_of-between, arcs_of-predecessors, arcs_of-successors}
use Rattle.tn_outcome_laws.specs.Fixed.{fixed_at, fixing_arc, lesser}
use Rattle.tn_outcome_laws.proofs.FixedLemmas.{between-fixed_at, small-fixed_at}
use Rattle.tn_chain.proofs.ListedLemmas.{lists_null, lists_all}
use Rattle.tn_judge.specs.Limits.{most_exchange_cost, most_fixed_cost}
use Rattle.tn_judge.specs.Fixing.{price_in, height, raised_fixed, CanBeFixed}

-- only nodes have prices
priced_within : (nodes : ℕ) (prices : List (Option ℤ)) → length prices ≡ nodes → (v : ℕ) (p : ℤ)
    → price_in prices v ≡ Some p → v < nodes
priced_within nodes prices counted v p is = elim (cases_lt v (length prices)) [
  | inl below ↦ omega (arith, below, counted)
  | inr past ↦ absurd (let none = get_or_past prices v None past in cc (none, is))
]

-- a cost counted over the denominator
pub counted_small : (over cost : ℤ) → pos 1 ≤ℤ over → over ≤ℤ pos most_over → IsAtMost cost most_exchange_cost
    → IsAtMost (over *ℤ cost) (most_over * most_exchange_cost)
counted_small over cost from_one small_over small =
    times_small over cost most_over most_exchange_cost (record {
      low = omega (arith, ints, from_one);
      high =
          small_over;
    }) small

-- a cost that isn't raised
pub unraised_small : (graph : CostBlocks) (over : ℤ) (null : ℕ) (prices : List (Option ℤ))
    → CanBeFixed graph over null prices
    → AreSmall (fixed_at over (price_in prices) null (arcs_of graph)) (most_over * most_exchange_cost)
unraised_small graph over null prices fits =
    small-fixed_at (most_over * most_exchange_cost) over (price_in prices) null (arcs_of graph)
    (λ u v cost is. counted_small over cost fits.from_one fits.small_over (fits.small_costs u v cost is))
    (λ v p is. let small = fits.small_prices v p is in record {
      low = omega (arith, ints, small.low);
      high =
          omega (arith, ints, small.high);
    })

height_small : (price : Option ℤ) → (pos 0 ≤ℤ height price) × (height price ≤ℤ pos most_numerator)
height_small None = (omega (arith, ints), omega (arith, ints))
height_small (Some p) = (omega (arith, ints), omega (arith, ints))

-- no cost of the raised graph is above this size
pub raised_small : (graph : CostBlocks) (over : ℤ) (null : ℕ) (prices : List (Option ℤ))
    → CanBeFixed graph over null prices
    → AreSmall (raised_fixed over prices null (arcs_of graph)) most_fixed_cost
raised_small graph over null prices fits u v cost is =
    let found = option_map-some (λ c. (c +ℤ height (price_in prices v)) -ℤ height (price_in prices u))
    (fixed_at over (price_in prices) null (arcs_of graph) u v) cost is in
    sum found.0 (height (price_in prices v)) (height (price_in prices u))
    (unraised_small graph over null prices fits u v found.0 found.1)
    (height_small (price_in prices v)) (height_small (price_in prices u)) found.2
  where
    sum : (c h k : ℤ) → IsAtMost c (most_over * most_exchange_cost) → (pos 0 ≤ℤ h) × (h ≤ℤ pos most_numerator)
        → (pos 0 ≤ℤ k) × (k ≤ℤ pos most_numerator)
        → (c +ℤ h) -ℤ k ≡ cost → IsAtMost cost most_fixed_cost
    sum c h k small up down is = record {
      low = omega (arith, ints, small.low, up.0, up.1, down.0, down.1, is);
      high = omega (arith, ints, small.high, up.0, up.1, down.0, down.1, is);
    }

pub raised_within : (graph : CostBlocks) (over : ℤ) (null : ℕ) (prices : List (Option ℤ))
    → CanBeFixed graph over null prices
    → AreSmall (raised_fixed over prices null (arcs_of graph)) most_cost
raised_within graph over null prices fits u v cost is =
    let small = raised_small graph over null prices fits u v cost is in
    record { low = omega (arith, ints, small.low); high = omega (arith, ints, small.high) }

-- arcs lead from node to node
pub raised_between : (graph : CostBlocks) (over : ℤ) (null : ℕ) (prices : List (Option ℤ))
    → CanBeFixed graph over null prices
    → AreBetweenNodes (null + 1) (raised_fixed over prices null (arcs_of graph))
raised_between graph over null prices fits u v cost is =
    let found = option_map-some (λ c. (c +ℤ height (price_in prices v)) -ℤ height (price_in prices u))
    (fixed_at over (price_in prices) null (arcs_of graph) u v) cost is in
    between-fixed_at (null + 1) over (price_in prices) null (arcs_of graph)
    (λ a b c there. subst (λ (n : ℕ). (a < n) × (b < n)) fits.nodes (arcs_of-between graph a b c there)) (omega arith)
    (priced_within (null + 1) prices fits.counted) u v found.0 found.1

-- ---- lists of nodes

-- an arc between null and a trade
abbrev IsBesideNull : ℕ → ℕ → ℕ → Type 0
IsBesideNull null u v = ((u ≡ null) × (v < null)) ⊎ ((v ≡ null) × (u < null))

-- an arc is one of the graph, or one between null and a trade
from_graph : (graph : CostBlocks) (over : ℤ) (null : ℕ) (prices : List (Option ℤ)) → CanBeFixed graph over null prices
    → (u v : ℕ) (cost : ℤ) → raised_fixed over prices null (arcs_of graph) u v ≡ Some cost
    → ((z : ℤ) × (arcs_of graph u v ≡ Some z)) ⊎ IsBesideNull null u v
from_graph graph over null prices fits u v cost is =
    let found = option_map-some (λ c. (c +ℤ height (price_in prices v)) -ℤ height (price_in prices u))
    (fixed_at over (price_in prices) null (arcs_of graph) u v) cost is in
    by_arc (arcs_of graph u v) refl found.0 found.1
  where
    -- only trades have prices
    is_trade : (t : ℕ) (p : ℤ) → price_in prices t ≡ Some p → t < null
    is_trade t p there = elim (cases_eq t null) [
      | inl e ↦ absurd (let none = ap (price_in prices) e ∙ fits.free in cc (none, there))
      | inr d ↦ (let below = priced_within (null + 1) prices fits.counted t p there in omega (arith, below, d))
    ]

    by_test : (a b : Bool) → (u == null) ≡ a → (v == null) ≡ b → (c : ℤ)
        → (if a then price_in prices v else (if b then option_map neg_ℤ (price_in prices u) else None)) ≡ Some c
        → IsBesideNull null u v
    by_test true b a_is b_is c e = inl (eqb-true u null a_is, is_trade v c e)
    by_test false true a_is b_is c e =
        let price = option_map-some neg_ℤ (price_in prices u) c e in
        inr (eqb-true v null b_is, is_trade u price.0 price.1)
    by_test false false a_is b_is c e = absurd (cc e)

    by_arc : (o : Option ℤ) → arcs_of graph u v ≡ o → (c : ℤ)
        → fixed_at over (price_in prices) null (arcs_of graph) u v ≡ Some c
        → ((z : ℤ) × (arcs_of graph u v ≡ Some z)) ⊎ IsBesideNull null u v
    by_arc (Some z) there c e = inl (z, there)
    by_arc None there c e = inr (by_test (u == null) (v == null) refl refl c
        (sym (ap (λ (o : Option ℤ). lesser (option_map (λ cost. over *ℤ cost) o)
        (fixing_arc (price_in prices) null u v)) there) ∙ e))

-- the nodes of a block are those from which an arc may lead to a node
pub fixed_predecessors : (graph : CostBlocks) (over : ℤ) (null : ℕ) (prices : List (Option ℤ))
    → CanBeFixed graph over null prices → (b : ℕ) → b < null + 1
    → ListsPredecessors (null + 1) (raised_fixed over prices null (arcs_of graph)) b
    (listed_count graph.places false b) (listed_at graph.places false b)
fixed_predecessors graph over null prices fits b within =
    let nodes = fits.nodes in
    let laid = fits.laid in
    let lists = arcs_of-predecessors graph b (omega (arith, within, nodes)) in
    record {
      inside = λ k below. (let inside = lists.inside k below in omega (arith, inside, nodes));
      all = λ a cost is. elim (from_graph graph over null prices fits a b cost is) [
        | inl arc ↦ lists.all a arc.0 arc.1
        | inr beside ↦ elim beside [
          | inl from ↦ lists_null graph false b (let below = from.1 in omega (arith, below, laid)) a
              (from.0 ∙ sym laid)
          | inr to ↦ lists_all graph false b a (let null_is = to.0 in omega (arith, null_is, laid))
              (let below = to.1 in omega (arith, below, laid))
        ]
      ];
      once = lists.once;
    }

-- and those to which one may lead from it
pub fixed_successors : (graph : CostBlocks) (over : ℤ) (null : ℕ) (prices : List (Option ℤ))
    → CanBeFixed graph over null prices → (a : ℕ) → a < null + 1
    → ListsSuccessors (null + 1) (raised_fixed over prices null (arcs_of graph)) a
    (listed_count graph.places true a) (listed_at graph.places true a)
fixed_successors graph over null prices fits a within =
    let nodes = fits.nodes in
    let laid = fits.laid in
    let lists = arcs_of-successors graph a (omega (arith, within, nodes)) in
    record {
      inside = λ k below. (let inside = lists.inside k below in omega (arith, inside, nodes));
      all = λ b cost is. elim (from_graph graph over null prices fits a b cost is) [
        | inl arc ↦ lists.all b arc.0 arc.1
        | inr beside ↦ elim beside [
          | inl from ↦ lists_all graph true a b (let null_is = from.0 in omega (arith, null_is, laid))
              (let below = from.1 in omega (arith, below, laid))
          | inr to ↦ lists_null graph true a (let below = to.1 in omega (arith, below, laid)) b (to.0 ∙ sym laid)
        ]
      ];
      once = lists.once;
    }
