-- The nodes that a graph of blocks lists beside one: null beside each trade, each trade beside null, and each node with
-- which an arc may be.
use Rattle.std.specs.Prelude.{not}
use Rattle.std.proofs.Common.{◌≡◌, ℕ, ◌+◌, ◌<◌, ◌≤◌, Bool, true, if◌then◌else◌, get_or, Some, sym, ap, ◌∙◌, arith, inl, inr}
use Rattle.std.proofs.lemmas.Bool.{lt-ltb, le-ltb}
use Rattle.tn_graph.specs.declared.spot.Spot.{Spot}
use Rattle.tn_graph.specs.Blocks.{CostBlocks, spot_at, place_of, node_in, listed_count, listed_at}
use Rattle.tn_graph.specs.BlockLemmas.{place_cases}

-- a node is listed beside node t
abbrev pub Lists : CostBlocks → Bool → ℕ → ℕ → Type 0
Lists graph rises t u = (k : ℕ) × (k < listed_count graph.places rises t) × (listed_at graph.places rises t k ≡ u)

-- ---- beside a trade

module _ (graph : CostBlocks) (rises : Bool) (t : ℕ) (below : t < graph.places.laid) where
  abbrev here : Spot
  here = spot_at graph.places rises t

  count_is : listed_count graph.places rises t ≡ here.count + 1
  unfolding listed_count
  count_is = ap (λ (b : Bool). if b then here.count + 1 else graph.places.laid) (lt-ltb t graph.places.laid below)

  listed_trade : (k : ℕ) → k < here.count
      → listed_at graph.places rises t k ≡ get_or graph.places.own (here.own + k) graph.places.laid
  unfolding listed_at
  listed_trade k inside =
      ap (λ (b : Bool). if b then node_in graph.places here k else k) (lt-ltb t graph.places.laid below)
      ∙ ap (λ (b : Bool). if b then get_or graph.places.own (here.own + k) graph.places.laid else graph.places.laid)
      (lt-ltb k here.count inside)

  listed_null : listed_at graph.places rises t here.count ≡ graph.places.laid
  unfolding listed_at
  listed_null =
      ap (λ (b : Bool). if b then node_in graph.places here here.count else here.count)
      (lt-ltb t graph.places.laid below)
      ∙ ap (λ (b : Bool). if b then get_or graph.places.own (here.own + here.count) graph.places.laid
      else graph.places.laid) (le-ltb here.count here.count (omega arith))

  pub lists_null : (u : ℕ) → u ≡ graph.places.laid → Lists graph rises t u
  lists_null u null =
      let counted = count_is in
      (here.count, omega (arith, counted), listed_null ∙ sym null)

  lists_trade : (u : ℕ) → u < graph.places.laid → (spot_at graph.places (not rises) u).start ≡ here.start
      → Lists graph rises t u
  lists_trade u inside same =
      let there = graph.sound.spots (not rises) u inside in
      let one = graph.sound.blocks (not rises) rises u t inside below in
      let counts = one.same_count same in
      let owns = one.same_own same in
      let position = there.below in
      let counted = count_is in (
        (spot_at graph.places (not rises) u).position,
        omega (arith, position, counts, counted),
        listed_trade (spot_at graph.places (not rises) u).position (omega (arith, position, counts))
            ∙ ap (λ (o : ℕ). get_or graph.places.own
            (o + (spot_at graph.places (not rises) u).position) graph.places.laid) (sym owns)
            ∙ there.owns,
      )

-- ---- beside null

all_count : (graph : CostBlocks) (rises : Bool) (t : ℕ) → graph.places.laid ≤ t
    → listed_count graph.places rises t ≡ graph.places.laid
unfolding listed_count
all_count graph rises t past =
    ap (λ (b : Bool). if b then (spot_at graph.places rises t).count + 1 else graph.places.laid)
    (le-ltb t graph.places.laid past)

all_at : (graph : CostBlocks) (rises : Bool) (t k : ℕ) → graph.places.laid ≤ t → listed_at graph.places rises t k ≡ k
unfolding listed_at
all_at graph rises t k past =
    ap (λ (b : Bool). if b then node_in graph.places (spot_at graph.places rises t) k else k)
    (le-ltb t graph.places.laid past)

pub lists_all : (graph : CostBlocks) (rises : Bool) (t u : ℕ) → graph.places.laid ≤ t → u < graph.places.laid
    → Lists graph rises t u
lists_all graph rises t u past inside =
    let counted = all_count graph rises t past in
    (u, omega (arith, inside, counted), all_at graph rises t u past)

-- ---- where an arc has a place

pub lists_placed : (graph : CostBlocks) (u v place : ℕ) → place_of graph.nodes graph.places u v ≡ Some place
    → Lists graph true u v
lists_placed graph u v place is = elim (place_cases graph u v place is) [
  | inl trades ↦ lists_trade graph true u trades.from v trades.to (sym trades.same)
  | inr rest ↦ elim rest [
    | inl to ↦ lists_null graph true u to.from v to.to
    | inr from ↦ lists_all graph true u v (let null = from.from in omega (arith, null)) from.to
  ]
]
