-- What the impl for a graph of blocks needs: arcs between nodes, small costs, and nodes listed by blocks.
use Rattle.std.specs.Prelude.{◌≡◌, ℕ, ◌+◌, ◌^◌, ◌<◌, ◌≤◌, nat_lt, ℤ, pos, neg_ℤ, int_le, Bool, true, false, not, ◌==◌, ◌&&◌, ◌⊎◌, if◌then◌else◌, get_or, Option, Some, None, option_and_then}
use Rattle.std.proofs.Common.{refl, sym, ap, ◌∙◌, subst, inl, inr, arith}
use Rattle.std.proofs.lemmas.Int.{ints}
use Rattle.std.proofs.lemmas.Bool.{cases_Bool, cases_lt, and_parts, ltb-true, ltb-false, lt-ltb, le-ltb, eqb-true}
use Rattle.std.proofs.lemmas.Option.{same_Some}
use Rattle.tn_base.specs.Arcs.{IsAtMost, AreBetweenNodes, AreSmall, ListsPredecessors, ListsSuccessors}
use Rattle.tn_base.specs.Widths.{most_cost}
use Rattle.tn_graph.specs.declared.spot.Spot.{Spot}
use Rattle.tn_graph.specs.Blocks.{CostBlocks, spot_at, place_in, place_between, place_of, cost_in_cell, arcs_of, node_in, listed_count, listed_at}

-- ---- costs

pub cost_at-small : (number cost : ℤ) → cost_in_cell number ≡ Some cost → (number ≡ cost) × IsAtMost cost most_cost
unfolding cost_in_cell
cost_at-small number cost is =
    elim (cases_Bool (int_le (neg_ℤ (pos most_cost)) number && int_le number (pos most_cost))) [
      | inl within ↦
          let same : number ≡ cost = same_Some _ _
          (sym (ap (λ (b : Bool). if b then Some number else None) within) ∙ is) in
          let parts = and_parts (int_le (neg_ℤ (pos most_cost)) number) (int_le number (pos most_cost)) within in
          (same, subst (λ (z : ℤ). IsAtMost z most_cost) same (small parts.0 parts.1))
      | inr beyond ↦
          let none : (if int_le (neg_ℤ (pos most_cost)) number && int_le number (pos most_cost)
          then Some number else None)
          ≡ None =
          ap (λ (b : Bool). if b then Some number else None) beyond in
          absurd (cc (none, is))
    ]
  where
    small : int_le (neg_ℤ (pos most_cost)) number ≡ true → int_le number (pos most_cost) ≡ true
        → IsAtMost number most_cost
    small p q = record { low = grind (arith, ints); high = grind (arith, ints) }

-- an arc has a place, where its cost stands
pub record ArcAt (graph : CostBlocks) (u v : ℕ) (cost : ℤ) : Type 0 where
  pub place : ℕ
  pub is : place_of graph.nodes graph.places u v ≡ Some place
  pub costs : cost_in_cell (get_or graph.cells place (pos (2 ^ 63))) ≡ Some cost

pub arc_at : (graph : CostBlocks) (u v : ℕ) (cost : ℤ) → arcs_of graph u v ≡ Some cost → ArcAt graph u v cost
unfolding arcs_of
arc_at graph u v cost is = by_case (place_of graph.nodes graph.places u v) refl
  where
    at : Option ℕ → Option ℤ
    at o = option_and_then (λ place. cost_in_cell (get_or graph.cells place (pos (2 ^ 63)))) o

    by_case : (o : Option ℕ) → place_of graph.nodes graph.places u v ≡ o → ArcAt graph u v cost
    by_case None none = absurd (let e : at (place_of graph.nodes graph.places u v) ≡ None = ap at none in cc (e, is))
    by_case (Some place) some = record { place = place; is = some; costs = sym (ap at some) ∙ is }

-- ---- places

-- where a node stands that is raised, and one that is lowered
abbrev raised_spot : CostBlocks → ℕ → Spot
raised_spot graph u = spot_at graph.places true u

abbrev lowered_spot : CostBlocks → ℕ → Spot
lowered_spot graph v = spot_at graph.places false v

-- the two ends of an arc are trades in one block
pub record IsBetweenTrades (graph : CostBlocks) (u v place : ℕ) : Type 0 where
  pub from : u < graph.places.laid
  pub to : v < graph.places.laid
  pub same : (raised_spot graph u).start ≡ (lowered_spot graph v).start
  pub is : place ≡ place_in (raised_spot graph u) (raised_spot graph u).position (lowered_spot graph v).position

-- one of them is null
pub record IsToNull (graph : CostBlocks) (u v place : ℕ) : Type 0 where
  pub from : u < graph.places.laid
  pub to : v ≡ graph.places.laid
  pub is : place ≡ place_in (raised_spot graph u) (raised_spot graph u).position (raised_spot graph u).count

pub record IsFromNull (graph : CostBlocks) (u v place : ℕ) : Type 0 where
  pub from : u ≡ graph.places.laid
  pub to : v < graph.places.laid
  pub is : place ≡ place_in (lowered_spot graph v) (lowered_spot graph v).count (lowered_spot graph v).position

abbrev pub PlaceCases : CostBlocks → ℕ → ℕ → ℕ → Type 0
PlaceCases graph u v place =
    IsBetweenTrades graph u v place ⊎ (IsToNull graph u v place ⊎ IsFromNull graph u v place)

-- past the trades that are laid out there is null alone
past_is_null : (graph : CostBlocks) (u v : ℕ) → u < graph.places.laid → graph.places.laid ≤ v → v < graph.nodes
    → v ≡ graph.places.laid
past_is_null graph u v inside past within =
    let all = graph.sound.all_laid (omega (arith, inside)) in omega (arith, all, past, within)

pub nodes_of_place : (graph : CostBlocks) (u v place : ℕ) → place_of graph.nodes graph.places u v ≡ Some place
    → (u < graph.nodes) × (v < graph.nodes)
    × (place_between (raised_spot graph u) (lowered_spot graph v) (nat_lt u graph.places.laid)
    (nat_lt v graph.places.laid) ≡ Some place)
unfolding place_of
nodes_of_place graph u v place is = elim (cases_Bool (nat_lt u graph.nodes && nat_lt v graph.nodes)) [
  | inl within ↦
      let parts = and_parts (nat_lt u graph.nodes) (nat_lt v graph.nodes) within in
      (ltb-true u graph.nodes parts.0, ltb-true v graph.nodes parts.1, sym (ap at within) ∙ is)
  | inr beyond ↦ absurd (let none : at (nat_lt u graph.nodes && nat_lt v graph.nodes) ≡ None = ap at beyond in
      cc (none, is))
]
  where
    at : Bool → Option ℕ
    at b = if b
        then place_between (raised_spot graph u) (lowered_spot graph v) (nat_lt u graph.places.laid)
        (nat_lt v graph.places.laid)
        else None

pub place_cases : (graph : CostBlocks) (u v place : ℕ) → place_of graph.nodes graph.places u v ≡ Some place
    → PlaceCases graph u v place
place_cases graph u v place is =
    let found = nodes_of_place graph u v place is in
    by_case (nat_lt u graph.places.laid) (nat_lt v graph.places.laid) refl refl found.0 found.1 found.2
  where
    from : Spot
    from = raised_spot graph u

    to : Spot
    to = lowered_spot graph v

    by_case : (p q : Bool) → nat_lt u graph.places.laid ≡ p → nat_lt v graph.places.laid ≡ q → u < graph.nodes
        → v < graph.nodes
        → place_between from to (nat_lt u graph.places.laid) (nat_lt v graph.places.laid) ≡ Some place
        → PlaceCases graph u v place
    by_case true true p q u_in v_in e = both (from.start == to.start) refl (sym (at p q) ∙ e)
      where
        at : nat_lt u graph.places.laid ≡ true → nat_lt v graph.places.laid ≡ true
            → place_between from to (nat_lt u graph.places.laid) (nat_lt v graph.places.laid)
            ≡ (if from.start == to.start then Some (place_in from from.position to.position) else None)
        at p q = ap (λ (a : Bool). place_between from to a (nat_lt v graph.places.laid)) p
            ∙ ap (λ (b : Bool). place_between from to true b) q

        both : (b : Bool) → (from.start == to.start) ≡ b
            → (if from.start == to.start then Some (place_in from from.position to.position) else None) ≡ Some place
            → PlaceCases graph u v place
        both true s h = inl (record {
          from = ltb-true u graph.places.laid p;
          to = ltb-true v graph.places.laid q;
          same = eqb-true from.start to.start s;
          is = sym (same_Some _ _ (sym (ap (λ (b : Bool). if b then Some (place_in from from.position to.position)
              else None) s) ∙ h));
        })
        both false s h =
            let none : (if from.start == to.start then Some (place_in from from.position to.position) else None)
            ≡ None =
            ap (λ (b : Bool). if b then Some (place_in from from.position to.position) else None) s in
            absurd (cc (none, h))
    by_case true false p q u_in v_in e = inr (inl (record {
      from = ltb-true u graph.places.laid p;
      to = past_is_null graph u v (ltb-true u graph.places.laid p) (ltb-false v graph.places.laid q) v_in;
      is = sym (same_Some _ _ (sym (ap (λ (a : Bool). place_between from to a (nat_lt v graph.places.laid)) p
          ∙ ap (λ (b : Bool). place_between from to true b) q) ∙ e));
    }))
    by_case false true p q u_in v_in e = inr (inr (record {
      from = past_is_null graph v u (ltb-true v graph.places.laid q) (ltb-false u graph.places.laid p) u_in;
      to = ltb-true v graph.places.laid q;
      is = sym (same_Some _ _ (sym (ap (λ (a : Bool). place_between from to a (nat_lt v graph.places.laid)) p
          ∙ ap (λ (b : Bool). place_between from to false b) q) ∙ e));
    }))
    by_case false false p q u_in v_in e =
        let none : place_between from to (nat_lt u graph.places.laid) (nat_lt v graph.places.laid) ≡ None =
        ap (λ (a : Bool). place_between from to a (nat_lt v graph.places.laid)) p
        ∙ ap (λ (b : Bool). place_between from to false b) q in
        absurd (cc (none, e))

-- arcs lead from node to node
pub arcs_of-between : (graph : CostBlocks) → AreBetweenNodes graph.nodes (arcs_of graph)
arcs_of-between graph u v cost is =
    let found = arc_at graph u v cost is in
    let nodes = nodes_of_place graph u v found.place found.is in
    (nodes.0, nodes.1)

-- no cost is above 10^18 in size
pub arcs_of-small : (graph : CostBlocks) → AreSmall (arcs_of graph) most_cost
arcs_of-small graph u v cost is = (cost_at-small _ cost (arc_at graph u v cost is).costs).1

-- ---- lists of nodes

module _ (graph : CostBlocks) (rises : Bool) (t : ℕ) (below : t < graph.places.laid) where
  abbrev here : Spot
  here = spot_at graph.places rises t

  count_is : listed_count graph.places rises t ≡ here.count + 1
  unfolding listed_count
  count_is = ap (λ (b : Bool). if b then here.count + 1 else graph.places.laid) (lt-ltb t graph.places.laid below)

  listed_trade : (k : ℕ) → k < here.count
      → listed_at graph.places rises t k ≡ get_or graph.places.own (here.own + k) graph.places.laid
  unfolding listed_at
  listed_trade k inside =
      ap (λ (b : Bool). if b then node_in graph.places here k else k) (lt-ltb t graph.places.laid below)
      ∙ ap (λ (b : Bool). if b then get_or graph.places.own (here.own + k) graph.places.laid else graph.places.laid)
      (lt-ltb k here.count inside)

  listed_null : (k : ℕ) → here.count ≤ k → listed_at graph.places rises t k ≡ graph.places.laid
  unfolding listed_at
  listed_null k past =
      ap (λ (b : Bool). if b then node_in graph.places here k else k) (lt-ltb t graph.places.laid below)
      ∙ ap (λ (b : Bool). if b then get_or graph.places.own (here.own + k) graph.places.laid else graph.places.laid)
      (le-ltb k here.count past)

  block_inside : (k : ℕ) → k < listed_count graph.places rises t → listed_at graph.places rises t k < graph.nodes
  block_inside k within = elim (cases_lt k here.count) [
    | inl inside ↦
        let trade = (graph.sound.spots rises t below).trades k inside in
        let few = graph.sound.laid_few in
        let at = listed_trade k inside in
        omega (arith, trade, few, at)
    | inr past ↦ let few = graph.sound.laid_few in let at = listed_null k past in omega (arith, few, at)
  ]

  block_once : (i k : ℕ) → i < listed_count graph.places rises t → k < listed_count graph.places rises t
      → listed_at graph.places rises t i ≡ listed_at graph.places rises t k → i ≡ k
  block_once i k i_within k_within same = elim (cases_lt i here.count) [
    | inl i_inside ↦ elim (cases_lt k here.count) [
      | inl k_inside ↦ (graph.sound.spots rises t below).once i k i_inside k_inside
          (sym (listed_trade i i_inside) ∙ same ∙ listed_trade k k_inside)
      | inr k_past ↦
          let trade = (graph.sound.spots rises t below).trades i i_inside in
          let at = listed_trade i i_inside in
          let null = listed_null k k_past in
          absurd (omega (arith, trade, at, null, same))
    ]
    | inr i_past ↦ elim (cases_lt k here.count) [
      | inl k_inside ↦
          let trade = (graph.sound.spots rises t below).trades k k_inside in
          let at = listed_trade k k_inside in
          let null = listed_null i i_past in
          absurd (omega (arith, trade, at, null, same))
      | inr k_past ↦ let counted = count_is in omega (arith, i_past, k_past, i_within, k_within, counted)
    ]
  ]

  -- null is listed, and each trade that stands in the block
  null_listed : (u : ℕ) → u ≡ graph.places.laid → (k : ℕ) × (k < listed_count graph.places rises t)
      × (listed_at graph.places rises t k ≡ u)
  null_listed u null =
      let counted = count_is in
      (here.count, omega (arith, counted), listed_null here.count (omega arith) ∙ sym null)

  trade_listed : (u : ℕ) → u < graph.places.laid → (spot_at graph.places (not rises) u).start ≡ here.start
      → (k : ℕ) × (k < listed_count graph.places rises t) × (listed_at graph.places rises t k ≡ u)
  trade_listed u inside same =
      let there = graph.sound.spots (not rises) u inside in
      let one = graph.sound.blocks (not rises) rises u t inside below in
      let counts = one.same_count same in
      let owns = one.same_own same in
      let position = there.below in
      let counted = count_is in (
        (spot_at graph.places (not rises) u).position,
        omega (arith, position, counts, counted),
        listed_trade (spot_at graph.places (not rises) u).position (omega (arith, position, counts))
            ∙ ap (λ (o : ℕ). get_or graph.places.own
            (o + (spot_at graph.places (not rises) u).position) graph.places.laid) (sym owns)
            ∙ there.owns,
      )

-- beside null each trade is listed
all_count : (graph : CostBlocks) (rises : Bool) (t : ℕ) → graph.places.laid ≤ t
    → listed_count graph.places rises t ≡ graph.places.laid
unfolding listed_count
all_count graph rises t past =
    ap (λ (b : Bool). if b then (spot_at graph.places rises t).count + 1 else graph.places.laid)
    (le-ltb t graph.places.laid past)

all_at : (graph : CostBlocks) (rises : Bool) (t k : ℕ) → graph.places.laid ≤ t → listed_at graph.places rises t k ≡ k
unfolding listed_at
all_at graph rises t k past =
    ap (λ (b : Bool). if b then node_in graph.places (spot_at graph.places rises t) k else k)
    (le-ltb t graph.places.laid past)

all_inside : (graph : CostBlocks) (rises : Bool) (t : ℕ) → graph.places.laid ≤ t → (k : ℕ)
    → k < listed_count graph.places rises t
    → listed_at graph.places rises t k < graph.nodes
all_inside graph rises t past k within =
    let at = all_at graph rises t k past in
    let counted = all_count graph rises t past in
    let few = graph.sound.laid_few in
    omega (arith, at, counted, few, within)

all_once : (graph : CostBlocks) (rises : Bool) (t : ℕ) → graph.places.laid ≤ t → (i k : ℕ)
    → listed_at graph.places rises t i ≡ listed_at graph.places rises t k → i ≡ k
all_once graph rises t past i k same = sym (all_at graph rises t i past) ∙ same ∙ all_at graph rises t k past

all_listed : (graph : CostBlocks) (rises : Bool) (t u : ℕ) → graph.places.laid ≤ t → u < graph.places.laid
    → (k : ℕ) × (k < listed_count graph.places rises t) × (listed_at graph.places rises t k ≡ u)
all_listed graph rises t u past inside =
    let counted = all_count graph rises t past in
    (u, omega (arith, inside, counted), all_at graph rises t u past)

pub arcs_of-predecessors : (graph : CostBlocks) (b : ℕ) → b < graph.nodes
    → ListsPredecessors graph.nodes (arcs_of graph) b (listed_count graph.places false b)
    (listed_at graph.places false b)
arcs_of-predecessors graph b within = elim (cases_lt b graph.places.laid) [
  | inl below ↦ record {
    inside = block_inside graph false b below;
    all = λ a cost is.
        let found = arc_at graph a b cost is in
        elim (place_cases graph a b found.place found.is) [
          | inl trades ↦ trade_listed graph false b below a trades.from trades.same
          | inr rest ↦ elim rest [
            | inl to ↦ absurd (let null = to.to in omega (arith, null, below))
            | inr from ↦ null_listed graph false b below a from.from
          ]
        ];
    once = block_once graph false b below;
  }
  | inr past ↦ record {
    inside = all_inside graph false b past;
    all = λ a cost is.
        let found = arc_at graph a b cost is in
        elim (place_cases graph a b found.place found.is) [
          | inl trades ↦ absurd (let inside = trades.to in omega (arith, inside, past))
          | inr rest ↦ elim rest [
            | inl to ↦ all_listed graph false b a past to.from
            | inr from ↦ absurd (let inside = from.to in omega (arith, inside, past))
          ]
        ];
    once = λ i k i_within k_within same. all_once graph false b past i k same;
  }
]

pub arcs_of-successors : (graph : CostBlocks) (a : ℕ) → a < graph.nodes
    → ListsSuccessors graph.nodes (arcs_of graph) a (listed_count graph.places true a) (listed_at graph.places true a)
arcs_of-successors graph a within = elim (cases_lt a graph.places.laid) [
  | inl below ↦ record {
    inside = block_inside graph true a below;
    all = λ b cost is.
        let found = arc_at graph a b cost is in
        elim (place_cases graph a b found.place found.is) [
          | inl trades ↦ trade_listed graph true a below b trades.to (sym trades.same)
          | inr rest ↦ elim rest [
            | inl to ↦ null_listed graph true a below b to.to
            | inr from ↦ absurd (let null = from.from in omega (arith, null, below))
          ]
        ];
    once = block_once graph true a below;
  }
  | inr past ↦ record {
    inside = all_inside graph true a past;
    all = λ b cost is.
        let found = arc_at graph a b cost is in
        elim (place_cases graph a b found.place found.is) [
          | inl trades ↦ absurd (let inside = trades.from in omega (arith, inside, past))
          | inr rest ↦ elim rest [
            | inl to ↦ absurd (let inside = to.from in omega (arith, inside, past))
            | inr from ↦ all_listed graph true a b past from.to
          ]
        ];
    once = λ i k i_within k_within same. all_once graph true a past i k same;
  }
]
