-- The costs of a graph of blocks: where they stand, what is read and what is written.
use Rattle.std.proofs.Common.{◌≡◌, ℕ, ◌+◌, ◌*◌, ◌^◌, ◌<◌, ◌≤◌, ◌-◌, Bool, true, false, if◌then◌else◌, List, length, get_or, replicate, Some, None, Option, option_and_then, refl, sym, ap, ap₂, ◌∙◌, arith, inl, inr, ℤ, pos, add-mul, mul-add}
use Rattle.std.specs.Prelude.{nat_lt, set, is_some, IfSome, IsSome}
use Rattle.std.proofs.lemmas.Bool.{cases_lt, cases_order, lt-ltb, le-ltb}
use Rattle.std.proofs.lemmas.List.{get_or-set_same, get_or-set_other, get_or-replicate, get_or_past, length-replicate}
use Rattle.std.proofs.lemmas.Nat.{mul-add-lt, same_from_place}
use Rattle.tn_graph.specs.declared.spot.Spot.{Spot}
use Rattle.tn_graph.specs.Blocks.{CostBlocks, Places, AreOneOrApart, spot_at, block_size, place_in, place_of, node_in, cost_in_cell, arcs_of}
use Rattle.tn_graph.specs.BlockLemmas.{PlaceCases, place_cases}
use Rattle.tn_graph.specs.Reading.{IsCostWritten, IsWithoutArcs}

-- ---- places

-- two places of a block, not both null, have one of its costs
pub place_inside : (n row column : ℕ) → row ≤ n → column ≤ n → row + column < 2 * n
    → row * (n + 1) + column < block_size n
place_inside n row column row_in column_in one = elim (cases_lt row n) [
  | inl below ↦
      let inside = mul-add-lt row (n + 1) column n below (omega (arith, column_in)) in
      let wide : (n + 1) * n ≡ n * n + 1 * n = add-mul n 1 n in
      let block : n * (n + 2) ≡ n * n + n * 2 = mul-add n n 2 in
      omega (arith, inside, wide, block)
  | inr past ↦
      let null : row ≡ n = omega (arith, row_in, past) in
      let line : row * (n + 1) ≡ n * (n + 1) = ap (λ (k : ℕ). k * (n + 1)) null in
      let wide : n * (n + 1) ≡ n * n + n * 1 = mul-add n n 1 in
      let block : n * (n + 2) ≡ n * n + n * 2 = mul-add n n 2 in
      omega (arith, null, line, wide, block, one)
]

-- the row and the column of the cost of an arc, in a block
pub record PlaceAt (graph : CostBlocks) (u v place : ℕ) : Type 0 where
  pub rises : Bool
  pub trade : ℕ
  pub laid : trade < graph.places.laid
  pub row : ℕ
  pub column : ℕ
  pub row_in : row ≤ (spot_at graph.places rises trade).count
  pub column_in : column ≤ (spot_at graph.places rises trade).count
  pub one : row + column < 2 * (spot_at graph.places rises trade).count
  pub is : place ≡ place_in (spot_at graph.places rises trade) row column
  pub begin : node_in graph.places (spot_at graph.places rises trade) row ≡ u
  pub end : node_in graph.places (spot_at graph.places rises trade) column ≡ v

node_in-trade : (places : Places) (spot : Spot) (k : ℕ) → k < spot.count
    → node_in places spot k ≡ get_or places.own (spot.own + k) places.laid
node_in-trade places spot k below =
    ap (λ (b : Bool). if b then get_or places.own (spot.own + k) places.laid else places.laid)
    (lt-ltb k spot.count below)

node_in-null : (places : Places) (spot : Spot) → node_in places spot spot.count ≡ places.laid
node_in-null places spot =
    ap (λ (b : Bool). if b then get_or places.own (spot.own + spot.count) places.laid else places.laid)
    (le-ltb spot.count spot.count (omega arith))

-- a trade stands at its position
node_in-own : (graph : CostBlocks) (rises : Bool) (t : ℕ) → t < graph.places.laid
    → node_in graph.places (spot_at graph.places rises t) (spot_at graph.places rises t).position ≡ t
node_in-own graph rises t laid =
    let there = graph.sound.spots rises t laid in
    node_in-trade graph.places (spot_at graph.places rises t) (spot_at graph.places rises t).position there.below
    ∙ there.owns

pub place_at : (graph : CostBlocks) (u v place : ℕ) → place_of graph.nodes graph.places u v ≡ Some place
    → PlaceAt graph u v place
place_at graph u v place is = by_case (place_cases graph u v place is)
  where
    from : Spot
    from = spot_at graph.places true u

    to : Spot
    to = spot_at graph.places false v

    by_case : PlaceCases graph u v place → PlaceAt graph u v place
    by_case (inl trades) =
        let one = graph.sound.blocks true false u v trades.from trades.to in
        let counts : from.count ≡ to.count = one.same_count trades.same in
        let owns : from.own ≡ to.own = one.same_own trades.same in
        let from_below = (graph.sound.spots true u trades.from).below in
        let to_below = (graph.sound.spots false v trades.to).below in
        record {
          rises = true;
          trade = u;
          laid = trades.from;
          row = from.position;
          column = to.position;
          row_in = omega (arith, from_below);
          column_in = omega (arith, to_below, counts);
          one = omega (arith, from_below, to_below, counts);
          is = trades.is;
          begin = node_in-own graph true u trades.from;
          end = node_in-trade graph.places from to.position (omega (arith, to_below, counts))
              ∙ ap (λ (o : ℕ). get_or graph.places.own (o + to.position) graph.places.laid) owns
              ∙ (graph.sound.spots false v trades.to).owns;
        }
    by_case (inr (inl null)) =
        let below = (graph.sound.spots true u null.from).below in
        record {
          rises = true;
          trade = u;
          laid = null.from;
          row = from.position;
          column = from.count;
          row_in = omega (arith, below);
          column_in = omega arith;
          one = omega (arith, below);
          is = null.is;
          begin = node_in-own graph true u null.from;
          end = node_in-null graph.places from ∙ sym null.to;
        }
    by_case (inr (inr null)) =
        let below = (graph.sound.spots false v null.to).below in
        record {
          rises = false;
          trade = v;
          laid = null.to;
          row = to.count;
          column = to.position;
          row_in = omega arith;
          column_in = omega (arith, below);
          one = omega (arith, below);
          is = null.is;
          begin = node_in-null graph.places to ∙ sym null.from;
          end = node_in-own graph false v null.to;
        }

-- the place of a cost lies in its block
place_below : (graph : CostBlocks) (u v place : ℕ) (at : PlaceAt graph u v place)
    → place < (spot_at graph.places at.rises at.trade).start
    + block_size (spot_at graph.places at.rises at.trade).count
place_below graph u v place at =
    let inside = place_inside (spot_at graph.places at.rises at.trade).count at.row at.column at.row_in at.column_in
    at.one in
    omega (arith, inside, at.is)

-- two arcs have one place only where they are one
pub same_arc : (graph : CostBlocks) (a b u v place : ℕ) → PlaceAt graph a b place → PlaceAt graph u v place
    → (a ≡ u) × (b ≡ v)
same_arc graph a b u v place first second = elim (cases_order one.start other.start) [
  | inl same ↦
      let counts : one.count ≡ other.count = blocks.same_count same in
      let owns : one.own ≡ other.own = blocks.same_own same in
      let lines : second.row * (other.count + 1) ≡ second.row * (one.count + 1) =
      ap (λ (n : ℕ). second.row * (n + 1)) (sym counts) in
      let at : first.row * (one.count + 1) + first.column ≡ second.row * (one.count + 1) + second.column =
      omega (arith, first.is, second.is, same, lines) in
      let parts = same_from_place first.row first.column second.row second.column (one.count + 1)
      (omega (arith, first.column_in)) (omega (arith, second.column_in, counts)) at in (
        sym first.begin ∙ nodes first.row second.row parts.0 counts owns ∙ second.begin,
        sym first.end ∙ nodes first.column second.column parts.1 counts owns ∙ second.end,
      )
  | inr apart ↦ absurd (elim apart [
    | inl before ↦
        let below = place_below graph a b place first in
        let lie = blocks.apart before in
        omega (arith, below, lie, second.is)
    | inr after ↦
        let below = place_below graph u v place second in
        let lie =
        (graph.sound.blocks second.rises first.rises second.trade first.trade second.laid first.laid).apart after in
        omega (arith, below, lie, first.is)
  ])
]
  where
    one : Spot
    one = spot_at graph.places first.rises first.trade

    other : Spot
    other = spot_at graph.places second.rises second.trade

    blocks : AreOneOrApart one other
    blocks = graph.sound.blocks first.rises second.rises first.trade second.trade first.laid second.laid

    nodes : (i k : ℕ) → i ≡ k → one.count ≡ other.count → one.own ≡ other.own
        → node_in graph.places one i ≡ node_in graph.places other k
    nodes i k e counts owns =
        ap (node_in graph.places one) e
        ∙ ap₂ (λ (n o : ℕ). if nat_lt k n then get_or graph.places.own (o + k) graph.places.laid
        else graph.places.laid) counts owns

-- ---- costs

pub arc_at : (graph : CostBlocks) (u v place : ℕ) → place_of graph.nodes graph.places u v ≡ Some place
    → arcs_of graph u v ≡ cost_in_cell (get_or graph.cells place (pos (2 ^ 63)))
unfolding arcs_of
arc_at graph u v place is =
    ap (option_and_then (λ (p : ℕ). cost_in_cell (get_or graph.cells p (pos (2 ^ 63))))) is

pub arc_none : (graph : CostBlocks) (u v : ℕ) → place_of graph.nodes graph.places u v ≡ None → arcs_of graph u v ≡ None
unfolding arcs_of
arc_none graph u v none =
    ap (option_and_then (λ (p : ℕ). cost_in_cell (get_or graph.cells p (pos (2 ^ 63))))) none

-- a number that is written is the cost of its arc, and of no other
pub one_written : (before after : CostBlocks) (a b place : ℕ) (number : ℤ) (cost : Option ℤ)
    → after.nodes ≡ before.nodes → after.places ≡ before.places → after.cells ≡ set before.cells place number
    → place_of before.nodes before.places a b ≡ Some place → place < length before.cells → cost_in_cell number ≡ cost
    → IsCostWritten before a b cost after
one_written before after a b place number cost nodes places cells is inside number_is = record {
  nodes = nodes;
  places = places;
  here = arc_at after a b place (same a b ∙ is)
      ∙ ap (λ (xs : List ℤ). cost_in_cell (get_or xs place (pos (2 ^ 63)))) cells
      ∙ ap cost_in_cell (get_or-set_same before.cells place number (pos (2 ^ 63)) inside) ∙ number_is;
  elsewhere = λ u v other. by_case u v other (place_of before.nodes before.places u v) refl;
}
  where
    same : (u v : ℕ) → place_of after.nodes after.places u v ≡ place_of before.nodes before.places u v
    same u v = ap₂ (λ (n : ℕ) (p : Places). place_of n p u v) nodes places

    by_case : (u v : ℕ) → (u ≡ a → v ≡ b → ⊥) → (o : Option ℕ) → place_of before.nodes before.places u v ≡ o
        → arcs_of after u v ≡ arcs_of before u v
    by_case u v other None none = arc_none after u v (same u v ∙ none) ∙ sym (arc_none before u v none)
    by_case u v other (Some at) some =
        arc_at after u v at (same u v ∙ some)
        ∙ ap (λ (xs : List ℤ). cost_in_cell (get_or xs at (pos (2 ^ 63)))) cells
        ∙ ap cost_in_cell (get_or-set_other before.cells place at number (pos (2 ^ 63)) (λ e.
        let one = same_arc before u v a b place (place_at before u v place (some ∙ ap (λ (p : ℕ). Some p) e))
        (place_at before a b place is) in other one.0 one.1))
        ∙ sym (arc_at before u v at some)

-- where an arc has no place, that there is none need not be written
pub none_written : (graph : CostBlocks) (a b : ℕ) (cost : Option ℤ) → place_of graph.nodes graph.places a b ≡ None
    → cost ≡ None → IsCostWritten graph a b cost graph
none_written graph a b cost none is = record {
  nodes = refl;
  places = refl;
  here = arc_none graph a b none ∙ sym is;
  elsewhere = λ u v other. refl;
}

-- the number of no arc stands for none
none_at : cost_in_cell (pos (2 ^ 63 - 1)) ≡ None
unfolding cost_in_cell
none_at = refl

none_past : cost_in_cell (pos (2 ^ 63)) ≡ None
unfolding cost_in_cell
none_past = refl

-- such numbers alone are no arcs
pub no_arcs : (graph : CostBlocks) (size : ℕ) → graph.cells ≡ replicate size (pos (2 ^ 63 - 1))
    → IsWithoutArcs graph.nodes graph
no_arcs graph size all = record {
  nodes = refl;
  none = λ u v. by_case u v (place_of graph.nodes graph.places u v) refl;
}
  where
    none_of : (place : ℕ) → cost_in_cell (get_or (replicate size (pos (2 ^ 63 - 1))) place (pos (2 ^ 63))) ≡ None
    none_of place = elim (cases_lt place size) [
      | inl below ↦ ap cost_in_cell (get_or-replicate size place (pos (2 ^ 63 - 1)) (pos (2 ^ 63)) below) ∙ none_at
      | inr past ↦
          let long = length-replicate size (pos (2 ^ 63 - 1)) in
          ap cost_in_cell (get_or_past (replicate size (pos (2 ^ 63 - 1))) place (pos (2 ^ 63)) (omega (arith, past, long)))
          ∙ none_past
    ]

    by_case : (u v : ℕ) → (o : Option ℕ) → place_of graph.nodes graph.places u v ≡ o → arcs_of graph u v ≡ None
    by_case u v None none = arc_none graph u v none
    by_case u v (Some place) some =
        arc_at graph u v place some
        ∙ ap (λ (xs : List ℤ). cost_in_cell (get_or xs place (pos (2 ^ 63)))) all ∙ none_of place

-- where an arc has no place, there is no cost to be written
pub no_cost : (cost : Option ℤ) (place : Option ℕ) → place ≡ None → IfSome cost (λ _. IsSome place) → cost ≡ None
no_cost None place none placed = refl
no_cost (Some c) place none placed = absurd (let no = ap is_some none in cc (no, placed))
