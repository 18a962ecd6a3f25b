-- The arcs of an exchange graph have places in a graph that is laid out for it.
use Rattle.std.specs.Prelude.{nat_lt, IfSome, IsSome, slice_index_or}
use Rattle.std.proofs.Common.{◌≡◌, ℕ, ◌+◌, ◌^◌, ◌<◌, ◌≤◌, Bool, true, false, ◌==◌, ◌&&◌, if◌then◌else◌, List, length, Some, None, Option, option_map, refl, sym, ap, ap₂, ◌∙◌, subst, arith, inl, inr, ℤ}
use Rattle.std.proofs.lemmas.Bool.{cases_Bool, cases_lt, lt-ltb, le-ltb, eq-eqb, ne_eqb, eqb-true}
use Rattle.std.proofs.lemmas.List.{get_or_past, get_or_read}
use Rattle.std.proofs.lemmas.Option.{slice_get_cases}
use Rattle.tn_base.specs.Sets.{has}
use Rattle.tn_base.specs.Firm.{Firm}
use Rattle.tn_model.specs.declared.ends.Ends.{Ends}
use Rattle.tn_market.specs.Graph.{raised, lowered, raised_by, lowered_by, exchange_arc}
use Rattle.tn_market.specs.ArcPlaces.{common_firm, arc_firm}
use Rattle.tn_market.proofs.GraphLemmas.{firm_of_arc, no_arc}
use Rattle.tn_graph.specs.declared.spot.Spot.{Spot}
use Rattle.tn_graph.specs.Blocks.{Places, HasRoomForBlocks, IsSpotOf, no_spot, block_size, spot_at, place_in, place_between, place_of, room_of}
use Rattle.tn_graph.specs.Layout.{IsLaidOut}
use Rattle.tn_graph.proofs.RoomLemmas.{room_small}

-- the place of the arc between two nodes
pub place_is : (nodes : ℕ) (places : Places) (u v : ℕ) (p q : Bool) → u < nodes → v < nodes
    → nat_lt u places.laid ≡ p → nat_lt v places.laid ≡ q
    → place_of nodes places u v ≡ place_between (spot_at places true u) (spot_at places false v) p q
unfolding place_of
place_is nodes places u v p q u_in v_in p_is q_is =
    ap₂ (λ (a b : Bool). if a && b
    then place_between (spot_at places true u) (spot_at places false v) (nat_lt u places.laid) (nat_lt v places.laid)
    else None) (lt-ltb u nodes u_in) (lt-ltb v nodes v_in)
    ∙ ap₂ (place_between (spot_at places true u) (spot_at places false v)) p_is q_is

-- two trades of one block have one
pub place_of_both : (nodes : ℕ) (places : Places) (u v : ℕ) → u < nodes → v < nodes → u < places.laid
    → v < places.laid → (spot_at places true u).start ≡ (spot_at places false v).start
    → place_of nodes places u v
    ≡ Some (place_in (spot_at places true u) (spot_at places true u).position (spot_at places false v).position)
place_of_both nodes places u v u_in v_in u_laid v_laid same =
    place_is nodes places u v true true u_in v_in (lt-ltb u places.laid u_laid) (lt-ltb v places.laid v_laid)
    ∙ ap (λ (b : Bool). if b
    then Some (place_in (spot_at places true u) (spot_at places true u).position (spot_at places false v).position)
    else None) (eq-eqb (spot_at places true u).start (spot_at places false v).start same)

-- two trades of different blocks have none
pub place_of_neither : (nodes : ℕ) (places : Places) (u v : ℕ) → u < nodes → v < nodes → u < places.laid
    → v < places.laid → ((spot_at places true u).start == (spot_at places false v).start) ≡ false
    → place_of nodes places u v ≡ None
place_of_neither nodes places u v u_in v_in u_laid v_laid apart =
    place_is nodes places u v true true u_in v_in (lt-ltb u places.laid u_laid) (lt-ltb v places.laid v_laid)
    ∙ ap (λ (b : Bool). if b
    then Some (place_in (spot_at places true u) (spot_at places true u).position (spot_at places false v).position)
    else None) apart

pub place_to_null : (nodes : ℕ) (places : Places) (u v : ℕ) → u < nodes → v < nodes → u < places.laid
    → places.laid ≤ v
    → place_of nodes places u v
    ≡ Some (place_in (spot_at places true u) (spot_at places true u).position (spot_at places true u).count)
place_to_null nodes places u v u_in v_in u_laid past =
    place_is nodes places u v true false u_in v_in (lt-ltb u places.laid u_laid) (le-ltb v places.laid past)

pub place_from_null : (nodes : ℕ) (places : Places) (u v : ℕ) → u < nodes → v < nodes → places.laid ≤ u
    → v < places.laid
    → place_of nodes places u v
    ≡ Some (place_in (spot_at places false v) (spot_at places false v).count (spot_at places false v).position)
place_from_null nodes places u v u_in v_in past v_laid =
    place_is nodes places u v false true u_in v_in (le-ltb u places.laid past) (lt-ltb v places.laid v_laid)

pub place_of_null : (nodes : ℕ) (places : Places) (u v : ℕ) → u < nodes → v < nodes → places.laid ≤ u
    → places.laid ≤ v → place_of nodes places u v ≡ None
place_of_null nodes places u v u_in v_in u_past v_past =
    place_is nodes places u v false false u_in v_in (le-ltb u places.laid u_past) (le-ltb v places.laid v_past)

-- an arc that may be has a place
module _ (firms : List Firm) (trades : List Ends) (on nodes : ℕ) (places : Places)
    (laid : IsLaidOut trades (has on) places) (sized : nodes ≡ length trades + 1) where
  by_firm : (u v f : ℕ) → arc_firm trades on u v ≡ Some f → IsSome (place_of nodes places u v)
  by_firm u v f is =
      let at = firm_of_arc trades on u v f is in
      let u_most = at.begin in
      let v_most = at.end in
      let all = laid.all in
      let u_in : u < nodes = omega (arith, u_most, sized) in
      let v_in : v < nodes = omega (arith, v_most, sized) in
      elim (slice_get_cases trades u).1 [
        | inl p ↦ elim (slice_get_cases trades v).1 [
          | inl q ↦
              let u_laid : u < places.laid = (let below = p.1 in omega (arith, below, all)) in
              let v_laid : v < places.laid = (let below = q.1 in omega (arith, below, all)) in
              let up = raised p.0 (has on u) in
              let down = lowered q.0 (has on v) in
              let raises : raised_by trades on u ≡ Some up =
              ap (option_map (λ trade. raised trade (has on u))) p.2 in
              let lowers : lowered_by trades on v ≡ Some down =
              ap (option_map (λ trade. lowered trade (has on v))) q.2 in
              let same : (up.0 == down.0) ≡ true = one_firm up down f
              (sym (ap₂ common_firm raises lowers) ∙ at.common) in
              let firms_same : down.0 ≡ up.0 = sym (eqb-true up.0 down.0 same) in
              let starts = laid.together true false u v up.0 up.1 down.1 raises
              (lowers ∙ ap (λ (g : ℕ). Some (g, down.1)) firms_same) in
              subst IsSome (sym (place_of_both nodes places u v u_in v_in u_laid v_laid starts)) refl
          | inr q ↦
              let u_laid : u < places.laid = (let below = p.1 in omega (arith, below, all)) in
              subst IsSome (sym (place_to_null nodes places u v u_in v_in u_laid (let past = q.0 in
              omega (arith, past, all)))) refl
        ]
        | inr p ↦ elim (slice_get_cases trades v).1 [
          | inl q ↦
              let v_laid : v < places.laid = (let below = q.1 in omega (arith, below, all)) in
              subst IsSome (sym (place_from_null nodes places u v u_in v_in (let past = p.0 in
              omega (arith, past, all)) v_laid)) refl
          | inr q ↦ absurd (let none = ap₂ common_firm (ap (option_map (λ trade. raised trade (has on u))) p.1)
              (ap (option_map (λ trade. lowered trade (has on v))) q.1) in let some = at.common in cc (none, some))
        ]
      ]
    where
      one_firm : (up down : ℕ × ℕ) (f : ℕ) → common_firm (Some up) (Some down) ≡ Some f → (up.0 == down.0) ≡ true
      one_firm up down f common = elim (cases_Bool (up.0 == down.0)) [
        | inl same ↦ same
        | inr apart ↦ absurd (let none : common_firm (Some up) (Some down) ≡ None =
            ap (λ (b : Bool). if b then Some up.0 else None) apart in cc (none, common))
      ]

  pub placed_arc : (u v : ℕ) (cost : ℤ) → exchange_arc firms trades on u v ≡ Some cost
      → IsSome (place_of nodes places u v)
  placed_arc u v cost is = by_case (arc_firm trades on u v) refl
    where
      by_case : (o : Option ℕ) → arc_firm trades on u v ≡ o → IsSome (place_of nodes places u v)
      by_case None none = absurd (let no = no_arc firms trades on u v none in cc (no, is))
      by_case (Some f) some = by_firm u v f some

  pub placed_cost : (u v : ℕ) (cost : Option ℤ) → cost ≡ exchange_arc firms trades on u v
      → IfSome cost (λ _. IsSome (place_of nodes places u v))
  placed_cost u v None is = tt
  placed_cost u v (Some cost) is = placed_arc u v cost (sym is)

-- ---- what is read

-- a place that was read, of a trade in a block
pub record IsRead (nodes : ℕ) (places : Places) (rises : Bool) (t : ℕ) (spot : Spot) : Type 0 where
  pub is : spot ≡ spot_at places rises t
  pub stands : IsSpotOf places.own places.laid (room_of nodes) t spot
  pub fits : spot.start + block_size spot.count < 2 ^ 32

module _ (nodes : ℕ) (places : Places) (cells : List ℤ) (sound : HasRoomForBlocks nodes places cells) where
  read : (rises : Bool) (t : ℕ) → t < places.laid → (spot : Spot) → spot ≡ spot_at places rises t
      → IsRead nodes places rises t spot
  read rises t below spot is =
      let there = sound.spots rises t below in
      let inside = there.inside in
      let few = sound.few in
      let small = room_small nodes (omega (arith, few)) in
      record {
        is = is;
        stands = subst (IsSpotOf places.own places.laid (room_of nodes) t) (sym is) there;
        fits = subst (λ (z : Spot). z.start + block_size z.count < 2 ^ 32) (sym is) (omega (arith, inside, small));
      }

  pub read_up : (t : ℕ) → t < places.laid → (spot : Spot) → spot ≡ slice_index_or places.raised t spot
      → IsRead nodes places true t spot
  read_up t below spot at =
      let few = sound.laid_few in
      let sized = sound.raised_sized in
      read true t below spot (get_or_read places.raised t spot (omega (arith, below, few, sized)) at no_spot)

  pub read_down : (t : ℕ) → t < places.laid → (spot : Spot) → spot ≡ slice_index_or places.lowered t spot
      → IsRead nodes places false t spot
  read_down t below spot at =
      let few = sound.laid_few in
      let sized = sound.lowered_sized in
      read false t below spot (get_or_read places.lowered t spot (omega (arith, below, few, sized)) at no_spot)

  pub same_block : (a b : ℕ) → a < places.laid → b < places.laid → (from to : Spot)
      → IsRead nodes places true a from → IsRead nodes places false b to → from.start ≡ to.start
      → from.count ≡ to.count
  same_block a b a_in b_in from to up down same =
      let one = sound.blocks true false a b a_in b_in in
      ap (λ (z : Spot). z.count) up.is
      ∙ one.same_count (sym (ap (λ (z : Spot). z.start) up.is) ∙ same ∙ ap (λ (z : Spot). z.start) down.is)
      ∙ sym (ap (λ (z : Spot). z.count) down.is)

  pub found_both : (a b place : ℕ) → a < places.laid → b < places.laid → (from to : Spot)
      → IsRead nodes places true a from → IsRead nodes places false b to → from.start ≡ to.start
      → place ≡ place_in from from.position to.position → Some place ≡ place_of nodes places a b
  found_both a b place a_in b_in from to up down same is =
      let few = sound.laid_few in
      ap (λ (p : ℕ). Some p) (is ∙ ap₂ (λ (x y : Spot). place_in x x.position y.position) up.is down.is)
      ∙ sym (place_of_both nodes places a b (omega (arith, few, a_in)) (omega (arith, few, b_in)) a_in b_in
      (sym (ap (λ (z : Spot). z.start) up.is) ∙ same ∙ ap (λ (z : Spot). z.start) down.is))

  pub found_neither : (a b : ℕ) → a < places.laid → b < places.laid → (from to : Spot)
      → IsRead nodes places true a from → IsRead nodes places false b to → (from.start ≡ to.start → ⊥)
      → None ≡ place_of nodes places a b
  found_neither a b a_in b_in from to up down apart =
      let few = sound.laid_few in
      sym (place_of_neither nodes places a b (omega (arith, few, a_in)) (omega (arith, few, b_in)) a_in b_in
      (ne_eqb _ _ (λ e. apart (ap (λ (z : Spot). z.start) up.is ∙ e ∙ sym (ap (λ (z : Spot). z.start) down.is)))))

  pub found_to_null : (a b place : ℕ) → a < places.laid → places.laid ≤ b → b < nodes → (from : Spot)
      → IsRead nodes places true a from → place ≡ place_in from from.position from.count
      → Some place ≡ place_of nodes places a b
  found_to_null a b place a_in past b_in from up is =
      let few = sound.laid_few in
      ap (λ (p : ℕ). Some p) (is ∙ ap (λ (x : Spot). place_in x x.position x.count) up.is)
      ∙ sym (place_to_null nodes places a b (omega (arith, few, a_in)) b_in a_in past)

  pub found_from_null : (a b place : ℕ) → places.laid ≤ a → b < places.laid → a < nodes → (to : Spot)
      → IsRead nodes places false b to → place ≡ place_in to to.count to.position
      → Some place ≡ place_of nodes places a b
  found_from_null a b place past b_in a_in to down is =
      let few = sound.laid_few in
      ap (λ (p : ℕ). Some p) (is ∙ ap (λ (x : Spot). place_in x x.count x.position) down.is)
      ∙ sym (place_from_null nodes places a b a_in (omega (arith, few, b_in)) past b_in)

  pub place_fits : (rises : Bool) (t place : ℕ) (spot : Spot) → IsRead nodes places rises t spot
      → place < spot.start + block_size spot.count → place < length cells
  place_fits rises t place spot read inside =
      let room = read.stands.inside in
      let sized = sound.cells_sized in
      omega (arith, inside, room, sized)

  pub own_fits : (rises : Bool) (v k : ℕ) → v < places.laid → (spot : Spot) → spot ≡ spot_at places rises v
      → k < spot.count → spot.own + k < length places.own
  own_fits rises v k below spot is inside =
      let there = subst (IsSpotOf places.own places.laid (room_of nodes) v) (sym is) (sound.spots rises v below)
      in
      let trade = there.trades k inside in
      elim (cases_lt (spot.own + k) (length places.own)) [
        | inl p ↦ p
        | inr past ↦ (let none = get_or_past places.own (spot.own + k) places.laid past in
            absurd (omega (arith, trade, none)))
      ]
