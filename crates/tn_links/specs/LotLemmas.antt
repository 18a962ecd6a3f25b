-- What the graph of a flow with lots needs to be searched.
use Rattle.std.proofs.Common.{◌≡◌, ℕ, zero, suc, ◌+◌, ◌-◌, ◌*◌, ◌<◌, ◌≤◌, ◌⊎◌, refl, sym, ap, ◌∙◌, subst, arith, inl, inr, List, [], ◌∷◌, length, ℤ, ◌-ℤ◌, Some, None, Bool, true, false, ◌==◌, if◌then◌else◌, nat_le}
use Rattle.std.specs.Prelude.{slice_get, get_or, ◌&&◌}
use Rattle.std.proofs.lemmas.Int.{ints}
use Rattle.std.proofs.lemmas.Bool.{and_parts, and_from, or_cases, or_left, or_right, eqb-true, eqb-false, eq-eqb, leb-true}
use Rattle.std.proofs.lemmas.Option.{none-some, same_Some}
use Rattle.tn_base.specs.Arcs.{AreBetweenNodes, AreSmall, IsAtMost, ListsPredecessors, ListsSuccessors}
use Rattle.tn_base.specs.Widths.{most_cost}
use Rattle.tn_links.specs.declared.link.Link.{Link}
use Rattle.tn_links.specs.declared.links.Neighbour.{Neighbour}
use Rattle.tn_links.specs.Links.{AddAtMost, ArePlain, AreSingle, joins, rise, room}
use Rattle.tn_links.specs.Lots.{AreLight, LinksAddAtMost, less_cost, link_arc, lot_cost, more_cost}
use Rattle.tn_links.specs.Near.{near_from, no_neighbour}
use Rattle.tn_links.specs.RiseLemmas.{rise_at_most}
use Rattle.tn_links.specs.Widths.{most_each, most_lot}

-- the ends of a link, in either order
abbrev pub HasEnds : Link → ℕ → ℕ → Type 0
HasEnds link u v = ((link.tail ≡ u) × (link.head ≡ v)) ⊎ ((link.tail ≡ v) × (link.head ≡ u))

pub ends_of : (link : Link) (u v : ℕ) → joins link u v ≡ true → HasEnds link u v
ends_of link u v is = elim (or_cases (link.tail == u && link.head == v) (link.tail == v && link.head == u) is) [
  | inl first ↦ let two = and_parts (link.tail == u) (link.head == v) first in
      inl (eqb-true link.tail u two.0, eqb-true link.head v two.1)
  | inr second ↦ let two = and_parts (link.tail == v) (link.head == u) second in
      inr (eqb-true link.tail v two.0, eqb-true link.head u two.1)
]

pub joins_by : (link : Link) (u v : ℕ) → HasEnds link u v → joins link u v ≡ true
joins_by link u v ends = elim ends [
  | inl first ↦ or_left (link.tail == u && link.head == v) (link.tail == v && link.head == u)
      (and_from (link.tail == u) (link.head == v) (eq-eqb link.tail u first.0) (eq-eqb link.head v first.1))
  | inr second ↦ or_right (link.tail == u && link.head == v) (link.tail == v && link.head == u)
      (and_from (link.tail == v) (link.head == u) (eq-eqb link.tail v second.0) (eq-eqb link.head u second.1))
]

-- an arc is a lot over a link that joins its ends
pub record IsArcOf (links : List Link) (levels : List ℕ) (lot u v : ℕ) (cost : ℤ) : Type 0 where
  pub place : ℕ
  pub link : Link
  pub level : ℕ
  pub link_is : slice_get links place ≡ Some link
  pub level_is : slice_get levels place ≡ Some level
  pub joined : joins link u v ≡ true
  pub cost_is : lot_cost link level lot u ≡ Some cost

pub arc_of : (links : List Link) (levels : List ℕ) (lot u v : ℕ) (cost : ℤ)
    → link_arc links levels lot u v ≡ Some cost → IsArcOf links levels lot u v cost
arc_of [] levels lot u v cost e = absurd (none-some cost e)
arc_of (link ∷ links) [] lot u v cost e = absurd (none-some cost e)
arc_of (link ∷ links) (level ∷ levels) lot u v cost e =
    by (λ q. arc_of links levels lot u v cost q) (joins link u v) refl e
  where
    by : (link_arc links levels lot u v ≡ Some cost → IsArcOf links levels lot u v cost) → (t : Bool)
        → joins link u v ≡ t
        → (if t then lot_cost link level lot u else link_arc links levels lot u v) ≡ Some cost
        → IsArcOf (link ∷ links) (level ∷ levels) lot u v cost
    by next true holds q = record {
      place = 0;
      link = link;
      level = level;
      link_is = refl;
      level_is = refl;
      joined = holds;
      cost_is = q;
    }
    by next false fails q = let rest = next q in record {
      place = suc rest.place;
      link = rest.link;
      level = rest.level;
      link_is = rest.link_is;
      level_is = rest.level_is;
      joined = rest.joined;
      cost_is = rest.cost_is;
    }

pub between-link_arc : (nodes : ℕ) (links : List Link) (levels : List ℕ) (lot : ℕ) → ArePlain nodes links
    → AreBetweenNodes nodes (link_arc links levels lot)
between-link_arc nodes links levels lot plain a b cost e =
    let arc = arc_of links levels lot a b cost e in
    let link = plain.each arc.place arc.link arc.link_is in
    let tail = link.tail_inside in
    let head = link.head_inside in
    elim (ends_of arc.link a b arc.joined) [
      | inl ends ↦ (omega (arith, ends.0, tail), omega (arith, ends.1, head))
      | inr ends ↦ (omega (arith, ends.1, head), omega (arith, ends.0, tail))
    ]

-- a number that is there under a test alone
pub some_only : (b : Bool) (x y : ℤ) → (if b then Some x else None) ≡ Some y → (b ≡ true) × (x ≡ y)
some_only true x y e = (refl, same_Some x y e)
some_only false x y e = absurd (none-some y e)

-- a lot costs no more than its units at the limit
pub lot_at_most : (limit : ℕ) (link : Link) (level lot u : ℕ) (cost : ℤ) → AddAtMost limit link.steps.items
    → lot_cost link level lot u ≡ Some cost → IsAtMost cost (lot * limit)
lot_at_most limit link level lot u cost small e = by (link.tail == u) e
  where
    more : more_cost link level lot ≡ Some cost → IsAtMost cost (lot * limit)
    more q =
        let is = some_only (nat_le (level + lot) (room link.steps.items))
        (rise link.steps.items level -ℤ rise link.steps.items (level + lot)) cost q in
        let added = rise_at_most limit link.steps.items level lot small in
        record { low = omega (arith, ints, added.high, is.1); high = omega (arith, ints, added.low, is.1) }

    less : less_cost link level lot ≡ Some cost → IsAtMost cost (lot * limit)
    less q =
        let is = some_only (nat_le lot level)
        (rise link.steps.items level -ℤ rise link.steps.items (level - lot)) cost q in
        let enough : lot ≤ level = leb-true lot level is.0 in
        let added = rise_at_most limit link.steps.items (level - lot) lot small in
        let same : rise link.steps.items (level - lot + lot) ≡ rise link.steps.items level =
        ap (rise link.steps.items) (omega (arith, enough)) in
        record { low = omega (arith, ints, added.low, is.1, same); high = omega (arith, ints, added.high, is.1, same) }

    by : (t : Bool) → (if t then more_cost link level lot else less_cost link level lot) ≡ Some cost
        → IsAtMost cost (lot * limit)
    by true q = more q
    by false q = less q

pub small_lots : (links : List Link) (levels : List ℕ) (lot : ℕ) → AreLight links lot
    → AreSmall (link_arc links levels lot) most_cost
small_lots links levels lot light a b cost e =
    let arc = arc_of links levels lot a b cost e in
    let small = lot_at_most light.limit arc.link arc.level lot a cost (light.each arc.place arc.link arc.link_is)
    arc.cost_is in
    let few = light.light in
    record { low = omega (arith, ints, small.low, few); high = omega (arith, ints, small.high, few) }

-- a lot of units none of which adds more than a limit
pub light_lots : (limit lot : ℕ) (links : List Link) → LinksAddAtMost limit links → lot ≤ most_lot
    → lot * limit ≤ most_cost → AreLight links lot
light_lots limit lot links each few light = record { few = few; limit = limit; each = each; light = light }

-- a single unit
pub light_units : (nodes : ℕ) (links : List Link) (levels : List ℕ) → ArePlain nodes links
    → AreSmall (link_arc links levels 1) most_cost
light_units nodes links levels plain = small_lots links levels 1
    (light_lots most_each 1 links (λ j link at. (plain.each j link at).steps.slight) (omega arith) (omega arith))

-- what a node's list has at a place
pub record IsNear (links : List Link) (v u : ℕ) : Type 0 where
  pub place : ℕ
  pub link : Link
  pub link_is : slice_get links place ≡ Some link
  pub ends : HasEnds link v u

later_near : (link : Link) (links : List Link) (v u : ℕ) → IsNear links v u → IsNear (link ∷ links) v u
later_near link links v u near = record {
  place = suc near.place;
  link = near.link;
  link_is = near.link_is;
  ends = near.ends;
}

abbrev pub node_near : List Neighbour → ℕ → ℕ
node_near list k = (get_or list k no_neighbour).node

-- a link put before a node's list, where it has the node
abbrev pub listed_if : Bool → Bool → Link → ℕ → List Neighbour → List Neighbour
listed_if t h link j rest = if t then record { link = j; node = link.head } ∷ rest
    else if h then record { link = j; node = link.tail } ∷ rest else rest

pub near_entry : (links : List Link) (j v k : ℕ) → k < length (near_from links j v)
    → IsNear links v (node_near (near_from links j v) k)
near_entry [] j v k below = absurd (omega (arith, below))
near_entry (link ∷ links) j v k below =
    by (λ i inside. near_entry links (suc j) v i inside) (link.tail == v) (link.head == v) refl refl k below
  where
    by : ((i : ℕ) → i < length (near_from links (suc j) v) → IsNear links v (node_near (near_from links (suc j) v) i))
        → (t h : Bool) → (link.tail == v) ≡ t → (link.head == v) ≡ h → (k : ℕ)
        → k < length (listed_if t h link j (near_from links (suc j) v))
        → IsNear (link ∷ links) v (node_near (listed_if t h link j (near_from links (suc j) v)) k)
    by next true h holds other zero b = record {
      place = 0;
      link = link;
      link_is = refl;
      ends = inl (eqb-true link.tail v holds, refl);
    }
    by next true h holds other (suc i) b = later_near link links v (node_near (near_from links (suc j) v) i)
        (next i (omega (arith, b)))
    by next false true fails holds zero b = record {
      place = 0;
      link = link;
      link_is = refl;
      ends = inr (refl, eqb-true link.head v holds);
    }
    by next false true fails holds (suc i) b = later_near link links v (node_near (near_from links (suc j) v) i)
        (next i (omega (arith, b)))
    by next false false fails neither i b = later_near link links v (node_near (near_from links (suc j) v) i) (next i b)

-- a place of a node's list that has another node
pub record IsPlaceOf (list : List Neighbour) (u : ℕ) : Type 0 where
  pub place : ℕ
  pub below : place < length list
  pub node : node_near list place ≡ u

later_place : (link : Link) (j u : ℕ) (list : List Neighbour) → IsPlaceOf list u → (t h : Bool)
    → IsPlaceOf (listed_if t h link j list) u
later_place link j u list rest t h = by t h
  where
    after : (one : Neighbour) → IsPlaceOf (one ∷ list) u
    after one = let below = rest.below in record {
      place = suc rest.place;
      below = omega (arith, below);
      node = rest.node;
    }

    by : (t h : Bool) → IsPlaceOf (listed_if t h link j list) u
    by true h = after (record { link = j; node = link.head })
    by false true = after (record { link = j; node = link.tail })
    by false false = rest

pub near_all : (links : List Link) (j v u place : ℕ) (link : Link) → slice_get links place ≡ Some link
    → HasEnds link v u → IsPlaceOf (near_from links j v) u
near_all [] j v u place link is ends = absurd (none-some link is)
near_all (first ∷ links) j v u zero link is ends =
    let same : first ≡ link = same_Some first link is in
    by (first.tail == v) (first.head == v) refl refl (subst (λ (l : Link). HasEnds l v u) (sym same) ends)
  where
    by : (t h : Bool) → (first.tail == v) ≡ t → (first.head == v) ≡ h → HasEnds first v u
        → IsPlaceOf (listed_if t h first j (near_from links (suc j) v)) u
    by true h holds other own = record {
      place = 0;
      below = omega arith;
      node = elim own [
        | inl two ↦ two.1
        | inr two ↦ two.1 ∙ sym (eqb-true first.tail v holds) ∙ two.0
      ];
    }
    by false true fails holds own = record {
      place = 0;
      below = omega arith;
      node = elim own [
        | inl two ↦ absurd (eqb-false first.tail v fails two.0)
        | inr two ↦ two.0
      ];
    }
    by false false fails neither own = elim own [
      | inl two ↦ absurd (eqb-false first.tail v fails two.0)
      | inr two ↦ absurd (eqb-false first.head v neither two.1)
    ]
near_all (first ∷ links) j v u (suc place) link is ends =
    later_place first j u (near_from links (suc j) v) (near_all links (suc j) v u place link is ends) (first.tail == v)
    (first.head == v)

later_single : (link : Link) (links : List Link) → AreSingle (link ∷ links) → AreSingle links
later_single link links single i k u w a b at_i at_k first second =
    let e : suc i ≡ suc k = single (suc i) (suc k) u w a b at_i at_k first second in omega (arith, e)

pub near_once : (links : List Link) (j v : ℕ) → AreSingle links → (i k : ℕ) → i < length (near_from links j v)
    → k < length (near_from links j v)
    → node_near (near_from links j v) i ≡ node_near (near_from links j v) k → i ≡ k
near_once [] j v single i k i_below k_below same = absurd (omega (arith, i_below))
near_once (link ∷ links) j v single i k i_below k_below same =
    by (near_once links (suc j) v (later_single link links single)) (link.tail == v) (link.head == v) refl refl i k
    i_below k_below same
  where
    -- no later link has the same other end
    other : (u i : ℕ) → HasEnds link v u → i < length (near_from links (suc j) v)
        → u ≡ node_near (near_from links (suc j) v) i → ⊥
    other u i ends below same =
        let near = near_entry links (suc j) v i below in
        let again : joins near.link v u ≡ true =
        joins_by near.link v u (subst (HasEnds near.link v) (sym same) near.ends) in
        let e : 0 ≡ suc near.place =
        single 0 (suc near.place) v u link near.link refl near.link_is (joins_by link v u ends) again in
        omega (arith, e)

    pairs : ((i k : ℕ) → i < length (near_from links (suc j) v) → k < length (near_from links (suc j) v)
        → node_near (near_from links (suc j) v) i ≡ node_near (near_from links (suc j) v) k → i ≡ k)
        → (one : Neighbour) → HasEnds link v one.node → (i k : ℕ)
        → i < length (one ∷ near_from links (suc j) v) → k < length (one ∷ near_from links (suc j) v)
        → node_near (one ∷ near_from links (suc j) v) i ≡ node_near (one ∷ near_from links (suc j) v) k → i ≡ k
    pairs next one ends zero zero a b e = refl
    pairs next one ends zero (suc k) a b e = absurd (other one.node k ends (omega (arith, b)) e)
    pairs next one ends (suc i) zero a b e = absurd (other one.node i ends (omega (arith, a)) (sym e))
    pairs next one ends (suc i) (suc k) a b e = ap suc (next i k (omega (arith, a)) (omega (arith, b)) e)

    by : ((i k : ℕ) → i < length (near_from links (suc j) v) → k < length (near_from links (suc j) v)
        → node_near (near_from links (suc j) v) i ≡ node_near (near_from links (suc j) v) k → i ≡ k)
        → (t h : Bool) → (link.tail == v) ≡ t → (link.head == v) ≡ h → (i k : ℕ)
        → i < length (listed_if t h link j (near_from links (suc j) v))
        → k < length (listed_if t h link j (near_from links (suc j) v))
        → node_near (listed_if t h link j (near_from links (suc j) v)) i
        ≡ node_near (listed_if t h link j (near_from links (suc j) v)) k → i ≡ k
    by next true h holds fails i k a b e =
        pairs next (record { link = j; node = link.head }) (inl (eqb-true link.tail v holds, refl)) i k a b e
    by next false true fails holds i k a b e =
        pairs next (record { link = j; node = link.tail }) (inr (refl, eqb-true link.head v holds)) i k a b e
    by next false false fails neither i k a b e = next i k a b e

near_inside : (nodes : ℕ) (links : List Link) (v u : ℕ) → ArePlain nodes links → IsNear links v u → u < nodes
near_inside nodes links v u plain near =
    let link = plain.each near.place near.link near.link_is in
    let tail = link.tail_inside in
    let head = link.head_inside in
    elim near.ends [
      | inl ends ↦ omega (arith, ends.1, head)
      | inr ends ↦ omega (arith, ends.0, tail)
    ]

swapped : (link : Link) (u v : ℕ) → HasEnds link u v → HasEnds link v u
swapped link u v ends = elim ends [
  | inl is ↦ inr is
  | inr is ↦ inl is
]

pub lists_predecessors-links : (nodes : ℕ) (links : List Link) (levels : List ℕ) (lot b : ℕ) → ArePlain nodes links
    → ListsPredecessors nodes (link_arc links levels lot) b (length (near_from links 0 b)) (node_near (near_from links 0 b))
lists_predecessors-links nodes links levels lot b plain = record {
  inside = λ k below. near_inside nodes links b (node_near (near_from links 0 b) k) plain (near_entry links 0 b k below);
  all = λ a cost is.
      let arc = arc_of links levels lot a b cost is in
      let at = near_all links 0 b a arc.place arc.link arc.link_is
      (swapped arc.link a b (ends_of arc.link a b arc.joined)) in
      (at.place, at.below, at.node);
  once = near_once links 0 b plain.single;
}

pub lists_successors-links : (nodes : ℕ) (links : List Link) (levels : List ℕ) (lot a : ℕ) → ArePlain nodes links
    → ListsSuccessors nodes (link_arc links levels lot) a (length (near_from links 0 a)) (node_near (near_from links 0 a))
lists_successors-links nodes links levels lot a plain = record {
  inside = λ k below. near_inside nodes links a (node_near (near_from links 0 a) k) plain (near_entry links 0 a k below);
  all = λ b cost is.
      let arc = arc_of links levels lot a b cost is in
      let at = near_all links 0 a b arc.place arc.link arc.link_is (ends_of arc.link a b arc.joined) in
      (at.place, at.below, at.node);
  once = near_once links 0 a plain.single;
}
