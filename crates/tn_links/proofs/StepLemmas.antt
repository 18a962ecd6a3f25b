-- What a lot over one link does to levels, balances and gains.
use Rattle.std.proofs.Common.{◌≡◌, ℕ, zero, suc, ◌+◌, ◌-◌, ◌≤◌, ◌⊎◌, refl, sym, ap, ◌∙◌, subst, arith, inl, inr, List, [], ◌∷◌, length, ℤ, pos, ◌+ℤ◌, ◌-ℤ◌, Option, Some, Bool, true, false, ◌==◌, if◌then◌else◌, nat_le}
use Rattle.std.specs.Prelude.{min, slice_get}
use Rattle.std.proofs.lemmas.Int.{ints}
use Rattle.std.proofs.lemmas.Bool.{cases_Bool, eqb-true, eqb-false, leb-true, true≢false}
use Rattle.std.proofs.lemmas.Option.{none-some, same_Some}
use Rattle.tn_links.specs.declared.link.Link.{Link}
use Rattle.tn_links.specs.Flows.{AreWithin, balance, brought, flow_at, gain, total_gain}
use Rattle.tn_links.specs.Links.{joins, rise, room}
use Rattle.tn_links.specs.Lots.{less_cost, level_after, link_arc, lot_cost, more_cost, stepped}
use Rattle.tn_links.specs.LotLemmas.{HasEnds, ends_of, some_only}
use Rattle.tn_links.specs.Widths.{most_level, most_units}

-- no link has many units
abbrev pub HaveFewUnits : List Link → Type 0
HaveFewUnits links = (j : ℕ) (link : Link) → slice_get links j ≡ Some link → room link.steps.items ≤ most_units

-- what a lot from u to v brings to a node
abbrev pub shift : ℕ → ℕ → ℕ → ℕ → ℤ
shift lot u v t = (if t == v then pos lot else pos 0) -ℤ (if t == u then pos lot else pos 0)

-- a link's level after a lot from u to v at a cost
pub record IsMoved (link : Link) (level after lot u v : ℕ) (cost : ℤ) : Type 0 where
  pub within : after ≤ room link.steps.items
  pub gained : gain link after ≡ gain link level -ℤ cost
  pub brings : (t : ℕ) → brought link (flow_at link after) t ≡ brought link (flow_at link level) t +ℤ shift lot u v t

more_brings : (link : Link) (level lot t : ℕ)
    → brought link (flow_at link (level + lot)) t ≡ brought link (flow_at link level) t +ℤ shift lot link.tail link.head t
more_brings link level lot t = by (t == link.head) (t == link.tail)
  where
    by : (h l : Bool) → ((if h then flow_at link (level + lot) else pos 0) -ℤ (if l then flow_at link (level + lot) else pos 0))
        ≡ ((if h then flow_at link level else pos 0) -ℤ (if l then flow_at link level else pos 0))
        +ℤ ((if h then pos lot else pos 0) -ℤ (if l then pos lot else pos 0))
    by true true = omega (arith, ints)
    by true false = omega (arith, ints)
    by false true = omega (arith, ints)
    by false false = refl

less_brings : (link : Link) (level lot t : ℕ) → lot ≤ level
    → brought link (flow_at link (level - lot)) t ≡ brought link (flow_at link level) t +ℤ shift lot link.head link.tail t
less_brings link level lot t enough = by (t == link.head) (t == link.tail)
  where
    by : (h l : Bool) → ((if h then flow_at link (level - lot) else pos 0) -ℤ (if l then flow_at link (level - lot) else pos 0))
        ≡ ((if h then flow_at link level else pos 0) -ℤ (if l then flow_at link level else pos 0))
        +ℤ ((if l then pos lot else pos 0) -ℤ (if h then pos lot else pos 0))
    by true true = omega (arith, ints, enough)
    by true false = omega (arith, ints, enough)
    by false true = omega (arith, ints, enough)
    by false false = refl

pub is_moved : (link : Link) (level lot u v : ℕ) (cost : ℤ) → room link.steps.items ≤ most_units → HasEnds link u v
    → level ≤ room link.steps.items → lot_cost link level lot u ≡ Some cost
    → IsMoved link level (level_after link level lot u) lot u v cost
is_moved link level lot u v cost few ends within is = by (link.tail == u) refl is
  where
    by : (t : Bool) → (link.tail == u) ≡ t → (if t then more_cost link level lot else less_cost link level lot) ≡ Some cost
        → IsMoved link level (if t then min (level + lot) most_level else level - lot) lot u v cost
    by true holds q =
        let steps = link.steps.items in
        let up = some_only (nat_le (level + lot) (room steps)) (rise steps level -ℤ rise steps (level + lot)) cost q in
        let inside : level + lot ≤ room steps = leb-true (level + lot) (room steps) up.0 in
        let same : level + lot ≡ min (level + lot) most_level = omega (arith, inside, few) in
        let tail : link.tail ≡ u = eqb-true link.tail u holds in
        let head : link.head ≡ v = elim ends [
          | inl two ↦ two.1
          | inr two ↦ two.1 ∙ sym tail ∙ two.0
        ] in
        subst (λ (n : ℕ). IsMoved link level n lot u v cost) same (record {
          within = inside;
          gained = omega (arith, ints, up.1);
          brings = λ t. more_brings link level lot t
              ∙ ap (λ (z : ℤ). brought link (flow_at link level) t +ℤ z)
              (ap (λ (z : ℕ). shift lot z link.head t) tail ∙ ap (λ (z : ℕ). shift lot u z t) head);
        })
    by false fails q =
        let steps = link.steps.items in
        let down = some_only (nat_le lot level) (rise steps level -ℤ rise steps (level - lot)) cost q in
        let enough : lot ≤ level = leb-true lot level down.0 in
        let two : (link.tail ≡ v) × (link.head ≡ u) = elim ends [
          | inl two ↦ absurd (eqb-false link.tail u fails two.0)
          | inr two ↦ two
        ] in
        record {
          within = omega (arith, within);
          gained = omega (arith, ints, down.1);
          brings = λ t. less_brings link level lot t enough
              ∙ ap (λ (z : ℤ). brought link (flow_at link level) t +ℤ z)
              (ap (λ (z : ℕ). shift lot z link.tail t) two.1 ∙ ap (λ (z : ℕ). shift lot u z t) two.0);
        }

-- levels after a lot, or lots, from u to v at a cost
pub record IsStepped (links : List Link) (levels after : List ℕ) (lot u v : ℕ) (cost : ℤ) : Type 0 where
  pub one_each : length after ≡ length levels
  pub within : AreWithin links after
  pub gained : total_gain links after ≡ total_gain links levels -ℤ cost
  pub balanced : (t : ℕ) → balance links after t ≡ balance links levels t +ℤ shift lot u v t

pub is_stepped : (links : List Link) (levels : List ℕ) (lot u v : ℕ) (cost : ℤ) → HaveFewUnits links
    → AreWithin links levels → link_arc links levels lot u v ≡ Some cost
    → IsStepped links levels (stepped links lot levels u v) lot u v cost
is_stepped [] levels lot u v cost few within is = absurd (none-some cost is)
is_stepped (link ∷ links) [] lot u v cost few within is = absurd (none-some cost is)
is_stepped (link ∷ links) (level ∷ levels) lot u v cost few within is =
    by (is_stepped links levels lot u v cost (λ j one at. few (suc j) one at)
    (λ j n one link_is level_is. within (suc j) n one link_is level_is)) (joins link u v) refl is
  where
    rest_within : AreWithin links levels
    rest_within j n one link_is level_is = within (suc j) n one link_is level_is

    moved : joins link u v ≡ true → lot_cost link level lot u ≡ Some cost
        → IsStepped (link ∷ links) (level ∷ levels) (level_after link level lot u ∷ levels) lot u v cost
    moved holds q =
        let here = is_moved link level lot u v cost (few 0 link refl) (ends_of link u v holds) (within 0 level link refl refl) q in
        let gained = here.gained in
        record {
          one_each = refl;
          within = all here.within;
          gained = omega (arith, ints, gained);
          balanced = λ t. let brings = here.brings t in omega (arith, ints, brings);
        }
      where
        all : level_after link level lot u ≤ room link.steps.items
            → AreWithin (link ∷ links) (level_after link level lot u ∷ levels)
        all inside zero n one link_is level_is =
            let link_same : link ≡ one = same_Some link one link_is in
            let level_same : level_after link level lot u ≡ n = same_Some (level_after link level lot u) n level_is in
            let same : room link.steps.items ≡ room one.steps.items =
            ap (λ (l : Link). room l.steps.items) link_same in
            omega (arith, inside, same, level_same)
        all inside (suc j) n one link_is level_is = rest_within j n one link_is level_is

    later : IsStepped links levels (stepped links lot levels u v) lot u v cost
        → IsStepped (link ∷ links) (level ∷ levels) (level ∷ stepped links lot levels u v) lot u v cost
    later rest =
        let gained = rest.gained in
        record {
          one_each = ap suc rest.one_each;
          within = all rest.within;
          gained = omega (arith, ints, gained);
          balanced = λ t. let brings = rest.balanced t in omega (arith, ints, brings);
        }
      where
        all : AreWithin links (stepped links lot levels u v)
            → AreWithin (link ∷ links) (level ∷ stepped links lot levels u v)
        all inside zero n one link_is level_is = within 0 n one link_is level_is
        all inside (suc j) n one link_is level_is = inside j n one link_is level_is

    by : (link_arc links levels lot u v ≡ Some cost → IsStepped links levels (stepped links lot levels u v) lot u v cost)
        → (t : Bool) → joins link u v ≡ t
        → (if t then lot_cost link level lot u else link_arc links levels lot u v) ≡ Some cost
        → IsStepped (link ∷ links) (level ∷ levels)
        (if t then level_after link level lot u ∷ levels else level ∷ stepped links lot levels u v) lot u v cost
    by next true holds q = moved holds q
    by next false fails q = later (next q)

-- no link joins both two nodes and two others
abbrev pub AreOthers : ℕ → ℕ → ℕ → ℕ → Type 0
AreOthers u v a b = (link : Link) → joins link u v ≡ true → joins link a b ≡ true → ⊥

same_ends : (link : Link) (u v a b : ℕ) → HasEnds link u v → HasEnds link a b
    → ((u ≡ a) × (v ≡ b)) ⊎ ((u ≡ b) × (v ≡ a))
same_ends link u v a b first second = elim first [
  | inl p ↦ elim second [
    | inl q ↦ inl (sym p.0 ∙ q.0, sym p.1 ∙ q.1)
    | inr q ↦ inr (sym p.0 ∙ q.0, sym p.1 ∙ q.1)
  ]
  | inr p ↦ elim second [
    | inl q ↦ inr (sym p.1 ∙ q.1, sym p.0 ∙ q.0)
    | inr q ↦ inl (sym p.1 ∙ q.1, sym p.0 ∙ q.0)
  ]
]

pub others_by : (u v a b : ℕ) → ((u ≡ a) × (v ≡ b) → ⊥) → ((u ≡ b) × (v ≡ a) → ⊥) → AreOthers u v a b
others_by u v a b first second link joined other =
    elim (same_ends link u v a b (ends_of link u v joined) (ends_of link a b other)) [
      | inl same ↦ first same
      | inr same ↦ second same
    ]

-- a choice of which one side isn't taken
not_taken : (t : Bool) (x y z : Option ℤ) → t ≡ false → (if t then x else z) ≡ (if t then y else z)
not_taken true x y z fails = absurd (true≢false fails)
not_taken false x y z fails = refl

-- the arc of a link that no lot went over is as it was
pub arc-stepped : (links : List Link) (levels : List ℕ) (lot u v next a b : ℕ) → AreOthers u v a b
    → link_arc links (stepped links lot levels u v) next a b ≡ link_arc links levels next a b
arc-stepped [] levels lot u v next a b others = refl
arc-stepped (link ∷ links) [] lot u v next a b others = refl
arc-stepped (link ∷ links) (level ∷ levels) lot u v next a b others =
    by (arc-stepped links levels lot u v next a b others) (joins link u v) refl
  where
    by : link_arc links (stepped links lot levels u v) next a b ≡ link_arc links levels next a b → (t : Bool)
        → joins link u v ≡ t
        → link_arc (link ∷ links) (if t then level_after link level lot u ∷ levels else level ∷ stepped links lot levels u v)
        next a b ≡ link_arc (link ∷ links) (level ∷ levels) next a b
    by rest true holds = elim (cases_Bool (joins link a b)) [
      | inl joined ↦ absurd (others link holds joined)
      | inr none ↦ not_taken (joins link a b) (lot_cost link (level_after link level lot u) next a) (lot_cost link level next a)
          (link_arc links levels next a b) none
    ]
    by rest false fails = ap (λ (z : Option ℤ). if joins link a b then lot_cost link level next a else z) rest
