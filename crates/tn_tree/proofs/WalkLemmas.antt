-- Sums over the arcs of a walk, and what a unit along it does to the level of one link.
use Rattle.std.proofs.Common.{◌≡◌, ◌≢◌, ℕ, ◌≤◌, Bool, true, false, ◌==◌, if◌then◌else◌, List, [], ◌∷◌, length, get_or, Option, Some, slice_get, refl, sym, ap, ap₂, ◌∙◌, subst, arith, inl, inr, ◌⊎◌, ℤ, pos, ◌+ℤ◌, ◌-ℤ◌, ◌≤ℤ◌}
use Rattle.std.specs.Prelude.{◌&&◌, ◌<ℤ◌}
use Rattle.std.proofs.lemmas.Int.{ints}
use Rattle.std.proofs.lemmas.Bool.{and_from, cases_eq, eq-eqb, ne_eqb}
use Rattle.std.proofs.lemmas.List.{get_or-set_other, get_or-set_same}
use Rattle.std.proofs.lemmas.Option.{get_or_from_slice_get, same_Some, slice_get_within}
use Rattle.tn_base.specs.Options.{both}
use Rattle.tn_base.specs.Walks.{Avoids, IsCycle, walk_cost}
use Rattle.tn_base.proofs.WalkLemmas.{walk_parts}
use Rattle.tn_cycle.proofs.WalkLemmas.{AreApart, apart_from_different, avoids-head, avoids-tail, walk_cost-same_off}
use Rattle.tn_links.specs.declared.link.Link.{Link}
use Rattle.tn_links.specs.Flows.{AreWithin, brought, flow_at}
use Rattle.tn_links.specs.Links.{ArePlain, room}
use Rattle.tn_links.specs.LotLemmas.{HasEnds, arc_of, ends_of, joins_by}
use Rattle.tn_links.specs.Lots.{level_after, link_arc, lot_cost, pushed, stepped}
use Rattle.tn_links.specs.Widths.{most_units}
use Rattle.tn_links.proofs.ConcaveLemmas.{there_and_back}
use Rattle.tn_links.proofs.NearLemmas.{is_between, stepped_some}
use Rattle.tn_links.proofs.RoundLemmas.{few_units}
use Rattle.tn_links.proofs.StepLemmas.{arc-stepped, is_moved, is_stepped, others_by}

-- ---- sums over arcs

abbrev pub arcs_sum : (ℕ → ℕ → ℤ) → ℕ → List ℕ → ℕ → ℤ
arcs_sum g u [] w = g u w
arcs_sum g u (v ∷ vs) w = g u v +ℤ arcs_sum g v vs w

pub arcs_less : (f g : ℕ → ℕ → ℤ) (u : ℕ) (vs : List ℕ) (w : ℕ)
    → arcs_sum (λ a b. f a b -ℤ g a b) u vs w ≡ arcs_sum f u vs w -ℤ arcs_sum g u vs w
arcs_less f g u [] w = refl
arcs_less f g u (v ∷ vs) w = let rest = arcs_less f g v vs w in omega (arith, ints, rest)

-- sums of what is the same on all arcs that are there
pub arcs_same : (arc : ℕ → ℕ → Option ℤ) (f g : ℕ → ℕ → ℤ) (u : ℕ) (vs : List ℕ) (w : ℕ) (cost : ℤ)
    → ((a b : ℕ) (c : ℤ) → arc a b ≡ Some c → f a b ≡ g a b) → walk_cost arc u vs w ≡ Some cost
    → arcs_sum f u vs w ≡ arcs_sum g u vs w
arcs_same arc f g u [] w cost same walk = same u w cost walk
arcs_same arc f g u (v ∷ vs) w cost same walk =
    let two = walk_parts arc u v vs w cost walk in
    ap₂ (λ (x : ℤ) (y : ℤ). x +ℤ y) (same u v two.first two.first_is)
    (arcs_same arc f g v vs w two.second same two.second_is)

-- ---- how often an arc is gone over

abbrev pub one_if : Bool → ℤ
one_if b = if b then pos 1 else pos 0

-- 1 at the arc from p to q
abbrev pub on : ℕ → ℕ → ℕ → ℕ → ℤ
on p q a b = one_if (a == p && b == q)

pub off_first : (p q a b : ℕ) → a ≢ p → on p q a b ≡ pos 0
off_first p q a b other = ap (λ (t : Bool). one_if (t && b == q)) (ne_eqb a p other)

pub off_second : (p q a b : ℕ) → b ≢ q → on p q a b ≡ pos 0
off_second p q a b other = ap (λ (t : Bool). one_if (a == p && t)) (ne_eqb b q other) ∙ by (a == p)
  where
    by : (t : Bool) → one_if (t && false) ≡ pos 0
    by true = refl
    by false = refl

pub at_arc : (p q a b : ℕ) → a ≡ p → b ≡ q → on p q a b ≡ pos 1
at_arc p q a b first second = ap one_if (and_from (a == p) (b == q) (eq-eqb a p first) (eq-eqb b q second))

zero_or_one : (b : Bool) → (one_if b ≡ pos 0) ⊎ (one_if b ≡ pos 1)
zero_or_one true = inr refl
zero_or_one false = inl refl

pub never_less : (p q u : ℕ) (vs : List ℕ) (w : ℕ) → pos 0 ≤ℤ arcs_sum (on p q) u vs w
never_less p q u [] w = by (u == p && w == q)
  where
    by : (b : Bool) → pos 0 ≤ℤ one_if b
    by true = omega (arith, ints)
    by false = omega (arith, ints)
never_less p q u (v ∷ vs) w = let rest = never_less p q v vs w in by (u == p && v == q) rest
  where
    by : (b : Bool) → pos 0 ≤ℤ arcs_sum (on p q) v vs w → pos 0 ≤ℤ (one_if b +ℤ arcs_sum (on p q) v vs w)
    by true rest = omega (arith, ints, rest)
    by false rest = omega (arith, ints, rest)

-- no arc of a walk that doesn't meet p
pub off_walk : (p q u : ℕ) (vs : List ℕ) (w : ℕ) → u ≢ p → Avoids p vs → w ≢ p
    → (arcs_sum (on p q) u vs w ≡ pos 0) × (arcs_sum (on q p) u vs w ≡ pos 0)
off_walk p q u [] w first avoids last = (off_first p q u w first, off_second q p u w last)
off_walk p q u (v ∷ vs) w first avoids last =
    let here = avoids-head p v vs avoids in
    let rest = off_walk p q v vs w here (avoids-tail p v vs avoids) last in
    let one = off_first p q u v first in
    let two = off_second q p u v here in
    let rest_one = rest.0 in
    let rest_two = rest.1 in
    (omega (arith, ints, one, rest_one), omega (arith, ints, two, rest_two))

-- one arc is not both of p and q and of q and p
not_both : (p q a b : ℕ) → p ≢ q → (on p q a b +ℤ on q p a b) ≤ℤ pos 1
not_both p q a b other = elim (cases_eq a p) [
  | inl same ↦
      let none = off_first q p a b (λ e. other (sym same ∙ e)) in
      elim (zero_or_one (a == p && b == q)) [
        | inl e ↦ omega (arith, ints, none, e)
        | inr e ↦ omega (arith, ints, none, e)
      ]
  | inr off ↦
      let none = off_first p q a b off in
      elim (zero_or_one (a == q && b == p)) [
        | inl e ↦ omega (arith, ints, none, e)
        | inr e ↦ omega (arith, ints, none, e)
      ]
]

-- a walk that meets no node twice goes over the arcs between two nodes at most once
pub once_walk : (p q u : ℕ) (vs : List ℕ) (w : ℕ) → p ≢ q → AreApart (u ∷ vs) → Avoids w (u ∷ vs)
    → (arcs_sum (on p q) u vs w +ℤ arcs_sum (on q p) u vs w) ≤ℤ pos 1
unfolding AreApart
once_walk p q u [] w other apart off = not_both p q u w other
once_walk p q u (v ∷ vs) w other apart off =
    let w_off : w ≢ u = λ e. avoids-head w u (v ∷ vs) off (sym e) in
    let v_off : v ≢ u = avoids-head u v vs apart.0 in
    let rest_off = avoids-tail u v vs apart.0 in
    elim (cases_eq u p) [
      | inl same ↦
          let none = off_walk p q v vs w (λ e. v_off (e ∙ sym same)) (subst (λ (x : ℕ). Avoids x vs) same rest_off)
          (λ e. w_off (e ∙ sym same)) in
          let one = not_both p q u v other in
          let first = none.0 in
          let second = none.1 in
          omega (arith, ints, one, first, second)
      | inr off_p ↦ elim (cases_eq u q) [
        | inl same ↦
            let none = off_walk q p v vs w (λ e. v_off (e ∙ sym same)) (subst (λ (x : ℕ). Avoids x vs) same rest_off)
            (λ e. w_off (e ∙ sym same)) in
            let one = not_both p q u v other in
            let first = none.0 in
            let second = none.1 in
            omega (arith, ints, one, first, second)
        | inr off_q ↦
            let rest = once_walk p q v vs w other apart.1 (avoids-tail w u (v ∷ vs) off) in
            let one = off_first p q u v off_p in
            let two = off_first q p u v off_q in
            omega (arith, ints, rest, one, two)
      ]
    ]

-- and so does a cycle of three nodes or more
pub once_round : (p q u v x : ℕ) (vs : List ℕ) → p ≢ q → AreApart (u ∷ v ∷ x ∷ vs)
    → (arcs_sum (on p q) u (v ∷ x ∷ vs) u +ℤ arcs_sum (on q p) u (v ∷ x ∷ vs) u) ≤ℤ pos 1
unfolding AreApart
once_round p q u v x vs other apart =
    let rest = once_walk p q v (x ∷ vs) u other apart.1 apart.0 in
    let v_off : v ≢ u = avoids-head u v (x ∷ vs) apart.0 in
    let x_off : x ≢ u = avoids-head u x vs (avoids-tail u v (x ∷ vs) apart.0) in
    let x_other : x ≢ v = avoids-head v x vs apart.1.0 in
    let none = off_walk v u x vs u x_other (avoids-tail v x vs apart.1.0) (λ e. v_off (sym e)) in
    let back = off_second v u v x x_off in
    let there = off_first u v v x v_off in
    by (cases_eq u p) (cases_eq v q) (cases_eq u q) (cases_eq v p) rest none.0 none.1 back there
  where
    whole : (ℕ → ℕ → ℤ) → ℤ
    whole g = g u v +ℤ (g v x +ℤ arcs_sum g x vs u)

    by : (u ≡ p) ⊎ (u ≢ p) → (v ≡ q) ⊎ (v ≢ q) → (u ≡ q) ⊎ (u ≢ q) → (v ≡ p) ⊎ (v ≢ p)
        → ((on p q v x +ℤ arcs_sum (on p q) x vs u) +ℤ (on q p v x +ℤ arcs_sum (on q p) x vs u)) ≤ℤ pos 1
        → arcs_sum (on v u) x vs u ≡ pos 0 → arcs_sum (on u v) x vs u ≡ pos 0
        → on v u v x ≡ pos 0 → on u v v x ≡ pos 0
        → ((on p q u v +ℤ (on p q v x +ℤ arcs_sum (on p q) x vs u))
        +ℤ (on q p u v +ℤ (on q p v x +ℤ arcs_sum (on q p) x vs u))) ≤ℤ pos 1
    by (inl a) (inl b) c d rest one two back there =
        let not_two = not_both p q u v other in
        let first = ap₂ (λ (i : ℕ) (k : ℕ). on i k v x) a b in
        let second = ap₂ (λ (i : ℕ) (k : ℕ). on k i v x) a b in
        let third = ap₂ (λ (i : ℕ) (k : ℕ). arcs_sum (on i k) x vs u) a b in
        let fourth = ap₂ (λ (i : ℕ) (k : ℕ). arcs_sum (on k i) x vs u) a b in
        omega (arith, ints, not_two, first, second, third, fourth, one, two, back, there)
    by (inl a) (inr b) (inl c) d rest one two back there = absurd (other (sym a ∙ c))
    by (inl a) (inr b) (inr c) d rest one two back there =
        let first = off_second p q u v b in
        let second = off_first q p u v c in
        omega (arith, ints, rest, first, second)
    by (inr a) b (inl c) (inl d) rest one two back there =
        let not_two = not_both p q u v other in
        let first = ap₂ (λ (i : ℕ) (k : ℕ). on i k v x) c d in
        let second = ap₂ (λ (i : ℕ) (k : ℕ). on k i v x) c d in
        let third = ap₂ (λ (i : ℕ) (k : ℕ). arcs_sum (on i k) x vs u) c d in
        let fourth = ap₂ (λ (i : ℕ) (k : ℕ). arcs_sum (on k i) x vs u) c d in
        omega (arith, ints, not_two, first, second, third, fourth, one, two, back, there)
    by (inr a) b (inl c) (inr d) rest one two back there =
        let first = off_first p q u v a in
        let second = off_second q p u v d in
        omega (arith, ints, rest, first, second)
    by (inr a) b (inr c) d rest one two back there =
        let first = off_first p q u v a in
        let second = off_first q p u v c in
        omega (arith, ints, rest, first, second)

-- ---- the level of one link

-- a unit from u to v is one more over a link from its tail to its head, and one fewer over one from its head to its tail
abbrev pub more_by : Link → ℕ → ℕ → ℤ
more_by link a b = on link.tail link.head a b -ℤ on link.head link.tail a b

brought_head : (link : Link) (flow : ℤ) → link.tail ≢ link.head → brought link flow link.head ≡ flow
brought_head link flow apart =
    let same = ap₂ (λ (a : Bool) (b : Bool). (if a then flow else pos 0) -ℤ (if b then flow else pos 0))
    (eq-eqb link.head link.head refl) (ne_eqb link.head link.tail (λ e. apart (sym e))) in
    omega (arith, ints, same)

level_moved : (link : Link) (level u v : ℕ) (cost : ℤ) → room link.steps.items ≤ most_units → link.tail ≢ link.head
    → HasEnds link u v → level ≤ room link.steps.items → lot_cost link level 1 u ≡ Some cost
    → pos (level_after link level 1 u) ≡ pos level +ℤ more_by link u v
level_moved link level u v cost few apart ends within is =
    let moved = is_moved link level 1 u v cost few ends within is in
    let brings = moved.brings link.head in
    let after = brought_head link (flow_at link (level_after link level 1 u)) apart in
    let before = brought_head link (flow_at link level) apart in
    elim ends [
      | inl two ↦
          let shifts = ap₂ (λ (a : Bool) (b : Bool). one_if a -ℤ one_if b) (eq-eqb link.head v two.1)
          (ne_eqb link.head u (λ e. apart (two.0 ∙ sym e))) in
          let one = at_arc link.tail link.head u v (sym two.0) (sym two.1) in
          let none = off_first link.head link.tail u v (λ e. apart (two.0 ∙ e)) in
          omega (arith, ints, brings, after, before, shifts, one, none)
      | inr two ↦
          let shifts = ap₂ (λ (a : Bool) (b : Bool). one_if a -ℤ one_if b)
          (ne_eqb link.head v (λ e. apart (two.0 ∙ sym e))) (eq-eqb link.head u two.1) in
          let one = at_arc link.head link.tail u v (sym two.1) (sym two.0) in
          let none = off_first link.tail link.head u v (λ e. apart (sym e ∙ sym two.1)) in
          omega (arith, ints, brings, after, before, shifts, one, none)
    ]

level_stepped : (nodes : ℕ) (links : List Link) (levels : List ℕ) (u v : ℕ) (cost : ℤ) (j : ℕ) (link : Link)
    → ArePlain nodes links → length levels ≡ length links → AreWithin links levels → slice_get links j ≡ Some link
    → link_arc links levels 1 u v ≡ Some cost
    → pos (get_or (stepped links 1 levels u v) j 0) ≡ pos (get_or levels j 0) +ℤ more_by link u v
level_stepped nodes links levels u v cost j link plain sized within at is =
    let arc = arc_of links levels 1 u v cost is in
    let made = stepped_some links levels 1 u v arc.place arc.link arc.level
    (is_between nodes links u v arc.place arc.link plain arc.link_is arc.joined) arc.link_is arc.level_is in
    elim (cases_eq j arc.place) [
      | inl same ↦
          let own : link ≡ arc.link = same_Some link arc.link (sym at ∙ ap (slice_get links) same ∙ arc.link_is) in
          let is_link = plain.each arc.place arc.link arc.link_is in
          let moved = level_moved arc.link arc.level u v cost is_link.steps.few_units is_link.apart
          (ends_of arc.link u v arc.joined) (within arc.place arc.level arc.link arc.link_is arc.level_is) arc.cost_is in
          let after : get_or (stepped links 1 levels u v) j 0 ≡ level_after arc.link arc.level 1 u =
          ap₂ (λ (xs : List ℕ) (i : ℕ). get_or xs i 0) made same
          ∙ get_or-set_same levels arc.place (level_after arc.link arc.level 1 u) 0
          (slice_get_within levels arc.place arc.level arc.level_is) in
          let before : get_or levels j 0 ≡ arc.level =
          ap (λ (i : ℕ). get_or levels i 0) same ∙ get_or_from_slice_get levels arc.place arc.level 0 arc.level_is in
          let by = ap (λ (l : Link). more_by l u v) own in
          omega (arith, ints, moved, after, before, by)
      | inr other ↦
          let after : get_or (stepped links 1 levels u v) j 0 ≡ get_or levels j 0 =
          ap (λ (xs : List ℕ). get_or xs j 0) made
          ∙ get_or-set_other levels arc.place j (level_after arc.link arc.level 1 u) 0 other in
          let one = none link.tail link.head (λ a b. other (plain.single j arc.place u v link arc.link at arc.link_is
          (joins_by link u v (inl (sym a, sym b))) arc.joined)) in
          let two = none link.head link.tail (λ a b. other (plain.single j arc.place u v link arc.link at arc.link_is
          (joins_by link u v (inr (sym b, sym a))) arc.joined)) in
          omega (arith, ints, after, one, two)
    ]
  where
    none : (p q : ℕ) → (u ≡ p → v ≡ q → ⊥) → on p q u v ≡ pos 0
    none p q not = elim (cases_eq u p) [
      | inl first ↦ elim (cases_eq v q) [
        | inl second ↦ absurd (not first second)
        | inr off ↦ off_second p q u v off
      ]
      | inr off ↦ off_first p q u v off
    ]

-- along a walk that meets no node twice
pub level_pushed : (nodes : ℕ) (links : List Link) (levels : List ℕ) (u : ℕ) (vs : List ℕ) (w : ℕ) (cost : ℤ) (j : ℕ)
    (link : Link) → ArePlain nodes links → length levels ≡ length links → AreWithin links levels
    → slice_get links j ≡ Some link → AreApart (u ∷ vs) → Avoids w (u ∷ vs)
    → walk_cost (link_arc links levels 1) u vs w ≡ Some cost
    → pos (get_or (pushed links 1 levels u vs w) j 0) ≡ pos (get_or levels j 0) +ℤ arcs_sum (more_by link) u vs w
unfolding AreApart
level_pushed nodes links levels u [] w cost j link plain sized within at apart off walk =
    level_stepped nodes links levels u w cost j link plain sized within at walk
level_pushed nodes links levels u (v ∷ vs) w cost j link plain sized within at apart off walk =
    let two = walk_parts (link_arc links levels 1) u v vs w cost walk in
    let one = level_stepped nodes links levels u v two.first j link plain sized within at two.first_is in
    let steps = is_stepped links levels 1 u v two.first (few_units nodes links plain) within two.first_is in
    let same = walk_cost-same_off (link_arc links (stepped links 1 levels u v) 1) (link_arc links levels 1) u
    (λ a b a_off b_off. arc-stepped links levels 1 u v 1 a b
    (others_by u v a b (λ p. a_off (sym p.0)) (λ p. b_off (sym p.0)))) v vs w (avoids-head u v vs apart.0)
    (avoids-tail u v vs apart.0) (λ e. avoids-head w u (v ∷ vs) off (sym e)) in
    let rest = level_pushed nodes links (stepped links 1 levels u v) v vs w two.second j link plain
    (steps.one_each ∙ sized) steps.within at apart.1 (avoids-tail w u (v ∷ vs) off) (same ∙ two.second_is) in
    omega (arith, ints, one, rest)

-- round a cycle of three nodes or more
level_round : (nodes : ℕ) (links : List Link) (levels : List ℕ) (u v x : ℕ) (vs : List ℕ) (cost : ℤ) (j : ℕ)
    (link : Link) → ArePlain nodes links → length levels ≡ length links → AreWithin links levels
    → slice_get links j ≡ Some link → AreApart (u ∷ v ∷ x ∷ vs)
    → walk_cost (link_arc links levels 1) u (v ∷ x ∷ vs) u ≡ Some cost
    → pos (get_or (pushed links 1 levels u (v ∷ x ∷ vs) u) j 0)
    ≡ pos (get_or levels j 0) +ℤ arcs_sum (more_by link) u (v ∷ x ∷ vs) u
unfolding AreApart
level_round nodes links levels u v x vs cost j link plain sized within at apart walk =
    let arc = link_arc links levels 1 in
    let after = link_arc links (stepped links 1 levels u v) 1 in
    let two = walk_parts arc u v (x ∷ vs) u cost walk in
    let v_off : v ≢ u = avoids-head u v (x ∷ vs) apart.0 in
    let x_off : x ≢ u = avoids-head u x vs (avoids-tail u v (x ∷ vs) apart.0) in
    let first_same : after v x ≡ arc v x =
    arc-stepped links levels 1 u v 1 v x (others_by u v v x (λ p. v_off (sym p.0)) (λ p. x_off (sym p.0))) in
    let rest_same : walk_cost after x vs u ≡ walk_cost arc x vs u =
    walk_cost-same_off after arc v (λ a b a_off b_off. arc-stepped links levels 1 u v 1 a b
    (others_by u v a b (λ p. b_off (sym p.1)) (λ p. a_off (sym p.1)))) x vs u (avoids-head v x vs apart.1.0)
    (avoids-tail v x vs apart.1.0) (λ e. v_off (sym e)) in
    let steps = is_stepped links levels 1 u v two.first (few_units nodes links plain) within two.first_is in
    let one = level_stepped nodes links levels u v two.first j link plain sized within at two.first_is in
    let rest = level_pushed nodes links (stepped links 1 levels u v) v (x ∷ vs) u two.second j link plain
    (steps.one_each ∙ sized) steps.within at apart.1 apart.0
    (ap₂ (λ (y : Option ℤ) (z : Option ℤ). both y z) first_same rest_same ∙ two.second_is) in
    omega (arith, ints, one, rest)

-- what a unit round a negative cycle does to the level of a link, whose arcs the cycle goes over at most once
pub record IsRounded (links : List Link) (levels : List ℕ) (u : ℕ) (vs : List ℕ) : Type 0 where
  pub level : (j : ℕ) (link : Link) → slice_get links j ≡ Some link
      → pos (get_or (pushed links 1 levels u vs u) j 0) ≡ pos (get_or levels j 0) +ℤ arcs_sum (more_by link) u vs u
  pub once : (p q : ℕ) → p ≢ q → (arcs_sum (on p q) u vs u +ℤ arcs_sum (on q p) u vs u) ≤ℤ pos 1

pub rounded : (nodes : ℕ) (links : List Link) (levels : List ℕ) (u : ℕ) (vs : List ℕ) (cost : ℤ) → ArePlain nodes links
    → length levels ≡ length links → AreWithin links levels → cost <ℤ pos 0
    → IsCycle (link_arc links levels 1) u vs cost → IsRounded links levels u vs
rounded nodes links levels u [] cost plain sized within negative cycle =
    let arc = arc_of links levels 1 u u cost cycle.walk in
    let is = plain.each arc.place arc.link arc.link_is in
    absurd (elim (ends_of arc.link u u arc.joined) [
      | inl ends ↦ is.apart (ends.0 ∙ sym ends.1)
      | inr ends ↦ is.apart (ends.0 ∙ sym ends.1)
    ])
rounded nodes links levels u (v ∷ []) cost plain sized within negative cycle =
    let two = walk_parts (link_arc links levels 1) u v [] u cost cycle.walk in
    let sum = there_and_back nodes links levels 1 u v two.first two.second plain two.first_is two.second_is in
    absurd (omega (arith, ints, sum, negative, two.sum_is))
rounded nodes links levels u (v ∷ x ∷ vs) cost plain sized within negative cycle =
    let apart = apart_from_different (u ∷ v ∷ x ∷ vs) cycle.different in
    record {
      level = λ j link at. level_round nodes links levels u v x vs cost j link plain sized within at apart cycle.walk;
      once = λ p q other. once_round p q u v x vs other apart;
    }

-- ---- the ends of a walk

-- the last node of a list, the first of which is u
abbrev pub last_of : ℕ → List ℕ → ℕ
last_of u [] = u
last_of u (v ∷ vs) = last_of v vs

-- the first node after u of a walk to w
abbrev pub next_of : List ℕ → ℕ → ℕ
next_of [] w = w
next_of (v ∷ vs) w = v

-- no arc begins at a node that a walk meets at its end alone
pub none_leave : (p q u : ℕ) (vs : List ℕ) (w : ℕ) → Avoids p (u ∷ vs) → arcs_sum (on p q) u vs w ≡ pos 0
none_leave p q u [] w off = off_first p q u w (avoids-head p u [] off)
none_leave p q u (v ∷ vs) w off =
    let one = off_first p q u v (avoids-head p u (v ∷ vs) off) in
    let rest = none_leave p q v vs w (avoids-tail p u (v ∷ vs) off) in
    omega (arith, ints, one, rest)

-- and only the last one ends at it
pub last_enters : (p u : ℕ) (vs : List ℕ) (w : ℕ) → Avoids w vs → arcs_sum (on p w) u vs w ≡ one_if (last_of u vs == p)
last_enters p u [] w off = ap (λ (b : Bool). one_if (u == p && b)) (eq-eqb w w refl) ∙ by (u == p)
  where
    by : (b : Bool) → one_if (b && true) ≡ one_if b
    by true = refl
    by false = refl
last_enters p u (v ∷ vs) w off =
    let one = off_second p w u v (avoids-head w v vs off) in
    let rest = last_enters p v vs w (avoids-tail w v vs off) in
    omega (arith, ints, one, rest)

-- no arc ends at a node that a walk meets at its begin alone, and only the first one begins at it
pub none_enter : (p q u : ℕ) (vs : List ℕ) (w : ℕ) → Avoids q vs → w ≢ q → arcs_sum (on p q) u vs w ≡ pos 0
none_enter p q u [] w off last = off_second p q u w last
none_enter p q u (v ∷ vs) w off last =
    let one = off_second p q u v (avoids-head q v vs off) in
    let rest = none_enter p q v vs w (avoids-tail q v vs off) last in
    omega (arith, ints, one, rest)

pub first_leaves : (q u : ℕ) (vs : List ℕ) (w : ℕ) → Avoids u vs → arcs_sum (on u q) u vs w ≡ one_if (next_of vs w == q)
first_leaves q u [] w off = ap (λ (b : Bool). one_if (b && w == q)) (eq-eqb u u refl)
first_leaves q u (v ∷ vs) w off =
    let one : on u q u v ≡ one_if (v == q) = ap (λ (b : Bool). one_if (b && v == q)) (eq-eqb u u refl) in
    let rest = none_leave u q v vs w off in
    omega (arith, ints, one, rest)
