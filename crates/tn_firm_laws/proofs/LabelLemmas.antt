-- Numbers that keep every arc of a graph, or a closed walk of negative cost: by taking out one node after another.
use Rattle.std.proofs.Common.{◌≡◌, ◌≢◌, ℕ, zero, suc, ◌<◌, Bool, true, false, ◌==◌, ◌&&◌, if◌then◌else◌, cond, ltb, refl, sym, ap, ap₂, ◌∙◌, subst, arith, ◌⊎◌, inl, inr, ◌↔◌, ℤ, pos, ◌+ℤ◌, ◌-ℤ◌, List, [], ◌∷◌, ◌++◌, Option, Some, None}
use Rattle.std.specs.Prelude.{◌≤ℤ◌, ◌<ℤ◌, int_lt, option_map}
use Rattle.std.specs.Int.{int_min}
use Rattle.std.proofs.lemmas.Bool.{cases_eq, cases_Bool, lt-ltb, ltb-true, eq-eqb, eqb-true, false_from_ne_true, and_parts}
use Rattle.std.proofs.lemmas.Option.{same_Some}
use Rattle.std.proofs.lemmas.Int.{ints, by_lt_z}
use Rattle.tn_base.specs.Options.{both}
use Rattle.tn_base.specs.Arcs.{AreBetweenNodes}
use Rattle.tn_base.specs.Walks.{walk_cost, KeepsArcs, HasNoNegativeCycle}
use Rattle.tn_firm_laws.proofs.KeepLemmas.{option_map-some}
use Rattle.tn_base.proofs.WalkLemmas.{both_are, walk_parts, walk-joined}

-- ---- a number between bounds

-- the number is at most each of the first n bounds that are there, or at least each
abbrev IsBelow : (ℕ → Option ℤ) → ℕ → ℤ → Type 0
IsBelow high n z = (k : ℕ) (b : ℤ) → k < n → high k ≡ Some b → z ≤ℤ b

abbrev IsAbove : (ℕ → Option ℤ) → ℕ → ℤ → Type 0
IsAbove low n z = (k : ℕ) (a : ℤ) → k < n → low k ≡ Some a → a ≤ℤ z

-- one bound more
with_last : (P : ℕ → Type 0) (n : ℕ) → ((k : ℕ) → k < n → P k) → P n → (k : ℕ) → k < suc n → P k
with_last P n before last k h = elim (cases_eq k n) [
  | inl e ↦ subst P (sym e) last
  | inr d ↦ before k (omega (arith, h, d))
]

below_all : (high : ℕ → Option ℤ) (n : ℕ) → (z : ℤ) × IsBelow high n z
below_all high zero = (pos 0, λ k b h e. absurd (omega (arith, h)))
below_all high (suc n) = at (high n) refl (below_all high n)
  where
    at : (o : Option ℤ) → high n ≡ o → (z : ℤ) × IsBelow high n z → (z : ℤ) × IsBelow high (suc n) z
    at None is rest = (
      rest.0,
      λ k b h e. with_last (λ (j : ℕ). (c : ℤ) → high j ≡ Some c
          → rest.0 ≤ℤ c) n (λ j p c q. rest.1 j c p q) (λ c q. absurd (cc (is, q))) k h b e,
    )
    at (Some top) is rest = by_lt_z top rest.0
        (λ less. (
          top,
          λ k b h e. with_last (λ (j : ℕ). (c : ℤ) → high j ≡ Some c → top ≤ℤ c) n
              (λ j p c q. let r = rest.1 j c p q in omega (arith, ints, r, less)) (λ c q. let s =
              same_Some top c (sym is ∙ q) in omega (arith, ints, s)) k h b e,
        ))
        (λ more. (
          rest.0,
          λ k b h e. with_last (λ (j : ℕ). (c : ℤ) → high j ≡ Some c → rest.0 ≤ℤ c) n
              (λ j p c q. rest.1 j c p q) (λ c q. let s = same_Some top c (sym is ∙ q) in
              omega (arith, ints, s, more)) k h b e,
        ))

-- where each low bound is at most each high one, a number lies between them
between : (low high : ℕ → Option ℤ) (m n : ℕ) → ((j k : ℕ) (a b : ℤ) → j < n → k < m → low j ≡ Some a → high k ≡ Some b
    → a ≤ℤ b)
    → (z : ℤ) × IsAbove low n z × IsBelow high m z
between low high m zero under = let z = below_all high m in (z.0, (λ k a h e. absurd (omega (arith, h))), z.1)
between low high m (suc n) under =
    at (low n) refl (between low high m n (λ j k a b p q. under j k a b (omega (arith, p)) q))
  where
    at : (o : Option ℤ) → low n ≡ o → (z : ℤ) × IsAbove low n z × IsBelow high m z → (z : ℤ) × IsAbove low (suc n) z
        × IsBelow high m z
    at None is rest = (
      rest.0,
      (λ k a h e. with_last (λ (j : ℕ). (c : ℤ) → low j ≡ Some c
          → c ≤ℤ rest.0) n (λ j p c q. rest.1 j c p q) (λ c q. absurd (cc (is, q))) k h a e),
      rest.2,
    )
    at (Some bottom) is rest = by_lt_z rest.0 bottom
        (λ less. (
          bottom,
          (λ k a h e. with_last (λ (j : ℕ). (c : ℤ) → low j ≡ Some c → c ≤ℤ bottom) n
              (λ j p c q. let r = rest.1 j c p q in omega (arith, ints, r, less)) (λ c q. let s =
              same_Some bottom c (sym is ∙ q) in omega (arith, ints, s)) k h a e),
          λ k b h e. under n k bottom b (omega arith) h is e,
        ))
        (λ more. (
          rest.0,
          (λ k a h e. with_last (λ (j : ℕ). (c : ℤ) → low j ≡ Some c → c ≤ℤ rest.0) n (λ j p c q. rest.1 j c p q)
              (λ c q. let s = same_Some bottom c (sym is ∙ q) in omega (arith, ints, s, more)) k h a e),
          rest.2,
        ))

-- ---- the graph without its last node

-- the smaller of two numbers, where none is greater than every number
abbrev lesser : Option ℤ → Option ℤ → Option ℤ
lesser None other = other
lesser (Some a) None = Some a
lesser (Some a) (Some b) = Some (int_min a b)

record IsLesser (o p : Option ℤ) : Type 0 where
  first : (a : ℤ) → o ≡ Some a → (c : ℤ) × (lesser o p ≡ Some c) × (c ≤ℤ a)
  second : (b : ℤ) → p ≡ Some b → (c : ℤ) × (lesser o p ≡ Some c) × (c ≤ℤ b)
  one : (c : ℤ) → lesser o p ≡ Some c → (o ≡ Some c) ⊎ (p ≡ Some c)

is_lesser : (o p : Option ℤ) → IsLesser o p
is_lesser None p = record {
  first = λ a e. absurd (cc e);
  second = λ b e. (b, e, omega (arith, ints));
  one = λ c e. inr e;
}
is_lesser (Some x) None = record {
  first = λ a e. (x, refl, let s = same_Some x a e in omega (arith, ints, s));
  second = λ b e. absurd (cc e);
  one = λ c e. inl e;
}
is_lesser (Some x) (Some y) = by (int_lt y x) refl
  where
    by : (t : Bool) → int_lt y x ≡ t → IsLesser (Some x) (Some y)
    by true e =
        let min : int_min x y ≡ y = ap (λ (b : Bool). cond b y x) e in
        record {
          first = λ a q. (int_min x y, refl, let s = same_Some x a q in omega (arith, ints, min, s, e));
          second = λ b q. (int_min x y, refl, let s = same_Some y b q in omega (arith, ints, min, s));
          one = λ c q. inr (ap (λ (z : ℤ). Some z) (sym min) ∙ q);
        }
    by false e =
        let min : int_min x y ≡ x = ap (λ (b : Bool). cond b y x) e in
        record {
          first = λ a q. (int_min x y, refl, let s = same_Some x a q in omega (arith, ints, min, s));
          second = λ b q. (int_min x y, refl, let s = same_Some y b q in omega (arith, ints, min, s, e));
          one = λ c q. inl (ap (λ (z : ℤ). Some z) (sym min) ∙ q);
        }

-- the arcs among the first n nodes, each as cheap as the way through node n where that is cheaper
abbrev without_last : ℕ → (ℕ → ℕ → Option ℤ) → ℕ → ℕ → Option ℤ
without_last n arc u v = if ltb u n && ltb v n then lesser (arc u v) (both (arc u n) (arc n v)) else None

inside : (n : ℕ) (arc : ℕ → ℕ → Option ℤ) (u v : ℕ) (c : ℤ) → without_last n arc u v ≡ Some c → (u < n) × (v < n)
inside n arc u v c is = elim (cases_Bool (ltb u n && ltb v n)) [
  | inl e ↦ let parts = and_parts (ltb u n) (ltb v n) e in (ltb-true u n parts.0, ltb-true v n parts.1)
  | inr e ↦ absurd (let none : without_last n arc u v ≡ None =
      ap (λ (b : Bool). if b then lesser (arc u v) (both (arc u n) (arc n v)) else None) e in cc (none, is))
]

arc_without : (n : ℕ) (arc : ℕ → ℕ → Option ℤ) (u v : ℕ) → u < n → v < n
    → without_last n arc u v ≡ lesser (arc u v) (both (arc u n) (arc n v))
arc_without n arc u v p q = ap₂ (λ (a b : Bool). if a && b then lesser (arc u v) (both (arc u n) (arc n v))
    else None) (lt-ltb u n p) (lt-ltb v n q)

-- an arc of the smaller graph is a walk of the whole graph, and so is a walk
arc_widened : (n : ℕ) (arc : ℕ → ℕ → Option ℤ) (u w : ℕ) (c : ℤ) → without_last n arc u w ≡ Some c → (us : List ℕ)
    × (walk_cost arc u us w ≡ Some c)
arc_widened n arc u w c is =
    let p = inside n arc u w c is in
    elim ((is_lesser (arc u w) (both (arc u n) (arc n w))).one c (sym (arc_without n arc u w p.0 p.1) ∙ is)) [
      | inl direct ↦ ([], direct)
      | inr through ↦ (n ∷ [], through)
    ]

widened : (n : ℕ) (arc : ℕ → ℕ → Option ℤ) (u : ℕ) (vs : List ℕ) (w : ℕ) (c : ℤ)
    → walk_cost (without_last n arc) u vs w ≡ Some c
    → (us : List ℕ) × (walk_cost arc u us w ≡ Some c)
widened n arc u [] w c is = arc_widened n arc u w c is
widened n arc u (v ∷ vs) w c is =
    let parts = walk_parts (without_last n arc) u v vs w c is in
    let first = arc_widened n arc u v parts.first parts.first_is in
    let rest = widened n arc v vs w parts.second parts.second_is in (
      first.0 ++ v ∷ rest.0,
      walk-joined arc u first.0 v rest.0 w parts.first parts.second first.1 rest.1
          ∙ ap (λ (z : ℤ). Some z) (sym parts.sum_is),
    )

-- ---- numbers that keep the arcs, or a negative closed walk

-- a closed walk of negative cost
pub record NegativeCycle (arc : ℕ → ℕ → Option ℤ) : Type 0 where
  pub node : ℕ
  pub inner : List ℕ
  pub cost : ℤ
  pub walk : walk_cost arc node inner node ≡ Some cost
  pub negative : cost <ℤ pos 0

-- the numbers of the smaller graph, and a number for the last node
abbrev with_number : ℕ → ℤ → (ℕ → ℤ) → ℕ → ℤ
with_number n z label u = if u == n then z else label u

number-last : (n : ℕ) (z : ℤ) (label : ℕ → ℤ) → with_number n z label n ≡ z
number-last n z label = ap (λ (b : Bool). if b then z else label n) (eq-eqb n n refl)

number-other : (n : ℕ) (z : ℤ) (label : ℕ → ℤ) (u : ℕ) → u ≢ n → with_number n z label u ≡ label u
number-other n z label u other = ap (λ (b : Bool). if b then z
    else label u) (false_from_ne_true (u == n) (λ e. other (eqb-true u n e)))

-- where no arc from the last node to itself is negative, numbers that keep the smaller graph give numbers for the whole
extended : (n : ℕ) (arc : ℕ → ℕ → Option ℤ) → AreBetweenNodes (suc n) arc → ((c : ℤ) → arc n n ≡ Some c → pos 0 ≤ℤ c)
    → (label : ℕ → ℤ) → KeepsArcs (without_last n arc) label → (numbers : ℕ → ℤ) × KeepsArcs arc numbers
extended n arc nodes loop label keeps = (with_number n found.0 label, kept)
  where
    -- what an arc from the last node wants at least, and an arc to it at most
    low : ℕ → Option ℤ
    low v = option_map (λ c. label v -ℤ c) (arc n v)

    high : ℕ → Option ℤ
    high u = option_map (λ c. label u +ℤ c) (arc u n)

    under : (v u : ℕ) (a b : ℤ) → v < n → u < n → option_map (λ c. label v -ℤ c) (arc n v) ≡ Some a
        → option_map (λ c. label u +ℤ c) (arc u n) ≡ Some b → a ≤ℤ b
    under v u a b v_in u_in low_is high_is =
        let out = option_map-some (λ c. label v -ℤ c) (arc n v) a low_is in
        let into = option_map-some (λ c. label u +ℤ c) (arc u n) b high_is in
        let short = (is_lesser (arc u v) (both (arc u n) (arc n v))).second (into.0 +ℤ out.0)
        (both_are (arc u n) (arc n v) into.0 out.0 into.1 out.1) in
        let kept = keeps u v short.0 (arc_without n arc u v u_in v_in ∙ short.1) in
        let less = short.2 in
        let first = out.2 in
        let second = into.2 in
        omega (arith, ints, kept, less, first, second)

    found : (z : ℤ) × IsAbove (λ v. option_map (λ c. label v -ℤ c) (arc n v)) n z
        × IsBelow (λ u. option_map (λ c. label u +ℤ c) (arc u n)) n z
    found = between (λ v. option_map (λ c. label v -ℤ c) (arc n v)) (λ u. option_map (λ c. label u +ℤ c) (arc u n)) n n
        under

    kept : KeepsArcs arc (with_number n found.0 label)
    kept u v c is =
        let ends = nodes u v c is in
        let u_in = ends.0 in
        let v_in = ends.1 in
        elim (cases_eq u n) [
          | inl u_last ↦ elim (cases_eq v n) [
            | inl v_last ↦
                let here = loop c (sym (ap₂ arc u_last v_last) ∙ is) in
                let first = ap (with_number n found.0 label) u_last in
                let second = ap (with_number n found.0 label) v_last in
                omega (arith, ints, here, first, second)
            | inr v_other ↦
                let above = found.1 v (label v -ℤ c) (omega (arith, v_in, v_other))
                (ap (option_map (λ c. label v -ℤ c)) (ap (λ (x : ℕ). arc x v) (sym u_last) ∙ is)) in
                let first = ap (with_number n found.0 label) u_last ∙ number-last n found.0 label in
                let second = number-other n found.0 label v v_other in
                omega (arith, ints, above, first, second)
          ]
          | inr u_other ↦ elim (cases_eq v n) [
            | inl v_last ↦
                let below = found.2 u (label u +ℤ c) (omega (arith, u_in, u_other))
                (ap (option_map (λ c. label u +ℤ c)) (ap (arc u) (sym v_last) ∙ is)) in
                let first = number-other n found.0 label u u_other in
                let second = ap (with_number n found.0 label) v_last ∙ number-last n found.0 label in
                omega (arith, ints, below, first, second)
            | inr v_other ↦
                let short = (is_lesser (arc u v) (both (arc u n) (arc n v))).first c is in
                let old = keeps u v short.0 (arc_without n arc u v (omega (arith, u_in, u_other))
                (omega (arith, v_in, v_other)) ∙ short.1) in
                let less = short.2 in
                let first = number-other n found.0 label u u_other in
                let second = number-other n found.0 label v v_other in
                omega (arith, ints, old, less, first, second)
          ]
        ]

-- numbers keep every arc, or some closed walk is negative
pub labels_or_cycle : (n : ℕ) (arc : ℕ → ℕ → Option ℤ) → AreBetweenNodes n arc → ((label : ℕ → ℤ) × KeepsArcs arc label)
    ⊎ NegativeCycle arc
labels_or_cycle zero arc nodes = inl (
  λ u. pos 0,
  λ u v c is. let ends = nodes u v c is in let h = ends.0 in
      absurd (omega (arith, h)),
)
labels_or_cycle (suc n) arc nodes = at (arc n n) refl (labels_or_cycle n (without_last n arc) (inside n arc))
  where
    from_smaller : ((c : ℤ) → arc n n ≡ Some c → pos 0 ≤ℤ c) → ((label : ℕ → ℤ) × KeepsArcs (without_last n arc) label)
        ⊎ NegativeCycle (without_last n arc)
        → ((label : ℕ → ℤ) × KeepsArcs arc label) ⊎ NegativeCycle arc
    from_smaller loop (inl found) = inl (extended n arc nodes loop found.0 found.1)
    from_smaller loop (inr cycle) =
        let wide = widened n arc cycle.node cycle.inner cycle.node cycle.cost cycle.walk in
        inr (record { node = cycle.node; inner = wide.0; cost = cycle.cost; walk = wide.1; negative = cycle.negative })

    at : (o : Option ℤ) → arc n n ≡ o → ((label : ℕ → ℤ) × KeepsArcs (without_last n arc) label)
        ⊎ NegativeCycle (without_last n arc)
        → ((label : ℕ → ℤ) × KeepsArcs arc label) ⊎ NegativeCycle arc
    at None is smaller = from_smaller (λ c e. absurd (cc (is, e))) smaller
    at (Some c) is smaller = by_lt_z c (pos 0)
        (λ negative. inr (record { node = n; inner = []; cost = c; walk = is; negative = negative }))
        (λ least. from_smaller (λ d e. let s = same_Some c d (sym is ∙ e) in omega (arith, ints, s, least)) smaller)

-- a walk costs at least the difference of the numbers of its ends, where they keep every arc
pub walk-kept : (arc : ℕ → ℕ → Option ℤ) (label : ℕ → ℤ) → KeepsArcs arc label
    → (u : ℕ) (vs : List ℕ) (w : ℕ) (cost : ℤ) → walk_cost arc u vs w ≡ Some cost → label w ≤ℤ (label u +ℤ cost)
walk-kept arc label keeps u [] w cost is = keeps u w cost is
walk-kept arc label keeps u (v ∷ vs) w cost is =
    let parts = walk_parts arc u v vs w cost is in
    let first = keeps u v parts.first parts.first_is in
    let rest = walk-kept arc label keeps v vs w parts.second parts.second_is in
    let sum = parts.sum_is in
    omega (arith, ints, first, rest, sum)

pub numbers_keep_arcs : (n : ℕ) (arc : ℕ → ℕ → Option ℤ) → AreBetweenNodes n arc → HasNoNegativeCycle arc
    ↔ ((label : ℕ → ℤ) × KeepsArcs arc label)
numbers_keep_arcs n arc nodes = (
  λ none. elim (labels_or_cycle n arc nodes) [
    | inl found ↦ found
    | inr cycle ↦ absurd (let least = none cycle.node cycle.inner cycle.cost cycle.walk in let less = cycle.negative in
        omega (arith, ints, least, less))
  ],
  λ found u vs cost walk. let kept = walk-kept arc found.0 found.1 u vs u cost walk in omega (arith, ints, kept),
)
