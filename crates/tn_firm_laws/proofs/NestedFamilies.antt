-- Families of nested sets. Numbers stand at the places below m, and a set has the sum of the numbers at its members.
-- Where the number at i is above 0, and a set with all others has a sum of at most 0, some place has a number below
-- 0, and is parted from i only by sets whose sums allow it.
use Rattle.std.proofs.Common.{◌≡◌, ℕ, zero, suc, ◌<◌, Bool, true, false, not, ◌&&◌, refl, sym, ap, ◌∙◌, subst, arith, ◌⊎◌, inl, inr, if◌then◌else◌, cond, ℤ, pos, ◌-ℤ◌, List, [], ◌∷◌}
use Rattle.std.specs.Prelude.{◌≤ℤ◌, ◌<ℤ◌}
use Rattle.std.proofs.lemmas.Bool.{cases_eq, cases_Bool, false≢true, true≢false}
use Rattle.std.proofs.lemmas.Int.{ints, by_lt_z}
use Rattle.tn_base.specs.Sets.{has, minus, sum_over}
use Rattle.tn_base.proofs.SetLemmas.{has-minus}

-- each member of a is one of b
abbrev pub Within : ℕ → ℕ → Type 0
Within a b = (k : ℕ) → has a k ≡ true → has b k ≡ true

-- no member of a is one of b
abbrev pub Apart : ℕ → ℕ → Type 0
Apart a b = (k : ℕ) → has a k ≡ true → has b k ≡ true → ⊥

-- apart, or one within the other
abbrev pub Nest : ℕ → ℕ → Type 0
Nest a b = Apart a b ⊎ (Within a b ⊎ Within b a)

-- a is one of the list
abbrev pub In : ℕ → List ℕ → Type 0
In a [] = ⊥
In a (b ∷ bs) = (a ≡ b) ⊎ In a bs

-- without i, and with a sum of at least 0: a set in which the partner of i may not stand
abbrev IsTaken : (ℕ → ℤ) → ℕ → ℕ → ℕ → Type 0
IsTaken d m i q = (has q i ≡ false) × (pos 0 ≤ℤ sum_over d m q)

-- one number is below the other or not
pub cases_ltℤ : (a b : ℤ) → (a <ℤ b) ⊎ (b ≤ℤ a)
cases_ltℤ a b = by_lt_z a b inl inr

-- a set is taken or not
taken_or_not : (d : ℕ → ℤ) (m i q : ℕ) → IsTaken d m i q ⊎ (IsTaken d m i q → ⊥)
taken_or_not d m i q = elim (cases_Bool (has q i)) [
  | inl e ↦ inr (λ taken. true≢false (sym e ∙ taken.0))
  | inr e ↦ elim (cases_ltℤ (sum_over d m q) (pos 0)) [
    | inl h ↦ inr (λ taken. let t = taken.1 in omega (arith, ints, h, t))
    | inr h ↦ inl (e, h)
  ]
]

-- the sum over what is left of a set
sum_over-minus : (d : ℕ → ℤ) (m w p : ℕ) → Within p w → sum_over d m (minus w p) ≡ sum_over d m w -ℤ sum_over d m p
unfolding sum_over
sum_over-minus d zero w p within = refl
sum_over-minus d (suc m) w p within =
    let before : sum_over d m (minus w p) ≡ sum_over d m w -ℤ sum_over d m p = sum_over-minus d m w p within in
    let here : (if has (minus w p) m then d m else pos 0) ≡ (if has w m then d m else pos 0) -ℤ (if has p m then d m
    else pos 0) =
    rw (has-minus w p m) (by (has w m) (has p m) (within m)) in
    omega (arith, ints, before, here)
  where
    by : (b c : Bool) → (c ≡ true → b ≡ true) → (if b && not c then d m else pos 0) ≡ (if b then d m else pos 0)
        -ℤ (if c then d m else pos 0)
    by true true h = omega (arith, ints)
    by true false h = omega (arith, ints)
    by false true h = absurd (false≢true (h refl))
    by false false h = refl

-- some later taken set contains p, or each later taken set is apart from p or within it
later : (d : ℕ → ℤ) (m i p : ℕ) (sets : List ℕ) → ((q : ℕ) → In q sets → Nest p q)
    → ((q : ℕ) × In q sets × IsTaken d m i q × Within p q)
    ⊎ ((q : ℕ) → In q sets → IsTaken d m i q → Apart p q ⊎ Within q p)
later d m i p [] nest = inr (λ q q_in taken. absurd q_in)
later d m i p (s ∷ sets) nest = elim (later d m i p sets (λ q q_in. nest q (inr q_in))) [
  | inl found ↦ inl (found.0, inr found.1, found.2, found.3)
  | inr rest ↦ elim (taken_or_not d m i s) [
    | inr free ↦ inr (λ q q_in taken. elim q_in [
      | inl e ↦ absurd (free (subst (IsTaken d m i) e taken))
      | inr q_later ↦ rest q q_later taken
    ])
    | inl here ↦ elim (nest s (inl refl)) [
      | inl apart ↦ inr (λ q q_in taken. elim q_in [
        | inl e ↦ inl (subst (Apart p) (sym e) apart)
        | inr q_later ↦ rest q q_later taken
      ])
      | inr either ↦ elim either [
        | inl within ↦ inl (s, inl refl, here, within)
        | inr within ↦ inr (λ q q_in taken. elim q_in [
          | inl e ↦ inr (subst (λ (z : ℕ). Within z p) (sym e) within)
          | inr q_later ↦ rest q q_later taken
        ])
      ]
    ]
  ]
]

-- a part of w with i, of a sum of at most 0, that is apart from each taken set
record Cleared (d : ℕ → ℤ) (m i : ℕ) (sets : List ℕ) (w : ℕ) : Type 0 where
  set : ℕ
  holds : has set i ≡ true
  low : sum_over d m set ≤ℤ pos 0
  inside : Within set w
  apart : (q : ℕ) → In q sets → IsTaken d m i q → Apart q set

-- one set more, from which the part is apart if it is taken
cleared-more : (d : ℕ → ℤ) (m i p : ℕ) (sets : List ℕ) (w : ℕ) (rest : Cleared d m i sets w)
    → (IsTaken d m i p → Apart p rest.set) → Cleared d m i (p ∷ sets) w
cleared-more d m i p sets w rest here = record {
  set = rest.set;
  holds = rest.holds;
  low = rest.low;
  inside = rest.inside;
  apart = λ q q_in taken. elim q_in [
    | inl e ↦ subst (λ (z : ℕ). Apart z rest.set) (sym e) (here (subst (IsTaken d m i) e taken))
    | inr q_later ↦ rest.apart q q_later taken
  ];
}

-- a part of a part
cleared-inside : (d : ℕ → ℤ) (m i : ℕ) (sets : List ℕ) (w v : ℕ) → Within v w → Cleared d m i sets v
    → Cleared d m i sets w
cleared-inside d m i sets w v within rest = record {
  set = rest.set;
  holds = rest.holds;
  low = rest.low;
  inside = λ k h. within k (rest.inside k h);
  apart = rest.apart;
}

-- a member of what is left is one of w and none of p
has_minus_parts : (w p k : ℕ) → has (minus w p) k ≡ true → (has w k ≡ true) × (has p k ≡ false)
has_minus_parts w p k e = by (has w k) (has p k) (sym (has-minus w p k) ∙ e)
  where
    by : (b c : Bool) → (b && not c) ≡ true → (b ≡ true) × (c ≡ false)
    by true true h = absurd (false≢true h)
    by true false h = (refl, refl)
    by false c h = absurd (false≢true h)

-- and the other way round
has_minus_from : (w p k : ℕ) → has w k ≡ true → has p k ≡ false → has (minus w p) k ≡ true
has_minus_from w p k member absent = has-minus w p k ∙ rw (member, absent) refl

-- the taken sets can be cleared out of w: each is within w or apart from it, and one within a later one is skipped
clear : (d : ℕ → ℤ) (m i : ℕ) (sets : List ℕ) → ((a b : ℕ) → In a sets → In b sets → Nest a b) → (w : ℕ)
    → has w i ≡ true
    → sum_over d m w ≤ℤ pos 0 → ((q : ℕ) → In q sets → IsTaken d m i q → Apart q w ⊎ Within q w) → Cleared d m i sets w
unfolding cleared-inside
clear d m i [] nest w w_i low fits = record {
  set = w;
  holds = w_i;
  low = low;
  inside = λ k h. h;
  apart = λ q q_in taken. absurd q_in;
}
clear d m i (p ∷ sets) nest w w_i low fits =
    let rest : Cleared d m i sets w =
    clear d m i sets (λ a b a_in b_in. nest a b (inr a_in) (inr b_in)) w w_i low (λ q q_in. fits q (inr q_in)) in
    elim (taken_or_not d m i p) [
      | inr free ↦ cleared-more d m i p sets w rest (λ taken. absurd (free taken))
      | inl taken ↦ elim (fits p (inl refl) taken) [
        | inl apart ↦ cleared-more d m i p sets w rest (λ t k h g. apart k h (rest.inside k g))
        | inr within ↦ elim (later d m i p sets (λ q q_in. nest p q (inl refl) (inr q_in))) [
          | inl found ↦
              cleared-more d m i p sets w rest (λ t k h g. rest.apart found.0 found.1 found.2 k (found.3 k h) g)
          | inr none ↦
              let less : Cleared d m i sets (minus w p) =
              clear d m i sets (λ a b a_in b_in. nest a b (inr a_in) (inr b_in)) (minus w p)
              (has_minus_from w p i w_i taken.0)
              (let sum = sum_over-minus d m w p within in let t = taken.1 in omega (arith, ints, sum, t, low))
              (λ q q_in q_taken. fits_left q (none q q_in q_taken) (fits q (inr q_in) q_taken)) in
              cleared-more d m i p sets w (cleared-inside d m i sets w (minus w p) (λ k h. (has_minus_parts w p k h).0)
              less)
              (λ t k h g. true≢false (sym h ∙ (has_minus_parts w p k (less.inside k g)).1))
        ]
      ]
    ]
  where
    fits_left : (q : ℕ) → Apart p q ⊎ Within q p → Apart q w ⊎ Within q w → Apart q (minus w p) ⊎ Within q (minus w p)
    fits_left q to_p to_w = elim to_p [
      | inr within ↦ inl (λ k h g. true≢false (sym (within k h) ∙ (has_minus_parts w p k g).1))
      | inl apart ↦ elim to_w [
        | inl outside ↦ inl (λ k h g. outside k h (has_minus_parts w p k g).0)
        | inr inside ↦ inr (λ k h. has_minus_from w p k (inside k h) (absent (has p k) (λ e. apart k e h)))
      ]
    ]
      where
        absent : (b : Bool) → (b ≡ true → ⊥) → b ≡ false
        absent true h = absurd (h refl)
        absent false h = refl

-- a set with i of a sum of at most 0, within each such set of the family, and nested with the whole family
record Framed (d : ℕ → ℤ) (m i : ℕ) (all sets : List ℕ) (u : ℕ) : Type 0 where
  set : ℕ
  holds : has set i ≡ true
  low : sum_over d m set ≤ℤ pos 0
  inside : Within set u
  least : (q : ℕ) → In q sets → has q i ≡ true → sum_over d m q ≤ℤ pos 0 → Within set q
  nested : (q : ℕ) → In q all → Nest q set

-- one set more, which holds the framed set if its sum is at most 0
framed-more : (d : ℕ → ℤ) (m i : ℕ) (all : List ℕ) (p : ℕ) (sets : List ℕ) (u v : ℕ) → Within v u
    → (rest : Framed d m i all sets v)
    → (has p i ≡ true → sum_over d m p ≤ℤ pos 0 → Within rest.set p) → Framed d m i all (p ∷ sets) u
framed-more d m i all p sets u v within rest here = record {
  set = rest.set;
  holds = rest.holds;
  low = rest.low;
  inside = λ k h. within k (rest.inside k h);
  least = λ q q_in q_i q_low. elim q_in [
    | inl e ↦ subst (Within rest.set) (sym e) (here (subst (λ (z : ℕ). has z i ≡ true) e q_i)
        (subst (λ (z : ℕ). sum_over d m z ≤ℤ pos 0) e q_low))
    | inr q_later ↦ rest.least q q_later q_i q_low
  ];
  nested = rest.nested;
}

-- the least such set
frame : (d : ℕ → ℤ) (m i : ℕ) (all : List ℕ) → ((a b : ℕ) → In a all → In b all → Nest a b)
    → (sets : List ℕ) → ((q : ℕ) → In q sets → In q all) → (u : ℕ) → has u i ≡ true → sum_over d m u ≤ℤ pos 0
    → ((q : ℕ) → In q all → Nest q u) → Framed d m i all sets u
frame d m i all nest [] known u u_i low nested = record {
  set = u;
  holds = u_i;
  low = low;
  inside = λ k h. h;
  least = λ q q_in q_i q_low. absurd q_in;
  nested = nested;
}
frame d m i all nest (p ∷ sets) known u u_i low nested =
    let rest : Framed d m i all sets u = frame d m i all nest sets (λ q q_in. known q (inr q_in)) u u_i low nested in
    elim (cases_Bool (has p i)) [
      | inr absent ↦
          framed-more d m i all p sets u u (λ k h. h) rest (λ p_i p_low. absurd (true≢false (sym p_i ∙ absent)))
      | inl p_i ↦ elim (cases_ltℤ (pos 0) (sum_over d m p)) [
        | inl high ↦
            framed-more d m i all p sets u u (λ k h. h) rest (λ e p_low. absurd (omega (arith, ints, high, p_low)))
        | inr p_low ↦ elim (nested p (known p (inl refl))) [
          | inl apart ↦ absurd (apart i p_i u_i)
          | inr either ↦ elim either [
            | inl p_within ↦
                let inner : Framed d m i all sets p =
                frame d m i all nest sets (λ q q_in. known q (inr q_in)) p p_i p_low
                (λ q q_in. nest q p q_in (known p (inl refl))) in
                framed-more d m i all p sets u p p_within inner (λ e l. inner.inside)
            | inr u_within ↦ framed-more d m i all p sets u u (λ k h. h) rest (λ e l k h. u_within k (rest.inside k h))
          ]
        ]
      ]
    ]

-- some member of w has a number below 0, or none has
negative_or_none : (d : ℕ → ℤ) (m w : ℕ) → ((j : ℕ) × (j < m) × (has w j ≡ true) × (d j <ℤ pos 0))
    ⊎ ((k : ℕ) → k < m → has w k ≡ true → pos 0 ≤ℤ d k)
negative_or_none d zero w = inr (λ k h e. absurd (omega (arith, h)))
negative_or_none d (suc m) w = elim (negative_or_none d m w) [
  | inl found ↦ inl (found.0, let h = found.1 in omega (arith, h), found.2, found.3)
  | inr none ↦ elim (cases_Bool (has w m)) [
    | inr absent ↦ inr (λ k h e. elim (cases_eq k m) [
      | inl same ↦ absurd (true≢false (sym e ∙ ap (has w) same ∙ absent))
      | inr other ↦ none k (omega (arith, h, other)) e
    ])
    | inl member ↦ elim (cases_ltℤ (d m) (pos 0)) [
      | inl low ↦ inl (m, omega arith, member, low)
      | inr high ↦ inr (λ k h e. elim (cases_eq k m) [
        | inl same ↦ subst (λ (z : ℕ). pos 0 ≤ℤ d z) (sym same) high
        | inr other ↦ none k (omega (arith, h, other)) e
      ])
    ]
  ]
]

-- numbers of at least 0 have a sum of at least 0
sum_over-from_zero : (d : ℕ → ℤ) (m w : ℕ) → ((k : ℕ) → k < m → has w k ≡ true → pos 0 ≤ℤ d k) → pos 0 ≤ℤ sum_over d m w
unfolding sum_over
sum_over-from_zero d zero w high = omega (arith, ints)
sum_over-from_zero d (suc m) w high =
    let before : pos 0 ≤ℤ sum_over d m w = sum_over-from_zero d m w (λ k h. high k (omega (arith, h))) in
    let here : pos 0 ≤ℤ (if has w m then d m else pos 0) = by (has w m) (high m (omega arith)) in
    omega (arith, ints, before, here)
  where
    by : (b : Bool) → (b ≡ true → pos 0 ≤ℤ d m) → pos 0 ≤ℤ (if b then d m else pos 0)
    by true h = h refl
    by false h = omega (arith, ints)

-- and of at least each of them
sum_over-from_term : (d : ℕ → ℤ) (m w i : ℕ) → i < m → has w i ≡ true
    → ((k : ℕ) → k < m → has w k ≡ true → pos 0 ≤ℤ d k) → d i ≤ℤ sum_over d m w
unfolding sum_over
sum_over-from_term d zero w i inside member high = absurd (omega (arith, inside))
sum_over-from_term d (suc m) w i inside member high = elim (cases_eq i m) [
  | inl e ↦
      let before : pos 0 ≤ℤ sum_over d m w = sum_over-from_zero d m w (λ k h. high k (omega (arith, h))) in
      let here : (if has w m then d m else pos 0) ≡ d i =
      subst (λ (k : ℕ). (if has w k then d k else pos 0) ≡ d i) e (ap (λ b. cond b (d i) (pos 0)) member) in
      omega (arith, ints, before, here)
  | inr other ↦
      let before : d i ≤ℤ sum_over d m w =
      sum_over-from_term d m w i (omega (arith, inside, other)) member (λ k h. high k (omega (arith, h))) in
      let here : pos 0 ≤ℤ (if has w m then d m else pos 0) = by (has w m) (high m (omega arith)) in
      omega (arith, ints, before, here)
]
  where
    by : (b : Bool) → (b ≡ true → pos 0 ≤ℤ d m) → pos 0 ≤ℤ (if b then d m else pos 0)
    by true h = h refl
    by false h = omega (arith, ints)

-- a place with a number below 0 that may be paired with i
pub record Partner (d : ℕ → ℤ) (m i : ℕ) (sets : List ℕ) : Type 0 where
  pub at : ℕ
  pub is_place : at < m
  pub below : d at <ℤ pos 0
  -- a set with i and without the partner has a sum above 0
  pub leaves : (q : ℕ) → In q sets → has q i ≡ true → has q at ≡ false → pos 0 <ℤ sum_over d m q
  -- a set with the partner and without i has a sum below 0
  pub enters : (q : ℕ) → In q sets → has q i ≡ false → has q at ≡ true → sum_over d m q <ℤ pos 0

-- in a nested family within a set of a sum of at most 0, each place with a number above 0 has a partner
pub partner : (d : ℕ → ℤ) (m i : ℕ) (sets : List ℕ) → ((a b : ℕ) → In a sets → In b sets → Nest a b)
    → (u : ℕ) → ((q : ℕ) → In q sets → Within q u) → has u i ≡ true → sum_over d m u ≤ℤ pos 0 → i < m → pos 0 <ℤ d i
    → Partner d m i sets
partner d m i sets nest u within u_i u_low inside high =
    let framed = frame d m i sets nest sets (λ q q_in. q_in) u u_i u_low (λ q q_in. inr (inl (within q q_in))) in
    let cleared =
    clear d m i sets nest framed.set framed.holds framed.low (λ q q_in taken. elim (framed.nested q q_in) [
      | inl apart ↦ inl apart
      | inr either ↦ elim either [
        | inl q_within ↦ inr q_within
        | inr set_within ↦ absurd (true≢false (sym (set_within i framed.holds) ∙ taken.0))
      ]
    ]) in
    elim (negative_or_none d m cleared.set) [
      | inl found ↦ record {
        at = found.0;
        is_place = found.1;
        below = found.3;
        leaves = λ q q_in q_i absent. elim (cases_ltℤ (pos 0) (sum_over d m q)) [
          | inl h ↦ h
          | inr q_low ↦
              absurd (true≢false (sym (framed.least q q_in q_i q_low found.0 (cleared.inside found.0 found.2))
              ∙ absent))
        ];
        enters = λ q q_in q_i member. elim (cases_ltℤ (sum_over d m q) (pos 0)) [
          | inl h ↦ h
          | inr q_high ↦ absurd (cleared.apart q q_in (q_i, q_high) found.0 member found.2)
        ];
      }
      | inr none ↦
          let most = sum_over-from_term d m cleared.set i inside cleared.holds none in
          let low = cleared.low in
          absurd (omega (arith, ints, most, low, high))
    ]
