-- Walks: joining, cutting, and how long one need be.
use Rattle.std.proofs.Common.{◌≡◌, ◌≢◌, ℕ, zero, suc, ◌+◌, ◌*◌, ◌<◌, ◌≤◌, refl, sym, ap, ◌∙◌, subst, arith, inl, inr, ◌⊎◌, List, [], ◌∷◌, ◌++◌, length, ℤ, pos, ◌+ℤ◌, ◌≤ℤ◌, Option, Some, true, false, eqb}
use Rattle.std.specs.Prelude.{All, slice_get}
use Rattle.std.specs.List.{IsDistinct, list_any}
use Rattle.std.proofs.lemmas.Int.{ints}
use Rattle.std.proofs.lemmas.Bool.{cases_eq, ne_eqb, eqb-true, or_cases, false≢true}
use Rattle.std.proofs.lemmas.Option.{none-some, same_Some, slice_get_within, slice_get-get_or, get_or_from_slice_get}
use Rattle.std.proofs.lemmas.List.{length-append}
use Rattle.std.proofs.lemmas.List.Elements.{All-nil, All-cons, All-head, All-tail, All-append, All-weaker, recursion_from_All}
use Rattle.std.proofs.lemmas.Map.Steps.{length-le_from_distinct_below}
use Rattle.tn_base.specs.Arcs.{AreBetweenNodes, AreSmall, IsAtMost}
use Rattle.tn_base.specs.Options.{both}
use Rattle.tn_base.specs.Walks.{walk_cost, Avoids, AreDifferent}
use Rattle.tn_cycle.specs.Searched.{HasNoNegativeCycleOff}
use Rattle.tn_cycle.proofs.OrderLemmas.{Parts, parts, both-assoc}

-- a walk through v is a walk to v and one from v
pub walk_cost-through : (arc : ℕ → ℕ → Option ℤ) (u : ℕ) (xs : List ℕ) (v : ℕ) (ys : List ℕ) (w : ℕ)
    → walk_cost arc u (xs ++ v ∷ ys) w ≡ both (walk_cost arc u xs v) (walk_cost arc v ys w)
walk_cost-through arc u [] v ys w = refl
walk_cost-through arc u (x ∷ xs) v ys w =
    ap (λ (rest : Option ℤ). both (arc u x) rest) (walk_cost-through arc x xs v ys w)
    ∙ sym (both-assoc (arc u x) (walk_cost arc x xs v) (walk_cost arc v ys w))

-- the parts of a walk through v
pub walk_parts : (arc : ℕ → ℕ → Option ℤ) (u : ℕ) (vs xs : List ℕ) (v : ℕ) (ys : List ℕ) (w : ℕ) (cost : ℤ)
    → vs ≡ xs ++ v ∷ ys → walk_cost arc u vs w ≡ Some cost → Parts (walk_cost arc u xs v) (walk_cost arc v ys w) cost
walk_parts arc u vs xs v ys w cost split walk =
    parts _ _ cost (sym (walk_cost-through arc u xs v ys w) ∙ ap (λ (zs : List ℕ). walk_cost arc u zs w) (sym split)
    ∙ walk)

pub avoids-cons : (t x : ℕ) (xs : List ℕ) → x ≢ t → Avoids t xs → Avoids t (x ∷ xs)
avoids-cons t x xs = All-cons (λ v. v ≢ t) x xs

pub avoids-head : (t x : ℕ) (xs : List ℕ) → Avoids t (x ∷ xs) → x ≢ t
avoids-head t x xs = All-head (λ v. v ≢ t) x xs

pub avoids-tail : (t x : ℕ) (xs : List ℕ) → Avoids t (x ∷ xs) → Avoids t xs
avoids-tail t x xs = All-tail (λ v. v ≢ t) x xs

pub avoids-left : (t : ℕ) (xs ys : List ℕ) → Avoids t (xs ++ ys) → Avoids t xs
avoids-left t [] ys h = All-nil (λ v. v ≢ t)
avoids-left t (x ∷ xs) ys h =
    avoids-cons t x xs (avoids-head t x (xs ++ ys) h) (avoids-left t xs ys (avoids-tail t x (xs ++ ys) h))

pub avoids-right : (t : ℕ) (xs ys : List ℕ) → Avoids t (xs ++ ys) → Avoids t ys
avoids-right t [] ys h = h
avoids-right t (x ∷ xs) ys h = avoids-right t xs ys (avoids-tail t x (xs ++ ys) h)

pub avoids-append : (t : ℕ) (xs ys : List ℕ) → Avoids t xs → Avoids t ys → Avoids t (xs ++ ys)
avoids-append t = All-append (λ v. v ≢ t)

-- where t first stands in a list
pub record StandsIn (t : ℕ) (vs : List ℕ) : Type 0 where
  pub before : List ℕ
  pub after : List ℕ
  pub split : vs ≡ before ++ t ∷ after
  pub avoids : Avoids t before

pub found_or_not : (t : ℕ) (vs : List ℕ) → StandsIn t vs ⊎ Avoids t vs
found_or_not t [] = inr (All-nil (λ v. v ≢ t))
found_or_not t (x ∷ xs) = elim (cases_eq x t) [
  | inl same ↦
      inl (record { before = []; after = xs; split = ap (λ (v : ℕ). v ∷ xs) same; avoids = All-nil (λ v. v ≢ t) })
  | inr other ↦ elim (found_or_not t xs) [
    | inl found ↦ inl (record {
      before = x ∷ found.before;
      after = found.after;
      split = ap (λ (zs : List ℕ). x ∷ zs) found.split;
      avoids = avoids-cons t x found.before other found.avoids;
    })
    | inr avoids ↦ inr (avoids-cons t x xs other avoids)
  ]
]

-- the rest after t is shorter
pub found-shorter : (t : ℕ) (vs xs ys : List ℕ) → vs ≡ xs ++ t ∷ ys → length ys < length vs
found-shorter t vs xs ys split = omega (arith, ap length split, length-append xs (t ∷ ys))

-- no number stands twice
unfoldable pub AreApart : List ℕ → Type 0
AreApart [] = Unit {0}
AreApart (x ∷ xs) = Avoids x xs × AreApart xs

distinct_from_apart : (xs : List ℕ) → AreApart xs → IsDistinct eqb xs
unfolding AreApart IsDistinct
distinct_from_apart [] h = tt
distinct_from_apart (x ∷ xs) h = (
  recursion_from_All (λ y. eqb x y ≡ false) xs (All-weaker (λ y. y ≢ x) (λ y. eqb x y ≡ false)
      (λ y ne. ne_eqb x y (λ e. ne (sym e))) xs h.0),
  distinct_from_apart xs h.1,
)

below_from_all : (n : ℕ) (xs : List ℕ) → All (λ v. v < n) xs → (q : ℕ) → list_any (eqb q) xs ≡ true → q < n
below_from_all n [] all q found = absurd (false≢true found)
below_from_all n (x ∷ xs) all q found = elim (or_cases (eqb q x) (list_any (eqb q) xs) found) [
  | inl here ↦ let e : q ≡ x = eqb-true q x here in let inside : x < n = All-head (λ v. v < n) x xs all in
      omega (arith, e, inside)
  | inr later ↦ below_from_all n xs (All-tail (λ v. v < n) x xs all) q later
]

-- nodes below n, apart from one another and from t
pub few_apart : (n t : ℕ) (vs : List ℕ) → t < n → All (λ v. v < n) vs → Avoids t vs → AreApart vs → length vs < n
unfolding AreApart
few_apart n t vs inside all avoids apart =
    let whole : length (t ∷ vs) ≤ n =
    length-le_from_distinct_below (t ∷ vs) n (distinct_from_apart (t ∷ vs) (avoids, apart))
    (below_from_all n (t ∷ vs) (All-cons (λ v. v < n) t vs inside all)) in
    omega (arith, whole)

-- the nodes inside a walk are nodes
pub walk_inside : (n : ℕ) (arc : ℕ → ℕ → Option ℤ) → AreBetweenNodes n arc → (u : ℕ) (vs : List ℕ) (w : ℕ) (cost : ℤ)
    → walk_cost arc u vs w ≡ Some cost → All (λ v. v < n) vs
walk_inside n arc between u [] w cost walk = All-nil (λ v. v < n)
walk_inside n arc between u (v ∷ vs) w cost walk =
    let two = parts (arc u v) (walk_cost arc v vs w) cost walk in
    All-cons (λ v. v < n) v vs (between u v two.first two.first_is).1
    (walk_inside n arc between v vs w two.second two.second_is)

get_avoids : (x : ℕ) (xs : List ℕ) → Avoids x xs → (k v : ℕ) → slice_get xs k ≡ Some v → v ≢ x
get_avoids x xs avoids k v got =
    subst (λ (z : ℕ). z ≢ x) (get_or_from_slice_get xs k v v got) (avoids k v (slice_get_within xs k v got))

pub different_from_apart : (xs : List ℕ) → AreApart xs → AreDifferent xs
unfolding AreApart
different_from_apart [] h j k v p q = absurd (none-some v p)
different_from_apart (x ∷ xs) h zero zero v p q = refl
different_from_apart (x ∷ xs) h zero (suc k) v p q = absurd (get_avoids x xs h.0 k v q (sym (same_Some x v p)))
different_from_apart (x ∷ xs) h (suc j) zero v p q = absurd (get_avoids x xs h.0 j v p (sym (same_Some x v q)))
different_from_apart (x ∷ xs) h (suc j) (suc k) v p q = ap suc (different_from_apart xs h.1 j k v p q)

pub apart_from_different : (xs : List ℕ) → AreDifferent xs → AreApart xs
unfolding AreApart
apart_from_different [] different = tt
apart_from_different (x ∷ xs) different = (
  (λ k d below e. let same = different 0 (suc k) x refl (slice_get-get_or xs k d below ∙ ap (λ (z : ℕ). Some z) e) in
      absurd (omega (arith, same))),
  apart_from_different xs (λ j k v at_j at_k. let same = different (suc j) (suc k) v at_j at_k in omega (arith, same)),
)

-- a walk to the end with fewer nodes inside that costs no more
pub record IsShortened (arc : ℕ → ℕ → Option ℤ) (t v : ℕ) (us : List ℕ) (cost : ℤ) : Type 0 where
  pub nodes : List ℕ
  pub less : ℤ
  pub walk : walk_cost arc v nodes t ≡ Some less
  pub avoids : Avoids t nodes
  pub fewer : length nodes < length us
  pub no_more : less ≤ℤ cost

-- a walk that meets a node again is cut short there
pub cut : (arc : ℕ → ℕ → Option ℤ) (t : ℕ) → HasNoNegativeCycleOff arc t → (v : ℕ) (us : List ℕ) (cost : ℤ) → v ≢ t
    → Avoids t us
    → walk_cost arc v us t ≡ Some cost → StandsIn v us → IsShortened arc t v us cost
cut arc t none v us cost off avoids walk found =
    let two = walk_parts arc v us found.before v found.after t cost found.split walk in
    let all : Avoids t (found.before ++ v ∷ found.after) = subst (Avoids t) found.split avoids in
    let closed : pos 0 ≤ℤ two.first =
    none v found.before two.first off (avoids-left t found.before (v ∷ found.after) all) two.first_is in
    record {
      nodes = found.after;
      less = two.second;
      walk = two.second_is;
      avoids = avoids-tail t v found.after (avoids-right t found.before (v ∷ found.after) all);
      fewer = found-shorter v us found.before found.after found.split;
      no_more = omega (arith, ints, two.sum_is, closed);
    }

-- the nodes inside a walk are apart, or it can be shortened
pub apart_or_shortened : (arc : ℕ → ℕ → Option ℤ) (t : ℕ) → HasNoNegativeCycleOff arc t
    → (v : ℕ) (us : List ℕ) (cost : ℤ) → Avoids t us
    → walk_cost arc v us t ≡ Some cost → AreApart us ⊎ IsShortened arc t v us cost
unfolding AreApart
apart_or_shortened arc t none v [] cost avoids walk = inl tt
apart_or_shortened arc t none v (u ∷ us) cost avoids walk =
    let two = parts (arc v u) (walk_cost arc u us t) cost walk in
    let rest : Avoids t us = avoids-tail t u us avoids in
    elim (apart_or_shortened arc t none u us two.second rest two.second_is) [
      | inr short ↦ inr (longer two short)
      | inl apart ↦ elim (found_or_not u us) [
        | inr fresh ↦ inl (fresh, apart)
        | inl found ↦
            inr (longer two (cut arc t none u us two.second (avoids-head t u us avoids) rest two.second_is found))
      ]
    ]
  where
    longer : (two : Parts (arc v u) (walk_cost arc u us t) cost) → IsShortened arc t u us two.second
        → IsShortened arc t v (u ∷ us) cost
    longer two short = record {
      nodes = u ∷ short.nodes;
      less = two.first +ℤ short.less;
      walk = ap (λ (z : Option ℤ). both z (walk_cost arc u short.nodes t)) two.first_is
          ∙ ap (λ (z : Option ℤ). both (Some two.first) z) short.walk;
      avoids = avoids-cons t u short.nodes (avoids-head t u us avoids) short.avoids;
      fewer = omega (arith, short.fewer);
      no_more = omega (arith, ints, short.no_more, two.sum_is);
    }

-- the cost of a walk, by the number of its arcs
pub walk_small : (arc : ℕ → ℕ → Option ℤ) (m : ℕ) → AreSmall arc m → (u : ℕ) (vs : List ℕ) (w : ℕ) (cost : ℤ)
    → walk_cost arc u vs w ≡ Some cost
    → IsAtMost cost ((length vs + 1) * m)
walk_small arc m small u [] w cost walk =
    let one = small u w cost walk in
    record { low = omega (arith, ints, one.low); high = omega (arith, ints, one.high) }
walk_small arc m small u (v ∷ vs) w cost walk =
    let two = parts (arc u v) (walk_cost arc v vs w) cost walk in
    let one = small u v two.first two.first_is in
    let rest = walk_small arc m small v vs w two.second two.second_is in
    record {
      low = omega (arith, ints, one.low, rest.low, two.sum_is);
      high = omega (arith, ints, one.high, rest.high, two.sum_is);
    }

-- two graphs that agree off t have the same walks there
pub walk_cost-same_off : (arc other : ℕ → ℕ → Option ℤ) (t : ℕ) → ((a b : ℕ) → a ≢ t → b ≢ t → arc a b ≡ other a b)
    → (u : ℕ) (vs : List ℕ) (w : ℕ)
    → u ≢ t → Avoids t vs → w ≢ t → walk_cost arc u vs w ≡ walk_cost other u vs w
walk_cost-same_off arc other t same u [] w p avoids q = same u w p q
walk_cost-same_off arc other t same u (v ∷ vs) w p avoids q =
    let here = avoids-head t v vs avoids in
    ap (λ (z : Option ℤ). both z (walk_cost arc v vs w)) (same u v p here)
    ∙ ap (λ (z : Option ℤ). both (other u v) z) (walk_cost-same_off arc other t same v vs w here
    (avoids-tail t v vs avoids) q)
