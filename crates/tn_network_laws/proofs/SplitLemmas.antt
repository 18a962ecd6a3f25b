-- Two numbers for one node: one for the walks that leave it, and one for those that enter it.
--
-- The node t of a graph is split: its arcs leave t, the arcs to it enter a new node n, and one arc leads from n to t.
-- No closed walk of the split graph is negative where that arc costs as much as any cycle through t may gain.
use Rattle.std.proofs.Common.{◌≡◌, ◌≢◌, ℕ, suc, ◌<◌, Bool, false, ◌==◌, if◌then◌else◌, refl, sym, ap, ◌∙◌, subst, arith, ◌⊎◌, inl, inr, ℤ, pos, neg_ℤ, ◌+ℤ◌, List, [], ◌∷◌, ◌++◌, Option, Some, None}
use Rattle.std.specs.Prelude.{◌≤ℤ◌}
use Rattle.std.proofs.lemmas.Bool.{cases_eq, eq-eqb, eqb-true, false_from_ne_true}
use Rattle.std.proofs.lemmas.Option.{same_Some}
use Rattle.std.proofs.lemmas.Int.{ints}
use Rattle.std.proofs.lemmas.List.Elements.{All-head, All-tail, All-cons, All-push}
use Rattle.tn_base.specs.Arcs.{AreBetweenNodes}
use Rattle.tn_base.specs.Walks.{walk_cost, Avoids, CyclesCostAtLeast, KeepsArcs, KeepsArcsEntering}
use Rattle.tn_base.proofs.WalkLemmas.{walk_parts, walk-joined}
use Rattle.tn_firm_laws.proofs.LabelLemmas.{labels_or_cycle}

-- the graph with node t split into t and n
abbrev split : ℕ → ℕ → ℤ → (ℕ → ℕ → Option ℤ) → ℕ → ℕ → Option ℤ
split n t d arc u v = if u == n then (if v == t then Some d else None)
    else (if v == n then arc u t else (if v == t then None else arc u v))

differ : (u v : ℕ) → u ≢ v → (u == v) ≡ false
differ u v apart = false_from_ne_true (u == v) (λ e. apart (eqb-true u v e))

-- what an arc of the split graph is
split_gap : (n t : ℕ) (d : ℤ) (arc : ℕ → ℕ → Option ℤ) → split n t d arc n t ≡ Some d
split_gap n t d arc =
    ap (λ (b : Bool). if b then (if t == t then Some d else None)
    else (if t == n then arc n t else (if t == t then None else arc n t))) (eq-eqb n n refl)
    ∙ ap (λ (b : Bool). if b then Some d else None) (eq-eqb t t refl)

split_from_n : (n t v : ℕ) (d : ℤ) (arc : ℕ → ℕ → Option ℤ) → v ≢ t → split n t d arc n v ≡ None
split_from_n n t v d arc apart =
    ap (λ (b : Bool). if b then (if v == t then Some d else None)
    else (if v == n then arc n t else (if v == t then None else arc n v))) (eq-eqb n n refl)
    ∙ ap (λ (b : Bool). if b then Some d else None) (differ v t apart)

split_not_n : (n t u v : ℕ) (d : ℤ) (arc : ℕ → ℕ → Option ℤ) → u ≢ n
    → split n t d arc u v ≡ (if v == n then arc u t else (if v == t then None else arc u v))
split_not_n n t u v d arc apart =
    ap (λ (b : Bool). if b then (if v == t then Some d else None)
    else (if v == n then arc u t else (if v == t then None else arc u v))) (differ u n apart)

split_to_n : (n t u : ℕ) (d : ℤ) (arc : ℕ → ℕ → Option ℤ) → u ≢ n → split n t d arc u n ≡ arc u t
split_to_n n t u d arc apart =
    split_not_n n t u n d arc apart ∙ ap (λ (b : Bool). if b then arc u t
    else (if n == t then None else arc u n)) (eq-eqb n n refl)

split_to_t : (n t u : ℕ) (d : ℤ) (arc : ℕ → ℕ → Option ℤ) → u ≢ n → t ≢ n → split n t d arc u t ≡ None
split_to_t n t u d arc apart other =
    split_not_n n t u t d arc apart ∙ ap (λ (b : Bool). if b then arc u t
    else (if t == t then None else arc u t)) (differ t n other)
    ∙ ap (λ (b : Bool). if b then None else arc u t) (eq-eqb t t refl)

split_old : (n t u v : ℕ) (d : ℤ) (arc : ℕ → ℕ → Option ℤ) → u ≢ n → v ≢ n → v ≢ t → split n t d arc u v ≡ arc u v
split_old n t u v d arc apart not_n not_t =
    split_not_n n t u v d arc apart ∙ ap (λ (b : Bool). if b then arc u t
    else (if v == t then None else arc u v)) (differ v n not_n)
    ∙ ap (λ (b : Bool). if b then None else arc u v) (differ v t not_t)

-- ---- closed walks of the split graph

-- how far a walk has come from t, where what it has cost so far is at least a
pub data Reached (n t : ℕ) (d : ℤ) (arc : ℕ → ℕ → Option ℤ) (u : ℕ) (a : ℤ) : Type 0 where
  at_t : u ≡ t → pos 0 ≤ℤ a → Reached n t d arc u a
  at_n : u ≡ n → neg_ℤ d ≤ℤ a → Reached n t d arc u a
  on_way : u ≢ t → u ≢ n → (us : List ℕ) (cost : ℤ) → Avoids t us → walk_cost arc t us u ≡ Some cost → cost ≤ℤ a
      → Reached n t d arc u a

-- the facts about the graph that is split
record IsSplit (n t : ℕ) (d : ℤ) (arc : ℕ → ℕ → Option ℤ) : Type 0 where
  nodes : AreBetweenNodes n arc
  inside : t < n
  least : CyclesCostAtLeast arc t (neg_ℤ d)
  numbers : ℕ → ℤ
  keeps : (u v : ℕ) (c : ℤ) → u ≢ t → v ≢ t → arc u v ≡ Some c → numbers v ≤ℤ (numbers u +ℤ c)

reach_next : (n t : ℕ) (d : ℤ) (arc : ℕ → ℕ → Option ℤ) → IsSplit n t d arc → (u v : ℕ) (a c : ℤ)
    → Reached n t d arc u a
    → split n t d arc u v ≡ Some c → Reached n t d arc v (a +ℤ c)
reach_next n t d arc graph u v a c (at_n here low) is = elim (cases_eq v t) [
  | inl e ↦
      let gap : c ≡ d =
      same_Some c d (sym is ∙ ap (split n t d arc u) e ∙ ap (λ (x : ℕ). split n t d arc x t) here
      ∙ split_gap n t d arc) in
      at_t e (omega (arith, ints, low, gap))
  | inr other ↦ absurd (let none = ap (λ (x : ℕ). split n t d arc x v) here ∙ split_from_n n t v d arc other in
      cc (none, is))
]
reach_next n t d arc graph u v a c (at_t here low) is = leave (cases_eq v n)
  where
    apart : u ≢ n
    apart = λ e. let inside = graph.inside in absurd (omega (arith, inside, here, e))

    leave : (v ≡ n) ⊎ (v ≢ n) → Reached n t d arc v (a +ℤ c)
    leave (inl e) =
        let loop : arc t t ≡ Some c = ap (λ (x : ℕ). arc x t) (sym here) ∙ sym (split_to_n n t u d arc apart)
        ∙ ap (split n t d arc u) (sym e) ∙ is in
        let closed = graph.least [] c (λ k z h. absurd (omega (arith, h))) loop in
        at_n e (omega (arith, ints, low, closed))
    leave (inr not_n) = elim (cases_eq v t) [
      | inl e ↦ absurd (let none = ap (split n t d arc u) e ∙ split_to_t n t u d arc apart (λ q. let inside =
          graph.inside in absurd (omega (arith, inside, q))) in cc (none, is))
      | inr not_t ↦ on_way not_t not_n [] c (λ k z h. absurd (omega (arith, h)))
          (ap (λ (x : ℕ). arc x v) (sym here) ∙ sym (split_old n t u v d arc apart not_n not_t) ∙ is)
          (omega (arith, ints, low))
    ]
reach_next n t d arc graph u v a c (on_way not_t not_n us cost avoids walk low) is = go_on (cases_eq v n)
  where
    go_on : (v ≡ n) ⊎ (v ≢ n) → Reached n t d arc v (a +ℤ c)
    go_on (inl e) =
        let into : arc u t ≡ Some c = sym (split_to_n n t u d arc not_n) ∙ ap (split n t d arc u) (sym e) ∙ is in
        let closed =
        graph.least (us ++ u ∷ []) (cost +ℤ c) (All-push (λ v. v ≢ t) us u avoids not_t)
        (walk-joined arc t us u [] t cost c walk into) in
        at_n e (omega (arith, ints, low, closed))
    go_on (inr v_not_n) = elim (cases_eq v t) [
      | inl e ↦ absurd (let none = ap (split n t d arc u) e ∙ split_to_t n t u d arc not_n (λ q. let inside =
          graph.inside in absurd (omega (arith, inside, q))) in cc (none, is))
      | inr v_not_t ↦ on_way v_not_t v_not_n (us ++ u ∷ []) (cost +ℤ c) (All-push (λ v. v ≢ t) us u avoids not_t)
          (walk-joined arc t us u [] v cost c walk (sym (split_old n t u v d arc not_n v_not_n v_not_t) ∙ is))
          (omega (arith, ints, low))
    ]

reach_walk : (n t : ℕ) (d : ℤ) (arc : ℕ → ℕ → Option ℤ) → IsSplit n t d arc → (u : ℕ) (vs : List ℕ) (w : ℕ) (a c : ℤ)
    → Reached n t d arc u a
    → walk_cost (split n t d arc) u vs w ≡ Some c → Reached n t d arc w (a +ℤ c)
reach_walk n t d arc graph u [] w a c from is = reach_next n t d arc graph u w a c from is
reach_walk n t d arc graph u (v ∷ vs) w a c from is =
    let parts = walk_parts (split n t d arc) u v vs w c is in
    subst (Reached n t d arc w) (regrouped a parts.first parts.second c parts.sum_is)
    (reach_walk n t d arc graph v vs w (a +ℤ parts.first) parts.second
    (reach_next n t d arc graph u v a parts.first from parts.first_is) parts.second_is)
  where
    regrouped : (a f s c : ℤ) → c ≡ f +ℤ s → (a +ℤ f) +ℤ s ≡ a +ℤ c
    regrouped a f s c e = omega (arith, ints, e)

-- a closed walk from t to t costs nothing or more
closed_at_t : (n t : ℕ) (d : ℤ) (arc : ℕ → ℕ → Option ℤ) → IsSplit n t d arc → (vs : List ℕ) (c : ℤ)
    → walk_cost (split n t d arc) t vs t ≡ Some c → pos 0 ≤ℤ c
closed_at_t n t d arc graph vs c is =
    at (reach_walk n t d arc graph t vs t (pos 0) c (at_t refl (omega (arith, ints))) is)
  where
    at : Reached n t d arc t (pos 0 +ℤ c) → pos 0 ≤ℤ c
    at (at_t here low) = omega (arith, ints, low)
    at (at_n here low) = absurd (let inside = graph.inside in omega (arith, inside, here))
    at (on_way not_t not_n us cost avoids walk low) = absurd (not_t refl)

-- a walk passes through t or doesn't
record Passes (arc : ℕ → ℕ → Option ℤ) (t u w : ℕ) (c : ℤ) : Type 0 where
  before : List ℕ
  after : List ℕ
  to : ℤ
  on : ℤ
  to_is : walk_cost arc u before t ≡ Some to
  on_is : walk_cost arc t after w ≡ Some on
  sum : c ≡ to +ℤ on

passes_or_avoids : (arc : ℕ → ℕ → Option ℤ) (t u : ℕ) (vs : List ℕ) (w : ℕ) (c : ℤ) → walk_cost arc u vs w ≡ Some c
    → Passes arc t u w c ⊎ Avoids t vs
passes_or_avoids arc t u [] w c is = inr (λ k z h. absurd (omega (arith, h)))
passes_or_avoids arc t u (v ∷ vs) w c is =
    let parts = walk_parts arc u v vs w c is in
    at parts.first parts.second parts.first_is parts.second_is parts.sum_is (cases_eq v t)
    (passes_or_avoids arc t v vs w parts.second parts.second_is)
  where
    at : (a b : ℤ) → arc u v ≡ Some a → walk_cost arc v vs w ≡ Some b → c ≡ a +ℤ b → (v ≡ t) ⊎ (v ≢ t)
        → Passes arc t v w b ⊎ Avoids t vs → Passes arc t u w c ⊎ Avoids t (v ∷ vs)
    at a b first rest sum (inl e) _ = inl (record {
      before = [];
      after = vs;
      to = a;
      on = b;
      to_is = ap (arc u) (sym e) ∙ first;
      on_is = ap (λ (x : ℕ). walk_cost arc x vs w) (sym e) ∙ rest;
      sum = sum;
    })
    at a b first rest sum (inr other) (inl later) = inl (record {
      before = v ∷ later.before;
      after = later.after;
      to = a +ℤ later.to;
      on = later.on;
      to_is = walk-joined arc u [] v later.before t a later.to first later.to_is;
      on_is = later.on_is;
      sum = let e = later.sum in omega (arith, ints, sum, e);
    })
    at a b first rest sum (inr other) (inr avoids) = inr (All-cons (λ x. x ≢ t) v vs other avoids)

-- from n a walk goes to t at once
from_n : (n t : ℕ) (d : ℤ) (arc : ℕ → ℕ → Option ℤ) (vs : List ℕ) (w : ℕ) (c : ℤ) → w ≢ t → Avoids t vs
    → walk_cost (split n t d arc) n vs w ≡ Some c → ⊥
from_n n t d arc [] w c other avoids is = let none = split_from_n n t w d arc other in cc (none, is)
from_n n t d arc (v ∷ vs) w c other avoids is =
    let parts = walk_parts (split n t d arc) n v vs w c is in
    let none = split_from_n n t v d arc (All-head (λ x. x ≢ t) v vs avoids) in
    let first = parts.first_is in
    cc (none, first)

-- and a walk that avoids t and n costs at least the difference of its ends' numbers
off_t : (n t : ℕ) (d : ℤ) (arc : ℕ → ℕ → Option ℤ) (graph : IsSplit n t d arc) (u : ℕ) (vs : List ℕ) (w : ℕ) (c : ℤ)
    → u ≢ t → u ≢ n → w ≢ t → w ≢ n → Avoids t vs
    → walk_cost (split n t d arc) u vs w ≡ Some c → graph.numbers w ≤ℤ (graph.numbers u +ℤ c)
off_t n t d arc graph u [] w c u_t u_n w_t w_n avoids is =
    graph.keeps u w c u_t w_t (sym (split_old n t u w d arc u_n w_n w_t) ∙ is)
off_t n t d arc graph u (v ∷ vs) w c u_t u_n w_t w_n avoids is =
    let parts = walk_parts (split n t d arc) u v vs w c is in
    let v_t = All-head (λ x. x ≢ t) v vs avoids in
    let rest = All-tail (λ x. x ≢ t) v vs avoids in
    let sum = parts.sum_is in
    elim (cases_eq v n) [
      | inl e ↦ absurd (from_n n t d arc vs w parts.second w_t rest
          (ap (λ (x : ℕ). walk_cost (split n t d arc) x vs w) (sym e) ∙ parts.second_is))
      | inr v_n ↦
          let first = graph.keeps u v parts.first u_t v_t (sym (split_old n t u v d arc u_n v_n v_t) ∙ parts.first_is)
          in
          let later = off_t n t d arc graph v vs w parts.second v_t v_n w_t w_n rest parts.second_is in
          omega (arith, ints, first, later, sum)
    ]

-- no closed walk is negative
closed : (n t : ℕ) (d : ℤ) (arc : ℕ → ℕ → Option ℤ) → IsSplit n t d arc → (u : ℕ) (vs : List ℕ) (c : ℤ)
    → walk_cost (split n t d arc) u vs u ≡ Some c → pos 0 ≤ℤ c
closed n t d arc graph u vs c is = elim (cases_eq u t) [
  | inl e ↦ closed_at_t n t d arc graph vs c (ap (λ (x : ℕ). walk_cost (split n t d arc) x vs x) (sym e) ∙ is)
  | inr other ↦ elim (passes_or_avoids (split n t d arc) t u vs u c is) [
    | inl passes ↦
        let turned = closed_at_t n t d arc graph (passes.after ++ u ∷ passes.before) (passes.on +ℤ passes.to)
        (walk-joined (split n t d arc) t passes.after u passes.before t passes.on passes.to passes.on_is passes.to_is)
        in
        let sum = passes.sum in
        omega (arith, ints, turned, sum)
    | inr avoids ↦ elim (cases_eq u n) [
      | inl e ↦ absurd (from_n n t d arc vs u c other avoids (ap (λ (x : ℕ). walk_cost (split n t d arc) x vs u) (sym e)
          ∙ is))
      | inr not_n ↦ let kept = off_t n t d arc graph u vs u c other not_n other not_n avoids is in
          omega (arith, ints, kept)
    ]
  ]
]

-- ---- two numbers for t

-- numbers of the nodes, where t has one more for what enters it: they keep every arc, and the two of t differ by at
-- most d
pub record TwoNumbers (t : ℕ) (d : ℤ) (arc : ℕ → ℕ → Option ℤ) : Type 0 where
  pub number : ℕ → ℤ
  pub entering : ℤ
  pub keeps : KeepsArcsEntering arc t entering number
  pub gap : number t ≤ℤ (entering +ℤ d)

-- where what enters t has no lower number than what leaves it, one number for it keeps every arc
pub one_number : (arc : ℕ → ℕ → Option ℤ) (t : ℕ) (entering : ℤ) (number : ℕ → ℤ)
    → KeepsArcsEntering arc t entering number → number t ≤ℤ entering → KeepsArcs arc number
one_number arc t entering number keeps gap u v c is = elim (cases_eq v t) [
  | inl e ↦
      let enters = keeps.enters u c (ap (arc u) (sym e) ∙ is) in
      let here = ap number e in
      omega (arith, ints, enters, gap, here)
  | inr other ↦ keeps.others u v c other is
]

-- where some numbers keep the arcs that don't touch t, and no cycle through t gains more than d
pub two_numbers : (n t : ℕ) (d : ℤ) (arc : ℕ → ℕ → Option ℤ) → AreBetweenNodes n arc → t < n → (numbers : ℕ → ℤ)
    → ((u v : ℕ) (c : ℤ) → u ≢ t → v ≢ t → arc u v ≡ Some c → numbers v ≤ℤ (numbers u +ℤ c))
    → CyclesCostAtLeast arc t (neg_ℤ d) → TwoNumbers t d arc
two_numbers n t d arc nodes inside numbers keeps least = elim (labels_or_cycle (suc n) (split n t d arc) split_nodes) [
  | inl found ↦ record {
    number = found.0;
    entering = found.0 n;
    keeps = record {
      others = λ u v c other is. let ends = nodes u v c is in
          found.1 u v c (split_old n t u v d arc (below u ends.0) (below v ends.1) other ∙ is);
      enters = λ u c is. let ends = nodes u t c is in found.1 u n c (split_to_n n t u d arc (below u ends.0) ∙ is);
    };
    gap = found.1 n t d (split_gap n t d arc);
  }
  | inr cycle ↦ absurd (let none = closed n t d arc graph cycle.node cycle.inner cycle.cost cycle.walk in let negative =
      cycle.negative in omega (arith, ints, none, negative))
]
  where
    graph : IsSplit n t d arc
    graph = record { nodes = nodes; inside = inside; least = least; numbers = numbers; keeps = keeps }

    below : (u : ℕ) → u < n → u ≢ n
    below u h = omega (arith, h)

    split_nodes : AreBetweenNodes (suc n) (split n t d arc)
    split_nodes u v c is = elim (cases_eq u n) [
      | inl e ↦ elim (cases_eq v t) [
        | inl f ↦ (omega (arith, e), omega (arith, f, inside))
        | inr other ↦ absurd (let none = ap (λ (x : ℕ). split n t d arc x v) e ∙ split_from_n n t v d arc other in
            cc (none, is))
      ]
      | inr u_n ↦ elim (cases_eq v n) [
        | inl f ↦
            let ends = nodes u t c (sym (split_to_n n t u d arc u_n) ∙ ap (split n t d arc u) (sym f) ∙ is) in
            let h = ends.0 in
            (omega (arith, h), omega (arith, f))
        | inr v_n ↦ elim (cases_eq v t) [
          | inl f ↦ absurd (let none = ap (split n t d arc u) f ∙ split_to_t n t u d arc u_n (below t inside) in
              cc (none, is))
          | inr v_t ↦
              let ends = nodes u v c (sym (split_old n t u v d arc u_n v_n v_t) ∙ is) in
              let h = ends.0 in
              let g = ends.1 in
              (omega (arith, h), omega (arith, g))
        ]
      ]
    ]
