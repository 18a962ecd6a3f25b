-- Heaps of nodes, and what an exchange of two places keeps of them.
use Rattle.std.proofs.Common.{◌≡◌, ◌≢◌, ℕ, zero, suc, ◌+◌, ◌-◌, ◌*◌, ◌/◌, ◌%◌, ◌<◌, ◌≤◌, sym, ap, ◌∙◌, subst, arith, inl, inr, List, length, set}
use Rattle.std.proofs.Math.Nat.{mod-add-div, mod-lt}
use Rattle.std.proofs.lemmas.Bool.{cases_eq}
use Rattle.std.proofs.lemmas.List.{get_or-set_same, get_or-set_other, length-set}
use Rattle.tn_cycle.specs.Kept.{node_in_list}
use Rattle.tn_cycle.specs.Queue.{IsAbove, IsFirstBelow, IsHeap, IsHeapAbove, IsHeapBelow}

-- the place above another one
pub is_above : (at : ℕ) → 1 ≤ at → IsAbove ((at - 1) / 2) at
is_above at some =
    let parts : (at - 1) % 2 + 2 * ((at - 1) / 2) ≡ at - 1 = mod-add-div (at - 1) 2 in
    let less : (at - 1) % 2 < 2 = mod-lt (at - 1) (omega arith) in
    elim (cases_eq ((at - 1) % 2) 0) [
      | inl even ↦ inl (omega (arith, parts, even, some))
      | inr odd ↦ inr (omega (arith, parts, odd, less, some))
    ]

pub above_less : (p c : ℕ) → IsAbove p c → p < c
above_less p c (inl e) = omega (arith, e)
above_less p c (inr e) = omega (arith, e)

pub above_one : (p q c : ℕ) → IsAbove p c → IsAbove q c → p ≡ q
above_one p q c (inl e) (inl f) = omega (arith, e, f)
above_one p q c (inl e) (inr f) = omega (arith, e, f)
above_one p q c (inr e) (inl f) = omega (arith, e, f)
above_one p q c (inr e) (inr f) = omega (arith, e, f)

above_some : (p c : ℕ) → IsAbove p c → 1 ≤ c
above_some p c above = omega (arith, above_less p c above)

-- two places of a list, exchanged
abbrev pub exchanged : List ℕ → ℕ → ℕ → List ℕ
exchanged list i k = set (set list i (node_in_list list k)) k (node_in_list list i)

module _ (list : List ℕ) (i k : ℕ) (apart : i ≢ k) (i_in : i < length list) (k_in : k < length list) where
  pub at_second : (j : ℕ) → j ≡ k → node_in_list (exchanged list i k) j ≡ node_in_list list i
  at_second j same = ap (node_in_list (exchanged list i k)) same
      ∙ get_or-set_same (set list i (node_in_list list k)) k (node_in_list list i) 0
      (omega (arith, k_in, length-set list i (node_in_list list k)))

  pub at_first : (j : ℕ) → j ≡ i → node_in_list (exchanged list i k) j ≡ node_in_list list k
  at_first j same = ap (node_in_list (exchanged list i k)) same
      ∙ get_or-set_other (set list i (node_in_list list k)) k i (node_in_list list i) 0 apart
      ∙ get_or-set_same list i (node_in_list list k) 0 i_in

  pub at_others : (j : ℕ) → j ≢ i → j ≢ k → node_in_list (exchanged list i k) j ≡ node_in_list list j
  at_others j off_first off_second =
      get_or-set_other (set list i (node_in_list list k)) k j (node_in_list list i) 0 off_second
      ∙ get_or-set_other list i j (node_in_list list k) 0 off_first

module _ (before : ℕ → ℕ → Type 0) (trans : (a b c : ℕ) → before a b → before b c → before a c) (list : List ℕ)
    (count : ℕ) where
  -- the first node of a heap comes before all others
  pub front_first : ((a : ℕ) → before a a) → IsHeap before list count → (i : ℕ) → i < count
      → before (node_in_list list 0) (node_in_list list i)
  front_first same heap i inside = by (i + 1) i (omega arith) inside
    where
      by : (n k : ℕ) → k < n → k < count → before (node_in_list list 0) (node_in_list list k)
      by zero k less within = absurd (omega (arith, less))
      by (suc n) k less within = elim (cases_eq k 0) [
        | inl front ↦ subst (λ (z : ℕ). before (node_in_list list 0) (node_in_list list z)) (sym front) (same (node_in_list list 0))
        | inr other ↦
            let above : IsAbove ((k - 1) / 2) k = is_above k (omega (arith, other)) in
            let earlier : (k - 1) / 2 < k = above_less ((k - 1) / 2) k above in
            trans (node_in_list list 0) (node_in_list list ((k - 1) / 2)) (node_in_list list k)
            (by n ((k - 1) / 2) (omega (arith, earlier, less)) (omega (arith, earlier, within)))
            (heap ((k - 1) / 2) k within above)
      ]

  -- a node that has come to the front
  pub rise_front : IsHeapBelow before list count 0 → IsHeap before list count
  rise_front below p c inside above = below.others p c inside (λ e. omega (arith, e, above_some p c above)) above

  -- one that doesn't come before the one above it
  pub rise_ends : (above at : ℕ) → IsAbove above at → before (node_in_list list above) (node_in_list list at)
      → IsHeapBelow before list count at → IsHeap before list count
  rise_ends top at is ordered below p c inside above = elim (cases_eq c at) [
    | inl here ↦
        let same : p ≡ top = above_one p top at (subst (IsAbove p) here above) is in
        subst (λ (z : ℕ). before (node_in_list list z) (node_in_list list c)) (sym same)
        (subst (λ (z : ℕ). before (node_in_list list top) (node_in_list list z)) (sym here) ordered)
    | inr other ↦ below.others p c inside other above
  ]

  -- one that stands above none
  pub sink_end : (at : ℕ) → count ≤ 2 * at + 1 → IsHeapAbove before list count at → IsHeap before list count
  sink_end at last below p c inside above = elim (cases_eq p at) [
    | inl here ↦ absurd (none above here)
    | inr other ↦ below.others p c inside other above
  ]
    where
      none : IsAbove p c → p ≡ at → ⊥
      none (inl e) here = omega (arith, e, here, last, inside)
      none (inr e) here = omega (arith, e, here, last, inside)

  -- one that doesn't come after those below it
  pub sink_ends : (at below : ℕ) → IsFirstBelow before list count at below
      → before (node_in_list list at) (node_in_list list below)
      → IsHeapAbove before list count at → IsHeap before list count
  sink_ends at below first ordered heap p c inside above = elim (cases_eq p at) [
    | inl here ↦
        subst (λ (z : ℕ). before (node_in_list list z) (node_in_list list c)) (sym here)
        (trans (node_in_list list at) (node_in_list list below) (node_in_list list c) ordered
        (first.first c inside (subst (λ (z : ℕ). IsAbove z c) here above)))
    | inr other ↦ heap.others p c inside other above
  ]

  module _ (room : count ≤ length list) where
    -- the node at a place changes places with the one above it, which comes after it
    pub rise_next : (top at : ℕ) → IsAbove top at → at < count → before (node_in_list list at) (node_in_list list top)
        → IsHeapBelow before list count at → IsHeapBelow before (exchanged list top at) count top
    rise_next top at is at_in ordered heap = record { others = others; beyond = beyond }
      where
        less : top < at
        less = above_less top at is

        apart : top ≢ at
        apart e = omega (arith, e, less)

        here : (j : ℕ) → j ≡ at → node_in_list (exchanged list top at) j ≡ node_in_list list top
        here = at_second list top at apart (omega (arith, less, at_in, room)) (omega (arith, at_in, room))

        there : (j : ℕ) → j ≡ top → node_in_list (exchanged list top at) j ≡ node_in_list list at
        there = at_first list top at apart (omega (arith, less, at_in, room)) (omega (arith, at_in, room))

        else : (j : ℕ) → j ≢ top → j ≢ at → node_in_list (exchanged list top at) j ≡ node_in_list list j
        else = at_others list top at apart (omega (arith, less, at_in, room)) (omega (arith, at_in, room))

        two : (p c u v : ℕ) → node_in_list (exchanged list top at) p ≡ u → node_in_list (exchanged list top at) c ≡ v
            → before u v → before (node_in_list (exchanged list top at) p) (node_in_list (exchanged list top at) c)
        two p c u v e f known = subst (λ (z : ℕ). before z (node_in_list (exchanged list top at) c)) (sym e)
            (subst (before u) (sym f) known)

        others : (p c : ℕ) → c < count → c ≢ top → IsAbove p c
            → before (node_in_list (exchanged list top at) p) (node_in_list (exchanged list top at) c)
        others p c inside off above = elim (cases_eq c at) [
          | inl c_here ↦
              let p_top : p ≡ top = above_one p top at (subst (IsAbove p) c_here above) is in
              two p c (node_in_list list at) (node_in_list list top) (there p p_top) (here c c_here) ordered
          | inr c_other ↦ elim (cases_eq p top) [
            | inl p_top ↦
                two p c (node_in_list list at) (node_in_list list c) (there p p_top) (else c off c_other)
                (trans (node_in_list list at) (node_in_list list top) (node_in_list list c) ordered
                (heap.others top c inside c_other (subst (λ (z : ℕ). IsAbove z c) p_top above)))
            | inr p_off ↦ elim (cases_eq p at) [
              | inl p_here ↦
                  two p c (node_in_list list top) (node_in_list list c) (here p p_here) (else c off c_other)
                  (heap.beyond top c inside is (subst (λ (z : ℕ). IsAbove z c) p_here above))
              | inr p_other ↦
                  two p c (node_in_list list p) (node_in_list list c) (else p p_off p_other) (else c off c_other)
                  (heap.others p c inside c_other above)
            ]
          ]
        ]

        beyond : (p c : ℕ) → c < count → IsAbove p top → IsAbove top c
            → before (node_in_list (exchanged list top at) p) (node_in_list (exchanged list top at) c)
        beyond p c inside p_above c_below =
            let p_less : p < top = above_less p top p_above in
            let c_more : top < c = above_less top c c_below in
            let p_is : node_in_list (exchanged list top at) p ≡ node_in_list list p =
            else p (λ e. omega (arith, e, p_less)) (λ e. omega (arith, e, p_less, less)) in
            let p_top : before (node_in_list list p) (node_in_list list top) =
            heap.others p top (omega (arith, less, at_in)) apart p_above in
            elim (cases_eq c at) [
              | inl c_here ↦ two p c (node_in_list list p) (node_in_list list top) p_is (here c c_here) p_top
              | inr c_other ↦
                  two p c (node_in_list list p) (node_in_list list c) p_is (else c (λ e. omega (arith, e, c_more)) c_other)
                  (trans (node_in_list list p) (node_in_list list top) (node_in_list list c) p_top
                  (heap.others top c inside c_other c_below))
            ]

    -- the node at a place changes places with the first one below it, which comes before it
    pub sink_next : (at below : ℕ) → IsFirstBelow before list count at below
        → before (node_in_list list below) (node_in_list list at)
        → IsHeapAbove before list count at → IsHeapAbove before (exchanged list at below) count below
    sink_next at below first ordered heap = record { others = others; beyond = beyond }
      where
        less : at < below
        less = above_less at below first.is

        apart : at ≢ below
        apart e = omega (arith, e, less)

        here : (j : ℕ) → j ≡ below → node_in_list (exchanged list at below) j ≡ node_in_list list at
        here = at_second list at below apart (omega (arith, less, first.inside, room))
            (omega (arith, first.inside, room))

        there : (j : ℕ) → j ≡ at → node_in_list (exchanged list at below) j ≡ node_in_list list below
        there = at_first list at below apart (omega (arith, less, first.inside, room))
            (omega (arith, first.inside, room))

        else : (j : ℕ) → j ≢ at → j ≢ below → node_in_list (exchanged list at below) j ≡ node_in_list list j
        else = at_others list at below apart (omega (arith, less, first.inside, room))
            (omega (arith, first.inside, room))

        two : (p c u v : ℕ) → node_in_list (exchanged list at below) p ≡ u → node_in_list (exchanged list at below) c ≡ v
            → before u v → before (node_in_list (exchanged list at below) p) (node_in_list (exchanged list at below) c)
        two p c u v e f known = subst (λ (z : ℕ). before z (node_in_list (exchanged list at below) c)) (sym e)
            (subst (before u) (sym f) known)

        others : (p c : ℕ) → c < count → p ≢ below → IsAbove p c
            → before (node_in_list (exchanged list at below) p) (node_in_list (exchanged list at below) c)
        others p c inside off above = elim (cases_eq p at) [
          | inl p_here ↦
              let under : IsAbove at c = subst (λ (z : ℕ). IsAbove z c) p_here above in
              elim (cases_eq c below) [
                | inl c_below ↦
                    two p c (node_in_list list below) (node_in_list list at) (there p p_here) (here c c_below) ordered
                | inr c_other ↦
                    let more : at < c = above_less at c under in
                    two p c (node_in_list list below) (node_in_list list c) (there p p_here)
                    (else c (λ e. omega (arith, e, more)) c_other) (first.first c inside under)
              ]
          | inr p_other ↦ elim (cases_eq c at) [
            | inl c_here ↦
                two p c (node_in_list list p) (node_in_list list below) (else p p_other off) (there c c_here)
                (heap.beyond p below first.inside (subst (IsAbove p) c_here above) first.is)
            | inr c_off ↦
                let c_other : c ≢ below =
                λ e. p_other (above_one p at below (subst (IsAbove p) e above) first.is) in
                two p c (node_in_list list p) (node_in_list list c) (else p p_other off) (else c c_off c_other)
                (heap.others p c inside p_other above)
          ]
        ]

        beyond : (p c : ℕ) → c < count → IsAbove p below → IsAbove below c
            → before (node_in_list (exchanged list at below) p) (node_in_list (exchanged list at below) c)
        beyond p c inside p_above c_below =
            let p_here : p ≡ at = above_one p at below p_above first.is in
            let more : below < c = above_less below c c_below in
            two p c (node_in_list list below) (node_in_list list c) (there p p_here)
            (else c (λ e. omega (arith, e, more, less)) (λ e. omega (arith, e, more)))
            (heap.others below c inside (λ e. omega (arith, e, less)) c_below)

  -- a node that comes to the end
  pub push_heap : (v : ℕ) → IsHeap before list count → IsHeapBelow before (set list count v) (count + 1) count
  push_heap v heap = record {
    others = λ p c inside off above.
        let less : p < c = above_less p c above in
        let c_in : c < count = omega (arith, inside, off) in
        subst (λ (z : ℕ). before z (node_in_list (set list count v) c))
        (sym (get_or-set_other list count p v 0 (λ e. omega (arith, e, less, c_in))))
        (subst (before (node_in_list list p)) (sym (get_or-set_other list count c v 0 off)) (heap p c c_in above));
    beyond = λ p c inside _ under. absurd (omega (arith, inside, above_less count c under));
  }

  -- the front is taken, and the last node comes there
  pub take_heap : (rest : ℕ) → count ≡ rest + 1 → IsHeap before list count
      → IsHeapAbove before (set list 0 (node_in_list list rest)) rest 0
  take_heap rest counted heap = record {
    others = λ p c inside off above.
        let less : p < c = above_less p c above in
        subst (λ (z : ℕ). before z (node_in_list (set list 0 (node_in_list list rest)) c))
        (sym (get_or-set_other list 0 p (node_in_list list rest) 0 off))
        (subst (before (node_in_list list p))
        (sym (get_or-set_other list 0 c (node_in_list list rest) 0 (λ e. omega (arith, e, less))))
        (heap p c (omega (arith, inside, counted)) above));
    beyond = λ p c inside above _. absurd (omega (arith, above_less p 0 above));
  }

-- another order, by which one node comes earlier than it did and all others stay
module _ (before after : ℕ → ℕ → Type 0) (v : ℕ) (list : List ℕ) (count : ℕ)
    (same : (u w : ℕ) → u ≢ v → w ≢ v → before u w → after u w) where
  -- a node that isn't listed
  pub other_heap : ((i : ℕ) → i < count → node_in_list list i ≢ v) → IsHeap before list count → IsHeap after list count
  other_heap absent heap p c inside above =
      let less : p < c = above_less p c above in
      same (node_in_list list p) (node_in_list list c) (absent p (omega (arith, less, inside))) (absent c inside)
      (heap p c inside above)

  -- a listed one may have to rise
  pub lower_heap : (trans : (a b c : ℕ) → before a b → before b c → before a c)
      → (forward : (w : ℕ) → w ≢ v → before v w → after v w) → (at : ℕ) → node_in_list list at ≡ v
      → ((i : ℕ) → i < count → node_in_list list i ≡ v → i ≡ at) → IsHeap before list count
      → at < count → IsHeapBelow after list count at
  lower_heap trans forward at at_is once heap at_in = record {
    others = λ p c inside off above.
        let less : p < c = above_less p c above in
        let c_off : node_in_list list c ≢ v = λ e. off (once c inside e) in
        elim (cases_eq p at) [
          | inl p_here ↦
              let p_is : node_in_list list p ≡ v = ap (node_in_list list) p_here ∙ at_is in
              subst (λ (z : ℕ). after z (node_in_list list c)) (sym p_is)
              (forward (node_in_list list c) c_off
              (subst (λ (z : ℕ). before z (node_in_list list c)) p_is (heap p c inside above)))
          | inr p_other ↦
              same (node_in_list list p) (node_in_list list c) (λ e. p_other (once p (omega (arith, less, inside)) e)) c_off
              (heap p c inside above)
        ];
    beyond = λ p c inside above under.
        let less : p < at = above_less p at above in
        let more : at < c = above_less at c under in
        same (node_in_list list p) (node_in_list list c)
        (λ e. let q : p ≡ at = once p (omega (arith, less, at_in)) e in omega (arith, q, less))
        (λ e. let q : c ≡ at = once c inside e in omega (arith, q, more))
        (trans (node_in_list list p) (node_in_list list at) (node_in_list list c) (heap p at at_in above) (heap at c inside under));
  }
