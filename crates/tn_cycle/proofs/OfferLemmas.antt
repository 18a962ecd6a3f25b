-- Cells by the predecessors of a node: the walks of one arc, and going on over a settled node.
use Rattle.std.proofs.Common.{◌≡◌, ◌≢◌, ℕ, ◌+◌, ◌<◌, refl, sym, ap, ◌∙◌, subst, arith, inl, inr, ◌⊎◌, List, length, set, ℤ, Option, Some, None, is_some, Bool, true, false, ◌&&◌, not}
use Rattle.std.proofs.lemmas.Bool.{and_parts, cases_eq, false≢true}
use Rattle.std.proofs.lemmas.List.{get_or-set_same, get_or-set_other}
use Rattle.std.proofs.lemmas.Option.{none-some}
use Rattle.tn_base.specs.Arcs.{ListsPredecessors}
use Rattle.tn_base.specs.Options.{both}
use Rattle.tn_cycle.specs.declared.cell.Cell.{Cell}
use Rattle.tn_cycle.specs.Cells.{cell_at, no_cell}
use Rattle.tn_cycle.specs.Kept.{AfterOffer, AreReady, IsOffered, is_ready}
use Rattle.tn_cycle.proofs.KeyLemmas.{has_by_own}
use Rattle.tn_cycle.proofs.ListLemmas.{put_on, ready, waiting_same}

-- the cell of the arc to the end
abbrev pub begun_cell : ℕ → Option ℤ → Cell
begun_cell end cost = record { cost = cost; inner_nodes = 0; next = end }

-- cells of the arcs from the first predecessors to the end, and cells of no walk
module _ (end : ℕ) (arc : ℕ → ℕ → Option ℤ) (at : ℕ → ℕ) where
  abbrev pub AreBegun : List Cell → ℕ → Type 0
  AreBegun row k = (i : ℕ) → i < k → cell_at row (at i) ≡ begun_cell end (arc (at i) end)

  abbrev pub AreEmpty : List Cell → ℕ → Type 0
  AreEmpty row nodes = (v : ℕ) → v < nodes
      → (cell_at row v ≡ begun_cell end None) ⊎ (cell_at row v ≡ begun_cell end (arc v end))

  module _ (row : List Cell) (k : ℕ) (begun : AreBegun row k) where
    here : at k < length row
        → cell_at (set row (at k) (begun_cell end (arc (at k) end))) (at k) ≡ begun_cell end (arc (at k) end)
    here places = get_or-set_same row (at k) (begun_cell end (arc (at k) end)) no_cell places

    there : (v : ℕ) → v ≢ at k → cell_at (set row (at k) (begun_cell end (arc (at k) end))) v ≡ cell_at row v
    there v other = get_or-set_other row (at k) v (begun_cell end (arc (at k) end)) no_cell other

    pub begun_next : at k < length row → AreBegun (set row (at k) (begun_cell end (arc (at k) end))) (k + 1)
    begun_next places i below = elim (cases_eq (at i) (at k)) [
      | inl same ↦
          subst (λ (z : ℕ). cell_at (set row (at k) (begun_cell end (arc (at k) end))) z ≡ begun_cell end (arc z end))
          (sym same) (here places)
      | inr other ↦
          let off : i ≢ k = λ e. other (ap at e) in
          there (at i) other ∙ begun i (omega (arith, below, off))
    ]

    pub empty_next : (nodes : ℕ) → at k < length row → AreEmpty row nodes
        → AreEmpty (set row (at k) (begun_cell end (arc (at k) end))) nodes
    empty_next nodes places empty v inside = elim (cases_eq v (at k)) [
      | inl same ↦ inr (subst (λ (z : ℕ). cell_at (set row (at k) (begun_cell end (arc (at k) end))) z
          ≡ begun_cell end (arc z end)) (sym same) (here places))
      | inr other ↦ elim (empty v inside) [
        | inl none ↦ inl (there v other ∙ none)
        | inr own ↦ inr (there v other ∙ own)
      ]
    ]

    -- all cells are those of their arcs then
    pub begun_all : (nodes : ℕ) → ListsPredecessors nodes arc end k at → AreEmpty row nodes → (v : ℕ) → v < nodes
        → cell_at row v ≡ begun_cell end (arc v end)
    begun_all nodes lists empty v inside = by (arc v end) refl
      where
        by : (o : Option ℤ) → arc v end ≡ o → cell_at row v ≡ begun_cell end (arc v end)
        by (Some cost) e =
            let listed = lists.all v cost e in
            subst (λ (z : ℕ). cell_at row z ≡ begun_cell end (arc z end)) listed.2 (begun listed.0 listed.1)
        by None e = elim (empty v inside) [ inl none ↦ none ∙ ap (begun_cell end) (sym e) | inr own ↦ own ]

-- a cell that nothing is offered
pub offered_none : (own : Cell) (first : Option ℤ) (beyond : Cell) (u : ℕ) → first ≡ None
    → IsOffered own first beyond u own
offered_none own first beyond u none = record {
  step = inl refl;
  by_own = λ x is. has_by_own own x is;
  by_offer = λ x is. absurd (none-some x (sym (ap (λ (o : Option ℤ). both o beyond.cost) none) ∙ is));
}

-- a node goes on over u by the cost at hand, which is that of its arc where it waits or is the end, or else is none
pub after_some : (arc : ℕ → ℕ → Option ℤ) (end u : ℕ) (beyond : Cell) (waits : Bool) (v : ℕ) (own new : Cell)
    (first : Option ℤ)
    → ((waits ≡ true) ⊎ (v ≡ end) → first ≡ arc v u) → (waits ≡ false → v ≢ end → first ≡ None)
    → is_some first ≡ true → IsOffered own first beyond u new → AfterOffer arc end u beyond waits v own new
after_some arc end u beyond waits v own new first going staying some offers = (
  λ which. subst (λ (o : Option ℤ). IsOffered own o beyond u new) (going which) offers,
  λ shut off. absurd (false≢true (sym (ap is_some (staying shut off)) ∙ some)),
)

pub after_none : (arc : ℕ → ℕ → Option ℤ) (end u : ℕ) (beyond : Cell) (waits : Bool) (v : ℕ) (own : Cell)
    (first : Option ℤ)
    → ((waits ≡ true) ⊎ (v ≡ end) → first ≡ arc v u) → is_some first ≡ false
    → AfterOffer arc end u beyond waits v own own
after_none arc end u beyond waits v own first going none = (
  λ which. offered_none own (arc v u) beyond u (sym (going which) ∙ by first none),
  λ _ _. refl,
)
  where
    by : (o : Option ℤ) → is_some o ≡ false → o ≡ None
    by None e = refl
    by (Some x) e = absurd (false≢true (sym e))

-- what the first predecessors of u were offered, and no other node
module _ (arc : ℕ → ℕ → Option ℤ) (end u : ℕ) (beyond : Cell) (waits : ℕ → Bool) (at : ℕ → ℕ) (old : ℕ → Cell) where
  abbrev pub AreAfter : (ℕ → Cell) → ℕ → Type 0
  AreAfter row k = (i : ℕ) → i < k → AfterOffer arc end u beyond (waits (at i)) (at i) (old (at i)) (row (at i))

  abbrev pub ArePassed : (ℕ → Cell) → ℕ → Type 0
  ArePassed row k = (v : ℕ) → (row v ≡ old v) ⊎ ((i : ℕ) × (i < k) × (at i ≡ v))

  module _ (row : ℕ → Cell) (k : ℕ) (after : AreAfter row k) (passed : ArePassed row k) where
    -- the next predecessor was offered nothing yet
    pub not_yet : ((i : ℕ) → i < k → at i ≢ at k) → row (at k) ≡ old (at k)
    not_yet once = elim (passed (at k)) [
      | inl same ↦ same
      | inr earlier ↦ absurd (once earlier.0 earlier.1 earlier.2)
    ]

    -- one predecessor more
    module _ (new : ℕ → Cell) (once : (i : ℕ) → i < k → at i ≢ at k)
        (own : AfterOffer arc end u beyond (waits (at k)) (at k) (row (at k)) (new (at k)))
        (others : (v : ℕ) → v ≢ at k → new v ≡ row v) where
      was : row (at k) ≡ old (at k)
      was = not_yet once

      pub after_next : AreAfter new (k + 1)
      after_next i below = elim (cases_eq i k) [
        | inl same ↦
            subst (λ (z : ℕ). AfterOffer arc end u beyond (waits (at z)) (at z) (old (at z)) (new (at z))) (sym same)
            (subst (λ (c : Cell). AfterOffer arc end u beyond (waits (at k)) (at k) c (new (at k))) was own)
        | inr other ↦
            let earlier : i < k = omega (arith, below, other) in
            subst (AfterOffer arc end u beyond (waits (at i)) (at i) (old (at i)))
            (sym (others (at i) (once i earlier))) (after i earlier)
      ]

      pub passed_next : ArePassed new (k + 1)
      passed_next v = elim (cases_eq v (at k)) [
        | inl same ↦ inr (k, omega arith, sym same)
        | inr other ↦ elim (passed v) [
          | inl kept ↦ inl (others v other ∙ kept)
          | inr earlier ↦ inr (earlier.0, omega (arith, earlier.1), earlier.2)
        ]
      ]

    -- where all are gone over, nothing is offered to any other node
    pub after_all : (nodes : ℕ) → ListsPredecessors nodes arc u k at → (v : ℕ)
        → AfterOffer arc end u beyond (waits v) v (old v) (row v)
    after_all nodes lists v = by (arc v u) refl
      where
        gone_over : (i : ℕ) → i < k → at i ≡ v → AfterOffer arc end u beyond (waits v) v (old v) (row v)
        gone_over i below is =
            subst (λ (z : ℕ). AfterOffer arc end u beyond (waits z) z (old z) (row z)) is (after i below)

        by : (o : Option ℤ) → arc v u ≡ o → AfterOffer arc end u beyond (waits v) v (old v) (row v)
        by (Some cost) e = let listed = lists.all v cost e in gone_over listed.0 listed.1 listed.2
        by None e = elim (passed v) [
          | inl same ↦
              subst (AfterOffer arc end u beyond (waits v) v (old v)) (sym same)
              (λ _. offered_none (old v) (arc v u) beyond u e, λ _ _. refl)
          | inr earlier ↦ gone_over earlier.0 earlier.1 earlier.2
        ]

-- what was ready stays so
ready_still : (waits : Bool) (own new : Cell) (first : Option ℤ) (beyond : Cell) (u : ℕ)
    → IsOffered own first beyond u new → is_ready waits own ≡ true → is_ready waits new ≡ true
ready_still waits own new first beyond u offers is = by own.cost refl
  where
    two : (waits ≡ true) × (is_some own.cost ≡ true)
    two = and_parts waits (is_some own.cost) is

    by : (o : Option ℤ) → own.cost ≡ o → is_ready waits new ≡ true
    by (Some x) e = let has = offers.by_own x e in ready waits new has.least two.0 has.is
    by None e = absurd (false≢true (sym (ap is_some e) ∙ two.1))

-- the list after a cell was offered something
module _ (nodes v u count : ℕ) (waits : Bool) (flag : ℕ → Bool) (first : Option ℤ) (beyond new : Cell)
    (row : List Cell) (list : List ℕ) (inside : v < nodes) (places : v < length row) (flag_is : flag v ≡ waits)
    (offers : IsOffered (cell_at row v) first beyond u new)
    (lists : AreReady nodes flag (cell_at row) list count) where
  new_here : cell_at (set row v new) v ≡ new
  new_here = get_or-set_same row v new no_cell places

  ready_there : (w : ℕ) → w ≢ v → is_ready (flag w) (cell_at (set row v new) w) ≡ is_ready (flag w) (cell_at row w)
  ready_there w other = ap (is_ready (flag w)) (get_or-set_other row v w new no_cell other)

  ready_here : is_ready (flag v) (cell_at (set row v new) v) ≡ is_ready waits new
  ready_here = ap (λ (c : Cell). is_ready (flag v) c) new_here ∙ ap (λ (s : Bool). is_ready s new) flag_is

  ready_before : is_ready (flag v) (cell_at row v) ≡ is_ready waits (cell_at row v)
  ready_before = ap (λ (s : Bool). is_ready s (cell_at row v)) flag_is

  -- its first walk
  pub list_reached : count < length list → (is_ready waits new && not (is_ready waits (cell_at row v))) ≡ true
      → AreReady nodes flag (cell_at (set row v new)) (set list count v) (count + 1)
  list_reached room reached =
      let two = and_parts (is_ready waits new) (not (is_ready waits (cell_at row v))) reached in
      put_on nodes nodes (λ w. is_ready (flag w) (cell_at row w)) (λ w. is_ready (flag w) (cell_at (set row v new) w))
      list count v lists
      (λ w within waiting. let off = apart w waiting two.1 in (within, ready_there w off ∙ waiting, off))
      (λ w within waiting other. (within, sym (ready_there w other) ∙ waiting))
      inside (ready_here ∙ two.0) room
    where
      apart : (w : ℕ) → is_ready (flag w) (cell_at row w) ≡ true → not (is_ready waits (cell_at row v)) ≡ true → w ≢ v
      apart w waiting unready same =
          let was : is_ready waits (cell_at row v) ≡ true =
          sym ready_before ∙ subst (λ (z : ℕ). is_ready (flag z) (cell_at row z) ≡ true) same waiting in
          false≢true (ap not (sym was) ∙ unready)

  -- none, or it had one
  pub list_kept : (is_ready waits new && not (is_ready waits (cell_at row v))) ≡ false
      → AreReady nodes flag (cell_at (set row v new)) list count
  list_kept unreached =
      waiting_same nodes (λ w. is_ready (flag w) (cell_at row w)) (λ w. is_ready (flag w) (cell_at (set row v new) w))
      list count same lists
    where
      by : (a b : Bool) → (a && not b) ≡ false → (b ≡ true → a ≡ true) → a ≡ b
      by true true e still = refl
      by true false e still = e
      by false true e still = still refl
      by false false e still = refl

      same : (w : ℕ) → is_ready (flag w) (cell_at (set row v new) w) ≡ is_ready (flag w) (cell_at row w)
      same w = elim (cases_eq w v) [
        | inl here ↦
            subst (λ (z : ℕ). is_ready (flag z) (cell_at (set row v new) z) ≡ is_ready (flag z) (cell_at row z))
            (sym here)
            (ready_here ∙ by (is_ready waits new) (is_ready waits (cell_at row v)) unreached
            (ready_still waits (cell_at row v) new first beyond u offers) ∙ sym ready_before)
        | inr other ↦ ready_there w other
      ]
