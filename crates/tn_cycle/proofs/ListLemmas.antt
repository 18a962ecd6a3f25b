-- The list of the nodes that wait.
use Rattle.std.proofs.Common.{◌≡◌, ◌≢◌, ℕ, ◌+◌, ◌<◌, ◌≤◌, refl, sym, ap, ◌∙◌, subst, arith, inl, inr, List, length, set, ℤ, ◌+ℤ◌, Some, is_some, Bool, true, false, ◌&&◌}
use Rattle.std.proofs.lemmas.Bool.{and_parts, cases_eq, false≢true}
use Rattle.std.proofs.lemmas.List.{get_or-set_same, get_or-set_other}
use Rattle.tn_cycle.specs.declared.cell.Cell.{Cell}
use Rattle.tn_cycle.specs.Kept.{AreReady, AreWaiting, ComesFirst, IsNotAfter, cell_by, every, is_ready, label_by, node_in_list}

-- a list of the nodes that wait is one of those that wait by other flags, where these are the same
pub waiting_same : (nodes : ℕ) (waits now : ℕ → Bool) (list : List ℕ) (count : ℕ) → ((v : ℕ) → now v ≡ waits v)
    → AreWaiting nodes waits list count → AreWaiting nodes now list count
waiting_same nodes waits now list count same lists = record {
  each = λ i below. let own = lists.each i below in (own.0, same (node_in_list list i) ∙ own.1);
  all = λ v inside waiting. lists.all v inside (sym (same v) ∙ waiting);
  once = lists.once;
}

-- one node more, that doesn't wait
pub waiting_more : (v : ℕ) (waits : ℕ → Bool) (list : List ℕ) (count : ℕ) → AreWaiting v waits list count
    → waits v ≡ false → AreWaiting (v + 1) waits list count
waiting_more v waits list count lists shut = record {
  each = λ i below. let own = lists.each i below in (omega (arith, own.0), own.1);
  all = λ u inside waiting. elim (cases_eq u v) [
    | inl same ↦ absurd (false≢true (sym shut ∙ subst (λ (z : ℕ). waits z ≡ true) same waiting))
    | inr off ↦ lists.all u (omega (arith, inside, off)) waiting
  ];
  once = lists.once;
}

-- one node more waits, and comes to the end of the list
module _ (before nodes : ℕ) (waits now : ℕ → Bool) (list : List ℕ) (count v : ℕ)
    (lists : AreWaiting before waits list count)
    (still : (u : ℕ) → u < before → waits u ≡ true → (u < nodes) × (now u ≡ true) × (u ≢ v))
    (only : (u : ℕ) → u < nodes → now u ≡ true → u ≢ v → (u < before) × (waits u ≡ true))
    (inside : v < nodes) (waiting : now v ≡ true) (places : count < length list) where
  at_count : (i : ℕ) → i ≡ count → node_in_list (set list count v) i ≡ v
  at_count i same = ap (node_in_list (set list count v)) same ∙ get_or-set_same list count v 0 places

  at_earlier : (i : ℕ) → i ≢ count → node_in_list (set list count v) i ≡ node_in_list list i
  at_earlier i other = get_or-set_other list count i v 0 other

  had : (i : ℕ) → i < count + 1 → i ≢ count
      → (node_in_list list i < nodes) × (now (node_in_list list i) ≡ true) × (node_in_list list i ≢ v)
  had i below other = let own = lists.each i (omega (arith, below, other)) in still (node_in_list list i) own.0 own.1

  pub put_on : AreWaiting nodes now (set list count v) (count + 1)
  put_on = record {
    each = λ i below. elim (cases_eq i count) [
      | inl same ↦ let e : node_in_list (set list count v) i ≡ v = at_count i same in
          (omega (arith, e, inside), subst (λ (z : ℕ). now z ≡ true) (sym e) waiting)
      | inr other ↦
          let own = had i below other in
          let e : node_in_list (set list count v) i ≡ node_in_list list i = at_earlier i other in
          (omega (arith, e, own.0), subst (λ (z : ℕ). now z ≡ true) (sym e) own.1)
    ];
    all = λ u u_inside u_waits. elim (cases_eq u v) [
      | inl same ↦ (count, omega arith, at_count count refl ∙ sym same)
      | inr other ↦
          let was = only u u_inside u_waits other in
          let at = lists.all u was.0 was.1 in
          (at.0, omega (arith, at.1), at_earlier at.0 (λ e. omega (arith, e, at.1)) ∙ at.2)
    ];
    once = λ i k i_below k_below same. elim (cases_eq i count) [
      | inl i_last ↦ elim (cases_eq k count) [
        | inl k_last ↦ omega (arith, i_last, k_last)
        | inr k_other ↦
            absurd ((had k k_below k_other).2 (sym (at_earlier k k_other) ∙ sym same ∙ at_count i i_last))
      ]
      | inr i_other ↦ elim (cases_eq k count) [
        | inl k_last ↦
            absurd ((had i i_below i_other).2 (sym (at_earlier i i_other) ∙ same ∙ at_count k k_last))
        | inr k_other ↦
            lists.once i k (omega (arith, i_below, i_other)) (omega (arith, k_below, k_other))
            (sym (at_earlier i i_other) ∙ same ∙ at_earlier k k_other)
      ]
    ];
  }

-- the node at a place is taken out, and the last one comes there
module _ (nodes : ℕ) (waits now : ℕ → Bool) (list : List ℕ) (place rest : ℕ)
    (lists : AreWaiting nodes waits list (rest + 1)) (below : place < rest + 1) (places : rest + 1 ≤ length list)
    (closed : now (node_in_list list place) ≡ false) (others : (v : ℕ) → v ≢ node_in_list list place → now v ≡ waits v) where
  at_place : (i : ℕ) → i ≡ place → node_in_list (set list place (node_in_list list rest)) i ≡ node_in_list list rest
  at_place i same = ap (node_in_list (set list place (node_in_list list rest))) same
      ∙ get_or-set_same list place (node_in_list list rest) 0 (omega (arith, below, places))

  at_other : (i : ℕ) → i ≢ place → node_in_list (set list place (node_in_list list rest)) i ≡ node_in_list list i
  at_other i other = get_or-set_other list place i (node_in_list list rest) 0 other

  -- a node at another place waits still
  waits_still : (i : ℕ) → i < rest + 1 → i ≢ place → now (node_in_list list i) ≡ true
  waits_still i inside other = others (node_in_list list i) (λ e. other (lists.once i place inside below e))
      ∙ (lists.each i inside).1

  pub taken_out : AreWaiting nodes now (set list place (node_in_list list rest)) rest
  taken_out = record {
    each = λ i inside. elim (cases_eq i place) [
      | inl same ↦
          let e = at_place i same in
          let had = lists.each rest (omega arith) in
          let was : now (node_in_list list rest) ≡ true =
          waits_still rest (omega arith) (λ q. omega (arith, q, same, inside)) in
          (subst (λ (z : ℕ). z < nodes) (sym e) had.0, subst (λ (z : ℕ). now z ≡ true) (sym e) was)
      | inr other ↦
          let e = at_other i other in
          let had = lists.each i (omega (arith, inside)) in
          let was : now (node_in_list list i) ≡ true = waits_still i (omega (arith, inside)) other in
          (subst (λ (z : ℕ). z < nodes) (sym e) had.0, subst (λ (z : ℕ). now z ≡ true) (sym e) was)
    ];
    all = λ v inside waiting.
        let off : v ≢ node_in_list list place = λ e. false≢true (sym closed ∙ subst (λ (z : ℕ). now z ≡ true) e waiting) in
        let had = lists.all v inside (sym (others v off) ∙ waiting) in
        let other : had.0 ≢ place = λ e. off (sym had.2 ∙ ap (node_in_list list) e) in
        elim (cases_eq had.0 rest) [
          | inl last ↦ (
            place,
            omega (arith, below, other, last),
            at_place place refl ∙ ap (node_in_list list) (sym last) ∙ had.2,
          )
          | inr inner ↦ (had.0, omega (arith, had.1, inner), at_other had.0 other ∙ had.2)
        ];
    once = λ i k i_inside k_inside same. elim (cases_eq i place) [
      | inl i_here ↦ elim (cases_eq k place) [
        | inl k_here ↦ omega (arith, i_here, k_here)
        | inr k_other ↦
            let e : rest ≡ k =
            lists.once rest k (omega arith) (omega (arith, k_inside)) (sym (at_place i i_here) ∙ same
            ∙ at_other k k_other) in
            absurd (omega (arith, e, k_inside))
      ]
      | inr i_other ↦ elim (cases_eq k place) [
        | inl k_here ↦
            let e : i ≡ rest =
            lists.once i rest (omega (arith, i_inside)) (omega arith) (sym (at_other i i_other) ∙ same
            ∙ at_place k k_here) in
            absurd (omega (arith, e, i_inside))
        | inr k_other ↦
            lists.once i k (omega (arith, i_inside)) (omega (arith, k_inside)) (sym (at_other i i_other) ∙ same
            ∙ at_other k k_other)
      ]
    ];
  }

-- a node that waits and has a walk is ready
pub ready : (waits : Bool) (own : Cell) (w : ℤ) → waits ≡ true → own.cost ≡ Some w → is_ready waits own ≡ true
ready waits own w waiting is = ap (λ (s : Bool). s && is_some own.cost) waiting ∙ ap is_some is

pub waits_ready : (waits : Bool) (own : Cell) → is_ready waits own ≡ true → waits ≡ true
waits_ready waits own is = (and_parts waits (is_some own.cost) is).0

module _ (nodes : ℕ) (label : ℕ → ℤ) (cell : ℕ → Cell) (waits : ℕ
    → Bool) (list : List ℕ) (count : ℕ) (lists : AreReady nodes waits cell list count) where
  -- the listed node that comes first is the waiting one that does
  pub listed_first : (place : ℕ) (key : ℤ) (inner_nodes : ℕ)
      → ComesFirst count (label_by label list) (cell_by cell list) every place key inner_nodes
      → ComesFirst nodes label cell waits (node_in_list list place) key inner_nodes
  listed_first place key inner_nodes chosen =
      let own = lists.each place chosen.inside in
      record {
        inside = own.0;
        waiting = waits_ready (waits (node_in_list list place)) (cell (node_in_list list place)) own.1;
        cost = chosen.cost;
        cost_is = chosen.cost_is;
        key_is = chosen.key_is;
        inner_nodes_is = chosen.inner_nodes_is;
        first = λ v w inside waiting is.
            let at = lists.all v inside (ready (waits v) (cell v) w waiting is) in
            subst (λ (z : ℕ). IsNotAfter key inner_nodes (w +ℤ label z) (cell z).inner_nodes) at.2
            (chosen.first at.0 w at.1 refl (subst (λ (z : ℕ). (cell z).cost ≡ Some w) (sym at.2) is));
      }
