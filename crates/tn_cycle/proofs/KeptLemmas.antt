-- The search over kept labels: how it begins, and what one settled node more does.
use Rattle.std.proofs.Common.{◌≡◌, ◌≢◌, ℕ, zero, suc, ◌+◌, ◌<◌, ◌≤◌, refl, sym, ap, ◌∙◌, subst, arith, inl, inr, ◌⊎◌, List, ◌∷◌, ℤ, ◌+ℤ◌, ◌≤ℤ◌, Option, Some, Bool, true, false}
use Rattle.std.specs.Prelude.{All}
use Rattle.std.proofs.lemmas.Int.{ints}
use Rattle.std.proofs.lemmas.Bool.{cases_eq, cases_Bool, false≢true}
use Rattle.std.proofs.lemmas.Option.{none-some}
use Rattle.std.proofs.lemmas.List.Elements.{All-nil, All-cons, All-head, All-tail, All-weaker}
use Rattle.tn_base.specs.Arcs.{AreBetweenNodes}
use Rattle.tn_base.specs.Options.{both}
use Rattle.tn_base.specs.Walks.{walk_cost}
use Rattle.tn_cycle.specs.declared.cell.Cell.{Cell}
use Rattle.tn_cycle.specs.Cells.{trail}
use Rattle.tn_cycle.specs.Kept.{AfterOffer, ComesFirst, GoesOver, HasBy, IsNotAfter, IsUnderWay, KeepsArcsOff, LeadsOff}
use Rattle.tn_cycle.proofs.OrderLemmas.{parts}
use Rattle.tn_cycle.proofs.KeyLemmas.{has_by-more, has_by_own, not_after_itself, not_after-trans, same_cost}

-- the trail of a cell stays where the cells along it do
pub trail_same : (cell new : ℕ → Cell) (k v : ℕ) → new v ≡ cell v → All (λ x. new x ≡ cell x) (trail cell k v)
    → trail new k v ≡ trail cell k v
trail_same cell new zero v here all = refl
trail_same cell new (suc k) v here all =
    let next : (new v).next ≡ (cell v).next = ap (λ (own : Cell). own.next) here in
    ap (λ (u : ℕ). u ∷ trail new k u) next
    ∙ ap (λ (us : List ℕ). (cell v).next ∷ us) (trail_same cell new k (cell v).next
    (All-head (λ x. new x ≡ cell x) (cell v).next (trail cell k (cell v).next) all)
    (All-tail (λ x. new x ≡ cell x) (cell v).next (trail cell k (cell v).next) all))

-- the cells of the arcs to the end
pub begun : (nodes : ℕ) (arc : ℕ → ℕ → Option ℤ) (end : ℕ) (label : ℕ → ℤ) (cell : ℕ → Cell) (waits : ℕ → Bool)
    → AreBetweenNodes nodes arc → waits end ≡ false
    → ((v u : ℕ) (cost : ℤ) → v ≢ end → u ≢ end → arc v u ≡ Some cost → waits v ≡ true)
    → ((v u : ℕ) (cost last : ℤ) → u ≢ end → arc v u ≡ Some cost → arc u end ≡ Some last → waits u ≡ true)
    → ((v : ℕ) → v < nodes → cell v ≡ record { cost = arc v end; inner_nodes = 0; next = end })
    → IsUnderWay nodes arc end label cell waits 0
begun nodes arc end label cell waits between shut begins passes made = record {
  shut = shut;
  first = λ v cost inside is. record {
    least = cost;
    is = cost_is v inside ∙ is;
    before = (omega (arith, ints), λ back. omega (arith, inner_nodes_is v inside));
  };
  over = λ v u cost w off u_shut is u_is.
      absurd (false≢true (sym u_shut ∙ passes v u cost w off is (sym (cost_is u (between v u cost is).1) ∙ u_is)));
  order = λ v u w x inside node off leads v_shut u_waits v_is u_is. absurd
      (false≢true (sym v_shut ∙ begins v leads.0 leads.1 off leads.2 leads.3));
  reached = λ v u cost off v_shut is. elim (cases_eq u end) [
    | inl same ↦ (cost, cost_is v (between v u cost is).0 ∙ subst (λ (z : ℕ). arc v z ≡ Some cost) same is)
    | inr other ↦ absurd (false≢true (sym v_shut ∙ begins v u cost off other is))
  ];
  leads = λ v inside. subst (λ (k : ℕ). walk_cost arc v (trail cell k v) end ≡ (cell v).cost) (sym (inner_nodes_is v inside))
      (sym (cost_is v inside));
  passes = λ v inside. subst (λ (k : ℕ). All (λ x. (x < nodes) × (x ≢ end)
      × (waits x ≡ false)) (trail cell k v)) (sym (inner_nodes_is v inside)) (All-nil (λ x. (x < nodes) × (x ≢ end)
      × (waits x ≡ false)));
  none = λ v inside _. inner_nodes_is v inside;
  few = λ v inside. omega (arith, inner_nodes_is v inside);
}
  where
    cost_is : (v : ℕ) → v < nodes → (cell v).cost ≡ arc v end
    cost_is v inside = ap (λ (own : Cell). own.cost) (made v inside)

    inner_nodes_is : (v : ℕ) → v < nodes → (cell v).inner_nodes ≡ 0
    inner_nodes_is v inside = ap (λ (own : Cell). own.inner_nodes) (made v inside)

module _ (nodes : ℕ) (arc : ℕ → ℕ → Option ℤ) (end : ℕ) (label : ℕ
    → ℤ) (between : AreBetweenNodes nodes arc) (keeps : KeepsArcsOff arc end label)
    (cell new : ℕ → Cell) (waits now : ℕ → Bool) (settled u : ℕ) (key : ℤ) (inner_nodes : ℕ)
    (known : IsUnderWay nodes arc end label cell waits settled) (chosen : ComesFirst nodes label cell waits u key inner_nodes)
    (closed : now u ≡ false) (others : (v : ℕ) → v ≢ u → now v ≡ waits v)
    (after : (v : ℕ) → v < nodes → AfterOffer arc end u (cell u) (now v) v (cell v) (new v)) where
  off_end : u ≢ end
  off_end e = false≢true (sym known.shut ∙ subst (λ (z : ℕ). waits z ≡ true) e chosen.waiting)

  -- what is settled stays so
  still_shut : (v : ℕ) → waits v ≡ false → now v ≡ false
  still_shut v shut = elim (cases_eq v u) [
    | inl same ↦ subst (λ (z : ℕ). now z ≡ false) (sym same) closed
    | inr other ↦ others v other ∙ shut
  ]

  waited : (v : ℕ) → now v ≡ true → waits v ≡ true
  waited v waiting = elim (cases_eq v u) [
    | inl same ↦ absurd (false≢true (sym closed ∙ subst (λ (z : ℕ). now z ≡ true) same waiting))
    | inr other ↦ sym (others v other) ∙ waiting
  ]

  unchanged : (v : ℕ) → v < nodes → now v ≡ false → v ≢ end → new v ≡ cell v
  unchanged v inside shut off = (after v inside).1 shut off

  own_same : new u ≡ cell u
  own_same = unchanged u chosen.inside closed off_end

  -- a cell is only bettered
  bettered : (v : ℕ) → v < nodes → (x : ℤ) → (cell v).cost ≡ Some x → HasBy (new v) x (cell v).inner_nodes
  bettered v inside x is = elim (cases_Bool (now v)) [
    | inl waiting ↦ ((after v inside).0 (inl waiting)).by_own x is
    | inr shut ↦ elim (cases_eq v end) [
      | inl same ↦ ((after v inside).0 (inr same)).by_own x is
      | inr off ↦ subst (λ (own : Cell). HasBy own x (cell v).inner_nodes) (sym (unchanged v inside shut off))
          (has_by_own (cell v) x is)
    ]
  ]

  has_still : (v : ℕ) → v < nodes → (cost : ℤ) (inner : ℕ) → HasBy (cell v) cost inner → HasBy (new v) cost inner
  has_still v inside cost inner has =
      has_by-more (new v) has.least (cell v).inner_nodes cost inner (bettered v inside has.least has.is) has.before

  -- a cell stays, or goes on over u
  stepped : (v : ℕ) → v < nodes → (new v ≡ cell v) ⊎ GoesOver (arc v u) (cell u) u (new v)
  stepped v inside = elim (cases_Bool (now v)) [
    | inl waiting ↦ ((after v inside).0 (inl waiting)).step
    | inr shut ↦ elim (cases_eq v end) [
      | inl same ↦ ((after v inside).0 (inr same)).step
      | inr off ↦ inl (unchanged v inside shut off)
    ]
  ]

  -- no settled node is after u
  before_own : (v : ℕ) (w : ℤ) → v < nodes → v ≢ end → LeadsOff arc end v → now v ≡ false → (cell v).cost ≡ Some w
      → IsNotAfter (w +ℤ label v) (cell v).inner_nodes (chosen.cost +ℤ label u) (cell u).inner_nodes
  before_own v w inside off leads shut is = elim (cases_eq v u) [
    | inl same ↦
        let e : w ≡ chosen.cost =
        same_cost (cell u).cost w chosen.cost (subst (λ (z : ℕ). (cell z).cost ≡ Some w) same is) chosen.cost_is in
        subst (λ (z : ℕ). IsNotAfter (w +ℤ label z) (cell z).inner_nodes (chosen.cost +ℤ label u) (cell u).inner_nodes) (sym same)
        (subst (λ (z : ℤ). IsNotAfter (w +ℤ label u) (cell u).inner_nodes (z +ℤ label u) (cell u).inner_nodes) e
        (not_after_itself (w +ℤ label u) (cell u).inner_nodes))
    | inr other ↦
        known.order v u w chosen.cost inside chosen.inside off leads (sym (others v other) ∙ shut) chosen.waiting is
        chosen.cost_is
  ]

  -- a settled node isn't after going on over u
  over_own : (v : ℕ) (cost : ℤ) → arc v u ≡ Some cost → HasBy (new v) (cost +ℤ chosen.cost) ((cell u).inner_nodes + 1)
  over_own v cost is = elim (cases_Bool (now v)) [
    | inl waiting ↦ ((after v inside).0 (inl waiting)).by_offer (cost +ℤ chosen.cost) sum
    | inr shut ↦ elim (cases_eq v end) [
      | inl same ↦ ((after v inside).0 (inr same)).by_offer (cost +ℤ chosen.cost) sum
      | inr off ↦ subst (λ (own : Cell). HasBy own (cost +ℤ chosen.cost) ((cell u).inner_nodes + 1))
          (sym (unchanged v inside shut off)) (settled_by shut off)
    ]
  ]
    where
      inside : v < nodes
      inside = (between v u cost is).0

      sum : both (arc v u) (cell u).cost ≡ Some (cost +ℤ chosen.cost)
      sum = ap (λ (z : Option ℤ). both z (cell u).cost) is ∙ ap (λ (z : Option ℤ). both (Some cost) z) chosen.cost_is

      has_cost : now v ≡ false → v ≢ end → (w : ℤ) × ((cell v).cost ≡ Some w)
      has_cost shut off = elim (cases_eq v u) [
        | inl same ↦ (chosen.cost, subst (λ (z : ℕ). (cell z).cost ≡ Some chosen.cost) (sym same) chosen.cost_is)
        | inr other ↦ known.reached v u cost off (sym (others v other) ∙ shut) is
      ]

      settled_by : now v ≡ false → v ≢ end → HasBy (cell v) (cost +ℤ chosen.cost) ((cell u).inner_nodes + 1)
      settled_by shut off =
          let own = has_cost shut off in
          let ahead = before_own v own.0 inside off (u, cost, off_end, is) shut own.1 in
          let kept : label u ≤ℤ (label v +ℤ cost) = keeps v u cost off_end is in
          let ahead_cost : (own.0 +ℤ label v) ≤ℤ (chosen.cost +ℤ label u) = ahead.0 in
          record {
            least = own.0;
            is = own.1;
            before = (
              omega (arith, ints, ahead_cost, kept),
              λ back. let less : (cell v).inner_nodes ≤ (cell u).inner_nodes = ahead.1 (omega (arith, ints, kept, back)) in
                  omega (arith, less),
            );
          }

  -- u isn't after a node that waits still
  before_new : (v : ℕ) (x : ℤ) → v < nodes → now v ≡ true → (new v).cost ≡ Some x
      → IsNotAfter (chosen.cost +ℤ label u) (cell u).inner_nodes (x +ℤ label v) (new v).inner_nodes
  before_new v x inside waiting is = elim (stepped v inside) [
    | inl same ↦
        let was : (cell v).cost ≡ Some x = ap (λ (own : Cell). own.cost) (sym same) ∙ is in
        subst (λ (own : Cell). IsNotAfter (chosen.cost +ℤ label u) (cell u).inner_nodes (x +ℤ label v) own.inner_nodes) (sym same)
        (subst (λ (z : ℤ). IsNotAfter z (cell u).inner_nodes (x +ℤ label v) (cell v).inner_nodes) chosen.key_is
        (subst (λ (k : ℕ). IsNotAfter key k (x +ℤ label v) (cell v).inner_nodes) chosen.inner_nodes_is
        (chosen.first v x inside (waited v waiting) was)))
    | inr goes ↦
        let two = parts (arc v u) (cell u).cost goes.cost goes.sum in
        let kept : label u ≤ℤ (label v +ℤ two.first) = keeps v u two.first off_end two.first_is in
        let same : two.second ≡ chosen.cost =
        same_cost (cell u).cost two.second chosen.cost two.second_is chosen.cost_is in
        let whole : goes.cost ≡ x = same_cost (new v).cost goes.cost x goes.cost_is is in
        (omega (arith, ints, kept, same, whole, two.sum_is), λ back. omega (arith, goes.inner_nodes_is))
  ]

  pub known_next : IsUnderWay nodes arc end label new now (settled + 1)
  known_next = record {
    shut = still_shut end known.shut;
    first = λ v cost inside is. has_still v inside cost 0 (known.first v cost inside is);
    over = over;
    order = λ v x w y inside node off leads v_shut x_waits v_is x_is.
        let same = unchanged v inside v_shut off in
        subst (λ (own : Cell). IsNotAfter (w +ℤ label v) own.inner_nodes (y +ℤ label x) (new x).inner_nodes) (sym same)
        (not_after-trans (w +ℤ label v) (cell v).inner_nodes (chosen.cost +ℤ label u) (cell u).inner_nodes (y +ℤ label x)
        (new x).inner_nodes
        (before_own v w inside off leads v_shut (ap (λ (own : Cell). own.cost) (sym same) ∙ v_is))
        (before_new x y node x_waits x_is));
    reached = reached;
    leads = λ v inside. (led v inside).0;
    passes = λ v inside. (led v inside).1;
    none = λ v inside is. elim (stepped v inside) [
      | inl same ↦
          ap (λ (own : Cell). own.inner_nodes) same ∙ known.none v inside (ap (λ (own : Cell). own.cost) (sym same) ∙ is)
      | inr goes ↦ absurd (none-some goes.cost (sym is ∙ goes.cost_is))
    ];
    few = λ v inside. elim (stepped v inside) [
      | inl same ↦ let e : (new v).inner_nodes ≡ (cell v).inner_nodes = ap (λ (own : Cell). own.inner_nodes) same in
          omega (arith, e, known.few v inside)
      | inr goes ↦ omega (arith, goes.inner_nodes_is, known.few u chosen.inside)
    ];
  }
    where
      over : (v x : ℕ) (cost w : ℤ) → x ≢ end → now x ≡ false → arc v x ≡ Some cost → (new x).cost ≡ Some w
          → HasBy (new v) (cost +ℤ w) ((new x).inner_nodes + 1)
      over v x cost w off shut is x_is =
          let two = between v x cost is in
          let same = unchanged x two.1 shut off in
          let was : (cell x).cost ≡ Some w = ap (λ (own : Cell). own.cost) (sym same) ∙ x_is in
          subst (λ (own : Cell). HasBy (new v) (cost +ℤ w) (own.inner_nodes + 1)) (sym same) (elim (cases_eq x u) [
            | inl here ↦
                let e : chosen.cost ≡ w =
                same_cost (cell u).cost chosen.cost w chosen.cost_is
                (subst (λ (z : ℕ). (cell z).cost ≡ Some w) here was) in
                subst (λ (z : ℕ). HasBy (new v) (cost +ℤ w) ((cell z).inner_nodes + 1)) (sym here)
                (subst (λ (z : ℤ). HasBy (new v) (cost +ℤ z) ((cell u).inner_nodes + 1)) e
                (over_own v cost (subst (λ (z : ℕ). arc v z ≡ Some cost) here is)))
            | inr other ↦
                has_still v two.0 (cost +ℤ w) ((cell x).inner_nodes + 1) (known.over v x cost w off (sym (others x other)
                ∙ shut) is was)
          ])

      reached : (v x : ℕ) (cost : ℤ) → v ≢ end → now v ≡ false → arc v x ≡ Some cost → (w : ℤ) × ((new v).cost ≡ Some w)
      reached v x cost off shut is =
          let same = unchanged v (between v x cost is).0 shut off in
          elim (cases_eq v u) [
            | inl here ↦ (
              chosen.cost,
              ap (λ (own : Cell). own.cost) same ∙ subst (λ (z : ℕ). (cell z).cost ≡ Some chosen.cost)
                  (sym here) chosen.cost_is,
            )
            | inr other ↦
                let was = known.reached v x cost off (sym (others v other) ∙ shut) is in
                (was.0, ap (λ (own : Cell). own.cost) same ∙ was.1)
          ]

      old_trail : (v : ℕ) → v < nodes → new v ≡ cell v → trail new (cell v).inner_nodes v ≡ trail cell (cell v).inner_nodes v
      old_trail v inside same = trail_same cell new (cell v).inner_nodes v same
          (All-weaker (λ x. (x < nodes) × (x ≢ end) × (waits x ≡ false)) (λ x. new x ≡ cell x)
          (λ x h. unchanged x h.0 (still_shut x h.2) h.1) (trail cell (cell v).inner_nodes v) (known.passes v inside))

      old_passes : (v : ℕ) → v < nodes → All (λ x. (x < nodes) × (x ≢ end)
          × (now x ≡ false)) (trail cell (cell v).inner_nodes v)
      old_passes v inside = All-weaker (λ x. (x < nodes) × (x ≢ end) × (waits x ≡ false)) (λ x. (x < nodes) × (x ≢ end)
          × (now x ≡ false))
          (λ x h. (h.0, h.1, still_shut x h.2)) (trail cell (cell v).inner_nodes v) (known.passes v inside)

      led : (v : ℕ) → v < nodes → (walk_cost arc v (trail new (new v).inner_nodes v) end ≡ (new v).cost)
          × All (λ x. (x < nodes) × (x ≢ end) × (now x ≡ false)) (trail new (new v).inner_nodes v)
      led v inside = elim (stepped v inside) [
        | inl same ↦
            let e : trail new (new v).inner_nodes v ≡ trail cell (cell v).inner_nodes v =
            ap (λ (own : Cell). trail new own.inner_nodes v) same ∙ old_trail v inside same in (
              ap (λ (us : List ℕ). walk_cost arc v us end) e ∙ known.leads v inside
                  ∙ ap (λ (own : Cell). own.cost) (sym same),
              subst (All (λ x. (x < nodes) × (x ≢ end) × (now x ≡ false))) (sym e) (old_passes v inside),
            )
        | inr goes ↦
            let at : (new v).inner_nodes ≡ suc (cell u).inner_nodes = omega (arith, goes.inner_nodes_is) in
            let e : trail new (new v).inner_nodes v ≡ u ∷ trail cell (cell u).inner_nodes u =
            ap (λ (k : ℕ). trail new k v) at ∙ ap (λ (x : ℕ). x ∷ trail new (cell u).inner_nodes x) goes.next_is
            ∙ ap (λ (us : List ℕ). u ∷ us) (old_trail u chosen.inside own_same) in (
              ap (λ (us : List ℕ). walk_cost arc v us end) e
                  ∙ ap (λ (z : Option ℤ). both (arc v u) z) (known.leads u chosen.inside)
                  ∙ goes.sum ∙ sym goes.cost_is,
              subst (All (λ x. (x < nodes) × (x ≢ end) × (now x ≡ false))) (sym e)
                  (All-cons (λ x. (x < nodes) × (x ≢ end) × (now x ≡ false)) u (trail cell (cell u).inner_nodes u)
                  (chosen.inside, off_end, closed) (old_passes u chosen.inside)),
            )
      ]
