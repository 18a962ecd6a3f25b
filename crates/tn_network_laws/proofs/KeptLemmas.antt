-- What is kept from round to round.
use Rattle.std.proofs.Common.{◌≡◌, ◌≢◌, ℕ, suc, ◌<◌, ◌≤◌, Bool, true, false, not, ◌==◌, ◌&&◌, ◌||◌, if◌then◌else◌, refl, sym, ap, ap₂, ◌∙◌, subst, arith, inl, inr, ◌⊎◌, ℤ, pos, neg_ℤ, ◌+ℤ◌, ◌-ℤ◌, List, [], ◌∷◌, length, slice_get, Option, Some, None}
use Rattle.std.specs.Prelude.{◌≤ℤ◌, All, IsSome}
use Rattle.std.proofs.lemmas.Bool.{cases_eq, cases_lt, cases_Bool, eq-eqb, eqb-true, false_from_ne_true, and_parts, or_cases, lt-ltb, le-ltb, true≢false}
use Rattle.std.proofs.lemmas.Nat.{pow_pos}
use Rattle.std.proofs.lemmas.Int.{ints}
use Rattle.std.proofs.lemmas.List.Elements.{All-head, All-tail, All-cons}
use Rattle.tn_base.specs.Arcs.{AreBetweenNodes}
use Rattle.tn_base.specs.Sets.{has, toggle}
use Rattle.tn_base.specs.Firm.{Firm, MayAbstain}
use Rattle.tn_base.specs.Walks.{walk_cost, arcs_among, is_admitted, is_looked_at, CyclesCostAtLeast, IsLeastCycle, HasNoNegativeCycle, KeepsArcs, KeepsArcsEntering}
use Rattle.tn_base.proofs.SetLemmas.{has-zero, has-toggle_same, has-toggle_other, same_below, set_of_within}
use Rattle.tn_base.proofs.WalkLemmas.{walk_parts, SameArcs, walk-same, least_cycle-same}
use Rattle.tn_firm_laws.proofs.LabelLemmas.{walk-kept, numbers_keep_arcs}
use Rattle.tn_model.specs.declared.ends.Ends.{Ends}
use Rattle.tn_model.specs.Network.{own, part, IsNetwork}
use Rattle.tn_market.specs.Best.{IsSubset}
use Rattle.tn_market.specs.Equilibrium.{IsEquilibrium}
use Rattle.tn_market.specs.Admitted.{admitted}
use Rattle.tn_market.specs.Graph.{exchange_arc, ArePossible}
use Rattle.tn_market.specs.ArcPlaces.{node_at}
use Rattle.tn_market.proofs.GraphLemmas.{node_at-trade, arc_from, arc_within, has-part}
use Rattle.tn_network_laws.specs.Laws.{MeetExchange}
use Rattle.tn_network_laws.specs.Along.{along}
use Rattle.tn_network_laws.specs.Kept.{IsKept}
use Rattle.tn_network_laws.specs.Rounds.{arcs_with, OneCycleForEachTrade}
use Rattle.tn_network_laws.proofs.SupportLemmas.{labels_are_supports}
use Rattle.tn_network_laws.proofs.AdmittedLemmas.{admitted_network, admitted_meet, admitted_possible, possible_from_admitted, arcs_admitted, equilibrium_of_all}
use Rattle.tn_network_laws.proofs.SplitLemmas.{TwoNumbers}
use Rattle.tn_network_laws.proofs.RoundLemmas.{HasNumbers, KeepsArcsOff, IsRound, two_from_off, no_cycle, one_cycle}

-- ---- walks and arcs

-- numbers that keep the arcs leave no negative cycle
pub no_cycle_from : (arc : ℕ → ℕ → Option ℤ) → HasNumbers arc → HasNoNegativeCycle arc
no_cycle_from arc found u vs cost walk = let kept = walk-kept arc found.0 found.1 u vs u cost walk in
    omega (arith, ints, kept)

-- the nodes of a walk among some nodes are among them
pub walk_among : (test : ℕ → Bool) (arc : ℕ → ℕ → Option ℤ) (u : ℕ) (vs : List ℕ) (w : ℕ) (cost : ℤ)
    → walk_cost (arcs_among test arc) u vs w ≡ Some cost → All (λ v. test v ≡ true) vs
walk_among test arc u [] w cost walk = λ k d h. absurd (omega (arith, h))
walk_among test arc u (v ∷ vs) w cost walk =
    let parts = walk_parts (arcs_among test arc) u v vs w cost walk in
    All-cons (λ x. test x ≡ true) v vs (arc_ends parts.first parts.first_is).1
    (walk_among test arc v vs w parts.second parts.second_is)
  where
    arc_ends : (c : ℤ) → arcs_among test arc u v ≡ Some c → (test u ≡ true) × (test v ≡ true)
    arc_ends c is = elim (cases_Bool (test u && test v)) [
      | inl e ↦ and_parts (test u) (test v) e
      | inr e ↦ absurd (let none = ap (λ (b : Bool). if b then arc u v else None) e in cc (none, is))
    ]

-- ---- one trade more

-- the nodes that are looked at are those that are admitted with it
pub looked_is_admitted : (null allowed t : ℕ) → has allowed t ≡ false → (v : ℕ)
    → is_looked_at null t allowed v ≡ is_admitted null (toggle allowed t) v
looked_is_admitted null allowed t out v = elim (cases_eq v t) [
  | inl e ↦
      ap (λ (b : Bool). b || (v == null || has allowed v)) (eq-eqb v t e)
      ∙ sym (right (v == null) (ap (has (toggle allowed t)) e ∙ has-toggle_same allowed t ∙ ap not out))
  | inr d ↦
      ap (λ (b : Bool). b || (v == null || has allowed v)) (false_from_ne_true (v == t) (λ q. d (eqb-true v t q)))
      ∙ ap (λ (b : Bool). v == null || b) (sym (has-toggle_other allowed t v d))
]
  where
    right : (b : Bool) {c : Bool} → c ≡ true → (b || c) ≡ true
    right true e = refl
    right false e = e

more_inside : (allowed on t : ℕ) → has allowed t ≡ false → IsSubset on allowed → IsSubset on (toggle allowed t)
more_inside allowed on t out inside k there = elim (cases_eq k t) [
  | inl e ↦ absurd (true≢false (sym (inside k there) ∙ ap (has allowed) e ∙ out))
  | inr d ↦ has-toggle_other allowed t k d ∙ inside k there
]

pub with_arcs : (firms : List Firm) (trades : List Ends) (allowed on t : ℕ) → has allowed t ≡ false
    → SameArcs (arcs_with firms trades allowed on t) (arcs_among (is_admitted (length trades) (toggle allowed t))
    (exchange_arc firms trades on))
with_arcs firms trades allowed on t out u v = ap₂ (λ (a b : Bool). if a && b then exchange_arc firms trades on u v
    else None)
    (looked_is_admitted (length trades) allowed t out u) (looked_is_admitted (length trades) allowed t out v)

-- the arcs of the market that they admit
pub arcs_are : (firms : List Firm) (trades : List Ends) (allowed on t : ℕ) → IsNetwork firms trades
    → has allowed t ≡ false → IsSubset on (toggle allowed t)
    → SameArcs (exchange_arc (admitted trades (toggle allowed t) firms) trades on) (arcs_with firms trades allowed on t)
arcs_are firms trades allowed on t network out inside u v =
    arcs_admitted firms trades network (toggle allowed t) on inside u v
    ∙ sym (with_arcs firms trades allowed on t out u v)

-- numbers keep the arcs of a graph with the same ones
pub keeps-same : (one other : ℕ → ℕ → Option ℤ) → SameArcs one other → (label : ℕ → ℤ) → KeepsArcs other label
    → KeepsArcs one label
keeps-same one other same label keeps u v c is = keeps u v c (sym (same u v) ∙ is)

pub entering-same : (one other : ℕ → ℕ → Option ℤ) → SameArcs one other → (t : ℕ) (entering : ℤ) (label : ℕ → ℤ)
    → KeepsArcsEntering other t entering label → KeepsArcsEntering one t entering label
entering-same one other same t entering label keeps = record {
  others = λ u v c apart is. keeps.others u v c apart (sym (same u v) ∙ is);
  enters = λ u c is. keeps.enters u c (sym (same u t) ∙ is);
}

-- given numbers of which that of t is higher by a cost where arcs end
abbrev pub two_given : (arc : ℕ → ℕ → Option ℤ) (t : ℕ) (cost : ℤ) (label : ℕ → ℤ)
    → KeepsArcsEntering arc t (label t +ℤ cost) label → TwoNumbers t (neg_ℤ cost) arc
two_given arc t cost label keeps = record {
  number = label;
  entering = label t +ℤ cost;
  keeps = keeps;
  gap =
      omega (arith, ints);
}

nodes_of : (firms : List Firm) (trades : List Ends) (test : ℕ → Bool) (on : ℕ)
    → AreBetweenNodes (suc (length trades)) (arcs_among test (exchange_arc firms trades on))
nodes_of firms trades test on u v c is = elim (cases_Bool (test u && test v)) [
  | inl e ↦
      let ends = arc_within firms trades on u v c (sym (ap (λ (b : Bool). if b then exchange_arc firms trades on u v
      else None) e) ∙ is) in
      (let a = ends.0 in omega (arith, a), let b = ends.1 in omega (arith, b))
  | inr e ↦ absurd (let none = ap (λ (b : Bool). if b then exchange_arc firms trades on u v else None) e in
      cc (none, is))
]

-- numbers that keep the arcs among the admitted trades and null
pub numbers_kept : (firms : List Firm) (trades : List Ends) (allowed on : ℕ) → IsKept firms trades allowed on
    → HasNumbers (arcs_among (is_admitted (length trades) allowed) (exchange_arc firms trades on))
numbers_kept firms trades allowed on kept =
    (numbers_keep_arcs (suc (length trades)) (arcs_among (is_admitted (length trades) allowed)
    (exchange_arc firms trades on))
    (nodes_of firms trades (is_admitted (length trades) allowed) on)).0 kept.no_cycle

-- numbers that keep its arcs off the new trade
numbers_off : (firms : List Firm) (trades : List Ends) (allowed on t : ℕ) → IsNetwork firms trades
    → has allowed t ≡ false → IsKept firms trades allowed on
    → (numbers : ℕ → ℤ) × KeepsArcsOff t (exchange_arc (admitted trades (toggle allowed t) firms) trades on) numbers
numbers_off firms trades allowed on t network out kept = (
  found.0,
  λ u v c u_off v_off is.
      let with_t : arcs_with firms trades allowed on t u v ≡ Some c =
      sym (arcs_are firms trades allowed on t network out (more_inside allowed on t out kept.inside) u v) ∙ is in
      found.1 u v c (sym (ap₂ (λ (a b : Bool). if a && b then exchange_arc firms trades on u v
      else None) (off u u_off) (off v v_off)) ∙ with_t),
)
  where
    found : HasNumbers (arcs_among (is_admitted (length trades) allowed) (exchange_arc firms trades on))
    found = numbers_kept firms trades allowed on kept

    off : (u : ℕ) → u ≢ t → is_looked_at (length trades) t allowed u ≡ is_admitted (length trades) allowed u
    off u other =
        ap (λ (b : Bool). b || (u == length trades || has allowed u))
        (false_from_ne_true (u == t) (λ q. other (eqb-true u t q)))

-- a set whose bundles the market of the admitted trades has, with numbers that keep its arcs there, is kept
pub kept_with : (firms : List Firm) (trades : List Ends) (allowed on : ℕ) → IsNetwork firms trades → IsSubset on allowed
    → ArePossible (admitted trades allowed firms) trades on
    → (number : ℕ → ℤ) → KeepsArcs (exchange_arc (admitted trades allowed firms) trades on) number
    → IsKept firms trades allowed on
    × KeepsArcs (arcs_among (is_admitted (length trades) allowed) (exchange_arc firms trades on)) number
kept_with firms trades allowed on network inside possible number keeps =
    let here = keeps-same _ _ (λ u v. sym (arcs_admitted firms trades network allowed on inside u v)) number keeps in (
      record {
        inside = inside;
        possible = possible_from_admitted firms trades allowed on possible;
        no_cycle = no_cycle_from (arcs_among (is_admitted (length trades) allowed) (exchange_arc firms trades on))
            (number, here);
      },
      here,
    )

-- ---- the rounds

-- before the first round there is no arc: null alone is admitted, and none leads from it to itself
no_arc_at_first : (firms : List Firm) (trades : List Ends) → IsNetwork firms trades → (u v : ℕ) (c : ℤ)
    → arcs_among (is_admitted (length trades) 0) (exchange_arc firms trades 0) u v ≡ Some c → ⊥
no_arc_at_first firms trades network u v c is =
    elim (cases_Bool (is_admitted (length trades) 0 u && is_admitted (length trades) 0 v)) [
      | inl e ↦
          let two = and_parts (is_admitted (length trades) 0 u) (is_admitted (length trades) 0 v) e in
          from_null (null_alone u two.0) (null_alone v two.1)
          (sym (ap (λ (b : Bool). if b then exchange_arc firms trades 0 u v else None) e) ∙ is)
      | inr e ↦ (let empty = ap (λ (b : Bool). if b then exchange_arc firms trades 0 u v else None) e in cc (empty, is))
    ]
  where
    null_alone : (w : ℕ) → is_admitted (length trades) 0 w ≡ true → w ≡ length trades
    null_alone w e = elim (or_cases (w == length trades) (has 0 w) e) [
      | inl q ↦ eqb-true w (length trades) q
      | inr q ↦ absurd (true≢false (sym q ∙ has-zero w))
    ]

    null_place : (f : ℕ) (firm : Firm) → slice_get firms f ≡ Some firm → (i : ℕ) → i ≤ firm.count
        → node_at trades f firm.count i ≡ length trades → i ≡ firm.count
    null_place f firm is i within node = elim (cases_lt i firm.count) [
      | inl p ↦ absurd (let trade = node_at-trade trades f firm.count i p in let inside = network.whole f i firm is p in
          omega (arith, trade, inside, node))
      | inr p ↦ omega (arith, within, p)
    ]

    from_null : u ≡ length trades → v ≡ length trades → exchange_arc firms trades 0 u v ≡ Some c → ⊥
    from_null u_null v_null is =
        let at = arc_from firms trades network 0 u v c is in
        at.places.apart (null_place at.f at.firm at.is at.from at.places.from_within (at.begin ∙ u_null)
        ∙ sym (null_place at.f at.firm at.is at.to at.places.to_within (at.end ∙ v_null)))

start_labels : (firms : List Firm) (trades : List Ends) → IsNetwork firms trades → (label : ℕ → ℤ)
    → KeepsArcs (arcs_among (is_admitted (length trades) 0) (exchange_arc firms trades 0)) label
start_labels firms trades network label u v c is = absurd (no_arc_at_first firms trades network u v c is)

start : (firms : List Firm) (trades : List Ends) → IsNetwork firms trades
    → ((f : ℕ) (firm : Firm) → slice_get firms f ≡ Some firm → MayAbstain firm) → IsKept firms trades 0 0
start firms trades network abstain = record {
  inside = λ k there. there;
  possible = λ f firm is.
      let empty = abstain f firm is in
      subst IsSome (sym (ap firm.worth (nothing f firm.count) ∙ empty.1)) refl;
  no_cycle = no_cycle_from (arcs_among (is_admitted (length trades) 0) (exchange_arc firms trades 0)) (
    (λ u. pos 0),
    start_labels firms trades network (λ u. pos 0),
  );
}
  where
    nothing : (f n : ℕ) → part trades f n 0 ≡ 0
    nothing f n = same_below (part trades f n 0) 0 n (set_of_within (λ k. has 0 (own trades f k)) n) (pow_pos n)
        (λ k below. has-part trades f n 0 k below ∙ has-zero (own trades f k) ∙ sym (has-zero k))

still : (firms : List Firm) (trades : List Ends) (allowed on t : ℕ) → IsNetwork firms trades → MeetExchange firms
    → IsKept firms trades allowed on
    → t < length trades → has allowed t ≡ false → CyclesCostAtLeast (arcs_with firms trades allowed on t) t (pos 0)
    → IsKept firms trades (toggle allowed t) on
still firms trades allowed on t network meet kept below out least =
    let inside = more_inside allowed on t out kept.inside in
    let same = arcs_are firms trades allowed on t network out inside in
    let off = numbers_off firms trades allowed on t network out kept in
    let found = no_cycle (admitted trades (toggle allowed t) firms) trades on t below off.0 off.1
    (λ vs c avoids walk. least vs c avoids (sym (walk-same _ _ same t vs t) ∙ walk)) in
    (kept_with firms trades (toggle allowed t) on network inside
    (admitted_possible firms trades (toggle allowed t) on inside kept.possible) found.0 found.1).0

-- the set along admitted nodes is admitted
pub along_inside : (count allowed on : ℕ) (vs : List ℕ) → All (λ v. is_admitted count allowed v ≡ true) vs
    → IsSubset on allowed → IsSubset (along count on vs) allowed
along_inside count allowed on [] all inside = inside
along_inside count allowed on (v ∷ vs) all inside =
    by (cases_lt v count) (along_inside count allowed on vs
    (All-tail (λ x. is_admitted count allowed x ≡ true) v vs all) inside)
  where
    by : (v < count) ⊎ (count ≤ v) → IsSubset (along count on vs) allowed → IsSubset (along count on (v ∷ vs)) allowed
    by (inr above) rest k there =
        rest k (sym (ap (λ (b : Bool). has (if b then toggle (along count on vs) v else along count on vs) k)
        (le-ltb v count above)) ∙ there)
    by (inl below) rest k there = elim (cases_eq k v) [
      | inl e ↦ ap (has allowed) e
          ∙ member (or_cases (v == count) (has allowed v) (All-head (λ x. is_admitted count allowed x ≡ true) v vs
          all))
      | inr d ↦ rest k (sym (has-toggle_other (along count on vs) v k d)
          ∙ sym (ap (λ (b : Bool). has (if b then toggle (along count on vs) v else along count on vs) k)
          (lt-ltb v count below)) ∙ there)
    ]
      where
        member : ((v == count) ≡ true) ⊎ (has allowed v ≡ true) → has allowed v ≡ true
        member (inl e) = absurd (let null = eqb-true v count e in omega (arith, null, below))
        member (inr e) = e

-- a round at two given numbers for the trade: what it comes to is kept, and the numbers keep its arcs
round_with : (firms : List Firm) (trades : List Ends) (allowed on t : ℕ) → IsNetwork firms trades → MeetExchange firms
    → IsKept firms trades allowed on
    → t < length trades → has allowed t ≡ false → (vs : List ℕ) (cost : ℤ)
    → IsLeastCycle (arcs_with firms trades allowed on t) t vs cost → cost ≤ℤ pos 0
    → (two : TwoNumbers t (neg_ℤ cost) (exchange_arc (admitted trades (toggle allowed t) firms) trades on))
    → IsKept firms trades (toggle allowed t) (along (length trades) on (t ∷ vs))
    × KeepsArcs (arcs_among (is_admitted (length trades) (toggle allowed t))
    (exchange_arc firms trades (along (length trades) on (t ∷ vs)))) two.number
round_with firms trades allowed on t network meet kept below out vs cost cycle gains two =
    let inside = more_inside allowed on t out kept.inside in
    let same = arcs_are firms trades allowed on t network out inside in
    let round : IsRound (admitted trades (toggle allowed t) firms) trades on t vs cost = record {
      network = admitted_network firms trades (toggle allowed t) network;
      meet = admitted_meet firms trades (toggle allowed t) meet;
      possible = admitted_possible firms trades (toggle allowed t) on inside kept.possible;
      inside = below;
      two = two;
      cycle = least_cycle-same _ _ same t vs cost cycle;
    } in
    let next = one_cycle (admitted trades (toggle allowed t) firms) trades on t vs cost round gains in
    let nodes : All (λ v. is_admitted (length trades) (toggle allowed t) v ≡ true) (t ∷ vs) =
    All-cons (λ v. is_admitted (length trades) (toggle allowed t) v ≡ true) t vs
    (sym (looked_is_admitted (length trades) allowed t out t)
    ∙ ap (λ (b : Bool). b || (t == length trades || has allowed t)) (eq-eqb t t refl))
    (λ k d h. sym (looked_is_admitted (length trades) allowed t out _)
    ∙ walk_among (is_looked_at (length trades) t allowed) (exchange_arc firms trades on) t vs t cost
    cycle.cycle.walk k d h) in
    let next_inside = along_inside (length trades) (toggle allowed t) on (t ∷ vs) nodes inside in
    kept_with firms trades (toggle allowed t) (along (length trades) on (t ∷ vs)) network next_inside next.0 two.number
    next.1

turned : (firms : List Firm) (trades : List Ends) (allowed on t : ℕ) → IsNetwork firms trades → MeetExchange firms
    → IsKept firms trades allowed on
    → t < length trades → has allowed t ≡ false → (vs : List ℕ) (cost : ℤ)
    → IsLeastCycle (arcs_with firms trades allowed on t) t vs cost → cost ≤ℤ pos 0
    → IsKept firms trades (toggle allowed t) (along (length trades) on (t ∷ vs))
turned firms trades allowed on t network meet kept below out vs cost cycle gains =
    let same = arcs_are firms trades allowed on t network out (more_inside allowed on t out kept.inside) in
    let off = numbers_off firms trades allowed on t network out kept in
    (round_with firms trades allowed on t network meet kept below out vs cost cycle gains
    (two_from_off (admitted trades (toggle allowed t) firms) trades on t vs cost below off.0 off.1
    (least_cycle-same _ _ same t vs cost cycle))).0

turned_labels : (firms : List Firm) (trades : List Ends) (allowed on t : ℕ) → IsNetwork firms trades
    → MeetExchange firms → IsKept firms trades allowed on
    → t < length trades → has allowed t ≡ false → (vs : List ℕ) (cost : ℤ) (label : ℕ → ℤ)
    → IsLeastCycle (arcs_with firms trades allowed on t) t vs cost → cost ≤ℤ pos 0
    → KeepsArcsEntering (arcs_with firms trades allowed on t) t (label t +ℤ cost) label
    → KeepsArcs (arcs_among (is_admitted (length trades) (toggle allowed t))
    (exchange_arc firms trades (along (length trades) on (t ∷ vs)))) label
turned_labels firms trades allowed on t network meet kept below out vs cost label cycle gains keeps =
    (round_with firms trades allowed on t network meet kept below out vs cost cycle gains
    (two_given _ t cost label
    (entering-same _ _ (arcs_are firms trades allowed on t network out (more_inside allowed on t out kept.inside)) t
    (label t +ℤ cost) label keeps))).1

ends : (firms : List Firm) (trades : List Ends) (allowed on : ℕ) → IsNetwork firms trades → MeetExchange firms
    → IsKept firms trades allowed on
    → (label : ℕ → ℤ)
    → KeepsArcs (arcs_among (is_admitted (length trades) allowed) (exchange_arc firms trades on)) label
    → IsEquilibrium (admitted trades allowed firms) trades (pos 1) on (λ t. label t -ℤ label (length trades))
ends firms trades allowed on network meet kept label keeps =
    labels_are_supports (admitted trades allowed firms) trades on label (admitted_network firms trades allowed network)
    (admitted_meet firms trades allowed meet)
    (admitted_possible firms trades allowed on kept.inside kept.possible)
    (λ u v c is. keeps u v c (sym (arcs_admitted firms trades network allowed on kept.inside u v) ∙ is))

pub one_cycle_for_each_trade : OneCycleForEachTrade
one_cycle_for_each_trade = record {
  start = start;
  start_labels = start_labels;
  still = still;
  kept = λ firms trades allowed on t out label keeps. keeps-same _ _
      (λ u v. sym (with_arcs firms trades allowed on t out u v)) label keeps;
  turned = turned;
  turned_labels = turned_labels;
  ends = ends;
  all = λ firms trades allowed on network meet all prices. equilibrium_of_all firms trades allowed network meet all
      (pos 1) on prices;
}
