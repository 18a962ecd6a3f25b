-- What the steps of a walk over the links of a market do to counts.
use Rattle.std.proofs.Common.{◌≡◌, ◌≢◌, ℕ, zero, suc, ◌+◌, ◌-◌, ◌<◌, ◌≤◌, Bool, true, ◌==◌, if◌then◌else◌, nat_le, List, [], ◌∷◌, ◌++◌, length, get_or, Option, Some, None, slice_get, refl, sym, ap, ap₂, ◌∙◌, subst, arith, inl, inr, ◌⊎◌, ℤ, pos, ◌+ℤ◌, ◌-ℤ◌, ◌≤ℤ◌}
use Rattle.std.specs.Prelude.{◌<ℤ◌, All, option_map}
use Rattle.std.proofs.lemmas.Int.{ints}
use Rattle.std.proofs.lemmas.Bool.{cases_eq, cases_lt, eq-eqb, le-leb, lt-leb, ne_eqb}
use Rattle.std.proofs.lemmas.Option.{get_or_from_slice_get, none-some, same_Some, slice_get_within}
use Rattle.tn_base.specs.Walks.{Avoids, IsCycle, walk_cost}
use Rattle.tn_cycle.proofs.WalkLemmas.{AreApart}
use Rattle.tn_links.specs.declared.link.Link.{Link}
use Rattle.tn_links.specs.Links.{ArePlain}
use Rattle.tn_links.specs.LotLemmas.{arc_of, ends_of, joins_by}
use Rattle.tn_links.specs.Lots.{link_arc, pushed}
use Rattle.tn_links.proofs.RoundLemmas.{cycles_gain}
use Rattle.tn_counts.specs.Counts.{trade_at}
use Rattle.tn_counts.specs.Markets.{IsWideMarket}
use Rattle.tn_counts.specs.Tree.{AreLinksOf, HasLink, LinkShape, bought_at, buyer_place, buyer_shape, inner_node, null_node, root_node, seller_place, seller_shape, shape_of, sold_at, trade_node}
use Rattle.tn_counts.specs.declared.market.Pin.{Pin}
use Rattle.tn_counts.specs.declared.market.UnitMarket.{UnitMarket}
use Rattle.tn_counts.proofs.FlowLemmas.{IsFlowOf}
use Rattle.tn_counts.proofs.NetLemmas.{between_at}
use Rattle.tn_counts.proofs.PlaceLemmas.{shaped_at}
use Rattle.tn_counts.proofs.PlainLemmas.{above_within, by_place}
use Rattle.tn_counts.proofs.SurplusLemmas.{traded_same}
use Rattle.tn_counts.proofs.TreeLemmas.{first_within}
use Rattle.tn_tree.specs.declared.steps.UnitStep.{UnitStep}
use Rattle.tn_tree.specs.Steps.{AreOnce, entered, sells_at, step_at, trade_of, units_by}
use Rattle.tn_tree.proofs.WalkLemmas.{arcs_less, arcs_same, arcs_sum, at_arc, last_of, more_by, never_less, off_first, off_second, on, rounded}

-- ---- the two inner nodes of a trade

-- the node at which its seller has it, and that at which its buyer does
abbrev pub seller_node : UnitMarket → ℕ → ℕ
seller_node market t = inner_node market (trade_at market.trades.items t).seller t

abbrev pub buyer_node : UnitMarket → ℕ → ℕ
buyer_node market t = inner_node market (trade_at market.trades.items t).buyer t

pub inner_below : (market : UnitMarket) (f t : ℕ) → f < market.firms
    → inner_node market f t < length market.sets.items + market.firms
inner_below market f t below =
    let found = first_within market.sets.items f t (root_node market f) (length market.sets.items) 0 (omega arith) in
    let high = found.1 in
    omega (arith, high, below)

abbrev HasEnd : LinkShape → ℕ → ℕ → Type 0
HasEnd shape a v = ((shape.tail ≡ a) × (shape.head ≡ v)) ⊎ ((shape.tail ≡ v) × (shape.head ≡ a))

module _ (market : UnitMarket) (links : List Link) (is : IsWideMarket market) (of : AreLinksOf market [] links)
    (plain : ArePlain (suc (null_node market)) links) where
  -- a trade's links lead to these two
  two_ends : (k : ℕ) → k < length market.trades.items → (j : ℕ) (link : Link) → slice_get links j ≡ Some link → (a : ℕ)
      → HasEnd (shape_of link) a (trade_node market k) → (a ≡ seller_node market k) ⊎ (a ≡ buyer_node market k)
  two_ends k below = by_place market [] links
      (λ j shape. (a : ℕ) → HasEnd shape a (trade_node market k) → (a ≡ seller_node market k) ⊎ (a ≡ buyer_node market k))
      of (record {
        sets = λ i set at a ends.
            let inside = slice_get_within market.sets.items i set at in
            let high = (above_within market is i set at).1 in
            absurd (elim ends [
              | inl two ↦ omega (arith, two.1, high)
              | inr two ↦ omega (arith, two.0, inside)
            ]);
        roots = λ f known a ends. absurd (elim ends [
          | inl two ↦ omega (arith, two.1, below)
          | inr two ↦ omega (arith, two.0, known)
        ]);
        sellers = λ t known a ends. elim ends [
          | inl two ↦
              let same : t ≡ k = omega (arith, two.1) in
              inl (sym two.0 ∙ ap (seller_node market) same)
          | inr two ↦
              let low = inner_below market (trade_at market.trades.items t).seller t (between_at market is t known).seller in
              absurd (omega (arith, two.0, low))
        ];
        buyers = λ t known a ends. elim ends [
          | inl two ↦
              let low = inner_below market (trade_at market.trades.items t).buyer t (between_at market is t known).buyer in
              absurd (omega (arith, two.1, low))
          | inr two ↦
              let same : t ≡ k = omega (arith, two.0) in
              inr (sym two.1 ∙ ap (buyer_node market) same)
        ];
        pinned = λ j pin at. absurd (none-some pin at);
      })

  -- which differ
  inner_apart : (k : ℕ) → k < length market.trades.items → seller_node market k ≢ buyer_node market k
  inner_apart k below = λ same.
      let sells = shaped_at links (seller_place market k) (seller_shape market k) (of.sellers k below) in
      let buys = shaped_at links (buyer_place market k) (buyer_shape market k) (of.buyers k below) in
      let place = plain.single (seller_place market k) (buyer_place market k) (seller_node market k) (trade_node market k)
      sells.link buys.link sells.is buys.is
      (joins_by sells.link (seller_node market k) (trade_node market k)
      (inl (ap (λ (s : LinkShape). s.tail) sells.shape_is, ap (λ (s : LinkShape). s.head) sells.shape_is)))
      (joins_by buys.link (seller_node market k) (trade_node market k)
      (inr (ap (λ (s : LinkShape). s.tail) buys.shape_is, ap (λ (s : LinkShape). s.head) buys.shape_is ∙ sym same))) in
      omega (arith, place, below)

  arc_end : (levels : List ℕ) (k : ℕ) → k < length market.trades.items → (a : ℕ) (cost : ℤ)
      → link_arc links levels 1 a (trade_node market k) ≡ Some cost
      → (a ≡ seller_node market k) ⊎ (a ≡ buyer_node market k)
  arc_end levels k below a cost at =
      let arc = arc_of links levels 1 a (trade_node market k) cost at in
      two_ends k below arc.place arc.link arc.link_is a (ends_of arc.link a (trade_node market k) arc.joined)

  -- what a step adds to a trade: one where the walk comes from its seller, one less than nothing where from its buyer
  step_adds : (levels : List ℕ) (k : ℕ) → k < length market.trades.items → (a v : ℕ) (cost : ℤ)
      → link_arc links levels 1 a v ≡ Some cost
      → units_by (step_at market true v a) k
      ≡ on (seller_node market k) (trade_node market k) a v -ℤ on (buyer_node market k) (trade_node market k) a v
  step_adds levels k below a v cost at = elim (cases_eq v (null_node market)) [
    | inl last ↦
        let step = ap (λ (t : Bool). units_by (if t then None ∷ []
        else if nat_le (trade_node market 0) v then Some (record {
          trade = trade_of market v;
          more = sells_at market (trade_of market v) a;
        }) ∷ [] else []) k) (eq-eqb v (null_node market) last) in
        let one = off_second (seller_node market k) (trade_node market k) a v (λ e. omega (arith, e, last, below)) in
        let two = off_second (buyer_node market k) (trade_node market k) a v (λ e. omega (arith, e, last, below)) in
        omega (arith, ints, step, one, two)
    | inr other ↦
        let first = ne_eqb v (null_node market) other in
        elim (cases_lt v (trade_node market 0)) [
          | inl inner ↦
              let step = ap₂ (λ (t : Bool) (s : Bool). units_by (if t then None ∷ []
              else if s then Some (record {
                trade = trade_of market v;
                more = sells_at market (trade_of market v) a;
              }) ∷ [] else []) k) first (lt-leb (trade_node market 0) v inner) in
              let one = off_second (seller_node market k) (trade_node market k) a v (λ e. omega (arith, e, inner)) in
              let two = off_second (buyer_node market k) (trade_node market k) a v (λ e. omega (arith, e, inner)) in
              omega (arith, ints, step, one, two)
          | inr past ↦
              let step = ap₂ (λ (t : Bool) (s : Bool). units_by (if t then None ∷ []
              else if s then Some (record {
                trade = trade_of market v;
                more = sells_at market (trade_of market v) a;
              }) ∷ [] else []) k) first (le-leb (trade_node market 0) v past) in
              elim (cases_eq v (trade_node market k)) [
                | inl same ↦
                    let trade : trade_of market v ≡ k = omega (arith, same) in
                    let own = ap₂ (λ (t : Bool) (s : Bool). if t then (if s then pos 1 else pos 0 -ℤ pos 1) else pos 0)
                    (eq-eqb (trade_of market v) k trade) (ap (λ (i : ℕ). sells_at market i a) trade) in
                    let rest = by same (a == seller_node market k) refl (arc_end levels k below a cost
                    (ap (link_arc links levels 1 a) (sym same) ∙ at)) in
                    omega (arith, ints, step, own, rest)
                | inr off ↦
                    let none = ap (λ (t : Bool). if t
                    then (if sells_at market (trade_of market v) a then pos 1 else pos 0 -ℤ pos 1) else pos 0)
                    (ne_eqb (trade_of market v) k (λ e. off (omega (arith, e, past)))) in
                    let one = off_second (seller_node market k) (trade_node market k) a v off in
                    let two = off_second (buyer_node market k) (trade_node market k) a v off in
                    omega (arith, ints, step, none, one, two)
              ]
        ]
  ]
    where
      by : v ≡ trade_node market k → (b : Bool) → (a == seller_node market k) ≡ b
          → (a ≡ seller_node market k) ⊎ (a ≡ buyer_node market k)
          → (if a == seller_node market k then pos 1 else pos 0 -ℤ pos 1)
          ≡ on (seller_node market k) (trade_node market k) a v -ℤ on (buyer_node market k) (trade_node market k) a v
      by same b test (inl from) =
          let sells = ap (λ (t : Bool). if t then pos 1 else pos 0 -ℤ pos 1) (eq-eqb a (seller_node market k) from) in
          let one = at_arc (seller_node market k) (trade_node market k) a v from same in
          let two = off_first (buyer_node market k) (trade_node market k) a v
          (λ e. inner_apart k below (sym from ∙ e)) in
          omega (arith, ints, sells, one, two)
      by same b test (inr from) =
          let off : a ≢ seller_node market k = λ e. inner_apart k below (sym e ∙ from) in
          let sells = ap (λ (t : Bool). if t then pos 1 else pos 0 -ℤ pos 1) (ne_eqb a (seller_node market k) off) in
          let one = off_first (seller_node market k) (trade_node market k) a v off in
          let two = at_arc (buyer_node market k) (trade_node market k) a v from same in
          omega (arith, ints, sells, one, two)

  -- over the arcs of a walk
  pub steps_add : (levels : List ℕ) (k : ℕ) → k < length market.trades.items → (u : ℕ) (vs : List ℕ) (w : ℕ) (cost : ℤ)
      → walk_cost (link_arc links levels 1) u vs w ≡ Some cost
      → arcs_sum (λ a v. units_by (step_at market true v a) k) u vs w
      ≡ arcs_sum (on (seller_node market k) (trade_node market k)) u vs w
      -ℤ arcs_sum (on (buyer_node market k) (trade_node market k)) u vs w
  steps_add levels k below u vs w cost walk =
      arcs_same (link_arc links levels 1) (λ a v. units_by (step_at market true v a) k)
      (λ a v. on (seller_node market k) (trade_node market k) a v -ℤ on (buyer_node market k) (trade_node market k) a v)
      u vs w cost (step_adds levels k below) walk
      ∙ arcs_less (on (seller_node market k) (trade_node market k)) (on (buyer_node market k) (trade_node market k)) u vs w

-- ---- the steps of listed nodes

pub units-append : (one other : List (Option UnitStep)) (k : ℕ)
    → units_by (one ++ other) k ≡ units_by one k +ℤ units_by other k
units-append [] other k = omega (arith, ints)
units-append (step ∷ steps) other k = let rest = units-append steps other k in omega (arith, ints, rest)

pub last_is : (u : ℕ) (vs : List ℕ) → get_or (u ∷ vs) (length (u ∷ vs) - 1) 0 ≡ last_of u vs
last_is u [] = refl
last_is u (v ∷ vs) =
    let place : length (u ∷ v ∷ vs) - 1 ≡ suc (length (v ∷ vs) - 1) = omega arith in
    ap (λ (i : ℕ). get_or (u ∷ v ∷ vs) i 0) place ∙ last_is v vs

-- of nodes and the arc that closes them
pub entered_sum : (market : UnitMarket) (u : ℕ) (vs : List ℕ) (w k : ℕ)
    → units_by (entered market u vs) k +ℤ units_by (step_at market true w (last_of u vs)) k
    ≡ arcs_sum (λ a v. units_by (step_at market true v a) k) u vs w
entered_sum market u [] w k = omega (arith, ints)
entered_sum market u (v ∷ vs) w k =
    let rest = entered_sum market v vs w k in
    let parts = units-append (step_at market true v u) (entered market v vs) k in
    omega (arith, ints, rest, parts)

pub round_sum : (market : UnitMarket) (u : ℕ) (vs : List ℕ) (k : ℕ)
    → units_by (entered market (get_or (u ∷ vs) (length (u ∷ vs) - 1) 0) (u ∷ vs)) k
    ≡ arcs_sum (λ a v. units_by (step_at market true v a) k) u vs u
round_sum market u vs k =
    let first = ap (λ (i : ℕ). units_by (entered market i (u ∷ vs)) k) (last_is u vs) in
    let parts = units-append (step_at market true u (last_of u vs)) (entered market u vs) k in
    let whole = entered_sum market u vs u k in
    omega (arith, ints, first, parts, whole)

-- ---- what a unit round a cycle does to counts

-- what crosses between a trade and its two firms, each link once: as much comes from the seller as goes to the buyer
pub crossed : (from_seller to_seller from_buyer to_buyer : ℤ) → pos 0 ≤ℤ from_seller → pos 0 ≤ℤ to_seller
    → pos 0 ≤ℤ from_buyer → pos 0 ≤ℤ to_buyer → (from_seller +ℤ to_seller) ≤ℤ pos 1
    → (to_buyer +ℤ from_buyer) ≤ℤ pos 1 → from_seller -ℤ to_seller ≡ to_buyer -ℤ from_buyer → to_seller ≡ from_buyer
crossed from_seller to_seller from_buyer to_buyer a b c d one two same = omega (arith, ints, a, b, c, d, one, two, same)

-- the units of a trade at its seller and at its buyer after a walk that goes over each link once
pub record AreCrossed (market : UnitMarket) (levels after : List ℕ) (u : ℕ) (vs : List ℕ) (w k : ℕ) : Type 0 where
  pub sold : pos (sold_at market after k) ≡ pos (sold_at market levels k)
      +ℤ (arcs_sum (on (seller_node market k) (trade_node market k)) u vs w
      -ℤ arcs_sum (on (trade_node market k) (seller_node market k)) u vs w)
  pub bought : pos (bought_at market after k) ≡ pos (bought_at market levels k)
      +ℤ (arcs_sum (on (trade_node market k) (buyer_node market k)) u vs w
      -ℤ arcs_sum (on (buyer_node market k) (trade_node market k)) u vs w)

pub crossed_by : (market : UnitMarket) (pins : List Pin) (links : List Link) (levels after : List ℕ) (u : ℕ) (vs : List ℕ)
    (w k : ℕ) → AreLinksOf market pins links → k < length market.trades.items
    → ((j : ℕ) (link : Link) → slice_get links j ≡ Some link
    → pos (get_or after j 0) ≡ pos (get_or levels j 0) +ℤ arcs_sum (more_by link) u vs w)
    → AreCrossed market levels after u vs w k
crossed_by market pins links levels after u vs w k of below level = record {
  sold = by (seller_place market k) (seller_shape market k) (of.sellers k below);
  bought = by (buyer_place market k) (buyer_shape market k) (of.buyers k below);
}
  where
    by : (j : ℕ) (shape : LinkShape) → HasLink links j shape
        → pos (get_or after j 0) ≡ pos (get_or levels j 0)
        +ℤ (arcs_sum (on shape.tail shape.head) u vs w -ℤ arcs_sum (on shape.head shape.tail) u vs w)
    by j shape has =
        let found = shaped_at links j shape has in
        subst (λ (s : LinkShape). pos (get_or after j 0) ≡ pos (get_or levels j 0)
        +ℤ (arcs_sum (on s.tail s.head) u vs w -ℤ arcs_sum (on s.head s.tail) u vs w)) found.shape_is
        (level j found.link found.is
        ∙ ap (λ (z : ℤ). pos (get_or levels j 0) +ℤ z)
        (arcs_less (on found.link.tail found.link.head) (on found.link.head found.link.tail) u vs w))

-- round a cycle the counts change by its steps
pub round_counts : (market : UnitMarket) (links : List Link) (levels : List ℕ) (u : ℕ) (vs : List ℕ) (cost : ℤ)
    → IsFlowOf market [] links levels → cost <ℤ pos 0 → IsCycle (link_arc links levels 1) u vs cost → (k : ℕ)
    → k < length market.trades.items
    → pos (sold_at market (pushed links 1 levels u vs u) k) ≡ pos (sold_at market levels k)
    +ℤ units_by (entered market (get_or (u ∷ vs) (length (u ∷ vs) - 1) 0) (u ∷ vs)) k
round_counts market links levels u vs cost flow negative cycle k below =
    let nodes : ℕ = suc (null_node market) in
    let round = rounded nodes links levels u vs cost flow.plain flow.kept.one_each flow.kept.within negative cycle in
    let moves = crossed_by market [] links levels (pushed links 1 levels u vs u) u vs u k flow.of below round.level in
    let s = seller_node market k in
    let b = buyer_node market k in
    let n = trade_node market k in
    let seller_off : s ≢ n =
    (let low = inner_below market (trade_at market.trades.items k).seller k (between_at market flow.market_is k below).seller in
    λ e. omega (arith, e, low)) in
    let buyer_off : n ≢ b =
    (let low = inner_below market (trade_at market.trades.items k).buyer k (between_at market flow.market_is k below).buyer in
    λ e. omega (arith, e, low)) in
    let gains = cycles_gain nodes links levels 1 u vs cost flow.plain flow.kept negative cycle in
    let before = traded_same market links levels flow k below in
    let after = traded_same market links (pushed links 1 levels u vs u)
    (record { market_is = flow.market_is; of = flow.of; plain = flow.plain; kept = gains.kept }) k below in
    let sold = moves.sold in
    let bought = moves.bought in
    let same = crossed (arcs_sum (on s n) u vs u) (arcs_sum (on n s) u vs u) (arcs_sum (on b n) u vs u)
    (arcs_sum (on n b) u vs u) (never_less s n u vs u) (never_less n s u vs u) (never_less b n u vs u)
    (never_less n b u vs u) (round.once s n seller_off) (round.once n b buyer_off)
    (omega (arith, ints, sold, bought, before, after)) in
    let steps = steps_add market links flow.market_is flow.of flow.plain levels k below u vs u cost cycle.walk in
    let listed = round_sum market u vs k in
    omega (arith, ints, sold, same, steps, listed)

-- ---- each trade has one step at most

-- the trade of a step, and that of a node: none at null
abbrev pub trade_in : Option UnitStep → Option ℕ
trade_in step = option_map (λ one. one.trade) step

abbrev pub trade_at_node : UnitMarket → ℕ → Option ℕ
trade_at_node market v = if v == null_node market then None else Some (v - trade_node market 0)

-- the step of a node
pub record IsStepAt (market : UnitMarket) (v : ℕ) (step : Option UnitStep) : Type 0 where
  pub low : trade_node market 0 ≤ v
  pub trade : trade_in step ≡ trade_at_node market v

record HasStep (market : UnitMarket) (v other : ℕ) : Type 0 where
  step : Option UnitStep
  is : step_at market true v other ≡ step ∷ []
  at : IsStepAt market v step

step_or_none : (market : UnitMarket) (v other : ℕ) → (step_at market true v other ≡ []) ⊎ HasStep market v other
step_or_none market v other = elim (cases_eq v (null_node market)) [
  | inl last ↦
      let test = eq-eqb v (null_node market) last in
      inr (record {
        step = None;
        is = ap (λ (t : Bool). if t then None ∷ [] else if nat_le (trade_node market 0) v then step ∷ [] else []) test;
        at = record {
          low = omega (arith, last);
          trade = sym (ap (λ (t : Bool). if t then None else Some (v - trade_node market 0)) test);
        };
      })
  | inr off ↦
      let first = ne_eqb v (null_node market) off in
      elim (cases_lt v (trade_node market 0)) [
        | inl inner ↦ inl (ap₂ (λ (t : Bool) (s : Bool). if t then None ∷ [] else if s then step ∷ [] else []) first
            (lt-leb (trade_node market 0) v inner))
        | inr past ↦ inr (record {
          step = step;
          is = ap₂ (λ (t : Bool) (s : Bool). if t then None ∷ [] else if s then step ∷ [] else []) first
              (le-leb (trade_node market 0) v past);
          at = record {
            low = past;
            trade = sym (ap (λ (t : Bool). if t then None else Some (v - trade_node market 0)) first);
          };
        })
      ]
]
  where
    step : Option UnitStep
    step = Some (record { trade = trade_of market v; more = sells_at market (trade_of market v) other })

-- a step is that of one of the nodes
record IsStepOf (market : UnitMarket) (vs : List ℕ) (step : Option UnitStep) : Type 0 where
  node : ℕ
  place : ℕ
  is : slice_get vs place ≡ Some node
  at : IsStepAt market node step

step_of : (market : UnitMarket) (before : ℕ) (vs : List ℕ) (j : ℕ) (step : Option UnitStep)
    → slice_get (entered market before vs) j ≡ Some step → IsStepOf market vs step
step_of market before [] j step at = absurd (none-some step at)
step_of market before (v ∷ vs) j step at = elim (step_or_none market v before) [
  | inl none ↦ later (step_of market v vs j step
      (sym (ap (λ (xs : List (Option UnitStep)). slice_get (xs ++ entered market v vs) j) none) ∙ at))
  | inr has ↦ by has (step_of market v vs) j
      (sym (ap (λ (xs : List (Option UnitStep)). slice_get (xs ++ entered market v vs) j) has.is) ∙ at)
]
  where
    later : IsStepOf market vs step → IsStepOf market (v ∷ vs) step
    later rest = record { node = rest.node; place = suc rest.place; is = rest.is; at = rest.at }

    by : (has : HasStep market v before)
        → ((i : ℕ) (one : Option UnitStep) → slice_get (entered market v vs) i ≡ Some one → IsStepOf market vs one)
        → (i : ℕ) → slice_get (has.step ∷ entered market v vs) i ≡ Some step → IsStepOf market (v ∷ vs) step
    by has rest zero is = record {
      node = v;
      place = 0;
      is = refl;
      at = subst (IsStepAt market v) (same_Some has.step step is) has.at;
    }
    by has rest (suc i) is = later (rest i step is)

same_trade : (market : UnitMarket) (v w : ℕ) → trade_node market 0 ≤ v → trade_node market 0 ≤ w
    → trade_at_node market v ≡ trade_at_node market w → v ≡ w
same_trade market v w first second same = elim (cases_eq v (null_node market)) [
  | inl v_null ↦ elim (cases_eq w (null_node market)) [
    | inl w_null ↦ v_null ∙ sym w_null
    | inr w_off ↦ absurd (none-some (w - trade_node market 0) (sym (none v v_null) ∙ same ∙ some w w_off))
  ]
  | inr v_off ↦ elim (cases_eq w (null_node market)) [
    | inl w_null ↦ absurd (none-some (v - trade_node market 0) (sym (none w w_null) ∙ sym same ∙ some v v_off))
    | inr w_off ↦
        let e = same_Some (v - trade_node market 0) (w - trade_node market 0) (sym (some v v_off) ∙ same ∙ some w w_off) in
        omega (arith, e, first, second)
  ]
]
  where
    none : (x : ℕ) → x ≡ null_node market → trade_at_node market x ≡ None
    none x is = ap (λ (t : Bool). if t then None else Some (x - trade_node market 0)) (eq-eqb x (null_node market) is)

    some : (x : ℕ) → x ≢ null_node market → trade_at_node market x ≡ Some (x - trade_node market 0)
    some x off = ap (λ (t : Bool). if t then None else Some (x - trade_node market 0)) (ne_eqb x (null_node market) off)

-- the step of one node before those of others
pub once_more : (market : UnitMarket) (before v : ℕ) (vs : List ℕ) (step : Option UnitStep) → IsStepAt market v step
    → AreOnce (entered market before vs) → Avoids v vs → AreOnce (step ∷ entered market before vs)
once_more market before v vs step is rest avoids = by
  where
    other_node : (k : ℕ) (one : Option UnitStep) → slice_get (entered market before vs) k ≡ Some one
        → trade_in step ≡ trade_in one → ⊥
    other_node k one at same =
        let found = step_of market before vs k one at in
        let node = same_trade market v found.node is.low found.at.low (sym is.trade ∙ same ∙ found.at.trade) in
        avoids found.place 0 (slice_get_within vs found.place found.node found.is)
        (get_or_from_slice_get vs found.place found.node 0 found.is ∙ sym node)

    by : AreOnce (step ∷ entered market before vs)
    by zero zero one other at_j at_k same = refl
    by zero (suc k) one other at_j at_k same =
        absurd (other_node k other at_k (ap trade_in (same_Some step one at_j) ∙ same))
    by (suc j) zero one other at_j at_k same =
        absurd (other_node j one at_j (ap trade_in (same_Some step other at_k) ∙ sym same))
    by (suc j) (suc k) one other at_j at_k same = ap suc (rest j k one other at_j at_k same)

pub entered_once : (market : UnitMarket) (before : ℕ) (vs : List ℕ) → AreApart vs → AreOnce (entered market before vs)
unfolding AreApart
entered_once market before [] apart = λ j k one other at_j at_k same. absurd (none-some one at_j)
entered_once market before (v ∷ vs) apart = elim (step_or_none market v before) [
  | inl none ↦
      subst AreOnce (sym (ap (λ (xs : List (Option UnitStep)). xs ++ entered market v vs) none))
      (entered_once market v vs apart.1)
  | inr has ↦
      subst AreOnce (sym (ap (λ (xs : List (Option UnitStep)). xs ++ entered market v vs) has.is))
      (once_more market v v vs has.step has.at (entered_once market v vs apart.1) apart.0)
]

pub entered_known : (market : UnitMarket) (before : ℕ) (vs : List ℕ) → All (λ v. v < suc (null_node market)) vs → (k : ℕ)
    (step : UnitStep) → slice_get (entered market before vs) k ≡ Some (Some step) → step.trade < length market.trades.items
entered_known market before vs inside k step at =
    let found = step_of market before vs k (Some step) at in
    let low = found.at.low in
    let below = inside found.place 0 (slice_get_within vs found.place found.node found.is) in
    let node = get_or_from_slice_get vs found.place found.node 0 found.is in
    elim (cases_eq found.node (null_node market)) [
      | inl last ↦ absurd (none-some step.trade (sym (ap (λ (t : Bool). if t then None
          else Some (found.node - trade_node market 0)) (eq-eqb found.node (null_node market) last)) ∙ sym found.at.trade))
      | inr off ↦
          let trade = same_Some step.trade (found.node - trade_node market 0) (found.at.trade
          ∙ ap (λ (t : Bool). if t then None else Some (found.node - trade_node market 0))
          (ne_eqb found.node (null_node market) off)) in
          omega (arith, trade, below, node, off, low)
    ]
