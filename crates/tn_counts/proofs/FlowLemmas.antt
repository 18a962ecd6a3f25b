-- The flow over the link of a set is the net count within it, and as much of a trade that isn't pinned is bought as sold.
use Rattle.std.proofs.Common.{◌≡◌, ◌≢◌, ℕ, zero, suc, ◌+◌, ◌-◌, ◌<◌, ◌≤◌, Bool, ◌==◌, if◌then◌else◌, List, [], ◌∷◌, length, get_or, Option, Some, None, slice_get, refl, sym, ap, ◌∙◌, arith, inl, inr, ℤ, pos, ◌+ℤ◌, ◌-ℤ◌, ◌*ℤ◌}
use Rattle.std.proofs.lemmas.Int.{ints}
use Rattle.std.proofs.lemmas.Bool.{cases_eq, cases_lt, eq-eqb, ne_eqb}
use Rattle.std.proofs.lemmas.Option.{slice_get-get_or, slice_get_within}
use Rattle.std.proofs.Math.IntN.{*ℤ-zero, *ℤ-one, *ℤ_comm, zero-*ℤ}
use Rattle.tn_links.specs.declared.link.Link.{Link}
use Rattle.tn_links.specs.Flows.{IsKeptFlow}
use Rattle.tn_links.specs.Links.{ArePlain, room}
use Rattle.tn_links.specs.Totals.{total}
use Rattle.tn_links.proofs.LawLemmas.{AreInside, kept_tension}
use Rattle.tn_links.proofs.TotalLemmas.{minus-times, times-minus, total-minus, total-same, total-zero, total_one}
use Rattle.tn_counts.specs.Counts.{trade_at}
use Rattle.tn_counts.specs.Markets.{IsWideMarket}
use Rattle.tn_counts.specs.Tree.{AreLinksOf, HasLink, LinkShape, bought_at, inner_node, node_above, null_node, root_node, sold_at, trade_node}
use Rattle.tn_counts.specs.declared.market.Pin.{Pin}
use Rattle.tn_counts.specs.declared.market.UnitMarket.{UnitMarket}
use Rattle.tn_counts.specs.declared.set.CountSet.{CountSet}
use Rattle.tn_counts.proofs.ClimbLemmas.{above, above_in, climb, climbed, moved_in, sets_climb}
use Rattle.tn_counts.proofs.PlaceLemmas.{buyer_term, links_sum, pin_in, pin_term, pull, root_term, seller_term, set_in, set_term, shaped_at, tension_placed}
use Rattle.tn_counts.proofs.TreeLemmas.{first_within}

-- a kept flow over the links of a market
pub record IsFlowOf (market : UnitMarket) (pins : List Pin) (links : List Link) (levels : List ℕ) : Type 0 where
  pub market_is : IsWideMarket market
  pub of : AreLinksOf market pins links
  pub plain : ArePlain (suc (null_node market)) links
  pub kept : IsKeptFlow links levels

-- no level is above the units of the link's steps
pub level_within : (links : List Link) (levels : List ℕ) (j : ℕ) (shape : LinkShape) → IsKeptFlow links levels
    → HasLink links j shape → get_or levels j 0 ≤ room shape.steps
level_within links levels j shape kept has =
    let found = shaped_at links j shape has in
    let inside = slice_get_within links j found.link found.is in
    let below = kept.within j (get_or levels j 0) found.link found.is
    (slice_get-get_or levels j 0 (omega (arith, inside, kept.one_each))) in
    let same = ap (λ (s : LinkShape). room s.steps) found.shape_is in
    omega (arith, below, same)

-- what all links pull is nothing
pub kept_pull : (market : UnitMarket) (pins : List Pin) (links : List Link) (levels : List ℕ) (label : ℕ → ℤ)
    → IsFlowOf market pins links levels
    → total (set_term (pull label) market levels) (length market.sets.items)
    +ℤ total (root_term (pull label) market levels) market.firms
    +ℤ total (seller_term (pull label) market levels) (length market.trades.items)
    +ℤ total (buyer_term (pull label) market levels) (length market.trades.items)
    +ℤ total (pin_term (pull label) market pins levels) (length pins) ≡ pos 0
kept_pull market pins links levels label flow =
    let inside : AreInside (suc (null_node market)) links =
    λ j link at. let is = flow.plain.each j link at in (is.tail_inside, is.head_inside) in
    sym (links_sum (pull label) market pins links levels flow.of) ∙ sym (tension_placed links levels label flow.kept.one_each)
    ∙ kept_tension (suc (null_node market)) links levels label inside flow.kept

-- the flow over the link of a set
abbrev pub flow_in : List ℕ → ℕ → Option CountSet → ℤ
flow_in levels i None = pos 0
flow_in levels i (Some set) = pos (get_or levels i 0) -ℤ pos set.back

pub set_pull : (market : UnitMarket) (levels : List ℕ) (label : ℕ → ℤ) (i : ℕ)
    → set_term (pull label) market levels i ≡ climb market label i *ℤ flow_in levels i (slice_get market.sets.items i)
set_pull market levels label i = by (slice_get market.sets.items i)
  where
    by : (o : Option CountSet)
        → set_in (pull label) market levels i o ≡ (label (above_in market i o) -ℤ label i) *ℤ flow_in levels i o
    by None = sym (*ℤ-zero (label (null_node market) -ℤ label i))
    by (Some set) = refl

-- labels of sets' nodes alone
record IsOfSets (market : UnitMarket) (label : ℕ → ℤ) : Type 0 where
  roots : (f : ℕ) → label (root_node market f) ≡ pos 0
  trades : (t : ℕ) → label (trade_node market t) ≡ pos 0

-- nothing times what it takes
pub none_times : (a b : ℤ) → a ≡ pos 0 → a *ℤ b ≡ pos 0
none_times a b none = ap (λ (z : ℤ). z *ℤ b) none ∙ zero-*ℤ b

-- how far the flow over a set's link is from what is bought within it less what is sold
abbrev pub amiss : UnitMarket → List ℕ → ℕ → ℤ
amiss market levels i =
    flow_in levels i (slice_get market.sets.items i)
    -ℤ moved_in market.trades.items (λ t. pos (sold_at market levels t)) (λ t. pos (bought_at market levels t))
    (slice_get market.sets.items i)

amiss_sum : (market : UnitMarket) (pins : List Pin) (links : List Link) (levels : List ℕ) (label : ℕ → ℤ)
    → IsFlowOf market pins links levels → IsOfSets market label
    → total (λ i. climb market label i *ℤ amiss market levels i) (length market.sets.items) ≡ pos 0
amiss_sum market pins links levels label flow only =
    let whole = kept_pull market pins links levels label flow in
    let sets = total-same (set_term (pull label) market levels) (λ i. climb market label i *ℤ flow_at i) m
    (λ i below. set_pull market levels label i) in
    let roots = total-zero (root_term (pull label) market levels) market.firms (λ f below.
    let null = only.trades n in
    let root = only.roots f in
    none_times (label (null_node market) -ℤ label (root_node market f))
    (pos (get_or levels (root_node market f) 0) -ℤ pos 4194304) (omega (arith, ints, null, root))) in
    let pinned = total-zero (pin_term (pull label) market pins levels) (length pins) pin_none in
    let net = sets_climb market label sold bought flow.market_is.laminar in
    let ends = total-minus (λ t. pos 0 -ℤ seller_term (pull label) market levels t) (buyer_term (pull label) market levels) n in
    let sellers = total-minus (λ t. pos 0) (seller_term (pull label) market levels) n in
    let zeros = total-zero (λ t. pos 0) n (λ t below. refl) in
    let same = total-same (climbed market label sold bought)
    (λ t. (pos 0 -ℤ seller_term (pull label) market levels t) -ℤ buyer_term (pull label) market levels t) n end_at in
    let split = total-same (λ i. climb market label i *ℤ amiss market levels i)
    (λ i. climb market label i *ℤ flow_at i -ℤ climb market label i *ℤ moved_at i) m
    (λ i below. times-minus (climb market label i) (flow_at i) (moved_at i)) in
    let parts = total-minus (λ i. climb market label i *ℤ flow_at i) (λ i. climb market label i *ℤ moved_at i) m in
    omega (arith, ints, whole, sets, roots, pinned, net, ends, sellers, zeros, same, split, parts)
  where
    m : ℕ
    m = length market.sets.items

    n : ℕ
    n = length market.trades.items

    sold : ℕ → ℤ
    sold t = pos (sold_at market levels t)

    bought : ℕ → ℤ
    bought t = pos (bought_at market levels t)

    flow_at : ℕ → ℤ
    flow_at i = flow_in levels i (slice_get market.sets.items i)

    moved_at : ℕ → ℤ
    moved_at i = moved_in market.trades.items sold bought (slice_get market.sets.items i)

    pin_none : (k : ℕ) → k < length pins → pin_term (pull label) market pins levels k ≡ pos 0
    pin_none k below = by (slice_get pins k)
      where
        by : (o : Option Pin) → pin_in (pull label) market (get_or levels (length market.sets.items + market.firms + n + n + k) 0) o
            ≡ pos 0
        by None = refl
        by (Some pin) =
            let null = only.trades n in
            let trade = only.trades pin.trade in
            none_times (label (null_node market) -ℤ label (trade_node market pin.trade))
            (pos (get_or levels (length market.sets.items + market.firms + n + n + k) 0) -ℤ pos 4194304)
            (omega (arith, ints, null, trade))

    end_at : (t : ℕ) → t < n → climbed market label sold bought t
        ≡ (pos 0 -ℤ seller_term (pull label) market levels t) -ℤ buyer_term (pull label) market levels t
    end_at t below =
        let buyer = (trade_at market.trades.items t).buyer in
        let seller = (trade_at market.trades.items t).seller in
        let node = only.trades t in
        let to : label (root_node market buyer) -ℤ label (inner_node market buyer t)
        ≡ pos 0 -ℤ (label (inner_node market buyer t) -ℤ label (trade_node market t)) =
        omega (arith, ints, only.roots buyer, node) in
        let from : label (root_node market seller) -ℤ label (inner_node market seller t)
        ≡ label (trade_node market t) -ℤ label (inner_node market seller t) =
        omega (arith, ints, only.roots seller, node) in
        let first = ap (λ (z : ℤ). bought t *ℤ z) to in
        let parts = times-minus (bought t) (pos 0) (label (inner_node market buyer t) -ℤ label (trade_node market t)) in
        let none = *ℤ-zero (bought t) in
        let turned = *ℤ_comm (bought t) (label (inner_node market buyer t) -ℤ label (trade_node market t)) in
        let flows : bought t -ℤ pos 0 ≡ bought t = omega (arith, ints) in
        let own = ap (λ (z : ℤ). (label (inner_node market buyer t) -ℤ label (trade_node market t)) *ℤ z) flows in
        let second = ap (λ (z : ℤ). sold t *ℤ z) from in
        let back = *ℤ_comm (sold t) (label (trade_node market t) -ℤ label (inner_node market seller t)) in
        let sells : sold t -ℤ pos 0 ≡ sold t = omega (arith, ints) in
        let other = ap (λ (z : ℤ). (label (trade_node market t) -ℤ label (inner_node market seller t)) *ℤ z) sells in
        omega (arith, ints, first, parts, none, turned, own, second, back, other)

-- the node above a set is a later one
pub above_later : (market : UnitMarket) (i : ℕ) → i < length market.sets.items → i < above market i
above_later market i inside = by (slice_get market.sets.items i)
  where
    over : (f : ℕ) (members : List ℕ) → i < node_above market i f members
    over f [] = omega (arith, inside)
    over f (t ∷ members) =
        let within = first_within market.sets.items f t (root_node market f) (length market.sets.items - suc i) (suc i)
        (omega (arith, inside)) in
        let low = within.0 in
        omega (arith, low)

    by : (o : Option CountSet) → i < above_in market i o
    by None = omega (arith, inside)
    by (Some set) = over set.firm set.members.items

-- 1 at one node
abbrev pub at_node : ℕ → ℕ → ℤ
at_node j v = if v == j then pos 1 else pos 0

pub at_other : (j v : ℕ) → v ≢ j → at_node j v ≡ pos 0
at_other j v other = ap (λ (b : Bool). if b then pos 1 else pos 0) (ne_eqb v j other)

pub at_same : (j v : ℕ) → v ≡ j → at_node j v ≡ pos 1
at_same j v same = ap (λ (b : Bool). if b then pos 1 else pos 0) (eq-eqb v j same)

-- so the flow over each set's link is what is bought within it less what is sold
pub none_amiss : (market : UnitMarket) (pins : List Pin) (links : List Link) (levels : List ℕ)
    → IsFlowOf market pins links levels → (i : ℕ) → i < length market.sets.items → amiss market levels i ≡ pos 0
none_amiss market pins links levels flow i inside = all (suc i) i (omega arith) inside
  where
    m : ℕ
    m = length market.sets.items

    all : (bound j : ℕ) → j < bound → j < m → amiss market levels j ≡ pos 0
    all zero j below within = absurd (omega (arith, below))
    all (suc bound) j below within =
        let label : ℕ → ℤ = at_node j in
        let only : IsOfSets market label = record {
          roots = λ f. at_other j (root_node market f) (λ e. omega (arith, e, within));
          trades = λ t. at_other j (trade_node market t) (λ e. omega (arith, e, within));
        } in
        let z : ℤ = pos 0 -ℤ amiss market levels j in
        let sum = amiss_sum market pins links levels label flow only in
        let same = total-same (λ i. climb market label i *ℤ amiss market levels i) (λ i. if i == j then z else pos 0) m
        (each (λ i earlier. all bound i (omega (arith, earlier, below)))) in
        let one = total_one z j m within in
        omega (arith, ints, sum, same, one)
      where
        each : ((i : ℕ) → i < j → i < m → amiss market levels i ≡ pos 0) → (i : ℕ) → i < m
            → climb market (at_node j) i *ℤ amiss market levels i
            ≡ (if i == j then pos 0 -ℤ amiss market levels j else pos 0)
        each before i inside = elim (cases_eq i j) [
          | inl same ↦
              let above_is = above_later market i inside in
              let up = at_other j (above market i) (λ e. omega (arith, e, same, above_is)) in
              let own = at_same j i same in
              let rate : climb market (at_node j) i ≡ pos 0 -ℤ pos 1 = omega (arith, ints, up, own) in
              let first = ap (λ (y : ℤ). y *ℤ amiss market levels i) rate in
              let parts = minus-times (pos 0) (pos 1) (amiss market levels i) in
              let none = zero-*ℤ (amiss market levels i) in
              let turned = *ℤ_comm (pos 1) (amiss market levels i) in
              let unit = *ℤ-one (amiss market levels i) in
              let moved_to = ap (amiss market levels) same in
              let test = ap (λ (b : Bool). if b then pos 0 -ℤ amiss market levels j else pos 0) (eq-eqb i j same) in
              omega (arith, ints, first, parts, none, turned, unit, moved_to, test)
          | inr other ↦
              let test = ap (λ (b : Bool). if b then pos 0 -ℤ amiss market levels j else pos 0) (ne_eqb i j other) in
              elim (cases_lt i j) [
                | inl earlier ↦
                    ap (λ (y : ℤ). climb market (at_node j) i *ℤ y) (before i earlier inside) ∙ *ℤ-zero (climb market (at_node j) i) ∙ sym test
                | inr later ↦
                    let above_is = above_later market i inside in
                    let up = at_other j (above market i) (λ e. omega (arith, e, later, above_is)) in
                    let own = at_other j i other in
                    none_times (climb market (at_node j) i) (amiss market levels i) (omega (arith, ints, up, own)) ∙ sym test
              ]
        ]
