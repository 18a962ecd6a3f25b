-- What flows into the nodes of a market by counts is the net count of each set, and what its firm buys less what it sells
-- at a root.
use Rattle.std.proofs.Common.{◌≡◌, ℕ, zero, suc, ◌+◌, ◌-◌, ◌*◌, ◌^◌, ◌<◌, ◌≤◌, Bool, true, false, ◌==◌, if◌then◌else◌, List, length, get_or, Option, Some, None, slice_get, refl, sym, ap, ap₂, ◌∙◌, arith, inl, inr, ℤ, pos, ◌+ℤ◌, ◌-ℤ◌, ◌≤ℤ◌, ◌*ℤ◌}
use Rattle.std.specs.Prelude.{set}
use Rattle.std.proofs.lemmas.Int.{ints}
use Rattle.std.proofs.lemmas.Bool.{cases_eq, eq-eqb, ne_eqb}
use Rattle.std.proofs.lemmas.List.{length-set}
use Rattle.std.proofs.Math.IntN.{*ℤ-zero, *ℤ-one, *ℤ_comm}
use Rattle.tn_base.specs.Arcs.{IsAtMost}
use Rattle.tn_links.specs.Totals.{total}
use Rattle.tn_links.proofs.BalanceLemmas.{added}
use Rattle.tn_links.proofs.TotalLemmas.{times-minus, total-minus, total-most, total-same, total-zero, total_one}
use Rattle.tn_counts.specs.Counts.{AreCounts, trade_at}
use Rattle.tn_counts.specs.Laminar.{holds}
use Rattle.tn_counts.specs.Markets.{IsWideMarket}
use Rattle.tn_counts.specs.Tree.{inner_node, root_node}
use Rattle.tn_counts.specs.Widths.{most_market_units}
use Rattle.tn_counts.specs.declared.market.UnitMarket.{UnitMarket}
use Rattle.tn_counts.specs.declared.set.CountSet.{CountSet}
use Rattle.tn_counts.proofs.ClimbLemmas.{above, climb, climbed, moved, moved_in, sets_climb}
use Rattle.tn_counts.proofs.FlowLemmas.{above_later, at_node, at_other, at_same}
use Rattle.tn_counts.proofs.SmallLemmas.{units_below, units_total}
use Rattle.tn_tree.specs.Lists.{count_in}
use Rattle.tn_tree.specs.Nets.{end_at, firm_net, most_sum, net_at}

pub times_unit : (z : ℤ) → z *ℤ pos 1 ≡ z
times_unit z = let one = *ℤ-one z in omega (arith, ints, one)

-- a number by a test is one times 1 at a node
pub pick : (v j : ℕ) (z : ℤ) → (if v == j then z else pos 0) ≡ z *ℤ at_node v j
pick v j z = elim (cases_eq v j) [
  | inl same ↦
      ap (λ (b : Bool). if b then z else pos 0) (eq-eqb v j same)
      ∙ sym (ap (λ (y : ℤ). z *ℤ y) (at_same v j (sym same)) ∙ times_unit z)
  | inr other ↦
      ap (λ (b : Bool). if b then z else pos 0) (ne_eqb v j other)
      ∙ sym (ap (λ (y : ℤ). z *ℤ y) (at_other v j (λ e. other (sym e))) ∙ *ℤ-zero z)
]

pub total_next : (c : ℕ → ℤ) (k : ℕ) → total c (k + 1) ≡ total c k +ℤ c k
unfolding total
total_next c k = let next : k + 1 ≡ suc k = omega arith in ap (total c) next

-- ---- sums over sets and over trades

-- what a set brings to the node above it
abbrev pub up_at : UnitMarket → List ℕ → List ℕ → ℕ → ℕ → ℤ
up_at market sold bought v i = if v == above market i then net_at market sold bought i else pos 0

-- what the sets and the trades bring to a node
abbrev pub flows_in : UnitMarket → List ℕ → List ℕ → ℕ → ℕ → ℤ
flows_in market sold bought k v =
    total (end_at market sold bought v) (length market.trades.items) +ℤ total (up_at market sold bought v) k

-- what the trades bring to a node that is a root
abbrev root_at : UnitMarket → List ℕ → List ℕ → ℕ → ℕ → ℤ
root_at market sold bought v t =
    pos (count_in bought t) *ℤ at_node v (root_node market (trade_at market.trades.items t).buyer)
    -ℤ pos (count_in sold t) *ℤ at_node v (root_node market (trade_at market.trades.items t).seller)

nets_sum : (market : UnitMarket) (sold bought : List ℕ) (v : ℕ) → IsWideMarket market
    → total (up_at market sold bought v) (length market.sets.items)
    -ℤ total (λ i. net_at market sold bought i *ℤ at_node v i) (length market.sets.items)
    ≡ total (root_at market sold bought v) (length market.trades.items)
    -ℤ total (end_at market sold bought v) (length market.trades.items)
nets_sum market sold bought v is =
    let whole = sets_climb market (at_node v) (λ t. pos (count_in sold t)) (λ t. pos (count_in bought t)) is.laminar in
    let left = total-same
    (λ i. climb market (at_node v) i *ℤ net_at market sold bought i)
    (λ i. up_at market sold bought v i -ℤ net_at market sold bought i *ℤ at_node v i) (length market.sets.items)
    (λ i below. set_at i) in
    let left_parts = total-minus (up_at market sold bought v) (λ i. net_at market sold bought i *ℤ at_node v i)
    (length market.sets.items) in
    let right = total-same
    (climbed market (at_node v) (λ t. pos (count_in sold t)) (λ t. pos (count_in bought t)))
    (λ t. root_at market sold bought v t -ℤ end_at market sold bought v t) (length market.trades.items)
    (λ t below. trade_is t) in
    let right_parts = total-minus (root_at market sold bought v) (end_at market sold bought v)
    (length market.trades.items) in
    omega (arith, ints, whole, left, left_parts, right, right_parts)
  where
    set_at : (i : ℕ) → climb market (at_node v) i *ℤ net_at market sold bought i
        ≡ up_at market sold bought v i -ℤ net_at market sold bought i *ℤ at_node v i
    set_at i =
        let net = net_at market sold bought i in
        let turned = *ℤ_comm (climb market (at_node v) i) net in
        let parts = times-minus net (at_node v (above market i)) (at_node v i) in
        let picked = pick v (above market i) net in
        omega (arith, ints, turned, parts, picked)

    trade_is : (t : ℕ) → climbed market (at_node v) (λ t. pos (count_in sold t)) (λ t. pos (count_in bought t)) t
        ≡ root_at market sold bought v t -ℤ end_at market sold bought v t
    trade_is t =
        let buyer = (trade_at market.trades.items t).buyer in
        let seller = (trade_at market.trades.items t).seller in
        let buys = times-minus (pos (count_in bought t)) (at_node v (root_node market buyer))
        (at_node v (inner_node market buyer t)) in
        let sells = times-minus (pos (count_in sold t)) (at_node v (root_node market seller))
        (at_node v (inner_node market seller t)) in
        let first = pick v (inner_node market buyer t) (pos (count_in bought t)) in
        let second = pick v (inner_node market seller t) (pos (count_in sold t)) in
        omega (arith, ints, buys, sells, first, second)

-- so what flows into the node of a set is its net count
pub set_in_is : (market : UnitMarket) (sold bought : List ℕ) (v : ℕ) → IsWideMarket market → v < length market.sets.items
    → flows_in market sold bought (length market.sets.items) v ≡ net_at market sold bought v
set_in_is market sold bought v is below =
    let whole = nets_sum market sold bought v is in
    let own = total-same (λ i. net_at market sold bought i *ℤ at_node v i)
    (λ i. if i == v then net_at market sold bought v else pos 0) (length market.sets.items) (λ i inside. own_at i) in
    let one = total_one (net_at market sold bought v) v (length market.sets.items) below in
    let roots = total-zero (root_at market sold bought v) (length market.trades.items) (λ t inside. none_at t) in
    omega (arith, ints, whole, own, one, roots)
  where
    own_at : (i : ℕ) → net_at market sold bought i *ℤ at_node v i ≡ (if i == v then net_at market sold bought v else pos 0)
    own_at i = elim (cases_eq i v) [
      | inl same ↦
          ap (λ (y : ℤ). net_at market sold bought i *ℤ y) (at_same v i same) ∙ times_unit (net_at market sold bought i)
          ∙ ap (net_at market sold bought) same
          ∙ sym (ap (λ (b : Bool). if b then net_at market sold bought v else pos 0) (eq-eqb i v same))
      | inr other ↦
          ap (λ (y : ℤ). net_at market sold bought i *ℤ y) (at_other v i other) ∙ *ℤ-zero (net_at market sold bought i)
          ∙ sym (ap (λ (b : Bool). if b then net_at market sold bought v else pos 0) (ne_eqb i v other))
    ]

    none_at : (t : ℕ) → root_at market sold bought v t ≡ pos 0
    none_at t =
        let buyer = (trade_at market.trades.items t).buyer in
        let seller = (trade_at market.trades.items t).seller in
        let first = ap (λ (y : ℤ). pos (count_in bought t) *ℤ y)
        (at_other v (root_node market buyer) (λ e. omega (arith, e, below))) ∙ *ℤ-zero (pos (count_in bought t)) in
        let second = ap (λ (y : ℤ). pos (count_in sold t) *ℤ y)
        (at_other v (root_node market seller) (λ e. omega (arith, e, below))) ∙ *ℤ-zero (pos (count_in sold t)) in
        omega (arith, ints, first, second)

-- and that into a root is what its firm buys less what it sells
pub root_in_is : (market : UnitMarket) (sold bought : List ℕ) (f : ℕ) → IsWideMarket market
    → flows_in market sold bought (length market.sets.items) (root_node market f) ≡ firm_net market sold bought f
root_in_is market sold bought f is =
    let v = root_node market f in
    let whole = nets_sum market sold bought v is in
    let own = total-zero (λ i. net_at market sold bought i *ℤ at_node v i) (length market.sets.items) none_at in
    let roots = total-same (root_at market sold bought v)
    (λ t. moved f (trade_at market.trades.items t) (pos (count_in sold t)) (pos (count_in bought t)))
    (length market.trades.items) (λ t inside. here t) in
    omega (arith, ints, whole, own, roots)
  where
    none_at : (i : ℕ) → i < length market.sets.items → net_at market sold bought i *ℤ at_node (root_node market f) i ≡ pos 0
    none_at i inside =
        ap (λ (y : ℤ). net_at market sold bought i *ℤ y) (at_other (root_node market f) i (λ e. omega (arith, e, inside)))
        ∙ *ℤ-zero (net_at market sold bought i)

    root_same : (g : ℕ) (z : ℤ) → z *ℤ at_node (root_node market f) (root_node market g) ≡ (if f == g then z else pos 0)
    root_same g z = elim (cases_eq f g) [
      | inl same ↦
          ap (λ (y : ℤ). z *ℤ y) (at_same (root_node market f) (root_node market g) (ap (root_node market) (sym same)))
          ∙ times_unit z ∙ sym (ap (λ (b : Bool). if b then z else pos 0) (eq-eqb f g same))
      | inr other ↦
          ap (λ (y : ℤ). z *ℤ y)
          (at_other (root_node market f) (root_node market g) (λ e. other (omega (arith, e)))) ∙ *ℤ-zero z
          ∙ sym (ap (λ (b : Bool). if b then z else pos 0) (ne_eqb f g other))
    ]

    here : (t : ℕ) → root_at market sold bought (root_node market f) t
        ≡ moved f (trade_at market.trades.items t) (pos (count_in sold t)) (pos (count_in bought t))
    here t =
        ap₂ (λ (x : ℤ) (y : ℤ). x -ℤ y) (root_same (trade_at market.trades.items t).buyer (pos (count_in bought t)))
        (root_same (trade_at market.trades.items t).seller (pos (count_in sold t)))

-- later sets bring nothing to the node of a set
pub up_until : (market : UnitMarket) (sold bought : List ℕ) (v d : ℕ) → v + d ≤ length market.sets.items
    → total (up_at market sold bought v) (v + d) ≡ total (up_at market sold bought v) v
unfolding total
up_until market sold bought v zero within =
    let same : v + 0 ≡ v = omega arith in
    ap (total (up_at market sold bought v)) same
up_until market sold bought v (suc d) within =
    let next : v + suc d ≡ suc (v + d) = omega arith in
    let before = up_until market sold bought v d (omega (arith, within)) in
    let later = above_later market (v + d) (omega (arith, within)) in
    let none = ap (λ (b : Bool). if b then net_at market sold bought (v + d) else pos 0)
    (ne_eqb v (above market (v + d)) (λ e. omega (arith, e, later))) in
    let whole = ap (total (up_at market sold bought v)) next in
    omega (arith, ints, before, none, whole)

pub set_in_now : (market : UnitMarket) (sold bought : List ℕ) (v : ℕ) → IsWideMarket market → v < length market.sets.items
    → flows_in market sold bought v v ≡ net_at market sold bought v
set_in_now market sold bought v is below =
    let all = set_in_is market sold bought v is below in
    let rest : ℕ = length market.sets.items - v in
    let sum : v + rest ≡ length market.sets.items = omega (arith, below) in
    let until = up_until market sold bought v rest (omega (arith, sum)) in
    let same = ap (total (up_at market sold bought v)) sum in
    omega (arith, ints, all, until, same)

-- ---- sizes

pub total_small : (f g : ℕ → ℤ) (n : ℕ) → ((k : ℕ) → k < n → ((pos 0 -ℤ g k) ≤ℤ f k) × (f k ≤ℤ g k))
    → ((pos 0 -ℤ total g n) ≤ℤ total f n) × (total f n ≤ℤ total g n)
total_small f g n each =
    let high = total-most f g n (λ k below. (each k below).1) in
    let low = total-most (λ k. pos 0 -ℤ g k) f n (λ k below. (each k below).0) in
    let parts = total-minus (λ k. pos 0) g n in
    let zeros = total-zero (λ k. pos 0) n (λ k below. refl) in
    (omega (arith, ints, low, parts, zeros), high)

-- what is within the units of each trade is in sum within those of all
pub units_small : (market : UnitMarket) (f : ℕ → ℤ) → IsWideMarket market
    → ((t : ℕ) → t < length market.trades.items → ((pos 0 -ℤ pos (trade_at market.trades.items t).units) ≤ℤ f t)
    × (f t ≤ℤ pos (trade_at market.trades.items t).units))
    → IsAtMost (total f (length market.trades.items)) most_market_units
units_small market f is each =
    let small = total_small f (λ t. pos (trade_at market.trades.items t).units) (length market.trades.items) each in
    let sum = units_total market.trades.items in
    let few = is.few_units in
    record { low = omega (arith, ints, small.0, sum, few); high = omega (arith, ints, small.1, sum, few) }

-- at most one side of a difference by tests
pub one_side : (s b : Bool) (sold bought units : ℕ) → sold ≤ units → bought ≤ units
    → ((pos 0 -ℤ pos units) ≤ℤ ((if b then pos bought else pos 0) -ℤ (if s then pos sold else pos 0)))
    × (((if b then pos bought else pos 0) -ℤ (if s then pos sold else pos 0)) ≤ℤ pos units)
one_side true true sold bought units few fewer = (omega (arith, ints, few, fewer), omega (arith, ints, few, fewer))
one_side true false sold bought units few fewer = (omega (arith, ints, few, fewer), omega (arith, ints, few, fewer))
one_side false true sold bought units few fewer = (omega (arith, ints, few, fewer), omega (arith, ints, few, fewer))
one_side false false sold bought units few fewer = (omega (arith, ints, few, fewer), omega (arith, ints, few, fewer))

pub net_small : (market : UnitMarket) (sold bought : List ℕ) (i : ℕ) → IsWideMarket market
    → AreCounts market.trades.items (count_in sold) → AreCounts market.trades.items (count_in bought)
    → IsAtMost (net_at market sold bought i) most_market_units
net_small market sold bought i is few fewer = by (slice_get market.sets.items i)
  where
    within : (set : CountSet) (t : ℕ) → t < length market.trades.items → (h : Bool)
        → ((pos 0 -ℤ pos (trade_at market.trades.items t).units)
        ≤ℤ (if h then moved set.firm (trade_at market.trades.items t) (pos (count_in sold t)) (pos (count_in bought t)) else pos 0))
        × ((if h then moved set.firm (trade_at market.trades.items t) (pos (count_in sold t)) (pos (count_in bought t)) else pos 0)
        ≤ℤ pos (trade_at market.trades.items t).units)
    within set t below true =
        one_side (set.firm == (trade_at market.trades.items t).seller) (set.firm == (trade_at market.trades.items t).buyer)
        (count_in sold t) (count_in bought t) (trade_at market.trades.items t).units (few t below) (fewer t below)
    within set t below false = (omega (arith, ints), omega (arith, ints))

    by : (o : Option CountSet) → IsAtMost (moved_in market.trades.items (λ t. pos (count_in sold t)) (λ t. pos (count_in bought t)) o)
        most_market_units
    by None = record { low = omega (arith, ints); high = omega (arith, ints) }
    by (Some set) =
        units_small market
        (λ t. if holds set t then moved set.firm (trade_at market.trades.items t) (pos (count_in sold t)) (pos (count_in bought t)) else pos 0)
        is (λ t below. within set t below (holds set t))

pub ends_small : (market : UnitMarket) (sold bought : List ℕ) (v : ℕ) → IsWideMarket market
    → AreCounts market.trades.items (count_in sold) → AreCounts market.trades.items (count_in bought)
    → IsAtMost (total (end_at market sold bought v) (length market.trades.items)) most_market_units
ends_small market sold bought v is few fewer =
    units_small market (end_at market sold bought v) is (λ t below.
    one_side (v == inner_node market (trade_at market.trades.items t).seller t)
    (v == inner_node market (trade_at market.trades.items t).buyer t)
    (count_in sold t) (count_in bought t) (trade_at market.trades.items t).units (few t below) (fewer t below))

ups_small : (market : UnitMarket) (sold bought : List ℕ) (v k : ℕ) → IsWideMarket market
    → AreCounts market.trades.items (count_in sold) → AreCounts market.trades.items (count_in bought)
    → IsAtMost (total (up_at market sold bought v) k) (k * 1048576)
unfolding total
ups_small market sold bought v zero is few fewer = record { low = omega (arith, ints); high = omega (arith, ints) }
ups_small market sold bought v (suc k) is few fewer =
    let before = ups_small market sold bought v k is few fewer in
    let net = net_small market sold bought k is few fewer in
    let here = by (v == above market k) net in
    record {
      low = omega (arith, ints, before.low, here.low);
      high = omega (arith, ints, before.high, here.high);
    }
  where
    by : (b : Bool) → IsAtMost (net_at market sold bought k) most_market_units
        → IsAtMost (if b then net_at market sold bought k else pos 0) 1048576
    by true net = record { low = omega (arith, ints, net.low); high = omega (arith, ints, net.high) }
    by false net = record { low = omega (arith, ints); high = omega (arith, ints) }

pub flows_small : (market : UnitMarket) (sold bought : List ℕ) (k v : ℕ) → IsWideMarket market
    → AreCounts market.trades.items (count_in sold) → AreCounts market.trades.items (count_in bought) → k ≤ 4096
    → IsAtMost (flows_in market sold bought k v) most_sum
flows_small market sold bought k v is few fewer sets =
    let first = ends_small market sold bought v is few fewer in
    let second = ups_small market sold bought v k is few fewer in
    record {
      low = omega (arith, ints, first.low, second.low, sets);
      high = omega (arith, ints, first.high, second.high, sets);
    }

-- ---- node by node

-- the first trades bring few units to a node
pub ends_so_far : (market : UnitMarket) (sold bought : List ℕ) (v k : ℕ) → IsWideMarket market
    → AreCounts market.trades.items (count_in sold) → AreCounts market.trades.items (count_in bought)
    → k ≤ length market.trades.items → IsAtMost (total (end_at market sold bought v) k) (k * 1048576)
unfolding total
ends_so_far market sold bought v zero is few fewer within = record { low = omega (arith, ints); high = omega (arith, ints) }
ends_so_far market sold bought v (suc k) is few fewer within =
    let before = ends_so_far market sold bought v k is few fewer (omega (arith, within)) in
    let below : k < length market.trades.items = omega (arith, within) in
    let units = units_below market.trades.items k below in
    let all = is.few_units in
    let here = one_side (v == inner_node market (trade_at market.trades.items k).seller k)
    (v == inner_node market (trade_at market.trades.items k).buyer k) (count_in sold k) (count_in bought k)
    (trade_at market.trades.items k).units (few k below) (fewer k below) in
    record {
      low = omega (arith, ints, before.low, here.0, units, all);
      high = omega (arith, ints, before.high, here.1, units, all);
    }

pub ends_sum : (market : UnitMarket) (sold bought : List ℕ) (numbers : List ℤ) (k v : ℕ) → IsWideMarket market
    → AreCounts market.trades.items (count_in sold) → AreCounts market.trades.items (count_in bought)
    → k ≤ length market.trades.items → get_or numbers v (pos 0) ≡ total (end_at market sold bought v) k
    → IsAtMost (get_or numbers v (pos 0)) (10 ^ 12)
ends_sum market sold bought numbers k v is few fewer within so_far =
    let small = ends_so_far market sold bought v k is few fewer within in
    let trades = is.few_trades in
    record {
      low = omega (arith, ints, small.low, so_far, within, trades);
      high = omega (arith, ints, small.high, so_far, within, trades);
    }

-- what a number is after units were brought to one place and taken from another
pub moved_at : (before middle after : List ℤ) (p q v bought sold : ℕ) → p < length before → q < length before
    → middle ≡ set before p (get_or before p (pos 0) +ℤ pos bought)
    → after ≡ set middle q (get_or middle q (pos 0) -ℤ pos sold)
    → get_or after v (pos 0) ≡ get_or before v (pos 0)
    +ℤ ((if v == p then pos bought else pos 0) -ℤ (if v == q then pos sold else pos 0))
moved_at before middle after p q v bought sold p_in q_in first second =
    let one = ap (λ (xs : List ℤ). get_or xs v (pos 0)) first ∙ added before p v (pos bought) p_in in
    let sized = ap length first ∙ length-set before p (get_or before p (pos 0) +ℤ pos bought) in
    let same : get_or middle q (pos 0) -ℤ pos sold ≡ get_or middle q (pos 0) +ℤ (pos 0 -ℤ pos sold) = omega (arith, ints) in
    let two = ap (λ (xs : List ℤ). get_or xs v (pos 0)) (second ∙ ap (set middle q) same)
    ∙ added middle q v (pos 0 -ℤ pos sold) (omega (arith, q_in, sized)) in
    let turned = by (v == q) in
    omega (arith, ints, one, two, turned)
  where
    by : (b : Bool) → (if b then pos 0 -ℤ pos sold else pos 0) ≡ pos 0 -ℤ (if b then pos sold else pos 0)
    by true = refl
    by false = refl

pub ends_more : (market : UnitMarket) (sold bought : List ℕ) (before middle after : List ℤ) (p q k v b s : ℕ)
    → p < length before → q < length before
    → get_or before v (pos 0) ≡ total (end_at market sold bought v) k
    → middle ≡ set before p (get_or before p (pos 0) +ℤ pos b) → after ≡ set middle q (get_or middle q (pos 0) -ℤ pos s)
    → p ≡ inner_node market (trade_at market.trades.items k).buyer k
    → q ≡ inner_node market (trade_at market.trades.items k).seller k
    → b ≡ count_in bought k → s ≡ count_in sold k
    → get_or after v (pos 0) ≡ total (end_at market sold bought v) (k + 1)
ends_more market sold bought before middle after p q k v b s p_in q_in so_far first second buyer seller buys sells =
    let step = moved_at before middle after p q v b s p_in q_in first second in
    let next = total_next (end_at market sold bought v) k in
    let one = ap₂ (λ (n : ℕ) (u : ℕ). if v == n then pos u else pos 0) buyer buys in
    let two = ap₂ (λ (n : ℕ) (u : ℕ). if v == n then pos u else pos 0) seller sells in
    omega (arith, ints, step, next, one, two, so_far)

-- and after a set's net count was brought to the node above it
pub up_more : (market : UnitMarket) (sold bought : List ℕ) (before after : List ℤ) (p k v : ℕ) (net : ℤ)
    → IsWideMarket market → k < length market.sets.items → p < length before
    → ((w : ℕ) → get_or before w (pos 0) ≡ flows_in market sold bought k w)
    → net ≡ get_or before k (pos 0) → after ≡ set before p (get_or before p (pos 0) +ℤ net) → p ≡ above market k
    → get_or after v (pos 0) ≡ flows_in market sold bought (k + 1) v
up_more market sold bought before after p k v net is below inside so_far read made above_is =
    let here = so_far v in
    let step = ap (λ (xs : List ℤ). get_or xs v (pos 0)) made ∙ added before p v net inside in
    let net_is = read ∙ so_far k ∙ set_in_now market sold bought k is below in
    let next = total_next (up_at market sold bought v) k in
    let same = ap₂ (λ (n : ℕ) (z : ℤ). if v == n then z else pos 0) above_is net_is in
    omega (arith, ints, here, step, next, same)

pub none_yet : (market : UnitMarket) (sold bought : List ℕ) (numbers : List ℤ) (v : ℕ) → get_or numbers v (pos 0) ≡ pos 0
    → get_or numbers v (pos 0) ≡ total (end_at market sold bought v) 0
unfolding total
none_yet market sold bought numbers v is = is

pub nothing_up : (market : UnitMarket) (sold bought : List ℕ) (numbers : List ℤ) (v : ℕ)
    → get_or numbers v (pos 0) ≡ total (end_at market sold bought v) (length market.trades.items)
    → get_or numbers v (pos 0) ≡ flows_in market sold bought 0 v
unfolding total
nothing_up market sold bought numbers v is = omega (arith, ints, is)

pub few_units : {z : ℤ} → IsAtMost z (10 ^ 12) → IsAtMost z most_sum
few_units {z} small = record { low = omega (arith, ints, small.low); high = omega (arith, ints, small.high) }

pub one_more : (market : UnitMarket) (bought : List ℕ) (before after : List ℤ) (p q k : ℕ) → IsWideMarket market
    → AreCounts market.trades.items (count_in bought) → k < length market.trades.items → p < length before
    → after ≡ set before p (get_or before p (pos 0) +ℤ pos (count_in bought k))
    → IsAtMost (get_or before q (pos 0)) (10 ^ 12) → IsAtMost (get_or after q (pos 0)) most_sum
one_more market bought before after p q k is few below inside made small =
    let step = ap (λ (xs : List ℤ). get_or xs q (pos 0)) made ∙ added before p q (pos (count_in bought k)) inside in
    let own = few k below in
    let units = units_below market.trades.items k below in
    let all = is.few_units in
    let here = by (q == p) in
    record {
      low = omega (arith, ints, step, small.low, here.0);
      high = omega (arith, ints, step, small.high, here.1, own, units, all);
    }
  where
    by : (b : Bool) → (pos 0 ≤ℤ (if b then pos (count_in bought k) else pos 0))
        × ((if b then pos (count_in bought k) else pos 0) ≤ℤ pos (count_in bought k))
    by true = (omega (arith, ints), omega (arith, ints))
    by false = (omega (arith, ints), omega (arith, ints))
