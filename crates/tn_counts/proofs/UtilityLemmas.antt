-- A firm's utility at prices that are labels, as a sum over the links of its sets and trades.
use Rattle.std.proofs.Common.{◌≡◌, ℕ, Bool, true, false, ◌==◌, if◌then◌else◌, List, length, Option, Some, None, slice_get, refl, sym, ap, ap₂, ◌∙◌, arith, inl, inr, ℤ, pos, ◌+ℤ◌, ◌-ℤ◌, ◌*ℤ◌}
use Rattle.std.proofs.lemmas.Int.{ints}
use Rattle.std.proofs.lemmas.Bool.{cases_eq, eq-eqb, eqb-true, ne_eqb}
use Rattle.std.proofs.Math.IntN.{*ℤ_comm, zero-*ℤ}
use Rattle.tn_base.proofs.SumLemmas.{times-plus}
use Rattle.tn_links.specs.Totals.{total}
use Rattle.tn_links.proofs.TotalLemmas.{minus-times, total-minus, total-plus, total-same, total-zero}
use Rattle.tn_counts.specs.Counts.{paid_to, payments, trade_at}
use Rattle.tn_counts.specs.Laminar.{amount_sum, amount_to, amounts_at, bought_by, holds, net_count}
use Rattle.tn_counts.specs.Markets.{AreLaminar}
use Rattle.tn_counts.specs.Tree.{inner_node, null_node, price_by, root_node, trade_node}
use Rattle.tn_counts.specs.declared.market.UnitMarket.{UnitMarket}
use Rattle.tn_counts.specs.declared.set.CountSet.{CountSet}
use Rattle.tn_counts.specs.declared.trade.UnitTrade.{UnitTrade}
use Rattle.tn_counts.proofs.ClimbLemmas.{climb, climbed, moved, moved_in, sets_climb}
use Rattle.tn_counts.proofs.WorthLemmas.{sets_value, value_in}

-- a number that is there by a test
abbrev pub when : Bool → ℤ → ℤ
when test z = if test then z else pos 0

total-when : (test : Bool) (f : ℕ → ℤ) (n : ℕ) → total (λ k. when test (f k)) n ≡ when test (total f n)
total-when true f n = refl
total-when false f n = total-zero (λ k. pos 0) n (λ k below. refl)

-- the units that firm f sells and buys
abbrev pub sold_by : UnitMarket → ℕ → (ℕ → ℕ) → ℕ → ℤ
sold_by market f counts t = when (f == (trade_at market.trades.items t).seller) (pos (counts t))

abbrev pub bought_of : UnitMarket → ℕ → (ℕ → ℕ) → ℕ → ℤ
bought_of market f counts t = when (f == (trade_at market.trades.items t).buyer) (pos (counts t))

-- two tests in either order
both_tests : (f g b : ℕ) (z : ℤ) → when (g == b) (when (f == b) z) ≡ when (f == g) (when (g == b) z)
both_tests f g b z = elim (cases_eq f g) [
  | inl same ↦
      ap (λ (h : ℕ). when (g == b) (when (h == b) z)) same
      ∙ twice (g == b) ∙ sym (ap (λ (t : Bool). when t (when (g == b) z)) (eq-eqb f g same))
  | inr other ↦ elim (cases_eq g b) [
    | inl own ↦
        ap (λ (t : Bool). when (g == b) (when t z)) (ne_eqb f b (λ e. other (e ∙ sym own)))
        ∙ none (g == b) ∙ sym (ap (λ (t : Bool). when t (when (g == b) z)) (ne_eqb f g other))
    | inr apart ↦
        ap (λ (t : Bool). when t (when (f == b) z)) (ne_eqb g b apart)
        ∙ sym (ap (λ (t : Bool). when t (when (g == b) z)) (ne_eqb f g other))
  ]
]
  where
    twice : (t : Bool) → when t (when t z) ≡ when t z
    twice true = refl
    twice false = refl

    none : (t : Bool) → when t (pos 0) ≡ pos 0
    none true = refl
    none false = refl

-- the net count within a set, if it is one of firm f
abbrev pub own_net : UnitMarket → ℕ → (ℕ → ℕ) → Option CountSet → ℤ
own_net market f counts None = pos 0
own_net market f counts (Some set) = when (f == set.firm) (net_count market.trades.items set counts)

own_moved : (market : UnitMarket) (f : ℕ) (counts : ℕ → ℕ) (o : Option CountSet)
    → moved_in market.trades.items (sold_by market f counts) (bought_of market f counts) o ≡ own_net market f counts o
own_moved market f counts None = refl
own_moved market f counts (Some set) =
    total-same
    (λ t. when (holds set t) (moved set.firm (trade_at trades t) (sold_by market f counts t) (bought_of market f counts t)))
    (λ t. when (f == set.firm) (when (holds set t) (bought_by set.firm (trade_at trades t) (pos (counts t))))) (length trades)
    (λ t below. each t)
    ∙ total-when (f == set.firm) (λ t. when (holds set t) (bought_by set.firm (trade_at trades t) (pos (counts t))))
    (length trades)
  where
    trades : List UnitTrade
    trades = market.trades.items

    inside : (h t : Bool) (u v : ℤ) → when h (when t u -ℤ when t v) ≡ when t (when h (u -ℤ v))
    inside true true u v = refl
    inside true false u v = refl
    inside false true u v = refl
    inside false false u v = refl

    each : (t : ℕ)
        → when (holds set t) (moved set.firm (trade_at trades t) (sold_by market f counts t) (bought_of market f counts t))
        ≡ when (f == set.firm) (when (holds set t) (bought_by set.firm (trade_at trades t) (pos (counts t))))
    each t =
        let buyer = (trade_at trades t).buyer in
        let seller = (trade_at trades t).seller in
        ap₂ (λ (x : ℤ) (y : ℤ). when (holds set t) (x -ℤ y)) (both_tests f set.firm buyer (pos (counts t)))
        (both_tests f set.firm seller (pos (counts t)))
        ∙ inside (holds set t) (f == set.firm) (when (set.firm == buyer) (pos (counts t)))
        (when (set.firm == seller) (pos (counts t)))

-- what the link of a set brings firm f by counts, its climb taken in
abbrev pub set_part_in : UnitMarket → (ℕ → ℤ) → ℕ → (ℕ → ℕ) → ℕ → Option CountSet → ℤ
set_part_in market label f counts i o =
    value_in market.trades.items f counts o +ℤ climb market label i *ℤ own_net market f counts o

abbrev pub set_part : UnitMarket → (ℕ → ℤ) → ℕ → (ℕ → ℕ) → ℕ → ℤ
set_part market label f counts i = set_part_in market label f counts i (slice_get market.sets.items i)

-- what a unit over the links of a trade brings its seller and its buyer
abbrev pub seller_rate : UnitMarket → (ℕ → ℤ) → ℕ → ℤ
seller_rate market label t =
    (amounts_at market.amounts.items t).seller
    +ℤ (label (trade_node market t) -ℤ label (inner_node market (trade_at market.trades.items t).seller t))

abbrev pub buyer_rate : UnitMarket → (ℕ → ℤ) → ℕ → ℤ
buyer_rate market label t =
    (amounts_at market.amounts.items t).buyer
    +ℤ (label (inner_node market (trade_at market.trades.items t).buyer t) -ℤ label (trade_node market t))

abbrev pub trade_part : UnitMarket → (ℕ → ℤ) → ℕ → (ℕ → ℕ) → ℕ → ℤ
trade_part market label f counts t =
    when (f == (trade_at market.trades.items t).seller) (seller_rate market label t *ℤ pos (counts t))
    +ℤ when (f == (trade_at market.trades.items t).buyer) (buyer_rate market label t *ℤ pos (counts t))

pub plus-times : (a b u : ℤ) → (a +ℤ b) *ℤ u ≡ a *ℤ u +ℤ b *ℤ u
plus-times a b u =
    let turned = *ℤ_comm (a +ℤ b) u in
    let parts = times-plus u a b in
    let first = *ℤ_comm u a in
    let second = *ℤ_comm u b in
    omega (arith, ints, turned, parts, first, second)

-- at one end: an amount, a price and the climb to the root are an amount and the climb from the trade
sells : (test : Bool) (a x node null inner root : ℤ) → (test ≡ true → root ≡ null)
    → when test a *ℤ x +ℤ when test (node -ℤ null) *ℤ x +ℤ when test x *ℤ (root -ℤ inner)
    ≡ when test ((a +ℤ (node -ℤ inner)) *ℤ x)
sells true a x node null inner root same =
    let root_is = same refl in
    let turned = *ℤ_comm x (root -ℤ inner) in
    let third = ap (λ (z : ℤ). (z -ℤ inner) *ℤ x) root_is in
    let one = minus-times node null x in
    let two = minus-times null inner x in
    let three = minus-times node inner x in
    let sum = plus-times a (node -ℤ inner) x in
    omega (arith, ints, turned, third, one, two, three, sum)
sells false a x node null inner root same =
    let first = zero-*ℤ x in
    let second = zero-*ℤ (root -ℤ inner) in
    omega (arith, ints, first, second)

buys : (test : Bool) (a x node null inner root : ℤ) → (test ≡ true → root ≡ null)
    → (when test a *ℤ x -ℤ when test (node -ℤ null) *ℤ x) -ℤ when test x *ℤ (root -ℤ inner)
    ≡ when test ((a +ℤ (inner -ℤ node)) *ℤ x)
buys true a x node null inner root same =
    let root_is = same refl in
    let turned = *ℤ_comm x (root -ℤ inner) in
    let third = ap (λ (z : ℤ). (z -ℤ inner) *ℤ x) root_is in
    let one = minus-times node null x in
    let two = minus-times null inner x in
    let three = minus-times inner node x in
    let sum = plus-times a (inner -ℤ node) x in
    omega (arith, ints, turned, third, one, two, three, sum)
buys false a x node null inner root same =
    let first = zero-*ℤ x in
    let second = zero-*ℤ (root -ℤ inner) in
    omega (arith, ints, first, second)

-- the utility of counts to firm f, where what its sets add is this sum
pub utility_is : (market : UnitMarket) (label : ℕ → ℤ) (f : ℕ) (counts : ℕ → ℕ) → AreLaminar market.sets.items
    → label (root_node market f) ≡ label (null_node market)
    → amount_sum market.trades.items market.amounts.items f counts
    +ℤ sets_value market.trades.items f counts market.sets.items
    +ℤ payments market.trades.items (price_by market label) f counts
    ≡ total (set_part market label f counts) (length market.sets.items)
    +ℤ total (trade_part market label f counts) (length market.trades.items)
utility_is market label f counts laminar root =
    let parts = total-plus (λ i. value_in trades f counts (slice_get market.sets.items i))
    (λ i. climb market label i *ℤ own_net market f counts (slice_get market.sets.items i)) m in
    let nets = total-same (λ i. climb market label i *ℤ moved_in trades sold bought (slice_get market.sets.items i))
    (λ i. climb market label i *ℤ own_net market f counts (slice_get market.sets.items i)) m
    (λ i below. ap (λ (z : ℤ). climb market label i *ℤ z) (own_moved market f counts (slice_get market.sets.items i))) in
    let climbing = sets_climb market label sold bought laminar in
    let same = total-same (trade_part market label f counts)
    (λ t. (amount t +ℤ paid t) -ℤ climbed market label sold bought t) n (λ t below. each t) in
    let split = total-minus (λ t. amount t +ℤ paid t) (climbed market label sold bought) n in
    let sum = total-plus amount paid n in
    omega (arith, ints, parts, nets, climbing, same, split, sum)
  where
    trades : List UnitTrade
    trades = market.trades.items

    m : ℕ
    m = length market.sets.items

    n : ℕ
    n = length trades

    sold : ℕ → ℤ
    sold = sold_by market f counts

    bought : ℕ → ℤ
    bought = bought_of market f counts

    amount : ℕ → ℤ
    amount t = amount_to f (trade_at trades t) (amounts_at market.amounts.items t) *ℤ pos (counts t)

    paid : ℕ → ℤ
    paid t = paid_to f (price_by market label t) (trade_at trades t) *ℤ pos (counts t)

    each : (t : ℕ) → trade_part market label f counts t ≡ (amount t +ℤ paid t) -ℤ climbed market label sold bought t
    each t =
        let seller = (trade_at trades t).seller in
        let buyer = (trade_at trades t).buyer in
        let amounts = amounts_at market.amounts.items t in
        let price = price_by market label t in
        let first = sells (f == seller) amounts.seller (pos (counts t)) (label (trade_node market t))
        (label (null_node market)) (label (inner_node market seller t)) (label (root_node market seller)) (at_end seller) in
        let second = buys (f == buyer) amounts.buyer (pos (counts t)) (label (trade_node market t))
        (label (null_node market)) (label (inner_node market buyer t)) (label (root_node market buyer)) (at_end buyer) in
        let adds = plus-times (when (f == seller) amounts.seller) (when (f == buyer) amounts.buyer) (pos (counts t)) in
        let pays = minus-times (when (f == seller) price) (when (f == buyer) price) (pos (counts t)) in
        omega (arith, ints, first, second, adds, pays)
      where
        at_end : (g : ℕ) → (f == g) ≡ true → label (root_node market g) ≡ label (null_node market)
        at_end g is = ap (λ (k : ℕ). label (root_node market k)) (sym (eqb-true f g is)) ∙ root
