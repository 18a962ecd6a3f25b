-- No flow over a root's link or a pin's comes near its bounds.
use Rattle.std.proofs.Common.{◌≡◌, ◌≢◌, ℕ, zero, suc, ◌<◌, ◌≤◌, ◌⊎◌, Bool, ◌==◌, if◌then◌else◌, List, [], ◌∷◌, length, get_or, Option, Some, None, slice_get, refl, sym, ap, ◌∙◌, arith, inl, inr, ℤ, pos, ◌-ℤ◌, ◌≤ℤ◌, ◌*ℤ◌}
use Rattle.std.specs.Prelude.{sum_by}
use Rattle.std.proofs.lemmas.Int.{ints}
use Rattle.std.proofs.lemmas.Bool.{cases_eq, eq-eqb, ne_eqb}
use Rattle.std.proofs.lemmas.List.Sums.{sum_by-cons}
use Rattle.std.proofs.lemmas.Option.{same_Some, slice_get_within}
use Rattle.std.proofs.Math.IntN.{*ℤ-one, *ℤ_comm}
use Rattle.tn_base.specs.Arcs.{IsAtMost}
use Rattle.tn_links.specs.declared.link.Link.{Link}
use Rattle.tn_links.specs.Totals.{total}
use Rattle.tn_links.proofs.TotalLemmas.{total-first, total-minus, total-most, total-same, total-zero, total_one}
use Rattle.tn_counts.specs.Counts.{trade_at}
use Rattle.tn_counts.specs.Markets.{ArePins}
use Rattle.tn_counts.specs.Tree.{bought_at, buyer_place, buyer_shape, null_node, pin_place, root_node, seller_place, seller_shape, sold_at, trade_node}
use Rattle.tn_counts.specs.Widths.{most_market_units}
use Rattle.tn_counts.specs.declared.market.Pin.{Pin}
use Rattle.tn_counts.specs.declared.market.UnitMarket.{UnitMarket}
use Rattle.tn_counts.specs.declared.trade.UnitTrade.{UnitTrade}
use Rattle.tn_counts.proofs.FlowLemmas.{IsFlowOf, at_node, at_other, at_same, level_within, none_times}
use Rattle.tn_counts.proofs.NetLemmas.{end_term, ends_pull, minus_one, trade_flow, trade_nodes}
use Rattle.tn_counts.proofs.PlaceLemmas.{item_at, pin_in, pin_term, pull, root_term}

-- the units of all trades
pub units_total : (trades : List UnitTrade)
    → total (λ t. pos (trade_at trades t).units) (length trades) ≡ pos (sum_by (λ trade. trade.units) trades)
unfolding total
units_total [] = refl
units_total (trade ∷ trades) =
    let rest = units_total trades in
    let first = total-first (λ t. pos (trade_at (trade ∷ trades) t).units) (length trades) in
    let sum = sum_by-cons (λ (trade : UnitTrade). trade.units) trade trades in
    omega (arith, ints, rest, first, sum)

pub units_below : (trades : List UnitTrade) (t : ℕ) → t < length trades
    → (trade_at trades t).units ≤ sum_by (λ trade. trade.units) trades
units_below [] t below = absurd (omega (arith, below))
units_below (trade ∷ trades) zero below =
    let sum = sum_by-cons (λ (trade : UnitTrade). trade.units) trade trades in
    omega (arith, sum)
units_below (trade ∷ trades) (suc t) below =
    let rest = units_below trades t (omega (arith, below)) in
    let sum = sum_by-cons (λ (trade : UnitTrade). trade.units) trade trades in
    omega (arith, rest, sum)

pub sold_within : (market : UnitMarket) (pins : List Pin) (links : List Link) (levels : List ℕ)
    → IsFlowOf market pins links levels → (t : ℕ) → t < length market.trades.items
    → sold_at market levels t ≤ (trade_at market.trades.items t).units
sold_within market pins links levels flow t below =
    let within = level_within links levels (seller_place market t) (seller_shape market t) flow.kept (flow.of.sellers t below) in
    omega (arith, within)

pub bought_within : (market : UnitMarket) (pins : List Pin) (links : List Link) (levels : List ℕ)
    → IsFlowOf market pins links levels → (t : ℕ) → t < length market.trades.items
    → bought_at market levels t ≤ (trade_at market.trades.items t).units
bought_within market pins links levels flow t below =
    let within = level_within links levels (buyer_place market t) (buyer_shape market t) flow.kept (flow.of.buyers t below) in
    omega (arith, within)

-- 0 or 1 times a count
some_of : (a : ℤ) (n most : ℕ) → (a ≡ pos 0) ⊎ (a ≡ pos 1) → n ≤ most
    → (pos 0 ≤ℤ (a *ℤ pos n)) × ((a *ℤ pos n) ≤ℤ pos most)
some_of a n most which below = elim which [
  | inl none ↦
      let zero_is = none_times a (pos n) none in
      (omega (arith, ints, zero_is), omega (arith, ints, zero_is))
  | inr one ↦
      let first = ap (λ (z : ℤ). z *ℤ pos n) one in
      let turned = *ℤ_comm (pos 1) (pos n) in
      let unit = *ℤ-one (pos n) in
      (omega (arith, ints, first, turned, unit), omega (arith, ints, first, turned, unit, below))
]

zero_or_one : (j v k : ℕ) → k ≢ j → ((at_node j v -ℤ at_node j k) ≡ pos 0) ⊎ ((at_node j v -ℤ at_node j k) ≡ pos 1)
zero_or_one j v k other =
    let second = at_other j k other in
    elim (cases_eq v j) [
      | inl same ↦ let first = at_same j v same in inr (omega (arith, ints, first, second))
      | inr apart ↦ let first = at_other j v apart in inl (omega (arith, ints, first, second))
    ]

-- the flow over a root's link is small
pub root_small : (market : UnitMarket) (pins : List Pin) (links : List Link) (levels : List ℕ)
    → IsFlowOf market pins links levels → (f : ℕ) → f < market.firms
    → IsAtMost (pos (get_or levels (root_node market f) 0) -ℤ pos 4194304) most_market_units
root_small market pins links levels flow f inside =
    let whole = ends_pull market pins links levels label flow in
    let z : ℤ = pos 0 -ℤ x in
    let roots = total-same (root_term (pull label) market levels) (λ g. if g == f then z else pos 0) market.firms root_at in
    let one = total_one z f market.firms inside in
    let pinned = total-zero (pin_term (pull label) market pins levels) (length pins) pin_none in
    let most = total-most (end_term market levels label) units n (λ t below. (each t below).1) in
    let least = total-most (λ t. pos 0 -ℤ units t) (end_term market levels label) n (λ t below. (each t below).0) in
    let turned = total-minus (λ t. pos 0) units n in
    let zeros = total-zero (λ t. pos 0) n (λ t below. refl) in
    let sum = units_total market.trades.items in
    let few = flow.market_is.few_units in
    record {
      low = omega (arith, ints, whole, roots, one, pinned, most, sum, least, turned, zeros, few);
      high = omega (arith, ints, whole, roots, one, pinned, most, sum, least, turned, zeros, few);
    }
  where
    label : ℕ → ℤ
    label = at_node (root_node market f)

    n : ℕ
    n = length market.trades.items

    x : ℤ
    x = pos (get_or levels (root_node market f) 0) -ℤ pos 4194304

    units : ℕ → ℤ
    units t = pos (trade_at market.trades.items t).units

    trade_apart : (t : ℕ) → trade_node market t ≢ root_node market f
    trade_apart t e = omega (arith, e, inside)

    root_at : (g : ℕ) → g < market.firms
        → root_term (pull label) market levels g ≡ (if g == f then pos 0 -ℤ x else pos 0)
    root_at g below =
        let null = at_other (root_node market f) (null_node market) (λ e. omega (arith, e, inside)) in
        elim (cases_eq g f) [
          | inl same ↦
              let own = at_same (root_node market f) (root_node market g) (ap (root_node market) same) in
              let minus = minus_one (label (null_node market) -ℤ label (root_node market g))
              (pos (get_or levels (root_node market g) 0) -ℤ pos 4194304) (omega (arith, ints, null, own)) in
              let moved_to = ap (λ (k : ℕ). pos (get_or levels (root_node market k) 0) -ℤ pos 4194304) same in
              let test = ap (λ (b : Bool). if b then pos 0 -ℤ x else pos 0) (eq-eqb g f same) in
              omega (arith, ints, minus, moved_to, test)
          | inr other ↦
              let own = at_other (root_node market f) (root_node market g) (λ e. other (omega (arith, e))) in
              none_times (label (null_node market) -ℤ label (root_node market g))
              (pos (get_or levels (root_node market g) 0) -ℤ pos 4194304) (omega (arith, ints, null, own))
              ∙ sym (ap (λ (b : Bool). if b then pos 0 -ℤ x else pos 0) (ne_eqb g f other))
        ]

    pin_none : (k : ℕ) → k < length pins → pin_term (pull label) market pins levels k ≡ pos 0
    pin_none k below = by (slice_get pins k)
      where
        by : (o : Option Pin) → pin_in (pull label) market (get_or levels (pin_place market k) 0) o ≡ pos 0
        by None = refl
        by (Some pin) =
            let null = at_other (root_node market f) (null_node market) (λ e. omega (arith, e, inside)) in
            let trade = at_other (root_node market f) (trade_node market pin.trade) (trade_apart pin.trade) in
            none_times (label (null_node market) -ℤ label (trade_node market pin.trade))
            (pos (get_or levels (pin_place market k) 0) -ℤ pos 4194304) (omega (arith, ints, null, trade))

    each : (t : ℕ) → t < n → ((pos 0 -ℤ units t) ≤ℤ end_term market levels label t)
        × (end_term market levels label t ≤ℤ units t)
    each t below =
        let buyer = root_node market (trade_at market.trades.items t).buyer in
        let seller = root_node market (trade_at market.trades.items t).seller in
        let bought = some_of (label buyer -ℤ label (trade_node market t)) (bought_at market levels t)
        (trade_at market.trades.items t).units (zero_or_one (root_node market f) buyer (trade_node market t) (trade_apart t))
        (bought_within market pins links levels flow t below) in
        let sold = some_of (label seller -ℤ label (trade_node market t)) (sold_at market levels t)
        (trade_at market.trades.items t).units (zero_or_one (root_node market f) seller (trade_node market t) (trade_apart t))
        (sold_within market pins links levels flow t below) in
        (omega (arith, ints, bought.0, bought.1, sold.0, sold.1), omega (arith, ints, bought.0, bought.1, sold.0, sold.1))

-- nor is that over a pin's
pub pin_small : (market : UnitMarket) (pins : List Pin) (links : List Link) (levels : List ℕ)
    → ArePins (length market.trades.items) pins → IsFlowOf market pins links levels → (k : ℕ) (pin : Pin)
    → slice_get pins k ≡ Some pin
    → IsAtMost (pos (get_or levels (pin_place market k) 0) -ℤ pos 4194304) most_market_units
pin_small market pins links levels are flow k pin at =
    let inside = are.known k pin at in
    let whole = trade_flow market pins links levels flow pin.trade inside in
    let z : ℤ = pos 0 -ℤ x in
    let same = total-same (pin_term (pull label) market pins levels) (λ j. if j == k then z else pos 0) (length pins) pin_at in
    let one = total_one z k (length pins) (slice_get_within pins k pin at) in
    let sold = sold_within market pins links levels flow pin.trade inside in
    let bought = bought_within market pins links levels flow pin.trade inside in
    let few = flow.market_is.few_units in
    let units = units_below market.trades.items pin.trade inside in
    record {
      low = omega (arith, ints, whole, same, one, sold, bought, few, units);
      high = omega (arith, ints, whole, same, one, sold, bought, few, units);
    }
  where
    label : ℕ → ℤ
    label = at_node (trade_node market pin.trade)

    x : ℤ
    x = pos (get_or levels (pin_place market k) 0) -ℤ pos 4194304

    null : label (null_node market) ≡ pos 0
    null =
        let inside = are.known k pin at in
        at_other (trade_node market pin.trade) (null_node market) (λ e. omega (arith, e, inside))

    pin_at : (j : ℕ) → j < length pins
        → pin_term (pull label) market pins levels j ≡ (if j == k then pos 0 -ℤ x else pos 0)
    pin_at j below =
        let found = item_at pins j below in
        let here : pin_term (pull label) market pins levels j ≡ (label (null_node market)
        -ℤ label (trade_node market found.0.trade)) *ℤ (pos (get_or levels (pin_place market j) 0) -ℤ pos 4194304) =
        ap (pin_in (pull label) market (get_or levels (pin_place market j) 0)) found.1 in
        elim (cases_eq j k) [
          | inl same ↦
              let pins_same : found.0 ≡ pin = same_Some found.0 pin (sym found.1 ∙ ap (slice_get pins) same ∙ at) in
              let own = at_same (trade_node market pin.trade) (trade_node market found.0.trade)
              (ap (λ (p : Pin). trade_node market p.trade) pins_same) in
              let minus = minus_one (label (null_node market) -ℤ label (trade_node market found.0.trade))
              (pos (get_or levels (pin_place market j) 0) -ℤ pos 4194304) (omega (arith, ints, null, own)) in
              let moved_to = ap (λ (i : ℕ). pos (get_or levels (pin_place market i) 0) -ℤ pos 4194304) same in
              let test = ap (λ (b : Bool). if b then pos 0 -ℤ x else pos 0) (eq-eqb j k same) in
              omega (arith, ints, here, minus, moved_to, test)
          | inr other ↦
              let own = at_other (trade_node market pin.trade) (trade_node market found.0.trade)
              (trade_nodes market found.0.trade pin.trade (λ e. other (are.once j k found.0 pin found.1 at e))) in
              here
              ∙ none_times (label (null_node market) -ℤ label (trade_node market found.0.trade))
              (pos (get_or levels (pin_place market j) 0) -ℤ pos 4194304) (omega (arith, ints, null, own))
              ∙ sym (ap (λ (b : Bool). if b then pos 0 -ℤ x else pos 0) (ne_eqb j k other))
        ]
