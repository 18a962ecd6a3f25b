-- Prices beside given ones, and that a negative cycle bars them.
use Rattle.std.proofs.Common.{◌≡◌, ℕ, zero, suc, ◌+◌, ◌-◌, ◌*◌, ◌<◌, Bool, true, false, ◌==◌, if◌then◌else◌, List, length, map, get_or, Option, Some, None, slice_get, refl, sym, ap, ◌∙◌, subst, arith, ℤ, pos, ◌-ℤ◌, ◌≤ℤ◌, ◌*ℤ◌, ◌⊎◌, inl, inr, All}
use Rattle.std.specs.Prelude.{neg_ℤ, nat_lt}
use Rattle.std.specs.List.{range_with_len}
use Rattle.std.proofs.lemmas.Int.{ints}
use Rattle.std.proofs.lemmas.Bool.{lt-ltb, le-ltb}
use Rattle.std.proofs.lemmas.List.Elements.{All-from_get_or}
use Rattle.std.proofs.Math.IntN.{*ℤ-zero, *ℤ-one, *ℤ_comm, zero-*ℤ}
use Rattle.tn_base.specs.Arcs.{AreSmall, IsAtMost}
use Rattle.tn_base.proofs.SumLemmas.{times-plus}
use Rattle.tn_cycle.specs.Answers.{AreLabels, AreSmallOff, label_in}
use Rattle.tn_links.specs.declared.link.Link.{Link}
use Rattle.tn_links.specs.Flows.{IsKeptFlow}
use Rattle.tn_links.specs.Links.{AddAtMost, ArePlain}
use Rattle.tn_links.specs.LotLemmas.{arc_of, ends_of, lot_at_most}
use Rattle.tn_links.specs.Lots.{link_arc}
use Rattle.tn_links.specs.RiseLemmas.{times_suc}
use Rattle.tn_links.specs.Totals.{total}
use Rattle.tn_links.specs.Widths.{most_each}
use Rattle.tn_links.proofs.TotalLemmas.{minus-times, times-minus, total-same, total-times, total-zero}
use Rattle.tn_counts.specs.Counts.{IsBestCount, CountFirm, count_utility, trade_at}
use Rattle.tn_counts.specs.Laminar.{amounts_at, firm_of}
use Rattle.tn_counts.specs.Markets.{ArePins, IsWideMarket}
use Rattle.tn_counts.specs.Tree.{AreLinksOf, bought_at, counts_at, null_node, pin_place, pin_shape, price_by, root_node, sold_at, trade_node}
use Rattle.tn_counts.specs.Widths.{most_wide_amount}
use Rattle.tn_counts.specs.declared.market.Pin.{Pin}
use Rattle.tn_counts.specs.declared.market.UnitMarket.{UnitMarket}
use Rattle.tn_counts.proofs.FlowLemmas.{IsFlowOf, level_within, none_times}
use Rattle.tn_counts.proofs.NetLemmas.{between_at, end_term, ends_pull}
use Rattle.tn_counts.proofs.PlaceLemmas.{pin_in, pin_term, pull, root_term, shape_gain}
use Rattle.tn_counts.proofs.PlainLemmas.{AreAll, by_place, links_plain}
use Rattle.tn_counts.proofs.PriceLemmas.{prices_are}
use Rattle.tn_counts.proofs.SizeLemmas.{even_at_most}
use Rattle.tn_counts.proofs.SurplusLemmas.{best_same, firm_at, prices_same}
use Rattle.tn_counts.proofs.WorthLemmas.{even_rise}
use Rattle.tn_tree.specs.Levels.{AreLevelsOf}
use Rattle.tn_tree.specs.Lists.{price_in}
use Rattle.tn_tree.specs.Pinned.{ArePricesBeside, HavePins, most_beside_price}
use Rattle.tn_tree.proofs.FirmLemmas.{small_amounts}
use Rattle.tn_tree.proofs.SolveLemmas.{read_at, sized_by}

-- each firm's counts are those of all
pub own_are : (market : UnitMarket) (pins : List Pin) (counts : ℕ → ℕ) (levels : List ℕ)
    → AreLevelsOf market pins counts levels → (f t : ℕ) → t < length market.trades.items
    → counts_at market levels f t ≡ counts t
own_are market pins counts levels have f t below = by (f == (trade_at market.trades.items t).seller)
  where
    by : (b : Bool) → (if b then sold_at market levels t else bought_at market levels t) ≡ counts t
    by true = have.sold t below
    by false = have.bought t below

-- ---- labels

-- no arc of a flow's graph costs more than a unit adds
arcs_slight : (nodes : ℕ) (links : List Link) (levels : List ℕ) → ArePlain nodes links
    → AreSmall (link_arc links levels 1) most_each
arcs_slight nodes links levels plain u v cost e =
    let arc = arc_of links levels 1 u v cost e in
    let small = lot_at_most most_each arc.link arc.level 1 u cost
    (plain.each arc.place arc.link arc.link_is).steps.slight arc.cost_is in
    record { low = omega (arith, ints, small.low); high = omega (arith, ints, small.high) }

-- and none that doesn't meet null costs more than a market's amounts
off_null : (market : UnitMarket) (pins : List Pin) → IsWideMarket market
    → AreAll market pins (λ j shape. AddAtMost most_wide_amount shape.steps ⊎ (shape.head ≡ null_node market))
off_null market pins is = record {
  sets = λ i set at. inl (is.each i set at).small;
  roots = λ f below. inr refl;
  sellers = λ t below. inl (even_at_most most_wide_amount (trade_at market.trades.items t).units
      (amounts_at market.amounts.items t).seller (small_amounts market is t below).0);
  buyers = λ t below. inl (even_at_most most_wide_amount (trade_at market.trades.items t).units
      (amounts_at market.amounts.items t).buyer (small_amounts market is t below).1);
  pinned = λ k pin at. inr refl;
}

arcs_off : (market : UnitMarket) (pins : List Pin) (links : List Link) (levels : List ℕ) → IsWideMarket market
    → AreLinksOf market pins links → AreSmallOff (link_arc links levels 1) (null_node market) most_wide_amount
arcs_off market pins links levels is of u v cost u_off v_off e =
    let arc = arc_of links levels 1 u v cost e in
    elim (by_place market pins links
    (λ j shape. AddAtMost most_wide_amount shape.steps ⊎ (shape.head ≡ null_node market)) of (off_null market pins is)
    arc.place arc.link arc.link_is) [
      | inl small ↦
          let own = lot_at_most most_wide_amount arc.link arc.level 1 u cost small arc.cost_is in
          record { low = omega (arith, ints, own.low); high = omega (arith, ints, own.high) }
      | inr head ↦ absurd (elim (ends_of arc.link u v arc.joined) [
        | inl ends ↦ v_off (sym ends.1 ∙ head)
        | inr ends ↦ u_off (sym ends.1 ∙ head)
      ])
    ]

-- prices by labels
pub record ArePricesBy (market : UnitMarket) (pins : List Pin) (labels prices : List ℤ) : Type 0 where
  pub one_each : length prices ≡ length market.trades.items
  pub given : HavePins pins (pos 1) (price_in prices)
  pub price : (t : ℕ) → t < length market.trades.items → price_by market (label_in labels) t ≡ price_in prices t
  pub small : All (λ price. IsAtMost price most_beside_price) prices

pub priced_beside : (market : UnitMarket) (pins : List Pin) (links : List Link) (levels : List ℕ) (labels : List ℤ)
    (nodes : ℕ) (prices : List ℤ) → ArePins (length market.trades.items) pins → IsFlowOf market pins links levels
    → AreLabels nodes (link_arc links levels 1) labels → nodes ≡ null_node market + 1
    → prices ≡ map (price_by market (label_in labels)) (range_with_len 0 (length market.trades.items))
    → ArePricesBy market pins labels prices
priced_beside market pins links levels labels nodes prices are flow labelled sized priced = record {
  one_each = count;
  given = λ k pin at.
      let one = *ℤ_comm (pos 1) pin.price in
      let unit = *ℤ-one pin.price in
      let own = (prices_are market pins links levels (label_in labels)
      (record { flow = flow; pins_are = are; keeps = labelled.keeps })).given k pin at in
      let read = price pin.trade (are.known k pin at) in
      omega (arith, ints, one, unit, own, read);
  price = price;
  small = All-from_get_or (λ price. IsAtMost price most_beside_price) prices (pos 0) (λ t inside.
      let below : t < length market.trades.items = omega (arith, inside, count) in
      subst (λ price. IsAtMost price most_beside_price) (price t below) (small t below));
}
  where
    count : length prices ≡ length market.trades.items
    count = sized_by (price_by market (label_in labels)) prices (length market.trades.items) (length market.trades.items)
        priced refl

    price : (t : ℕ) → t < length market.trades.items → price_by market (label_in labels) t ≡ price_in prices t
    price t below =
        read_at (price_by market (label_in labels)) prices (length market.trades.items) t (pos 0) priced below

    at : (v : ℕ) → v < nodes
        → (neg_ℤ (pos (13312 * most_wide_amount + 2 * most_each)) ≤ℤ label_in labels v) × (label_in labels v ≤ℤ pos 0)
    at v inside =
        let high = labelled.high v inside in
        let low = labelled.low_off (null_node market) most_wide_amount most_each v
        (arcs_off market pins links levels flow.market_is flow.of)
        (arcs_slight (suc (null_node market)) links levels flow.plain) inside in
        let sets = flow.market_is.few_sets in
        let firms = flow.market_is.few_firms in
        let trades = flow.market_is.few_trades in
        (omega (arith, ints, low, sized, sets, firms, trades), high)

    small : (t : ℕ) → t < length market.trades.items
        → IsAtMost (price_by market (label_in labels) t) most_beside_price
    small t below =
        let one = at (trade_node market t) (omega (arith, sized, below)) in
        let null = at (null_node market) (omega (arith, sized)) in
        record { low = omega (arith, ints, one.0, null.1); high = omega (arith, ints, one.1, null.0) }

-- what each firm has at the levels is best for it at these prices, and so are other lists of the same counts
pub best_beside : (market : UnitMarket) (pins : List Pin) (links : List Link) (levels : List ℕ) (labels prices : List ℤ)
    (nodes f : ℕ) (counts : ℕ → ℕ) → ArePins (length market.trades.items) pins → IsFlowOf market pins links levels
    → AreLabels nodes (link_arc links levels 1) labels → ArePricesBy market pins labels prices → f < market.firms
    → ((t : ℕ) → t < length market.trades.items → counts_at market levels f t ≡ counts t)
    → (value : ℤ) × IsBestCount market.trades.items (count_utility market.trades.items (pos 1) (price_in prices) f
    (firm_of market f)) counts value
best_beside market pins links levels labels prices nodes f counts are flow labelled priced below same =
    let best = (prices_are market pins links levels (label_in labels)
    (record { flow = flow; pins_are = are; keeps = labelled.keeps })).best f below in (
      best.0,
      prices_same market.trades.items (pos 1) (price_by market (label_in labels)) (price_in prices) f
          (firm_of market f) counts best.0 priced.price
          (best_same market (pos 1) (price_by market (label_in labels)) f (counts_at market levels f) counts best.0 same
          best.1),
    )

pub labels_beside : (market : UnitMarket) (pins : List Pin) (links : List Link) (levels : List ℕ) (labels : List ℤ)
    (nodes : ℕ) (counts : ℕ → ℕ) (prices : List ℤ) → IsWideMarket market → ArePins (length market.trades.items) pins
    → AreLinksOf market pins links → IsKeptFlow links levels → AreLevelsOf market pins counts levels
    → AreLabels nodes (link_arc links levels 1) labels → nodes ≡ null_node market + 1
    → prices ≡ map (price_by market (label_in labels)) (range_with_len 0 (length market.trades.items))
    → ArePricesBeside market pins counts prices
labels_beside market pins links levels labels nodes counts prices is are of kept have labelled sized made =
    let flow : IsFlowOf market pins links levels =
    record { market_is = is; of = of; plain = links_plain market pins links is are of; kept = kept } in
    let priced = priced_beside market pins links levels labels nodes prices are flow labelled sized made in
    record {
      one_each = priced.one_each;
      given = priced.given;
      equilibrium = λ f firm at.
          let found = firm_at market f firm at in
          let best = best_beside market pins links levels labels prices nodes f counts are flow labelled priced found.0
          (λ t below. own_are market pins counts levels have f t below) in (
            best.0,
            subst (λ (one : CountFirm). IsBestCount market.trades.items
                (count_utility market.trades.items (pos 1) (price_in prices) f one) counts best.0) (sym found.1) best.1,
          );
      small = priced.small;
    }

-- ---- what pinned trades are paid

-- a price at the node of each trade, and nothing at other nodes
abbrev priced_from : ℕ → ℕ → (ℕ → ℤ) → ℕ → ℤ
priced_from first n prices v =
    if nat_lt v first then pos 0 else if nat_lt (v - first) n then prices (v - first) else pos 0

abbrev priced : UnitMarket → (ℕ → ℤ) → ℕ → ℤ
priced market prices = priced_from (trade_node market 0) (length market.trades.items) prices

priced_before : (market : UnitMarket) (prices : ℕ → ℤ) (v : ℕ) → v < trade_node market 0
    → priced market prices v ≡ pos 0
priced_before market prices v below =
    ap (λ (b : Bool). if b then pos 0 else if nat_lt (v - trade_node market 0) (length market.trades.items)
    then prices (v - trade_node market 0) else pos 0) (lt-ltb v (trade_node market 0) below)

past : (a t : ℕ) → a + t - (a + 0) ≡ t
past a t = omega arith

priced_after : (market : UnitMarket) (prices : ℕ → ℤ) (t : ℕ)
    → priced market prices (trade_node market t)
    ≡ (if nat_lt t (length market.trades.items) then prices t else pos 0)
priced_after market prices t =
    let less : trade_node market t - trade_node market 0 ≡ t = past (length market.sets.items + market.firms) t in
    ap (λ (b : Bool). if b then pos 0
    else if nat_lt (trade_node market t - trade_node market 0) (length market.trades.items)
    then prices (trade_node market t - trade_node market 0) else pos 0)
    (le-ltb (trade_node market t) (trade_node market 0) (omega arith))
    ∙ ap (λ (k : ℕ). if nat_lt k (length market.trades.items) then prices k else pos 0) less

priced_trade : (market : UnitMarket) (prices : ℕ → ℤ) (t : ℕ) → t < length market.trades.items
    → priced market prices (trade_node market t) ≡ prices t
priced_trade market prices t below =
    priced_after market prices t
    ∙ ap (λ (b : Bool). if b then prices t else pos 0) (lt-ltb t (length market.trades.items) below)

priced_null : (market : UnitMarket) (prices : ℕ → ℤ) → priced market prices (null_node market) ≡ pos 0
priced_null market prices =
    priced_after market prices (length market.trades.items)
    ∙ ap (λ (b : Bool). if b then prices (length market.trades.items) else pos 0)
    (le-ltb (length market.trades.items) (length market.trades.items) (omega arith))

-- what flows over a pin is paid at the price of its trade
abbrev pub pays_in : (ℕ → ℤ) → ℕ → Option Pin → ℤ
pays_in prices level None = pos 0
pays_in prices level (Some pin) = prices pin.trade *ℤ (pos level -ℤ pos 4194304)

abbrev pub pays : UnitMarket → List Pin → List ℕ → (ℕ → ℤ) → ℕ → ℤ
pays market pins levels prices k = pays_in prices (get_or levels (pin_place market k) 0) (slice_get pins k)

-- what is sold and not bought is what flows over the pins
pub paid_over : (market : UnitMarket) (pins : List Pin) (links : List Link) (levels : List ℕ) (prices : ℕ → ℤ)
    → ArePins (length market.trades.items) pins → IsFlowOf market pins links levels
    → total (λ t. prices t *ℤ (pos (sold_at market levels t) -ℤ pos (bought_at market levels t)))
    (length market.trades.items)
    ≡ total (pays market pins levels prices) (length pins)
paid_over market pins links levels prices are flow =
    let whole = ends_pull market pins links levels label flow in
    let ends = total-same (end_term market levels label)
    (λ t. prices t *ℤ (pos (sold_at market levels t) -ℤ pos (bought_at market levels t))) (length market.trades.items)
    (λ t below. at_trade t below) in
    let roots = total-zero (root_term (pull label) market levels) market.firms at_root in
    let over = total-same (λ k. pin_term (pull label) market pins levels k)
    (λ k. (pos 0 -ℤ pos 1) *ℤ pays market pins levels prices k) (length pins) (λ k below. at_pin k (slice_get pins k) refl) in
    let times = total-times (pos 0 -ℤ pos 1) (pays market pins levels prices) (length pins) in
    let turned = less_one (total (pays market pins levels prices) (length pins)) in
    omega (arith, ints, whole, ends, roots, over, times, turned)
  where
    label : ℕ → ℤ
    label = priced market prices

    less_one : (z : ℤ) → (pos 0 -ℤ pos 1) *ℤ z ≡ pos 0 -ℤ z
    less_one z =
        let parts = minus-times (pos 0) (pos 1) z in
        let none = zero-*ℤ z in
        let one = *ℤ_comm (pos 1) z in
        let unit = *ℤ-one z in
        omega (arith, ints, parts, none, one, unit)

    at_root : (f : ℕ) → f < market.firms → root_term (pull label) market levels f ≡ pos 0
    at_root f below =
        let null = priced_null market prices in
        let root = priced_before market prices (root_node market f) (omega (arith, below)) in
        none_times (label (null_node market) -ℤ label (root_node market f))
        (pos (get_or levels (root_node market f) 0) -ℤ pos 4194304) (omega (arith, ints, null, root))

    at_trade : (t : ℕ) → t < length market.trades.items → end_term market levels label t
        ≡ prices t *ℤ (pos (sold_at market levels t) -ℤ pos (bought_at market levels t))
    at_trade t below =
        let known = between_at market flow.market_is t below in
        let buyer = root_node market (trade_at market.trades.items t).buyer in
        let seller = root_node market (trade_at market.trades.items t).seller in
        let own = priced_trade market prices t below in
        let first = priced_before market prices buyer (let inside = known.buyer in omega (arith, inside)) in
        let second = priced_before market prices seller (let inside = known.seller in omega (arith, inside)) in
        let buys : label buyer -ℤ label (trade_node market t) ≡ pos 0 -ℤ prices t = omega (arith, ints, own, first) in
        let sells : label seller -ℤ label (trade_node market t) ≡ pos 0 -ℤ prices t = omega (arith, ints, own, second) in
        let one = ap (λ (z : ℤ). z *ℤ pos (bought_at market levels t)) buys in
        let two = ap (λ (z : ℤ). z *ℤ pos (sold_at market levels t)) sells in
        let three = minus-times (pos 0) (prices t) (pos (bought_at market levels t)) in
        let four = minus-times (pos 0) (prices t) (pos (sold_at market levels t)) in
        let five = zero-*ℤ (pos (bought_at market levels t)) in
        let six = zero-*ℤ (pos (sold_at market levels t)) in
        let seven = times-minus (prices t) (pos (sold_at market levels t)) (pos (bought_at market levels t)) in
        omega (arith, ints, one, two, three, four, five, six, seven)

    at_pin : (k : ℕ) (o : Option Pin) → slice_get pins k ≡ o
        → pin_in (pull label) market (get_or levels (pin_place market k) 0) o
        ≡ (pos 0 -ℤ pos 1) *ℤ pays_in prices (get_or levels (pin_place market k) 0) o
    at_pin k None at = sym (*ℤ-zero (pos 0 -ℤ pos 1))
    at_pin k (Some pin) at =
        let x : ℤ = pos (get_or levels (pin_place market k) 0) -ℤ pos 4194304 in
        let own = priced_trade market prices pin.trade (are.known k pin at) in
        let null = priced_null market prices in
        let rate : label (null_node market) -ℤ label (trade_node market pin.trade) ≡ pos 0 -ℤ prices pin.trade =
        omega (arith, ints, own, null) in
        let one = ap (λ (z : ℤ). z *ℤ x) rate in
        let two = minus-times (pos 0) (prices pin.trade) x in
        let three = zero-*ℤ x in
        let four = less_one (prices pin.trade *ℤ x) in
        omega (arith, ints, one, two, three, four)

-- ---- what the pins gain

scale_units : (s p : ℤ) (n : ℕ) → (s *ℤ p) *ℤ pos n ≡ s *ℤ (p *ℤ pos n)
scale_units s p zero =
    let first = *ℤ-zero (s *ℤ p) in
    let second = ap (λ (z : ℤ). s *ℤ z) (*ℤ-zero p) in
    let third = *ℤ-zero s in
    omega (arith, ints, first, second, third)
scale_units s p (suc n) =
    let before = scale_units s p n in
    let first = times_suc (s *ℤ p) n in
    let second = ap (λ (z : ℤ). s *ℤ z) (times_suc p n) in
    let third = times-plus s (p *ℤ pos n) p in
    omega (arith, ints, before, first, second, third)

-- so many times it is what they are paid at so many times their prices
pub pins_pay : (market : UnitMarket) (pins : List Pin) (links : List Link) (levels : List ℕ) (scale : ℤ) (prices : ℕ → ℤ)
    → IsFlowOf market pins links levels → HavePins pins scale prices
    → total (pays market pins levels prices) (length pins)
    ≡ scale *ℤ total (pin_term shape_gain market pins levels) (length pins)
pins_pay market pins links levels scale prices flow have =
    total-same (pays market pins levels prices) (λ k. scale *ℤ pin_term shape_gain market pins levels k) (length pins)
    (λ k below. each k (slice_get pins k) refl)
    ∙ total-times scale (pin_term shape_gain market pins levels) (length pins)
  where
    each : (k : ℕ) (o : Option Pin) → slice_get pins k ≡ o
        → pays_in prices (get_or levels (pin_place market k) 0) o
        ≡ scale *ℤ pin_in shape_gain market (get_or levels (pin_place market k) 0) o
    each k None at = sym (*ℤ-zero scale)
    each k (Some pin) at =
        let level : ℕ = get_or levels (pin_place market k) 0 in
        let within = level_within links levels (pin_place market k) (pin_shape market pin) flow.kept
        (flow.of.pinned k pin at) in
        let first = even_rise 8388608 level pin.price (omega (arith, within)) in
        let second = even_rise 8388608 4194304 pin.price (omega arith) in
        let price = ap (λ (z : ℤ). z *ℤ (pos level -ℤ pos 4194304)) (have k pin at) in
        let split = times-minus (scale *ℤ pin.price) (pos level) (pos 4194304) in
        let one = scale_units scale pin.price level in
        let two = scale_units scale pin.price 4194304 in
        let parts = times-minus scale (pin.price *ℤ pos level) (pin.price *ℤ pos 4194304) in
        let gained : shape_gain (pin_shape market pin) level
        ≡ pin.price *ℤ pos level -ℤ pin.price *ℤ pos 4194304 = omega (arith, ints, first, second) in
        let whole = ap (λ (z : ℤ). scale *ℤ z) gained in
        omega (arith, ints, price, split, one, two, parts, whole)

-- pins over which nothing flows gain nothing
pub idle_gain : (market : UnitMarket) (pins : List Pin) (levels : List ℕ)
    → ((k : ℕ) → k < length pins → get_or levels (pin_place market k) 0 ≡ 4194304)
    → total (pin_term shape_gain market pins levels) (length pins) ≡ pos 0
idle_gain market pins levels idle =
    total-zero (pin_term shape_gain market pins levels) (length pins)
    (λ k below. each (get_or levels (pin_place market k) 0) (slice_get pins k) (idle k below))
  where
    each : (level : ℕ) (o : Option Pin) → level ≡ 4194304 → pin_in shape_gain market level o ≡ pos 0
    each level None is = refl
    each level (Some pin) is =
        let same = ap (λ (n : ℕ). shape_gain (pin_shape market pin) n) is in
        let none : shape_gain (pin_shape market pin) 4194304 ≡ pos 0 = omega (arith, ints) in
        same ∙ none
