-- What a settled flow over the links of a market says in lists of counts and of prices.
use Rattle.std.proofs.Common.{◌≡◌, ℕ, ◌+◌, ◌*◌, ◌<◌, ◌≤◌, ◌==◌, if◌then◌else◌, List, [], length, map, get_or, Some, refl, sym, ap, ap₂, ◌∙◌, subst, arith, ℤ, pos, ◌+ℤ◌, ◌≤ℤ◌}
use Rattle.std.specs.Prelude.{slice_get, All, neg_ℤ}
use Rattle.std.specs.List.{range_with_len}
use Rattle.std.proofs.lemmas.Int.{ints}
use Rattle.std.proofs.lemmas.List.Elements.{All-from_get_or}
use Rattle.std.proofs.lemmas.List.FromFn.{get_or-map-range_with_len, length-map-range_with_len}
use Rattle.std.proofs.lemmas.Option.{same_Some, slice_get_within}
use Rattle.tn_base.specs.Arcs.{IsAtMost}
use Rattle.tn_cycle.specs.Answers.{AreLabels, label_in}
use Rattle.tn_cycle.specs.Widths.{most_graph_nodes, most_read}
use Rattle.tn_links.specs.declared.link.Link.{Link}
use Rattle.tn_links.specs.Flows.{IsKeptFlow, total_gain}
use Rattle.tn_links.specs.Links.{ArePlain}
use Rattle.tn_links.specs.LotLemmas.{light_units}
use Rattle.tn_links.specs.Lots.{link_arc}
use Rattle.tn_links.specs.Widths.{most_each}
use Rattle.tn_counts.specs.Counts.{IsBestCount, IsEquilibriumByCounts, count_surplus, count_utility, trade_at}
use Rattle.tn_counts.specs.Laminar.{constants, firm_of, firms_of}
use Rattle.tn_counts.specs.Markets.{ArePins, IsUnitMarket, IsWideMarket}
use Rattle.tn_counts.specs.Tree.{AreLinksOf, counts_at, null_node, price_by, sold_at, trade_node}
use Rattle.tn_counts.specs.Widths.{most_set_units, most_unit_amount, most_unit_price, most_unit_surplus}
use Rattle.tn_counts.specs.declared.market.Pin.{Pin}
use Rattle.tn_counts.specs.declared.market.UnitMarket.{UnitMarket}
use Rattle.tn_counts.proofs.PlainLemmas.{links_plain}
use Rattle.tn_counts.proofs.PriceLemmas.{prices_are}
use Rattle.tn_counts.proofs.SizeLemmas.{unit_arcs_small}
use Rattle.tn_counts.proofs.SurplusLemmas.{best_same, equilibrium_same, flows_counts, labels_equilibrium, prices_same, surplus_same}
use Rattle.tn_counts.proofs.WideLemmas.{wide_market}
use Rattle.tn_tree.proofs.BuildLemmas.{range_get}
use Rattle.tn_tree.specs.Lists.{count_in, own_counts, pin_of, price_in}

-- a number of a list that is made by number
pub read_at : {A : Type 0} (f : ℕ → A) (list : List A) (n t : ℕ) (d : A) → list ≡ map f (range_with_len 0 n) → t < n
    → f t ≡ get_or list t d
read_at f list n t d made below =
    let place : 0 + t ≡ t = omega arith in
    sym (ap (λ xs. get_or xs t d) made ∙ get_or-map-range_with_len f 0 n t t d below place)

pub sized_by : {A : Type 0} (f : ℕ → A) (list : List A) (n size : ℕ) → list ≡ map f (range_with_len 0 n) → n ≡ size
    → length list ≡ size
sized_by f list n size made sized = ap length made ∙ length-map-range_with_len f 0 n ∙ sized

-- the levels of the links from a place on
pub levels_read : (levels counts : List ℕ) (n place base t : ℕ)
    → counts ≡ map (λ k. get_or levels (place + k) 0) (range_with_len 0 n) → t < n → place + t ≡ base + t
    → get_or levels (base + t) 0 ≡ count_in counts t
levels_read levels counts n place base t made below same =
    ap (λ (k : ℕ). get_or levels k 0) (sym same) ∙ read_at (λ k. get_or levels (place + k) 0) counts n t 0 made below

-- labels that a search answers are small enough to be read
pub labels_small : (size nodes : ℕ) (links : List Link) (levels : List ℕ) (labels : List ℤ) → ArePlain size links
    → nodes ≤ most_graph_nodes → AreLabels nodes (link_arc links levels 1) labels → (v : ℕ) → v < length labels
    → IsAtMost (label_in labels v) most_read
labels_small size nodes links levels labels plain few are v below =
    let inside : v < nodes = let sized = are.one_each in omega (arith, sized, below) in
    let high = are.high v inside in
    let low = are.low 1000000000000000000 v (light_units size links levels plain) inside in
    record { low = omega (arith, ints, low, few); high = omega (arith, ints, high) }

-- what a walk or a cycle costs that has no node twice
pub arcs_small : (k : ℕ) (cost : ℤ) → k < 9217 → IsAtMost cost ((k + 1) * most_unit_amount) → IsAtMost cost most_unit_price
arcs_small k cost below at =
    let low = at.low in
    let high = at.high in
    record { low = omega (arith, ints, below, low, high); high = omega (arith, ints, below, low, high) }

-- what a label and the difference of two are at most, where a unit costs little
pub prices_small : (market : UnitMarket) (links : List Link) (levels : List ℕ) (labels : List ℤ) (nodes : ℕ)
    (prices : List ℤ) → IsUnitMarket market → AreLinksOf market [] links
    → AreLabels nodes (link_arc links levels 1) labels → nodes ≡ null_node market + 1
    → prices ≡ map (price_by market (label_in labels)) (range_with_len 0 (length market.trades.items))
    → All (λ price. IsAtMost price most_unit_price) prices
prices_small market links levels labels nodes prices is of are sized priced =
    All-from_get_or (λ price. IsAtMost price most_unit_price) prices (pos 0) (λ t inside.
    let count = sized_by (price_by market (label_in labels)) prices (length market.trades.items)
    (length market.trades.items) priced refl in
    let below : t < length market.trades.items = omega (arith, inside, count) in
    subst (λ price. IsAtMost price most_unit_price)
    (read_at (price_by market (label_in labels)) prices (length market.trades.items) t (pos 0) priced below)
    (small t below))
  where
    at : (v : ℕ) → v < nodes → (neg_ℤ (pos 184320000000) ≤ℤ label_in labels v) × (label_in labels v ≤ℤ pos 0)
    at v inside =
        let high = are.high v inside in
        let low = are.low most_unit_amount v (unit_arcs_small market links levels is of) inside in
        let sets = is.few_sets in
        let firms = is.few_firms in
        let trades = is.few_trades in
        (omega (arith, ints, low, sized, sets, firms, trades), high)

    small : (t : ℕ) → t < length market.trades.items → IsAtMost (price_by market (label_in labels) t) most_unit_price
    small t below =
        let one = at (trade_node market t) (omega (arith, sized, below)) in
        let null = at (null_node market) (omega (arith, sized)) in
        record {
          low = omega (arith, ints, one.0, null.1);
          high = omega (arith, ints, one.1, null.0);
        }

pub surplus_small : (surplus gained added : ℤ) → IsAtMost gained (13312 * (most_set_units * most_unit_amount))
    → IsAtMost added (4096 * most_unit_amount) → surplus ≡ gained +ℤ added → IsAtMost surplus most_unit_surplus
surplus_small surplus gained added most more is = record {
  low = omega (arith, ints, most.low, more.low, is);
  high = omega (arith, ints, most.high, more.high, is);
}

pub equilibrium_read : (market : UnitMarket) (links : List Link) (levels : List ℕ) (labels : List ℤ) (nodes : ℕ)
    (counts : List ℕ) (prices : List ℤ) (n place : ℕ) → IsUnitMarket market → AreLinksOf market [] links
    → IsKeptFlow links levels → AreLabels nodes (link_arc links levels 1) labels → n ≡ length market.trades.items
    → place ≡ trade_node market 0 → counts ≡ map (λ t. get_or levels (place + t) 0) (range_with_len 0 n)
    → prices ≡ map (price_by market (label_in labels)) (range_with_len 0 (length market.trades.items))
    → IsEquilibriumByCounts (firms_of market) market.trades.items (pos 1) (count_in counts) (price_in prices)
equilibrium_read market links levels labels nodes counts prices n place is of kept are sized at counted priced =
    equilibrium_same market (sold_at market levels) (count_in counts) (price_by market (label_in labels)) (price_in prices)
    (λ t below. levels_read levels counts n place (length market.sets.items + market.firms) t counted
    (omega (arith, below, sized)) (omega (arith, at)))
    (λ t below. read_at (price_by market (label_in labels)) prices (length market.trades.items) t (pos 0) priced below)
    (labels_equilibrium market links levels (label_in labels) (wide_market market is) of kept are.keeps)

pub surplus_read : (market : UnitMarket) (links : List Link) (levels : List ℕ) (counts : List ℕ) (n place : ℕ)
    (surplus : ℤ) → IsUnitMarket market → AreLinksOf market [] links → IsKeptFlow links levels
    → n ≡ length market.trades.items → place ≡ trade_node market 0
    → counts ≡ map (λ t. get_or levels (place + t) 0) (range_with_len 0 n)
    → surplus ≡ total_gain links levels +ℤ constants market.sets.items
    → count_surplus (firms_of market) (count_in counts) ≡ Some surplus
surplus_read market links levels counts n place surplus is of kept sized at counted sum =
    sym (surplus_same market (sold_at market levels) (count_in counts)
    (λ t below. levels_read levels counts n place (length market.sets.items + market.firms) t counted
    (omega (arith, below, sized)) (omega (arith, at))))
    ∙ (flows_counts market links levels (wide_market market is) of kept).surplus ∙ ap Some (sym sum)

-- ---- pins of all trades

pin_is : (prices : List ℤ) (pins : List Pin) → pins ≡ map (pin_of prices) (range_with_len 0 (length prices)) → (k : ℕ)
    (pin : Pin) → slice_get pins k ≡ Some pin → (k < length prices) × (pin ≡ pin_of prices k)
pin_is prices pins made k pin at =
    let inside = slice_get_within pins k pin at in
    let sized = ap length made ∙ length-map-range_with_len (pin_of prices) 0 (length prices) in
    let below : k < length prices = omega (arith, inside, sized) in
    let place : 0 + k ≡ k = omega arith in
    let there = range_get (pin_of prices) 0 (length prices) k below in (
      below,
      same_Some pin (pin_of prices k)
          (sym at ∙ ap (λ (xs : List Pin). slice_get xs k) made ∙ there ∙ ap (λ (j : ℕ). Some (pin_of prices j)) place),
    )

pub pins_are : (trades : ℕ) (prices : List ℤ) (pins : List Pin)
    → pins ≡ map (pin_of prices) (range_with_len 0 (length prices)) → length prices ≡ trades
    → ((t : ℕ) → t < length prices → IsAtMost (price_in prices t) most_unit_price) → ArePins trades pins
pins_are trades prices pins made sized small = record {
  few = let count = ap length made ∙ length-map-range_with_len (pin_of prices) 0 (length prices) in
      omega (arith, count, sized);
  known = λ k pin at.
      let found = pin_is prices pins made k pin at in
      let below = found.0 in
      let trade = ap (λ (p : Pin). p.trade) found.1 in
      omega (arith, below, trade, sized);
  once = λ j k one other at_j at_k same.
      let first = ap (λ (p : Pin). p.trade) (pin_is prices pins made j one at_j).1 in
      let second = ap (λ (p : Pin). p.trade) (pin_is prices pins made k other at_k).1 in
      omega (arith, first, second, same);
  small = λ k pin at.
      let found = pin_is prices pins made k pin at in
      let own = small k found.0 in
      subst (λ (p : Pin). IsAtMost p.price most_each) (sym found.1)
      (record { low = omega (arith, ints, own.low); high = omega (arith, ints, own.high) });
}

pub best_read : (market : UnitMarket) (prices : List ℤ) (pins : List Pin) (links : List Link) (levels : List ℕ)
    (labels : List ℤ) (nodes : ℕ) (sold bought : List ℕ) (n place after : ℕ) → IsWideMarket market
    → ArePins (length market.trades.items) pins → pins ≡ map (pin_of prices) (range_with_len 0 (length prices))
    → length prices ≡ length market.trades.items → AreLinksOf market pins links → IsKeptFlow links levels
    → AreLabels nodes (link_arc links levels 1) labels → n ≡ length market.trades.items → place ≡ trade_node market 0
    → after ≡ place + n → sold ≡ map (λ t. get_or levels (place + t) 0) (range_with_len 0 n)
    → bought ≡ map (λ t. get_or levels (after + t) 0) (range_with_len 0 n) → (f : ℕ) → f < market.firms
    → (value : ℤ) × IsBestCount market.trades.items (count_utility market.trades.items (pos 1) (price_in prices) f
    (firm_of market f)) (own_counts market.trades.items sold bought f) value
best_read market prices pins links levels labels nodes sold bought n place after is are made priced of kept labelled sized at
    next first second f inside =
    let all = prices_are market pins links levels (label_in labels) (record {
      flow = record { market_is = is; of = of; plain = links_plain market pins links is are of; kept = kept };
      pins_are = are;
      keeps = labelled.keeps;
    }) in
    let best = all.best f inside in (
      best.0,
      prices_same market.trades.items (pos 1) (price_by market (label_in labels)) (price_in prices) f
          (firm_of market f) (own_counts market.trades.items sold bought f) best.0 (λ t below. price t below all.given)
          (best_same market (pos 1) (price_by market (label_in labels)) f (counts_at market levels f)
          (own_counts market.trades.items sold bought f) best.0 (λ t below. own t below) best.1),
    )
  where
    own : (t : ℕ) → t < length market.trades.items
        → counts_at market levels f t ≡ own_counts market.trades.items sold bought f t
    own t below =
        ap₂ (λ (x : ℕ) (y : ℕ). if f == (trade_at market.trades.items t).seller then x else y)
        (levels_read levels sold n place (length market.sets.items + market.firms) t first (omega (arith, below, sized))
        (omega (arith, at)))
        (levels_read levels bought n after (length market.sets.items + market.firms + length market.trades.items) t second
        (omega (arith, below, sized)) (omega (arith, at, next, sized)))

    price : (t : ℕ) → t < length market.trades.items
        → ((k : ℕ) (pin : Pin) → slice_get pins k ≡ Some pin → price_by market (label_in labels) pin.trade ≡ pin.price)
        → price_by market (label_in labels) t ≡ price_in prices t
    price t below given =
        let place : 0 + t ≡ t = omega arith in
        given t (pin_of prices t)
        (ap (λ (xs : List Pin). slice_get xs t) made
        ∙ range_get (pin_of prices) 0 (length prices) t (omega (arith, below, priced))
        ∙ ap (λ (j : ℕ). Some (pin_of prices j)) place)
