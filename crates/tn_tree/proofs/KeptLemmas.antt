-- Levels by counts that are possible for each firm are a kept flow.
use Rattle.std.proofs.Common.{◌≡◌, ℕ, ◌+◌, ◌*◌, ◌<◌, ◌≤◌, Bool, true, false, ◌==◌, if◌then◌else◌, List, [], ◌∷◌, ◌++◌, length, map, get_or, Option, Some, None, slice_get, refl, sym, ap, ap₂, ◌∙◌, arith, ℤ, pos, ◌+ℤ◌, ◌-ℤ◌, ◌≤ℤ◌, ◌*ℤ◌}
use Rattle.std.specs.Prelude.{unsigned_abs}
use Rattle.std.specs.List.{range_with_len}
use Rattle.std.proofs.lemmas.Int.{ints}
use Rattle.std.proofs.lemmas.List.{get_or-append-add, get_or_append_left, length-append}
use Rattle.std.proofs.lemmas.List.FromFn.{get_or-map-range_with_len, length-map-range_with_len}
use Rattle.std.proofs.lemmas.Option.{get_or_from_slice_get, slice_get_within}
use Rattle.std.proofs.Math.IntN.{negsuc, *ℤ_comm}
use Rattle.tn_base.specs.Arcs.{IsAtMost}
use Rattle.tn_base.proofs.WalkLemmas.{both_parts}
use Rattle.tn_links.specs.declared.link.Link.{Link}
use Rattle.tn_links.specs.Flows.{IsKeptFlow, balance, brought, flow_at}
use Rattle.tn_links.specs.Links.{room}
use Rattle.tn_links.specs.Totals.{total}
use Rattle.tn_links.proofs.LawLemmas.{tension}
use Rattle.tn_links.proofs.TotalLemmas.{minus-times, times-minus, total-minus, total-plus, total-same, total-swap, total-times, total-zero, total_at}
use Rattle.tn_counts.specs.Counts.{AreCounts, trade_at}
use Rattle.tn_counts.specs.Laminar.{amount_sum, net_count, set_sum}
use Rattle.tn_counts.specs.Markets.{IsWideMarket}
use Rattle.tn_counts.specs.Tree.{AreLinksOf, bought_at, buyer_place, inner_node, null_node, pin_place, pin_shape, root_node, seller_place, sold_at, trade_node}
use Rattle.tn_counts.specs.Widths.{most_market_units, unbounded}
use Rattle.tn_counts.specs.declared.market.Pin.{Pin}
use Rattle.tn_counts.specs.declared.market.UnitMarket.{UnitMarket}
use Rattle.tn_counts.specs.declared.set.CountSet.{CountSet}
use Rattle.tn_counts.proofs.ClimbLemmas.{climb, climbed, moved, sets_climb}
use Rattle.tn_counts.proofs.FlowLemmas.{at_node, flow_in, set_pull}
use Rattle.tn_counts.proofs.NetLemmas.{between_at, end_parts}
use Rattle.tn_counts.proofs.PlaceLemmas.{buyer_term, item_at, links_sum, pin_in, pin_term, pull, root_term, seller_term, set_term, tension_placed}
use Rattle.tn_counts.proofs.PlainLemmas.{AreAll, by_place}
use Rattle.tn_counts.proofs.WorthLemmas.{level_of, set_sum_parts}
use Rattle.tn_tree.specs.Levels.{AreLevelsOf, ArePossible, back_in, levels_by, root_level, set_level}
use Rattle.tn_tree.specs.Lists.{count_in, own_counts}
use Rattle.tn_tree.specs.Nets.{firm_net, net_at}
use Rattle.tn_tree.proofs.FirmLemmas.{net_own, worth_own}
use Rattle.tn_tree.proofs.NetLemmas.{one_side, pick, units_small}

-- ---- what flows into a node is what its links pull towards it

brought_is : (link : Link) (x : ℤ) (v : ℕ) → brought link x v ≡ (at_node v link.head -ℤ at_node v link.tail) *ℤ x
brought_is link x v =
    let head = pick v link.head x in
    let tail = pick v link.tail x in
    let turned = *ℤ_comm (at_node v link.head -ℤ at_node v link.tail) x in
    let parts = times-minus x (at_node v link.head) (at_node v link.tail) in
    omega (arith, ints, head, tail, turned, parts)

balance_is : (links : List Link) (levels : List ℕ) (v : ℕ) → balance links levels v ≡ tension links levels (at_node v)
balance_is [] levels v = refl
balance_is (link ∷ links) [] v = refl
balance_is (link ∷ links) (level ∷ levels) v =
    let rest = balance_is links levels v in
    let own = brought_is link (flow_at link level) v in
    omega (arith, ints, rest, own)

-- ---- levels by counts

-- what the pins of a market have to bring where what is sold and what is bought of a trade differ
abbrev pub apart_term : UnitMarket → (ℕ → ℤ) → List ℕ → List ℕ → ℕ → ℤ
apart_term market label sold bought t =
    (label (null_node market) -ℤ label (trade_node market t)) *ℤ (pos (count_in sold t) -ℤ pos (count_in bought t))

-- levels that are those of counts
pub record HaveLevels (market : UnitMarket) (pins : List Pin) (sold bought levels : List ℕ) : Type 0 where
  pub sets : (i : ℕ) (set : CountSet) → slice_get market.sets.items i ≡ Some set
      → (pos (get_or levels i 0) -ℤ pos set.back ≡ net_at market sold bought i) × (get_or levels i 0 ≤ room set.steps.items)
  pub roots : (f : ℕ) → f < market.firms
      → pos (get_or levels (root_node market f) 0) -ℤ pos unbounded ≡ firm_net market sold bought f
  pub sellers : (t : ℕ) → t < length market.trades.items → sold_at market levels t ≡ count_in sold t
  pub buyers : (t : ℕ) → t < length market.trades.items → bought_at market levels t ≡ count_in bought t
  pub pins_bring : (label : ℕ → ℤ) → total (pin_term (pull label) market pins levels) (length pins)
      ≡ total (apart_term market label sold bought) (length market.trades.items)
  pub pins_within : (k : ℕ) (pin : Pin) → slice_get pins k ≡ Some pin
      → get_or levels (pin_place market k) 0 ≤ 2 * unbounded

-- what roots bring, trade by trade
roots_bring : (market : UnitMarket) (label : ℕ → ℤ) (sold bought : List ℕ) → IsWideMarket market
    → total (λ f. (label (null_node market) -ℤ label (root_node market f)) *ℤ firm_net market sold bought f) market.firms
    ≡ total (λ t. (label (null_node market) -ℤ label (root_node market (trade_at market.trades.items t).buyer))
    *ℤ pos (count_in bought t)
    -ℤ (label (null_node market) -ℤ label (root_node market (trade_at market.trades.items t).seller))
    *ℤ pos (count_in sold t)) (length market.trades.items)
roots_bring market label sold bought is =
    total-same (λ f. fall f *ℤ firm_net market sold bought f) (λ f. total (λ t. fall f *ℤ move f t) n) market.firms
    (λ f below. sym (total-times (fall f) (move f) n))
    ∙ total-swap (λ f t. fall f *ℤ move f t) market.firms n
    ∙ total-same (λ t. total (λ f. fall f *ℤ move f t) market.firms)
    (λ t. fall (trade_at market.trades.items t).buyer *ℤ pos (count_in bought t)
    -ℤ fall (trade_at market.trades.items t).seller *ℤ pos (count_in sold t)) n each
  where
    n : ℕ
    n = length market.trades.items

    fall : ℕ → ℤ
    fall f = label (null_node market) -ℤ label (root_node market f)

    move : ℕ → ℕ → ℤ
    move f t = moved f (trade_at market.trades.items t) (pos (count_in sold t)) (pos (count_in bought t))

    each : (t : ℕ) → t < n → total (λ f. fall f *ℤ move f t) market.firms
        ≡ fall (trade_at market.trades.items t).buyer *ℤ pos (count_in bought t)
        -ℤ fall (trade_at market.trades.items t).seller *ℤ pos (count_in sold t)
    each t below =
        let known = between_at market is t below in
        let buyer = (trade_at market.trades.items t).buyer in
        let seller = (trade_at market.trades.items t).seller in
        let parts = total-same (λ f. fall f *ℤ move f t)
        (λ f. fall f *ℤ (if f == buyer then pos (count_in bought t) else pos 0)
        -ℤ fall f *ℤ (if f == seller then pos (count_in sold t) else pos 0)) market.firms
        (λ f inside. times-minus (fall f) (if f == buyer then pos (count_in bought t) else pos 0)
        (if f == seller then pos (count_in sold t) else pos 0)) in
        let split = total-minus (λ f. fall f *ℤ (if f == buyer then pos (count_in bought t) else pos 0))
        (λ f. fall f *ℤ (if f == seller then pos (count_in sold t) else pos 0)) market.firms in
        let buys = total_at fall (pos (count_in bought t)) buyer market.firms known.buyer in
        let sells = total_at fall (pos (count_in sold t)) seller market.firms known.seller in
        omega (arith, ints, parts, split, buys, sells)

-- so all links together pull nothing
levels_pull : (market : UnitMarket) (pins : List Pin) (links : List Link) (sold bought levels : List ℕ) (label : ℕ → ℤ)
    → IsWideMarket market → AreLinksOf market pins links → length levels ≡ length links
    → HaveLevels market pins sold bought levels → tension links levels label ≡ pos 0
levels_pull market pins links sold bought levels label is of sized have =
    let placed_is = tension_placed links levels label sized in
    let whole = links_sum (pull label) market pins links levels of in
    let sets = total-same (set_term (pull label) market levels)
    (λ i. climb market label i *ℤ net_at market sold bought i) m (λ i below. set_is i below) in
    let net = sets_climb market label (λ t. pos (count_in sold t)) (λ t. pos (count_in bought t)) is.laminar in
    let roots = total-same (root_term (pull label) market levels)
    (λ f. (label (null_node market) -ℤ label (root_node market f)) *ℤ firm_net market sold bought f) market.firms
    (λ f below. ap (λ (z : ℤ). (label (null_node market) -ℤ label (root_node market f)) *ℤ z) (have.roots f below)) in
    let bring = roots_bring market label sold bought is in
    let pinned = have.pins_bring label in
    let cancel = total-same
    (λ t. (climbed market label S B t +ℤ (seller_term (pull label) market levels t +ℤ buyer_term (pull label) market levels t))
    +ℤ (roots_part t +ℤ apart_term market label sold bought t)) (λ t. pos 0) n each in
    let zeros = total-zero (λ t. pos 0) n (λ t below. refl) in
    let one = total-plus
    (λ t. climbed market label S B t +ℤ (seller_term (pull label) market levels t +ℤ buyer_term (pull label) market levels t))
    (λ t. roots_part t +ℤ apart_term market label sold bought t) n in
    let two = total-plus (climbed market label S B)
    (λ t. seller_term (pull label) market levels t +ℤ buyer_term (pull label) market levels t) n in
    let three = total-plus (seller_term (pull label) market levels) (buyer_term (pull label) market levels) n in
    let four = total-plus roots_part (apart_term market label sold bought) n in
    omega (arith, ints, placed_is, whole, sets, net, roots, bring, pinned, cancel, zeros, one, two, three, four)
  where
    m : ℕ
    m = length market.sets.items

    n : ℕ
    n = length market.trades.items

    S : ℕ → ℤ
    S t = pos (count_in sold t)

    B : ℕ → ℤ
    B t = pos (count_in bought t)

    roots_part : ℕ → ℤ
    roots_part t = (label (null_node market) -ℤ label (root_node market (trade_at market.trades.items t).buyer))
        *ℤ pos (count_in bought t)
        -ℤ (label (null_node market) -ℤ label (root_node market (trade_at market.trades.items t).seller))
        *ℤ pos (count_in sold t)

    set_is : (i : ℕ) → i < m → set_term (pull label) market levels i ≡ climb market label i *ℤ net_at market sold bought i
    set_is i below =
        let found = item_at market.sets.items i below in
        set_pull market levels label i
        ∙ ap (λ (z : ℤ). climb market label i *ℤ z) (ap (flow_in levels i) found.1 ∙ (have.sets i found.0 found.1).0)

    each : (t : ℕ) → t < n
        → (climbed market label S B t +ℤ (seller_term (pull label) market levels t +ℤ buyer_term (pull label) market levels t))
        +ℤ (roots_part t +ℤ apart_term market label sold bought t) ≡ pos 0
    each t below =
        let sells = have.sellers t below in
        let buys = have.buyers t below in
        let same : climbed market label (λ t. pos (sold_at market levels t)) (λ t. pos (bought_at market levels t)) t
        ≡ climbed market label S B t =
        ap₂ (λ (x : ℕ) (y : ℕ).
        pos y *ℤ (label (root_node market (trade_at market.trades.items t).buyer)
        -ℤ label (inner_node market (trade_at market.trades.items t).buyer t))
        -ℤ pos x *ℤ (label (root_node market (trade_at market.trades.items t).seller)
        -ℤ label (inner_node market (trade_at market.trades.items t).seller t))) sells buys in
        let ends = end_parts market levels label t in
        let buyer = label (root_node market (trade_at market.trades.items t).buyer) in
        let seller = label (root_node market (trade_at market.trades.items t).seller) in
        let null = label (null_node market) in
        let node = label (trade_node market t) in
        let first = ap₂ (λ (x : ℕ) (y : ℕ). (buyer -ℤ node) *ℤ pos y -ℤ (seller -ℤ node) *ℤ pos x) sells buys in
        let one = minus-times buyer node (B t) in
        let two = minus-times seller node (S t) in
        let three = minus-times null buyer (B t) in
        let four = minus-times null seller (S t) in
        let five = times-minus (null -ℤ node) (S t) (B t) in
        let six = minus-times null node (S t) in
        let seven = minus-times null node (B t) in
        omega (arith, ints, same, ends, first, one, two, three, four, five, six, seven)

-- what a firm buys less what it sells is within the units of all trades
pub firm_small : (market : UnitMarket) (sold bought : List ℕ) (f : ℕ) → IsWideMarket market
    → AreCounts market.trades.items (count_in sold) → AreCounts market.trades.items (count_in bought)
    → IsAtMost (firm_net market sold bought f) most_market_units
firm_small market sold bought f is few fewer =
    units_small market
    (λ t. moved f (trade_at market.trades.items t) (pos (count_in sold t)) (pos (count_in bought t))) is
    (λ t inside. one_side (f == (trade_at market.trades.items t).seller)
    (f == (trade_at market.trades.items t).buyer) (count_in sold t) (count_in bought t)
    (trade_at market.trades.items t).units (few t inside) (fewer t inside))

-- and no level is beyond its link's steps
levels_within : (market : UnitMarket) (pins : List Pin) (links : List Link) (sold bought levels : List ℕ)
    → IsWideMarket market → AreLinksOf market pins links → AreCounts market.trades.items (count_in sold)
    → AreCounts market.trades.items (count_in bought) → HaveLevels market pins sold bought levels
    → AreAll market pins (λ j shape. get_or levels j 0 ≤ room shape.steps)
levels_within market pins links sold bought levels is of few fewer have = record {
  sets = λ i set at. (have.sets i set at).1;
  roots = λ f below.
      let level = have.roots f below in
      let small = firm_small market sold bought f is few fewer in
      omega (arith, ints, level, small.high);
  sellers = λ t below. let same = have.sellers t below in let most = few t below in omega (arith, same, most);
  buyers = λ t below. let same = have.buyers t below in let most = fewer t below in omega (arith, same, most);
  pinned = λ k pin at. let most = have.pins_within k pin at in omega (arith, most);
}

pub levels_kept : (market : UnitMarket) (pins : List Pin) (links : List Link) (sold bought levels : List ℕ)
    → IsWideMarket market → AreLinksOf market pins links → AreCounts market.trades.items (count_in sold)
    → AreCounts market.trades.items (count_in bought) → length levels ≡ length links
    → HaveLevels market pins sold bought levels → IsKeptFlow links levels
levels_kept market pins links sold bought levels is of few fewer sized have = record {
  one_each = sized;
  within = λ j level link link_is level_is.
      let most = by_place market pins links (λ k shape. get_or levels k 0 ≤ room shape.steps) of
      (levels_within market pins links sold bought levels is of few fewer have) j link link_is in
      let same = get_or_from_slice_get levels j level 0 level_is in
      omega (arith, most, same);
  kept = λ v. balance_is links levels v
      ∙ levels_pull market pins links sold bought levels (at_node v) is of sized have;
}

-- ---- the levels of a list

-- where a firm's counts are possible, each of its sets has a level
set_there : (market : UnitMarket) (sold bought : List ℕ) → IsWideMarket market
    → ArePossible market (own_counts market.trades.items sold bought) → (i : ℕ) (set : CountSet)
    → slice_get market.sets.items i ≡ Some set
    → (level : ℕ) × (net_at market sold bought i +ℤ pos set.back ≡ pos level) × (level ≤ room set.steps.items)
set_there market sold bought is possible i set at =
    let trades = market.trades.items in
    let own = own_counts trades sold bought set.firm in
    let has = possible set.firm (is.each i set at).known in
    let parts = both_parts (Some (amount_sum trades market.amounts.items set.firm own))
    (set_sum trades set.firm own market.sets.items) has.0 has.1 in
    let there = (set_sum_parts trades set.firm own market.sets.items parts.second parts.second_is).1 i set at refl in
    let found = level_of set (net_count trades set own +ℤ pos set.back) there.0 there.1 in
    let net = net_own market sold bought i set is at in
    let level_is = found.is in
    (found.level, omega (arith, ints, net, level_is), found.within)

-- the levels of a list of all links but those of pins, and then others
pub record HaveNets (market : UnitMarket) (sold bought : List ℕ) (nets : List ℤ) : Type 0 where
  pub sets : (i : ℕ) → i < length market.sets.items → get_or nets i (pos 0) ≡ net_at market sold bought i
  pub roots : (f : ℕ) → f < market.firms → get_or nets (root_node market f) (pos 0) ≡ firm_net market sold bought f

abs_pos : (z : ℤ) (n : ℕ) → z ≡ pos n → unsigned_abs z ≡ n
abs_pos z n is = ap unsigned_abs is

-- the levels at the places of a list that begins with those of the sets, the roots and the counts
pub record AreListed (market : UnitMarket) (nets : List ℤ) (sold bought levels : List ℕ) : Type 0 where
  pub sets : (i : ℕ) → i < length market.sets.items → get_or levels i 0 ≡ set_level market nets i
  pub roots : (f : ℕ) → f < market.firms → get_or levels (root_node market f) 0 ≡ root_level market nets f
  pub sellers : (t : ℕ) → t < length market.trades.items → sold_at market levels t ≡ count_in sold t
  pub buyers : (t : ℕ) → t < length market.trades.items → bought_at market levels t ≡ count_in bought t

pub listed : (market : UnitMarket) (nets : List ℤ) (sold bought rest levels : List ℕ)
    → length sold ≡ length market.trades.items → length bought ≡ length market.trades.items
    → levels ≡ levels_by market nets sold bought ++ rest → AreListed market nets sold bought levels
listed market nets sold bought rest levels sold_all bought_all made = record {
  sets = λ i below. ap (λ (xs : List ℕ). get_or xs i 0) made
      ∙ get_or_append_left four rest 0 i (omega (arith, below, one_size, two_size, three_size, four_size))
      ∙ get_or_append_left three bought 0 i (omega (arith, below, one_size, two_size, three_size))
      ∙ get_or_append_left two sold 0 i (omega (arith, below, one_size, two_size))
      ∙ get_or_append_left one second 0 i (omega (arith, below, one_size))
      ∙ get_or-map-range_with_len (set_level market nets) 0 m i i 0 below (omega arith);
  roots = λ f below.
      let place : root_node market f ≡ length one + f = omega (arith, one_size) in
      ap (λ (xs : List ℕ). get_or xs (root_node market f) 0) made
      ∙ get_or_append_left four rest 0 (root_node market f) (omega (arith, below, two_size, three_size, four_size))
      ∙ get_or_append_left three bought 0 (root_node market f) (omega (arith, below, two_size, three_size))
      ∙ get_or_append_left two sold 0 (root_node market f) (omega (arith, below, two_size))
      ∙ ap (λ (k : ℕ). get_or two k 0) place ∙ get_or-append-add one second f 0
      ∙ get_or-map-range_with_len (root_level market nets) 0 market.firms f f 0 below (omega arith);
  sellers = λ t below.
      let place : seller_place market t ≡ length two + t = omega (arith, two_size) in
      ap (λ (xs : List ℕ). get_or xs (seller_place market t) 0) made
      ∙ get_or_append_left four rest 0 (seller_place market t) (omega (arith, below, three_size, four_size))
      ∙ get_or_append_left three bought 0 (seller_place market t) (omega (arith, below, three_size))
      ∙ ap (λ (k : ℕ). get_or three k 0) place ∙ get_or-append-add two sold t 0;
  buyers = λ t below.
      let place : buyer_place market t ≡ length three + t = omega (arith, three_size) in
      ap (λ (xs : List ℕ). get_or xs (buyer_place market t) 0) made
      ∙ get_or_append_left four rest 0 (buyer_place market t) (omega (arith, below, four_size))
      ∙ ap (λ (k : ℕ). get_or four k 0) place ∙ get_or-append-add three bought t 0;
}
  where
    m : ℕ
    m = length market.sets.items

    one : List ℕ
    one = map (set_level market nets) (range_with_len 0 (length market.sets.items))

    second : List ℕ
    second = map (root_level market nets) (range_with_len 0 market.firms)

    two : List ℕ
    two = one ++ second

    three : List ℕ
    three = two ++ sold

    four : List ℕ
    four = three ++ bought

    one_size : length one ≡ length market.sets.items
    one_size = length-map-range_with_len (set_level market nets) 0 (length market.sets.items)

    two_size : length two ≡ length market.sets.items + market.firms
    two_size =
        let sum = length-append one second in
        let own = length-map-range_with_len (root_level market nets) 0 market.firms in
        omega (arith, sum, own, one_size)

    three_size : length three ≡ length market.sets.items + market.firms + length market.trades.items
    three_size = let sum = length-append two sold in omega (arith, sum, two_size, sold_all)

    four_size : length four
        ≡ length market.sets.items + market.firms + length market.trades.items + length market.trades.items
    four_size = let sum = length-append three bought in omega (arith, sum, three_size, bought_all)

pub levels_size : (market : UnitMarket) (nets : List ℤ) (sold bought : List ℕ)
    → length sold ≡ length market.trades.items → length bought ≡ length market.trades.items
    → length (levels_by market nets sold bought) ≡ pin_place market 0
levels_size market nets sold bought sold_all bought_all =
    let one = map (set_level market nets) (range_with_len 0 (length market.sets.items)) in
    let second = map (root_level market nets) (range_with_len 0 market.firms) in
    let first = length-map-range_with_len (set_level market nets) 0 (length market.sets.items) in
    let roots = length-map-range_with_len (root_level market nets) 0 market.firms in
    let two = length-append one second in
    let three = length-append (one ++ second) sold in
    let four = length-append ((one ++ second) ++ sold) bought in
    omega (arith, first, roots, two, three, four, sold_all, bought_all)

-- such a list has the levels of its counts, where nothing is pinned
pub free_levels : (market : UnitMarket) (pins : List Pin) (nets : List ℤ) (counts levels : List ℕ) → IsWideMarket market
    → AreCounts market.trades.items (count_in counts)
    → ArePossible market (own_counts market.trades.items counts counts) → HaveNets market counts counts nets
    → AreListed market nets counts counts levels
    → ((k : ℕ) → k < length pins → get_or levels (pin_place market k) 0 ≡ unbounded)
    → HaveLevels market pins counts counts levels
free_levels market pins nets counts levels is few possible have list idle = record {
  sets = λ i set at.
      let there = set_there market counts counts is possible i set at in
      let inside = slice_get_within market.sets.items i set at in
      let level_is = list.sets i inside in
      let back = ap (λ (o : Option CountSet). unsigned_abs (get_or nets i (pos 0) +ℤ pos (back_in o))) at in
      let net = have.sets i inside in
      let sum = there.1 in
      let abs = abs_pos (get_or nets i (pos 0) +ℤ pos set.back) there.0 (omega (arith, ints, net, sum)) in
      let within = there.2 in
      (omega (arith, ints, level_is, back, abs, sum), omega (arith, level_is, back, abs, within));
  roots = λ f below.
      let level_is = list.roots f below in
      let net = have.roots f below in
      let small = firm_small market counts counts f is few few in
      let abs = above_zero (get_or nets (root_node market f) (pos 0) +ℤ pos unbounded)
      (omega (arith, ints, net, small.low)) in
      omega (arith, ints, level_is, net, abs);
  sellers = list.sellers;
  buyers = list.buyers;
  pins_bring = λ label. total-zero (pin_term (pull label) market pins levels) (length pins)
      (λ k below. idle_pin label k (slice_get pins k) (idle k below))
      ∙ sym (total-zero (apart_term market label counts counts) (length market.trades.items)
      (λ t below. nothing (label (null_node market) -ℤ label (trade_node market t)) (pos (count_in counts t))));
  pins_within = λ k pin at. let here = idle k (slice_get_within pins k pin at) in omega (arith, here);
}
  where
    above_zero : (z : ℤ) → pos 0 ≤ℤ z → pos (unsigned_abs z) ≡ z
    above_zero (pos n) least = refl
    above_zero (negsuc n) least = absurd (omega (arith, ints, least))

    nothing : (a u : ℤ) → a *ℤ (u -ℤ u) ≡ pos 0
    nothing a u = let parts = times-minus a u u in omega (arith, ints, parts)

    idle_pin : (label : ℕ → ℤ) (k : ℕ) (o : Option Pin) → get_or levels (pin_place market k) 0 ≡ unbounded
        → pin_in (pull label) market (get_or levels (pin_place market k) 0) o ≡ pos 0
    idle_pin label k None here = refl
    idle_pin label k (Some pin) here =
        ap (λ (n : ℕ). pull label (pin_shape market pin) n) here
        ∙ nothing (label (null_node market) -ℤ label (trade_node market pin.trade)) (pos unbounded)

-- counts that all have are each firm's own
pub own_all : (market : UnitMarket) (counts : List ℕ) (f t : ℕ)
    → count_in counts t ≡ own_counts market.trades.items counts counts f t
own_all market counts f t = by (f == (trade_at market.trades.items t).seller)
  where
    by : (b : Bool) → count_in counts t ≡ (if b then count_in counts t else count_in counts t)
    by true = refl
    by false = refl

pub own_possible : (market : UnitMarket) (counts : List ℕ) → ArePossible market (λ f. count_in counts)
    → ArePossible market (own_counts market.trades.items counts counts)
own_possible market counts possible f below =
    let has = possible f below in (
      has.0,
      sym (worth_own market f (count_in counts) (own_counts market.trades.items counts counts f)
          (λ t inside own. own_all market counts f t)) ∙ has.1,
    )

pub free_flow : (market : UnitMarket) (pins : List Pin) (links : List Link) (nets : List ℤ) (counts levels : List ℕ)
    → IsWideMarket market → AreLinksOf market pins links → length counts ≡ length market.trades.items
    → AreCounts market.trades.items (count_in counts) → ArePossible market (λ f. count_in counts)
    → HaveNets market counts counts nets
    → levels ≡ levels_by market nets counts counts ++ map (λ k. unbounded) (range_with_len 0 (length pins))
    → IsKeptFlow links levels × AreLevelsOf market pins (count_in counts) levels
free_flow market pins links nets counts levels is of sized few possible have made =
    let list = listed market nets counts counts rest levels sized sized made in
    let count = ap length made in
    let all = of.all in
    let sum = length-append (levels_by market nets counts counts) rest in
    let more = length-map-range_with_len (λ k. unbounded) 0 (length pins) in (
      levels_kept market pins links counts counts levels is of few few (omega (arith, size, count, all, sum, more))
          (free_levels market pins nets counts levels is few (own_possible market counts possible) have list idle),
      record { sold = list.sellers; bought = list.buyers; pinned = idle },
    )
  where
    rest : List ℕ
    rest = map (λ k. unbounded) (range_with_len 0 (length pins))

    size : length (levels_by market nets counts counts) ≡ pin_place market 0
    size = levels_size market nets counts counts sized sized

    idle : (k : ℕ) → k < length pins → get_or levels (pin_place market k) 0 ≡ unbounded
    idle k below =
        let place : pin_place market k ≡ length (levels_by market nets counts counts) + k = omega (arith, size) in
        ap (λ (xs : List ℕ). get_or xs (pin_place market k) 0) made
        ∙ ap (λ (j : ℕ). get_or (levels_by market nets counts counts ++ rest) j 0) place
        ∙ get_or-append-add (levels_by market nets counts counts) rest k 0
        ∙ get_or-map-range_with_len (λ j. unbounded) 0 (length pins) k k 0 below (omega arith)
