-- Labels that keep the graph of a kept flow are prices at which each firm's counts are best.
use Rattle.std.proofs.Common.{◌≡◌, ◌≢◌, ℕ, suc, ◌+◌, ◌-◌, ◌<◌, ◌≤◌, Bool, true, false, ◌==◌, if◌then◌else◌, List, length, get_or, Option, Some, option_map, slice_get, refl, sym, ap, ap₂, ◌∙◌, subst, arith, inl, inr, ℤ, pos, ◌+ℤ◌, ◌-ℤ◌, ◌≤ℤ◌, ◌*ℤ◌}
use Rattle.std.specs.Prelude.{neg_ℤ, unwrap_or}
use Rattle.std.proofs.lemmas.Int.{ints}
use Rattle.std.proofs.lemmas.Bool.{cases_eq, eq-eqb, eqb-true, ne_eqb}
use Rattle.std.proofs.lemmas.Option.{same_Some, slice_get-get_or, slice_get_within}
use Rattle.std.proofs.Math.IntN.{*ℤ-zero, *ℤ-one, *ℤ_comm}
use Rattle.tn_base.specs.Walks.{KeepsArcs}
use Rattle.tn_base.proofs.WalkLemmas.{both_are, both_parts}
use Rattle.tn_links.specs.declared.link.Link.{Link}
use Rattle.tn_links.specs.Links.{rise, room}
use Rattle.tn_links.specs.Lots.{link_arc}
use Rattle.tn_links.specs.RiseLemmas.{times_suc}
use Rattle.tn_links.proofs.LawLemmas.{keeps_link, link_below}
use Rattle.tn_links.proofs.TotalLemmas.{times-minus, total-most, total-same}
use Rattle.tn_counts.specs.Counts.{AreCounts, IsBestCount, count_utility, payments, trade_at}
use Rattle.tn_counts.specs.Laminar.{amount_sum, amounts_at, bought_by, firm_of, holds, net_count, set_number, set_sum}
use Rattle.tn_counts.specs.Laws.{ArePrices}
use Rattle.tn_counts.specs.Markets.{ArePins}
use Rattle.tn_counts.specs.Tree.{HasLink, LinkShape, bought_at, buyer_place, buyer_shape, counts_at, even, inner_node, null_node, pin_place, pin_shape, price_by, root_node, root_shape, seller_place, seller_shape, set_shape, sold_at, trade_node}
use Rattle.tn_counts.specs.declared.market.Pin.{Pin}
use Rattle.tn_counts.specs.declared.market.UnitMarket.{UnitMarket}
use Rattle.tn_counts.specs.declared.set.CountSet.{CountSet}
use Rattle.tn_counts.specs.declared.trade.UnitTrade.{UnitTrade}
use Rattle.tn_counts.proofs.ClimbLemmas.{above_in, climb, moved, moved_in}
use Rattle.tn_counts.proofs.FlowLemmas.{IsFlowOf, flow_in, level_within, none_amiss}
use Rattle.tn_counts.proofs.NetLemmas.{between_at}
use Rattle.tn_counts.proofs.PlaceLemmas.{item_at, pull, shape_gain, shaped_at}
use Rattle.tn_counts.proofs.SmallLemmas.{bought_within, pin_small, root_small, sold_within}
use Rattle.tn_counts.proofs.UtilityLemmas.{buyer_rate, plus-times, seller_rate, set_part, set_part_in, trade_part, utility_is, when}
use Rattle.tn_counts.proofs.WelfareLemmas.{has_worth}
use Rattle.tn_counts.proofs.WorthLemmas.{AreThere, added_there, even_gain, even_rise, level_of, set_sum_from, set_sum_parts, sets_value}

-- labels that keep the graph of a kept flow over the links of a market
pub record IsKeptBy (market : UnitMarket) (pins : List Pin) (links : List Link) (levels : List ℕ) (label : ℕ → ℤ) : Type 0
  where
    pub flow : IsFlowOf market pins links levels
    pub pins_are : ArePins (length market.trades.items) pins
    pub keeps : KeepsArcs (link_arc links levels 1) label

-- at no other level does a link bring more, its labels taken in
pub below_at : (market : UnitMarket) (pins : List Pin) (links : List Link) (levels : List ℕ) (label : ℕ → ℤ)
    → IsKeptBy market pins links levels label → (j : ℕ) (shape : LinkShape) → HasLink links j shape
    → (other : ℕ) → other ≤ room shape.steps
    → (shape_gain shape other +ℤ pull label shape other)
    ≤ℤ (shape_gain shape (get_or levels j 0) +ℤ pull label shape (get_or levels j 0))
below_at market pins links levels label kept j shape has =
    let found = shaped_at links j shape has in
    let flow = kept.flow in
    let inside = slice_get_within links j found.link found.is in
    let level_is = slice_get-get_or levels j 0 (omega (arith, inside, flow.kept.one_each)) in
    let within = flow.kept.within j (get_or levels j 0) found.link found.is level_is in
    let keeps = keeps_link (suc (null_node market)) links levels label j (get_or levels j 0) found.link flow.plain kept.keeps
    found.is level_is within in
    let falling = (flow.plain.each j found.link found.is).steps.falling in
    subst (λ (s : LinkShape). (other : ℕ) → other ≤ room s.steps → (shape_gain s other +ℤ pull label s other)
    ≤ℤ (shape_gain s (get_or levels j 0) +ℤ pull label s (get_or levels j 0))) found.shape_is
    (λ other other_within. link_below found.link (get_or levels j 0) other (label found.link.head -ℤ label found.link.tail)
    falling within other_within keeps)

-- where a link's one step has room both ways, its labels rise by what a unit adds, turned round
rate_is : (each rate : ℤ) (units n back : ℕ) → n + 1 < units
    → ((other : ℕ) → other ≤ units + 0 → ((rise (even units each) other -ℤ rise (even units each) back)
    +ℤ rate *ℤ (pos other -ℤ pos back))
    ≤ℤ ((rise (even units each) (n + 1) -ℤ rise (even units each) back) +ℤ rate *ℤ (pos (n + 1) -ℤ pos back)))
    → rate ≡ neg_ℤ each
rate_is each rate units n back room_for below =
    let up = below (n + 2) (omega (arith, room_for)) in
    let down = below n (omega (arith, room_for)) in
    let first = even_rise units n each (omega (arith, room_for)) in
    let second = even_rise units (n + 1) each (omega (arith, room_for)) in
    let third = even_rise units (n + 2) each (omega (arith, room_for)) in
    let one : each *ℤ pos (n + 1) ≡ each *ℤ pos (suc n) = ap (λ (k : ℕ). each *ℤ pos k) (omega arith) in
    let two : each *ℤ pos (n + 2) ≡ each *ℤ pos (suc (suc n)) = ap (λ (k : ℕ). each *ℤ pos k) (omega arith) in
    let one_more = times_suc each n in
    let two_more = times_suc each (suc n) in
    let split_n = times-minus rate (pos n) (pos back) in
    let split_one = times-minus rate (pos (n + 1)) (pos back) in
    let split_two = times-minus rate (pos (n + 2)) (pos back) in
    let rate_one : rate *ℤ pos (n + 1) ≡ rate *ℤ pos (suc n) = ap (λ (k : ℕ). rate *ℤ pos k) (omega arith) in
    let rate_two : rate *ℤ pos (n + 2) ≡ rate *ℤ pos (suc (suc n)) = ap (λ (k : ℕ). rate *ℤ pos k) (omega arith) in
    let rate_more = times_suc rate n in
    let rate_more_two = times_suc rate (suc n) in
    omega (
      arith,
      ints,
      up,
      down,
      first,
      second,
      third,
      one,
      two,
      one_more,
      two_more,
      split_n,
      split_one,
      split_two,
      rate_one,
      rate_two,
      rate_more,
      rate_more_two,
    )

-- so a root has the label of null
pub root_label : (market : UnitMarket) (pins : List Pin) (links : List Link) (levels : List ℕ) (label : ℕ → ℤ)
    → IsKeptBy market pins links levels label → (f : ℕ) → f < market.firms
    → label (root_node market f) ≡ label (null_node market)
root_label market pins links levels label kept f below =
    let small = root_small market pins links levels kept.flow f below in
    let level = get_or levels (root_node market f) 0 in
    let n : ℕ = level - 1 in
    let here : n + 1 ≡ level = omega (arith, ints, small.low) in
    let most = below_at market pins links levels label kept (root_node market f) (root_shape market f)
    (kept.flow.of.roots f below) in
    let rate = rate_is (pos 0) (label (null_node market) -ℤ label (root_node market f)) 8388608 n 4194304
    (omega (arith, ints, here, small.high))
    (λ other within. subst (λ (k : ℕ). (shape_gain (root_shape market f) other
    +ℤ pull label (root_shape market f) other) ≤ℤ (shape_gain (root_shape market f) k
    +ℤ pull label (root_shape market f) k)) (sym here) (most other within)) in
    omega (arith, ints, rate)

-- and a pinned trade has its pin's price
pub pin_label : (market : UnitMarket) (pins : List Pin) (links : List Link) (levels : List ℕ) (label : ℕ → ℤ)
    → IsKeptBy market pins links levels label → (k : ℕ) (pin : Pin) → slice_get pins k ≡ Some pin
    → price_by market label pin.trade ≡ pin.price
pin_label market pins links levels label kept k pin at =
    let small = pin_small market pins links levels kept.pins_are kept.flow k pin at in
    let level = get_or levels (pin_place market k) 0 in
    let n : ℕ = level - 1 in
    let here : n + 1 ≡ level = omega (arith, ints, small.low) in
    let most = below_at market pins links levels label kept (pin_place market k) (pin_shape market pin)
    (kept.flow.of.pinned k pin at) in
    let rate = rate_is pin.price (label (null_node market) -ℤ label (trade_node market pin.trade)) 8388608 n 4194304
    (omega (arith, ints, here, small.high))
    (λ other within. subst (λ (k : ℕ). (shape_gain (pin_shape market pin) other +ℤ pull label (pin_shape market pin) other)
    ≤ℤ (shape_gain (pin_shape market pin) k +ℤ pull label (pin_shape market pin) k)) (sym here) (most other within)) in
    omega (arith, ints, rate)

-- a firm's own counts are what it sells or what it buys
pub moved_own : (f seller buyer sold bought : ℕ) → seller ≢ buyer
    → moved f (record { seller = seller; buyer = buyer; units = 0 }) (pos sold) (pos bought)
    ≡ bought_by f (record { seller = seller; buyer = buyer; units = 0 }) (pos (if f == seller then sold else bought))
moved_own f seller buyer sold bought apart = elim (cases_eq f seller) [
  | inl same ↦
      let sells = eq-eqb f seller same in
      let no_buyer = ne_eqb f buyer (λ e. apart (sym same ∙ e)) in
      let left = ap₂ (λ (s : Bool) (b : Bool). when b (pos bought) -ℤ when s (pos sold)) sells no_buyer in
      let right = ap₂ (λ (s : Bool) (b : Bool). when b (pos (if s then sold else bought))
      -ℤ when s (pos (if s then sold else bought))) sells no_buyer in
      left ∙ sym right
  | inr other ↦
      let sells = ne_eqb f seller other in
      let left = ap (λ (s : Bool). when (f == buyer) (pos bought) -ℤ when s (pos sold)) sells in
      let right = ap (λ (s : Bool). when (f == buyer) (pos (if s then sold else bought))
      -ℤ when s (pos (if s then sold else bought))) sells in
      left ∙ sym right
]

-- the flow over a set's link is the net count of its firm's counts within it
pub set_flow : (market : UnitMarket) (pins : List Pin) (links : List Link) (levels : List ℕ)
    → IsFlowOf market pins links levels → (i : ℕ) (set : CountSet) → slice_get market.sets.items i ≡ Some set
    → pos (get_or levels i 0) -ℤ pos set.back ≡ net_count market.trades.items set (counts_at market levels set.firm)
set_flow market pins links levels flow i set at =
    let none = none_amiss market pins links levels flow i (slice_get_within market.sets.items i set at) in
    let here : amiss_of (Some set) ≡ pos 0 = sym (ap amiss_of at) ∙ none in
    let same = total-same
    (λ t. when (holds set t) (moved set.firm (trade_at trades t) (pos (sold_at market levels t)) (pos (bought_at market levels t))))
    (λ t. when (holds set t) (bought_by set.firm (trade_at trades t) (pos (counts_at market levels set.firm t))))
    (length trades) (λ t below. ap (when (holds set t)) (moved_own set.firm (trade_at trades t).seller
    (trade_at trades t).buyer (sold_at market levels t) (bought_at market levels t)
    (between_at market flow.market_is t below).apart)) in
    omega (arith, ints, here, same)
  where
    trades : List UnitTrade
    trades = market.trades.items

    amiss_of : Option CountSet → ℤ
    amiss_of o = flow_in levels i o
        -ℤ moved_in trades (λ t. pos (sold_at market levels t)) (λ t. pos (bought_at market levels t)) o

-- so what the set adds is known
pub set_now : (market : UnitMarket) (pins : List Pin) (links : List Link) (levels : List ℕ)
    → IsFlowOf market pins links levels → (i : ℕ) (set : CountSet) → slice_get market.sets.items i ≡ Some set
    → set_number market.trades.items set (counts_at market levels set.firm)
    ≡ Some (set.constant +ℤ (rise set.steps.items (get_or levels i 0) -ℤ rise set.steps.items set.back))
set_now market pins links levels flow i set at =
    let net = set_flow market pins links levels flow i set at in
    added_there set (net_count market.trades.items set (counts_at market levels set.firm) +ℤ pos set.back)
    (get_or levels i 0) (omega (arith, ints, net))
    (level_within links levels i (set_shape market i set) flow.kept (flow.of.sets i set at))

-- no counts bring more over the link of a set
set_below : (market : UnitMarket) (pins : List Pin) (links : List Link) (levels : List ℕ) (label : ℕ → ℤ)
    → IsKeptBy market pins links levels label → (f : ℕ) (others : ℕ → ℕ)
    → AreThere market.trades.items f others market.sets.items → (i : ℕ) → i < length market.sets.items
    → set_part market label f others i ≤ℤ set_part market label f (counts_at market levels f) i
set_below market pins links levels label kept f others there i inside =
    let found = item_at market.sets.items i inside in
    let set = found.0 in
    let first = ap (set_part_in market label f others i) found.1 in
    let second = ap (set_part_in market label f (counts_at market levels f) i) found.1 in
    elim (cases_eq f set.firm) [
      | inr other ↦
          let test = ne_eqb f set.firm other in
          let one = nothing others set test in
          let two = nothing (counts_at market levels f) set test in
          omega (arith, ints, first, second, one, two)
      | inl own ↦
          let test = eq-eqb f set.firm own in
          let number = there i set found.1 own in
          let other = level_of set (net_count trades set others +ℤ pos set.back) number.0 number.1 in
          let above_is : climb market label i ≡ label (above_in market i (Some set)) -ℤ label i =
          ap (λ (o : Option CountSet). label (above_in market i o) -ℤ label i) found.1 in
          let below = below_at market pins links levels label kept i (set_shape market i set)
          (kept.flow.of.sets i set found.1) other.level other.within in
          let now = set_now market pins links levels kept.flow i set found.1 in
          let net = set_flow market pins links levels kept.flow i set found.1 in
          let here : set_number trades set (counts_at market levels f)
          ≡ Some (set.constant +ℤ (rise set.steps.items (get_or levels i 0) -ℤ rise set.steps.items set.back)) =
          ap (λ (g : ℕ). set_number trades set (counts_at market levels g)) own ∙ now in
          let net_here : net_count trades set (counts_at market levels f) ≡ pos (get_or levels i 0) -ℤ pos set.back =
          ap (λ (g : ℕ). net_count trades set (counts_at market levels g)) own ∙ sym net in
          let net_there : net_count trades set others ≡ pos other.level -ℤ pos set.back =
          let level_is = other.is in omega (arith, ints, level_is) in
          let one = known others set test number.0 number.1 in
          let two = known (counts_at market levels f) set test
          (set.constant +ℤ (rise set.steps.items (get_or levels i 0) -ℤ rise set.steps.items set.back)) here in
          let three = ap₂ (λ (x : ℤ) (y : ℤ). x *ℤ y) above_is net_there in
          let four = ap₂ (λ (x : ℤ) (y : ℤ). x *ℤ y) above_is net_here in
          let value = other.value_is in
          omega (arith, ints, first, second, one, two, three, four, below, value)
    ]
  where
    trades : List UnitTrade
    trades = market.trades.items

    nothing : (counts : ℕ → ℕ) (set : CountSet) → (f == set.firm) ≡ false
        → set_part_in market label f counts i (Some set) ≡ pos 0
    nothing counts set test =
        let value = ap (λ (b : Bool). when b (unwrap_or (set_number trades set counts) (pos 0))) test in
        let net = ap (λ (b : Bool). climb market label i *ℤ when b (net_count trades set counts)) test in
        let zero_is = *ℤ-zero (climb market label i) in
        omega (arith, ints, value, net, zero_is)

    known : (counts : ℕ → ℕ) (set : CountSet) → (f == set.firm) ≡ true → (value : ℤ)
        → set_number trades set counts ≡ Some value
        → set_part_in market label f counts i (Some set) ≡ value +ℤ climb market label i *ℤ net_count trades set counts
    known counts set test value is =
        let first = ap (λ (b : Bool). when b (unwrap_or (set_number trades set counts) (pos 0))) test in
        let own = ap (λ (o : Option ℤ). unwrap_or o (pos 0)) is in
        let net = ap (λ (b : Bool). climb market label i *ℤ when b (net_count trades set counts)) test in
        omega (arith, ints, first, own, net)

-- nor over those of a trade
trade_below : (market : UnitMarket) (pins : List Pin) (links : List Link) (levels : List ℕ) (label : ℕ → ℤ)
    → IsKeptBy market pins links levels label → (f : ℕ) (others : ℕ → ℕ) → AreCounts market.trades.items others
    → (t : ℕ) → t < length market.trades.items
    → trade_part market label f others t ≤ℤ trade_part market label f (counts_at market levels f) t
trade_below market pins links levels label kept f others within t inside =
    let sells = half (f == seller) seller_part (others t) (counts_at market levels f t) (λ is.
    sold (sym (ap (λ (b : Bool). if b then sold_at market levels t else bought_at market levels t) is))) in
    let buys = half (f == buyer) buyer_part (others t) (counts_at market levels f t) (λ is.
    bought (sym (ap (λ (b : Bool). if b then sold_at market levels t else bought_at market levels t)
    (ne_eqb f seller (λ e. apart (sym e ∙ eqb-true f buyer is)))))) in
    omega (arith, ints, sells, buys)
  where
    seller : ℕ
    seller = (trade_at market.trades.items t).seller

    buyer : ℕ
    buyer = (trade_at market.trades.items t).buyer

    apart : seller ≢ buyer
    apart = (between_at market kept.flow.market_is t inside).apart

    seller_part : ℕ → ℤ
    seller_part n = seller_rate market label t *ℤ pos n

    buyer_part : ℕ → ℤ
    buyer_part n = buyer_rate market label t *ℤ pos n

    half : (test : Bool) (part : ℕ → ℤ) (one other : ℕ) → (test ≡ true → part one ≤ℤ part other)
        → when test (part one) ≤ℤ when test (part other)
    half true part one other below = below refl
    half false part one other below = omega (arith, ints)

    -- a link of one step from 0 on
    one_step : (amount rate : ℤ) (units n level : ℕ) → n ≤ units → level ≤ units
        → ((rise (even units amount) n -ℤ rise (even units amount) 0) +ℤ rate *ℤ (pos n -ℤ pos 0))
        ≤ℤ ((rise (even units amount) level -ℤ rise (even units amount) 0) +ℤ rate *ℤ (pos level -ℤ pos 0))
        → ((amount +ℤ rate) *ℤ pos n) ≤ℤ ((amount +ℤ rate) *ℤ pos level)
    one_step amount rate units n level few fewer below =
        let first = even_gain units n amount few in
        let second = even_gain units level amount fewer in
        let flows : pos n -ℤ pos 0 ≡ pos n = omega (arith, ints) in
        let third = ap (λ (z : ℤ). rate *ℤ z) flows in
        let levels_are : pos level -ℤ pos 0 ≡ pos level = omega (arith, ints) in
        let fourth = ap (λ (z : ℤ). rate *ℤ z) levels_are in
        let one = plus-times amount rate (pos n) in
        let two = plus-times amount rate (pos level) in
        omega (arith, ints, below, first, second, third, fourth, one, two)

    sold : sold_at market levels t ≡ counts_at market levels f t
        → seller_part (others t) ≤ℤ seller_part (counts_at market levels f t)
    sold is =
        let few = within t inside in
        let fewer = sold_within market pins links levels kept.flow t inside in
        let below = below_at market pins links levels label kept (seller_place market t) (seller_shape market t)
        (kept.flow.of.sellers t inside) (others t) (omega (arith, few)) in
        let line = one_step (amounts_at market.amounts.items t).seller
        (label (trade_node market t) -ℤ label (inner_node market seller t)) (trade_at market.trades.items t).units (others t)
        (sold_at market levels t) few fewer below in
        subst (λ (n : ℕ). seller_part (others t) ≤ℤ seller_part n) is line

    bought : bought_at market levels t ≡ counts_at market levels f t
        → buyer_part (others t) ≤ℤ buyer_part (counts_at market levels f t)
    bought is =
        let few = within t inside in
        let fewer = bought_within market pins links levels kept.flow t inside in
        let below = below_at market pins links levels label kept (buyer_place market t) (buyer_shape market t)
        (kept.flow.of.buyers t inside) (others t) (omega (arith, few)) in
        let line = one_step (amounts_at market.amounts.items t).buyer
        (label (inner_node market buyer t) -ℤ label (trade_node market t)) (trade_at market.trades.items t).units (others t)
        (bought_at market levels t) few fewer below in
        subst (λ (n : ℕ). buyer_part (others t) ≤ℤ buyer_part n) is line

-- each of a firm's sets adds a number at the firm's counts
pub all_there : (market : UnitMarket) (pins : List Pin) (links : List Link) (levels : List ℕ)
    → IsFlowOf market pins links levels → (f : ℕ)
    → AreThere market.trades.items f (counts_at market levels f) market.sets.items
all_there market pins links levels flow f i set at own = (
  set.constant +ℤ (rise set.steps.items (get_or levels i 0) -ℤ rise set.steps.items set.back),
  ap (λ (g : ℕ). set_number market.trades.items set (counts_at market levels g)) own
      ∙ set_now market pins links levels flow i set at,
)

-- so each firm's counts are best
pub counts_best : (market : UnitMarket) (pins : List Pin) (links : List Link) (levels : List ℕ) (label : ℕ → ℤ)
    → IsKeptBy market pins links levels label → (f : ℕ) → f < market.firms
    → (value : ℤ) × IsBestCount market.trades.items
    (count_utility market.trades.items (pos 1) (price_by market label) f (firm_of market f)) (counts_at market levels f) value
counts_best market pins links levels label kept f below = (
  utility counts,
  record {
    within = counts_within;
    is = ap (λ (o : Option ℤ). option_map (λ worth. pos 1 *ℤ worth +ℤ payments trades prices f counts) o) worth_is
        ∙ ap Some (one_times counts);
    most = most;
  },
)
  where
    trades : List UnitTrade
    trades = market.trades.items

    prices : ℕ → ℤ
    prices = price_by market label

    counts : ℕ → ℕ
    counts = counts_at market levels f

    amounts : (ℕ → ℕ) → ℤ
    amounts c = amount_sum trades market.amounts.items f c

    utility : (ℕ → ℕ) → ℤ
    utility c = amounts c +ℤ sets_value trades f c market.sets.items +ℤ payments trades prices f c

    one_times : (c : ℕ → ℕ) → pos 1 *ℤ (amounts c +ℤ sets_value trades f c market.sets.items) +ℤ payments trades prices f c
        ≡ utility c
    one_times c =
        let turned = *ℤ_comm (pos 1) (amounts c +ℤ sets_value trades f c market.sets.items) in
        let unit = *ℤ-one (amounts c +ℤ sets_value trades f c market.sets.items) in
        omega (arith, ints, turned, unit)

    worth_is : (firm_of market f).worth counts ≡ Some (amounts counts +ℤ sets_value trades f counts market.sets.items)
    worth_is =
        both_are (Some (amounts counts)) (set_sum trades f counts market.sets.items) (amounts counts)
        (sets_value trades f counts market.sets.items) refl
        (set_sum_from trades f counts market.sets.items (all_there market pins links levels kept.flow f))

    counts_within : AreCounts trades counts
    counts_within t inside = by (f == (trade_at trades t).seller)
      where
        by : (b : Bool) → (if b then sold_at market levels t else bought_at market levels t) ≤ (trade_at trades t).units
        by true = sold_within market pins links levels kept.flow t inside
        by false = bought_within market pins links levels kept.flow t inside

    most : (others : ℕ → ℕ) (other : ℤ) → AreCounts trades others
        → count_utility trades (pos 1) prices f (firm_of market f) others ≡ Some other → other ≤ℤ utility counts
    most others other within is =
        let has = has_worth (pos 1) (payments trades prices f others) ((firm_of market f).worth others) other is in
        let parts = both_parts (Some (amounts others)) (set_sum trades f others market.sets.items) has.worth has.is in
        let sum = set_sum_parts trades f others market.sets.items parts.second parts.second_is in
        let sum_is = sum.0 in
        let amount_is = same_Some (amounts others) parts.first parts.first_is in
        let worth_sum = parts.sum_is in
        let worth : has.worth ≡ amounts others +ℤ sets_value trades f others market.sets.items =
        omega (arith, ints, sum_is, amount_is, worth_sum) in
        let times = ap (λ (z : ℤ). pos 1 *ℤ z) worth in
        let value = has.value_is in
        let unit = one_times others in
        let root = root_label market pins links levels label kept f below in
        let first = utility_is market label f others kept.flow.market_is.laminar root in
        let second = utility_is market label f counts kept.flow.market_is.laminar root in
        let sets = total-most (set_part market label f others) (set_part market label f counts) (length market.sets.items)
        (set_below market pins links levels label kept f others sum.1) in
        let ends = total-most (trade_part market label f others) (trade_part market label f counts) (length trades)
        (trade_below market pins links levels label kept f others within) in
        omega (arith, ints, times, value, unit, first, second, sets, ends)

pub prices_are : (market : UnitMarket) (pins : List Pin) (links : List Link) (levels : List ℕ) (label : ℕ → ℤ)
    → IsKeptBy market pins links levels label → ArePrices market pins levels (price_by market label)
prices_are market pins links levels label kept = record {
  best = counts_best market pins links levels label kept;
  given = pin_label market pins links levels label kept;
}
