-- What all firms have together at the counts of a kept flow, of which a trade's seller may sell more than its buyer buys.
use Rattle.std.proofs.Common.{◌≡◌, ◌≢◌, ℕ, zero, suc, ◌+◌, ◌<◌, ◌≤◌, Bool, true, false, ◌==◌, if◌then◌else◌, List, [], ◌∷◌, length, map, get_or, Option, Some, None, slice_get, refl, sym, ap, ◌∙◌, arith, inl, inr, ℤ, pos, ◌+ℤ◌, ◌-ℤ◌, ◌*ℤ◌}
use Rattle.std.specs.Prelude.{neg_ℤ, unwrap_or}
use Rattle.std.specs.List.{range_with_len}
use Rattle.std.proofs.lemmas.Int.{ints}
use Rattle.std.proofs.lemmas.Bool.{cases_eq, eq-eqb, eqb-true, ne_eqb}
use Rattle.std.proofs.Math.IntN.{zero-*ℤ}
use Rattle.tn_base.proofs.WalkLemmas.{both_are}
use Rattle.tn_links.specs.declared.link.Link.{Link}
use Rattle.tn_links.specs.Flows.{total_gain}
use Rattle.tn_links.specs.Links.{rise}
use Rattle.tn_links.specs.Totals.{total}
use Rattle.tn_links.proofs.TotalLemmas.{minus-times, times-minus, total-first, total-plus, total-same, total-swap, total-zero, total_one}
use Rattle.tn_counts.specs.Counts.{count_surplus, paid_to, payments, trade_at}
use Rattle.tn_counts.specs.Laminar.{amount_sum, amount_to, amounts_at, constants, firm_of, firms_of, set_number, set_sum}
use Rattle.tn_counts.specs.Markets.{IsWideMarket}
use Rattle.tn_counts.specs.Tree.{bought_at, counts_at, root_node, root_shape, sold_at}
use Rattle.tn_counts.specs.declared.market.Pin.{Pin}
use Rattle.tn_counts.specs.declared.market.UnitMarket.{UnitMarket}
use Rattle.tn_counts.specs.declared.set.CountSet.{CountSet}
use Rattle.tn_counts.specs.declared.trade.UnitTrade.{UnitTrade}
use Rattle.tn_counts.proofs.FlowLemmas.{IsFlowOf, level_within}
use Rattle.tn_counts.proofs.NetLemmas.{between_at}
use Rattle.tn_counts.proofs.PlaceLemmas.{buyer_term, gain_placed, item_at, links_sum, pin_term, root_term, seller_term, set_in, set_term, shape_gain}
use Rattle.tn_counts.proofs.PriceLemmas.{all_there, set_now}
use Rattle.tn_counts.proofs.SmallLemmas.{bought_within, sold_within}
use Rattle.tn_counts.proofs.UtilityLemmas.{when}
use Rattle.tn_counts.proofs.WorthLemmas.{even_gain, even_rise, set_sum_from, sets_value, value_in}

-- ---- what the two ends of a trade have

when_same : (b : Bool) (x y : ℤ) → (b ≡ true → x ≡ y) → when b x ≡ when b y
when_same true x y same = same refl
when_same false x y same = refl

-- a rate for each end, times its own count
end_rate : (f seller buyer sold bought : ℕ) (a b : ℤ) → seller ≢ buyer
    → (when (f == seller) a +ℤ when (f == buyer) b) *ℤ pos (if f == seller then sold else bought)
    ≡ when (f == seller) (a *ℤ pos sold) +ℤ when (f == buyer) (b *ℤ pos bought)
end_rate f seller buyer sold bought a b apart = elim (cases_eq f seller) [
  | inl same ↦ by true false (eq-eqb f seller same) (ne_eqb f buyer (λ e. apart (sym same ∙ e))) (first a sold)
  | inr other ↦ elim (cases_eq f buyer) [
    | inl own ↦ by false true (ne_eqb f seller other) (eq-eqb f buyer own) (second b bought)
    | inr none ↦ by false false (ne_eqb f seller other) (ne_eqb f buyer none) (zero-*ℤ (pos bought))
  ]
]
  where
    sides : Bool → Bool → Type 0
    sides s t = (when s a +ℤ when t b) *ℤ pos (if s then sold else bought)
        ≡ when s (a *ℤ pos sold) +ℤ when t (b *ℤ pos bought)

    by : (s t : Bool) → (f == seller) ≡ s → (f == buyer) ≡ t → sides s t → sides (f == seller) (f == buyer)
    by s t sells buys is = rw (sells, buys) is

    first : (z : ℤ) (n : ℕ) → (z +ℤ pos 0) *ℤ pos n ≡ z *ℤ pos n +ℤ pos 0
    first z n = let same : z +ℤ pos 0 ≡ z = omega (arith, ints) in
        let times = ap (λ (y : ℤ). y *ℤ pos n) same in omega (arith, ints, times)

    second : (z : ℤ) (n : ℕ) → (pos 0 +ℤ z) *ℤ pos n ≡ pos 0 +ℤ z *ℤ pos n
    second z n = let same : pos 0 +ℤ z ≡ z = omega (arith, ints) in
        let times = ap (λ (y : ℤ). y *ℤ pos n) same in omega (arith, ints, times)

-- over all firms
ends_sum : (firms seller buyer sold bought : ℕ) (a b : ℤ) → seller < firms → buyer < firms → seller ≢ buyer
    → total (λ f. (when (f == seller) a +ℤ when (f == buyer) b) *ℤ pos (if f == seller then sold else bought)) firms
    ≡ a *ℤ pos sold +ℤ b *ℤ pos bought
ends_sum firms seller buyer sold bought a b sells buys apart =
    let same = total-same
    (λ f. (when (f == seller) a +ℤ when (f == buyer) b) *ℤ pos (if f == seller then sold else bought))
    (λ f. when (f == seller) (a *ℤ pos sold) +ℤ when (f == buyer) (b *ℤ pos bought)) firms
    (λ f below. end_rate f seller buyer sold bought a b apart) in
    let parts = total-plus (λ f. when (f == seller) (a *ℤ pos sold)) (λ f. when (f == buyer) (b *ℤ pos bought)) firms in
    let first = total_one (a *ℤ pos sold) seller firms sells in
    let second = total_one (b *ℤ pos bought) buyer firms buys in
    omega (arith, ints, same, parts, first, second)

-- the amounts
amounts_apart : (market : UnitMarket) (levels : List ℕ) → IsWideMarket market
    → total (λ f. amount_sum market.trades.items market.amounts.items f (counts_at market levels f)) market.firms
    ≡ total (λ t. (amounts_at market.amounts.items t).seller *ℤ pos (sold_at market levels t)
    +ℤ (amounts_at market.amounts.items t).buyer *ℤ pos (bought_at market levels t)) (length market.trades.items)
amounts_apart market levels is =
    total-swap (λ f t. amount_to f (trade_at trades t) (amounts_at market.amounts.items t)
    *ℤ pos (counts_at market levels f t)) market.firms (length trades)
    ∙ total-same (λ t. total (λ f. amount_to f (trade_at trades t) (amounts_at market.amounts.items t)
    *ℤ pos (counts_at market levels f t)) market.firms)
    (λ t. (amounts_at market.amounts.items t).seller *ℤ pos (sold_at market levels t)
    +ℤ (amounts_at market.amounts.items t).buyer *ℤ pos (bought_at market levels t)) (length trades)
    (λ t below. let known = between_at market is t below in
    ends_sum market.firms (trade_at trades t).seller (trade_at trades t).buyer (sold_at market levels t)
    (bought_at market levels t) (amounts_at market.amounts.items t).seller (amounts_at market.amounts.items t).buyer
    known.seller known.buyer known.apart)
  where
    trades : List UnitTrade
    trades = market.trades.items

-- of what is paid, what is sold and not bought is left
pub payments_apart : (market : UnitMarket) (levels : List ℕ) (prices : ℕ → ℤ) → IsWideMarket market
    → total (λ f. payments market.trades.items prices f (counts_at market levels f)) market.firms
    ≡ total (λ t. prices t *ℤ (pos (sold_at market levels t) -ℤ pos (bought_at market levels t)))
    (length market.trades.items)
payments_apart market levels prices is =
    total-swap (λ f t. paid_to f (prices t) (trade_at trades t) *ℤ pos (counts_at market levels f t)) market.firms
    (length trades)
    ∙ total-same (λ t. total (λ f. paid_to f (prices t) (trade_at trades t) *ℤ pos (counts_at market levels f t))
    market.firms) (λ t. prices t *ℤ (pos (sold_at market levels t) -ℤ pos (bought_at market levels t))) (length trades)
    each
  where
    trades : List UnitTrade
    trades = market.trades.items

    turned : (s b : Bool) (z : ℤ) → when s z -ℤ when b z ≡ when s z +ℤ when b (neg_ℤ z)
    turned s true z = omega (arith, ints)
    turned s false z = omega (arith, ints)

    each : (t : ℕ) → t < length trades
        → total (λ f. paid_to f (prices t) (trade_at trades t) *ℤ pos (counts_at market levels f t)) market.firms
        ≡ prices t *ℤ (pos (sold_at market levels t) -ℤ pos (bought_at market levels t))
    each t below =
        let trade = trade_at trades t in
        let known = between_at market is t below in
        let price = prices t in
        let sold = sold_at market levels t in
        let bought = bought_at market levels t in
        let same = total-same (λ f. paid_to f price trade *ℤ pos (counts_at market levels f t))
        (λ f. (when (f == trade.seller) price +ℤ when (f == trade.buyer) (neg_ℤ price))
        *ℤ pos (counts_at market levels f t)) market.firms
        (λ f inside. ap (λ (z : ℤ). z *ℤ pos (counts_at market levels f t))
        (turned (f == trade.seller) (f == trade.buyer) price)) in
        let sum = ends_sum market.firms trade.seller trade.buyer sold bought price (neg_ℤ price) known.seller
        known.buyer known.apart in
        let negative : neg_ℤ price ≡ pos 0 -ℤ price = omega (arith, ints) in
        let less = ap (λ (z : ℤ). z *ℤ pos bought) negative in
        let parts = minus-times (pos 0) price (pos bought) in
        let none = zero-*ℤ (pos bought) in
        let whole = times-minus price (pos sold) (pos bought) in
        omega (arith, ints, same, sum, less, parts, none, whole)

-- ---- what the sets have

-- all constants by place
abbrev constant_in : Option CountSet → ℤ
constant_in None = pos 0
constant_in (Some set) = set.constant

constants_are : (sets : List CountSet) → total (λ i. constant_in (slice_get sets i)) (length sets) ≡ constants sets
unfolding total
constants_are [] = refl
constants_are (set ∷ sets) =
    let rest = constants_are sets in
    let first = total-first (λ i. constant_in (slice_get (set ∷ sets) i)) (length sets) in
    omega (arith, ints, rest, first)

-- over all firms a set's number is there once
sets_apart : (market : UnitMarket) (pins : List Pin) (links : List Link) (levels : List ℕ)
    → IsFlowOf market pins links levels
    → total (λ f. sets_value market.trades.items f (counts_at market levels f) market.sets.items) market.firms
    ≡ total (λ i. constant_in (slice_get market.sets.items i) +ℤ set_term shape_gain market levels i)
    (length market.sets.items)
sets_apart market pins links levels flow =
    total-swap (λ f i. value_in trades f (counts_at market levels f) (slice_get market.sets.items i)) market.firms
    (length market.sets.items)
    ∙ total-same (λ i. over (slice_get market.sets.items i))
    (λ i. constant_in (slice_get market.sets.items i) +ℤ set_term shape_gain market levels i) (length market.sets.items) each
  where
    trades : List UnitTrade
    trades = market.trades.items

    over : Option CountSet → ℤ
    over o = total (λ f. value_in trades f (counts_at market levels f) o) market.firms

    each : (i : ℕ) → i < length market.sets.items
        → over (slice_get market.sets.items i)
        ≡ constant_in (slice_get market.sets.items i) +ℤ set_term shape_gain market levels i
    each i inside =
        let found = item_at market.sets.items i inside in
        let set = found.0 in
        let gained : ℤ = rise set.steps.items (get_or levels i 0) -ℤ rise set.steps.items set.back in
        let first = ap over found.1 in
        let number : (f : ℕ) → f < market.firms → value_in trades f (counts_at market levels f) (Some set)
        ≡ when (f == set.firm) (set.constant +ℤ gained) =
        λ f below. when_same (f == set.firm) (unwrap_or (set_number trades set (counts_at market levels f)) (pos 0))
        (set.constant +ℤ gained)
        (λ own. ap (λ (g : ℕ). unwrap_or (set_number trades set (counts_at market levels g)) (pos 0))
        (eqb-true f set.firm own)
        ∙ ap (λ (o : Option ℤ). unwrap_or o (pos 0)) (set_now market pins links levels flow i set found.1)) in
        let same = total-same (λ f. value_in trades f (counts_at market levels f) (Some set))
        (λ f. when (f == set.firm) (set.constant +ℤ gained)) market.firms number in
        let one = total_one (set.constant +ℤ gained) set.firm market.firms
        (flow.market_is.each i set found.1).known in
        let constant = ap constant_in found.1 in
        let gain_is = ap (set_in shape_gain market levels i) found.1 in
        omega (arith, ints, first, same, one, constant, gain_is)

-- ---- what a flow gains

gains_apart : (market : UnitMarket) (pins : List Pin) (links : List Link) (levels : List ℕ)
    → IsFlowOf market pins links levels
    → total_gain links levels ≡ total (set_term shape_gain market levels) (length market.sets.items)
    +ℤ total (λ t. (amounts_at market.amounts.items t).seller *ℤ pos (sold_at market levels t)
    +ℤ (amounts_at market.amounts.items t).buyer *ℤ pos (bought_at market levels t)) (length market.trades.items)
    +ℤ total (pin_term shape_gain market pins levels) (length pins)
gains_apart market pins links levels flow =
    let placed_is = gain_placed links levels flow.kept.one_each in
    let whole = links_sum shape_gain market pins links levels flow.of in
    let roots = total-zero (root_term shape_gain market levels) market.firms root_none in
    let sellers = total-same (seller_term shape_gain market levels)
    (λ t. (amounts_at market.amounts.items t).seller *ℤ pos (sold_at market levels t)) (length market.trades.items)
    (λ t below. even_gain (trade_at market.trades.items t).units (sold_at market levels t)
    (amounts_at market.amounts.items t).seller (sold_within market pins links levels flow t below)) in
    let buyers = total-same (buyer_term shape_gain market levels)
    (λ t. (amounts_at market.amounts.items t).buyer *ℤ pos (bought_at market levels t)) (length market.trades.items)
    (λ t below. even_gain (trade_at market.trades.items t).units (bought_at market levels t)
    (amounts_at market.amounts.items t).buyer (bought_within market pins links levels flow t below)) in
    let ends = total-plus (λ t. (amounts_at market.amounts.items t).seller *ℤ pos (sold_at market levels t))
    (λ t. (amounts_at market.amounts.items t).buyer *ℤ pos (bought_at market levels t)) (length market.trades.items) in
    omega (arith, ints, placed_is, whole, roots, sellers, buyers, ends)
  where
    root_none : (f : ℕ) → f < market.firms → root_term shape_gain market levels f ≡ pos 0
    root_none f below =
        let within = level_within links levels (root_node market f) (root_shape market f) flow.kept (flow.of.roots f below) in
        let first = even_rise 8388608 (get_or levels (root_node market f) 0) (pos 0) (omega (arith, within)) in
        let second = even_rise 8388608 4194304 (pos 0) (omega arith) in
        let one = zero-*ℤ (pos (get_or levels (root_node market f) 0)) in
        let two = zero-*ℤ (pos 4194304) in
        omega (arith, ints, first, second, one, two)

-- ---- what the firms have

-- what a firm has where its sets add numbers
abbrev pub has_of : UnitMarket → (ℕ → ℕ) → ℕ → ℤ
has_of market counts f =
    amount_sum market.trades.items market.amounts.items f counts +ℤ sets_value market.trades.items f counts market.sets.items

-- each has its own counts
pub worth_is : (market : UnitMarket) (pins : List Pin) (links : List Link) (levels : List ℕ)
    → IsFlowOf market pins links levels → (f : ℕ)
    → (firm_of market f).worth (counts_at market levels f) ≡ Some (has_of market (counts_at market levels f) f)
worth_is market pins links levels flow f =
    both_are (Some (amount_sum market.trades.items market.amounts.items f (counts_at market levels f)))
    (set_sum market.trades.items f (counts_at market levels f) market.sets.items)
    (amount_sum market.trades.items market.amounts.items f (counts_at market levels f))
    (sets_value market.trades.items f (counts_at market levels f) market.sets.items) refl
    (set_sum_from market.trades.items f (counts_at market levels f) market.sets.items
    (all_there market pins links levels flow f))

-- together they have what the flow gains and the constants of all sets, less what the pins gain
pub firms_have : (market : UnitMarket) (pins : List Pin) (links : List Link) (levels : List ℕ)
    → IsFlowOf market pins links levels
    → total (λ f. has_of market (counts_at market levels f) f) market.firms
    +ℤ total (pin_term shape_gain market pins levels) (length pins)
    ≡ total_gain links levels +ℤ constants market.sets.items
firms_have market pins links levels flow =
    let parts = total-plus
    (λ f. amount_sum market.trades.items market.amounts.items f (counts_at market levels f))
    (λ f. sets_value market.trades.items f (counts_at market levels f) market.sets.items) market.firms in
    let amounts = amounts_apart market levels flow.market_is in
    let sets = sets_apart market pins links levels flow in
    let split = total-plus (λ i. constant_in (slice_get market.sets.items i)) (set_term shape_gain market levels)
    (length market.sets.items) in
    let constants_is = constants_are market.sets.items in
    let gains = gains_apart market pins links levels flow in
    omega (arith, ints, parts, amounts, sets, split, constants_is, gains)

-- where all firms have worths of the same counts, these sum to the surplus
surplus_from : (market : UnitMarket) (counts : ℕ → ℕ) (worths : ℕ → ℤ)
    → ((f : ℕ) → f < market.firms → (firm_of market f).worth counts ≡ Some (worths f)) → (a n : ℕ)
    → a + n ≤ market.firms
    → count_surplus (map (firm_of market) (range_with_len a n)) counts ≡ Some (total (λ k. worths (a + k)) n)
unfolding total
surplus_from market counts worths are a zero within = refl
surplus_from market counts worths are a (suc n) within =
    let rest = surplus_from market counts worths are (a + 1) n (omega (arith, within)) in
    let own = are a (omega (arith, within)) in
    let first = total-first (λ k. worths (a + k)) n in
    let place : a + 0 ≡ a = omega arith in
    let here = ap worths place in
    let later = total-same (λ k. worths (a + 1 + k)) (λ k. worths (a + suc k)) n (λ k below. ap worths (next k)) in
    let sum : worths a +ℤ total (λ k. worths (a + 1 + k)) n ≡ total (λ k. worths (a + k)) (suc n) =
    omega (arith, ints, first, here, later) in
    both_are ((firm_of market a).worth counts) (count_surplus (map (firm_of market) (range_with_len (a + 1) n)) counts)
    (worths a) (total (λ k. worths (a + 1 + k)) n) own rest ∙ ap Some sum
  where
    next : (k : ℕ) → a + 1 + k ≡ a + suc k
    next k = omega arith

pub surplus_is : (market : UnitMarket) (counts : ℕ → ℕ) (worths : ℕ → ℤ)
    → ((f : ℕ) → f < market.firms → (firm_of market f).worth counts ≡ Some (worths f))
    → count_surplus (firms_of market) counts ≡ Some (total worths market.firms)
surplus_is market counts worths are =
    surplus_from market counts worths are 0 market.firms (omega arith)
    ∙ ap Some (total-same (λ k. worths (0 + k)) worths market.firms (λ k below. ap worths (from_zero k)))
  where
    from_zero : (k : ℕ) → 0 + k ≡ k
    from_zero k = omega arith
