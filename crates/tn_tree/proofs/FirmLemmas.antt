-- What firms have by counts of what each sells and buys, trade by trade and set by set.
use Rattle.std.proofs.Common.{◌≡◌, ◌≢◌, ℕ, zero, suc, ◌+◌, ◌-◌, ◌*◌, ◌^◌, ◌<◌, ◌≤◌, ◌⊎◌, Bool, true, false, ◌==◌, if◌then◌else◌, List, [], ◌∷◌, length, map, drop, get_or, Option, Some, None, option_map, slice_get, refl, sym, ap, ap₂, ◌∙◌, subst, arith, inl, inr, ℤ, pos, ◌+ℤ◌, ◌-ℤ◌, ◌≤ℤ◌, ◌*ℤ◌}
use Rattle.std.specs.Prelude.{set, ◌<ℤ◌}
use Rattle.std.proofs.lemmas.Int.{ints}
use Rattle.std.proofs.lemmas.Bool.{cases_eq, cases_lt, eq-eqb, eqb-true, ne_eqb, true≢false}
use Rattle.std.proofs.lemmas.List.{get_or-set_other, get_or-set_same, length-set}
use Rattle.std.proofs.lemmas.Option.{none-some, same_Some, slice_get-get_or}
use native.Mathlib.Nat.{mul-le-mul_right}
use Rattle.std.proofs.Math.IntN.{negsuc, zero-*ℤ}
use Rattle.tn_base.specs.Options.{both}
use Rattle.tn_base.specs.Arcs.{IsAtMost}
use Rattle.tn_base.proofs.WalkLemmas.{both_parts}
use Rattle.tn_links.specs.Links.{rise, room}
use Rattle.tn_links.specs.RiseLemmas.{rise_at_most, times_small}
use Rattle.tn_links.specs.Totals.{total}
use Rattle.tn_links.proofs.BalanceLemmas.{added}
use Rattle.tn_links.proofs.TotalLemmas.{total-same}
use Rattle.tn_counts.specs.Widths.{most_wide_amount}
use Rattle.tn_counts.specs.Outcomes.{HasEnd}
use Rattle.tn_counts.specs.Counts.{AreCounts, count_utility, paid_to, payments, trade_at}
use Rattle.tn_counts.specs.Laminar.{added_at, amount_sum, amount_to, amounts_at, bought_by, firm_of, holds, net_count, set_number, set_sum}
use Rattle.tn_counts.specs.Markets.{AreAmountsWithin, IsMarketWithin, IsSetWithin, IsWideMarket}
use Rattle.tn_counts.specs.declared.market.UnitMarket.{UnitMarket}
use Rattle.tn_counts.specs.declared.set.CountSet.{CountSet}
use Rattle.tn_counts.specs.declared.trade.UnitAmounts.{UnitAmounts}
use Rattle.tn_counts.specs.declared.trade.UnitTrade.{UnitTrade}
use Rattle.tn_counts.proofs.ClimbLemmas.{moved, moved_in}
use Rattle.tn_counts.proofs.NetLemmas.{between_at}
use Rattle.tn_counts.proofs.PriceLemmas.{moved_own}
use Rattle.tn_counts.proofs.SmallLemmas.{units_below, units_total}
use Rattle.tn_counts.proofs.UtilityLemmas.{when}
use Rattle.tn_tree.specs.Lists.{count_in, own_counts}
use Rattle.tn_tree.specs.Nets.{most_set_number, most_sum, net_at}
use Rattle.tn_tree.proofs.NetLemmas.{total_next, total_small}

-- ---- amounts

-- what a trade's amounts bring a firm, by what is sold and what is bought
abbrev pub own_term : List UnitTrade → List UnitAmounts → List ℕ → List ℕ → ℕ → ℕ → ℤ
own_term trades amounts sold bought f t =
    (if f == (trade_at trades t).seller then (amounts_at amounts t).seller *ℤ pos (count_in sold t) else pos 0)
    +ℤ (if f == (trade_at trades t).buyer then (amounts_at amounts t).buyer *ℤ pos (count_in bought t) else pos 0)

own_parts : (s b : Bool) (x y : ℤ) (sold bought : ℕ) → (s ≡ true → b ≡ false)
    → (when s x +ℤ when b y) *ℤ pos (if s then sold else bought) ≡ when s (x *ℤ pos sold) +ℤ when b (y *ℤ pos bought)
own_parts true true x y sold bought apart = absurd (cc (apart refl))
own_parts true false x y sold bought apart =
    let same : x +ℤ pos 0 ≡ x = omega (arith, ints) in
    let own = ap (λ (z : ℤ). z *ℤ pos sold) same in
    omega (arith, ints, own)
own_parts false true x y sold bought apart =
    let same : pos 0 +ℤ y ≡ y = omega (arith, ints) in
    let own = ap (λ (z : ℤ). z *ℤ pos bought) same in
    omega (arith, ints, own)
own_parts false false x y sold bought apart =
    let none = zero-*ℤ (pos bought) in
    omega (arith, ints, none)

pub amounts_own : (market : UnitMarket) (amounts : List UnitAmounts) (sold bought : List ℕ) (f : ℕ) → IsWideMarket market
    → total (own_term market.trades.items amounts sold bought f) (length market.trades.items)
    ≡ amount_sum market.trades.items amounts f (own_counts market.trades.items sold bought f)
amounts_own market amounts sold bought f is =
    total-same (own_term trades amounts sold bought f)
    (λ t. amount_to f (trade_at trades t) (amounts_at amounts t) *ℤ pos (own_counts trades sold bought f t)) (length trades)
    (λ t below. sym (own_parts (f == (trade_at trades t).seller) (f == (trade_at trades t).buyer)
    (amounts_at amounts t).seller (amounts_at amounts t).buyer (count_in sold t) (count_in bought t)
    (λ sells. ne_eqb f (trade_at trades t).buyer
    (λ buys. (between_at market is t below).apart (sym (eqb-true f (trade_at trades t).seller sells) ∙ buys)))))
  where
    trades : List UnitTrade
    trades = market.trades.items

-- what is paid at prices is what the prices add as amounts of the sellers, and take from the buyers
pub paid_amounts : (trades : List UnitTrade) (amounts : List UnitAmounts) (prices : ℕ → ℤ) (f : ℕ) (counts : ℕ → ℕ)
    → ((t : ℕ) → t < length trades
    → ((amounts_at amounts t).seller ≡ prices t) × ((amounts_at amounts t).buyer ≡ pos 0 -ℤ prices t))
    → amount_sum trades amounts f counts ≡ payments trades prices f counts
paid_amounts trades amounts prices f counts paid =
    total-same (λ t. amount_to f (trade_at trades t) (amounts_at amounts t) *ℤ pos (counts t))
    (λ t. paid_to f (prices t) (trade_at trades t) *ℤ pos (counts t)) (length trades)
    (λ t below. ap (λ (z : ℤ). z *ℤ pos (counts t)) (each t (paid t below)))
  where
    turned : (b : Bool) (x y : ℤ) → when b (pos 0 -ℤ y) ≡ pos 0 -ℤ when b y
    turned true x y = refl
    turned false x y = refl

    each : (t : ℕ) → ((amounts_at amounts t).seller ≡ prices t) × ((amounts_at amounts t).buyer ≡ pos 0 -ℤ prices t)
        → amount_to f (trade_at trades t) (amounts_at amounts t) ≡ paid_to f (prices t) (trade_at trades t)
    each t both_are =
        let sells = ap (when (f == (trade_at trades t).seller)) both_are.0 in
        let buys = ap (when (f == (trade_at trades t).buyer)) both_are.1 in
        let turn = turned (f == (trade_at trades t).buyer) (prices t) (prices t) in
        omega (arith, ints, sells, buys, turn)

-- ---- sets

pub both_assoc : (a b c : Option ℤ) → both (both a b) c ≡ both a (both b c)
both_assoc None b c = refl
both_assoc (Some a) None c = refl
both_assoc (Some a) (Some b) None = refl
both_assoc (Some a) (Some b) (Some c) =
    let same : (a +ℤ b) +ℤ c ≡ a +ℤ (b +ℤ c) = omega (arith, ints) in
    ap Some same

-- the net count of a set is that of its firm's own counts
pub net_own : (market : UnitMarket) (sold bought : List ℕ) (i : ℕ) (set : CountSet) → IsWideMarket market
    → slice_get market.sets.items i ≡ Some set
    → net_at market sold bought i
    ≡ net_count market.trades.items set (own_counts market.trades.items sold bought set.firm)
net_own market sold bought i set is at =
    ap (moved_in trades (λ t. pos (count_in sold t)) (λ t. pos (count_in bought t))) at
    ∙ total-same
    (λ t. when (holds set t) (moved set.firm (trade_at trades t) (pos (count_in sold t)) (pos (count_in bought t))))
    (λ t. when (holds set t) (bought_by set.firm (trade_at trades t) (pos (own_counts trades sold bought set.firm t))))
    (length trades) (λ t below. ap (when (holds set t)) (moved_own set.firm (trade_at trades t).seller
    (trade_at trades t).buyer (count_in sold t) (count_in bought t) (between_at market is t below).apart))
  where
    trades : List UnitTrade
    trades = market.trades.items

-- what sets from a place on add, set by set
pub sets_here : (trades : List UnitTrade) (f : ℕ) (counts : ℕ → ℕ) (sets : List CountSet) (k : ℕ) (set : CountSet)
    → slice_get sets k ≡ Some set
    → set_sum trades f counts (drop k sets) ≡ (if f == set.firm
    then both (set_number trades set counts) (set_sum trades f counts (drop (k + 1) sets))
    else set_sum trades f counts (drop (k + 1) sets))
sets_here trades f counts [] k set at = absurd (none-some set at)
sets_here trades f counts (first ∷ sets) zero set at =
    ap (λ (s : CountSet). if f == s.firm then both (set_number trades s counts) (set_sum trades f counts sets)
    else set_sum trades f counts sets) (same_Some first set at)
sets_here trades f counts (first ∷ sets) (suc k) set at =
    let next : suc (k + 1) ≡ suc k + 1 = omega arith in
    sets_here trades f counts sets k set at
    ∙ ap (λ (n : ℕ). if f == set.firm then both (set_number trades set counts) (set_sum trades f counts (drop n (first ∷ sets)))
    else set_sum trades f counts (drop n (first ∷ sets))) next

-- ---- counts that are the same of a firm's own trades

abbrev pub AreSameFor : List UnitTrade → ℕ → (ℕ → ℕ) → (ℕ → ℕ) → Type 0
AreSameFor trades f counts others = (t : ℕ) → t < length trades → HasEnd f (trade_at trades t) → counts t ≡ others t

-- what hangs on units where the firm has an end alone
one_same : (f seller buyer n m : ℕ) (h : Bool → Bool → ℕ → ℤ) → ((i j : ℕ) → h false false i ≡ h false false j)
    → ((seller ≡ f) ⊎ (buyer ≡ f) → n ≡ m) → h (f == seller) (f == buyer) n ≡ h (f == seller) (f == buyer) m
one_same f seller buyer n m h none same = elim (cases_eq f seller) [
  | inl sells ↦ ap (h (f == seller) (f == buyer)) (same (inl (sym sells)))
  | inr no_seller ↦ elim (cases_eq f buyer) [
    | inl buys ↦ ap (h (f == seller) (f == buyer)) (same (inr (sym buys)))
    | inr no_buyer ↦
        let tests = ap₂ (λ (x : Bool) (y : Bool). h x y n) (ne_eqb f seller no_seller) (ne_eqb f buyer no_buyer) in
        let back = ap₂ (λ (x : Bool) (y : Bool). h x y m) (ne_eqb f seller no_seller) (ne_eqb f buyer no_buyer) in
        tests ∙ none n m ∙ sym back
  ]
]

number_own : (trades : List UnitTrade) (set : CountSet) (counts others : ℕ → ℕ) → AreSameFor trades set.firm counts others
    → set_number trades set counts ≡ set_number trades set others
number_own trades set counts others same =
    ap (λ (z : ℤ). added_at set (z +ℤ pos set.back))
    (total-same (λ t. when (holds set t) (bought_by set.firm (trade_at trades t) (pos (counts t))))
    (λ t. when (holds set t) (bought_by set.firm (trade_at trades t) (pos (others t)))) (length trades)
    (λ t below. ap (when (holds set t)) (one_same set.firm (trade_at trades t).seller (trade_at trades t).buyer (counts t)
    (others t) (λ s b n. when b (pos n) -ℤ when s (pos n)) (λ i j. refl) (same t below))))

sets_own : (trades : List UnitTrade) (f : ℕ) (counts others : ℕ → ℕ) (sets : List CountSet)
    → AreSameFor trades f counts others → set_sum trades f counts sets ≡ set_sum trades f others sets
sets_own trades f counts others [] same = refl
sets_own trades f counts others (set ∷ sets) same = elim (cases_eq f set.firm) [
  | inl own ↦
      ap₂ (λ (o : Option ℤ) (p : Option ℤ). if f == set.firm then both o p else p)
      (number_own trades set counts others (subst (λ (g : ℕ). AreSameFor trades g counts others) own same))
      (sets_own trades f counts others sets same)
  | inr other ↦
      let test = ne_eqb f set.firm other in
      ap (λ (b : Bool). if b then both (set_number trades set counts) (set_sum trades f counts sets)
      else set_sum trades f counts sets) test
      ∙ sets_own trades f counts others sets same
      ∙ sym (ap (λ (b : Bool). if b then both (set_number trades set others) (set_sum trades f others sets)
      else set_sum trades f others sets) test)
]

pub worth_own : (market : UnitMarket) (f : ℕ) (counts others : ℕ → ℕ) → AreSameFor market.trades.items f counts others
    → (firm_of market f).worth counts ≡ (firm_of market f).worth others
worth_own market f counts others same =
    ap₂ (λ (z : ℤ) (o : Option ℤ). both (Some z) o)
    (total-same (λ t. amount_to f (trade_at trades t) (amounts_at amounts t) *ℤ pos (counts t))
    (λ t. amount_to f (trade_at trades t) (amounts_at amounts t) *ℤ pos (others t)) (length trades)
    (λ t below. one_same f (trade_at trades t).seller (trade_at trades t).buyer (counts t) (others t)
    (λ s b n. (when s (amounts_at amounts t).seller +ℤ when b (amounts_at amounts t).buyer) *ℤ pos n)
    (λ i j. zero-*ℤ (pos i) ∙ sym (zero-*ℤ (pos j))) (same t below)))
    (sets_own trades f counts others market.sets.items same)
  where
    trades : List UnitTrade
    trades = market.trades.items

    amounts : List UnitAmounts
    amounts = market.amounts.items

pub payments_own : (trades : List UnitTrade) (prices : ℕ → ℤ) (f : ℕ) (counts others : ℕ → ℕ)
    → AreSameFor trades f counts others → payments trades prices f counts ≡ payments trades prices f others
payments_own trades prices f counts others same =
    total-same (λ t. paid_to f (prices t) (trade_at trades t) *ℤ pos (counts t))
    (λ t. paid_to f (prices t) (trade_at trades t) *ℤ pos (others t)) (length trades)
    (λ t below. one_same f (trade_at trades t).seller (trade_at trades t).buyer (counts t) (others t)
    (λ s b n. (when s (prices t) -ℤ when b (prices t)) *ℤ pos n)
    (λ i j. zero-*ℤ (pos i) ∙ sym (zero-*ℤ (pos j))) (same t below))

pub utility_own : (market : UnitMarket) (scale : ℤ) (prices : ℕ → ℤ) (f : ℕ) (counts others : ℕ → ℕ)
    → AreSameFor market.trades.items f counts others
    → count_utility market.trades.items scale prices f (firm_of market f) counts
    ≡ count_utility market.trades.items scale prices f (firm_of market f) others
utility_own market scale prices f counts others same =
    ap₂ (λ (o : Option ℤ) (z : ℤ). option_map (λ worth. scale *ℤ worth +ℤ z) o) (worth_own market f counts others same)
    (payments_own market.trades.items prices f counts others same)

-- ---- sizes

-- what a set adds at a level
pub number_small : (limit firms : ℕ) (set : CountSet) (level : ℕ) → IsSetWithin limit firms set
    → level ≤ room set.steps.items
    → IsAtMost (set.constant +ℤ (rise set.steps.items level -ℤ rise set.steps.items set.back)) (2097153 * limit)
number_small limit firms set level is within = elim (cases_lt level set.back) [
  | inl below ↦
      let d : ℕ = set.back - level in
      let sum : level + d ≡ set.back = omega (arith, below) in
      let rises = rise_at_most limit set.steps.items level d is.small in
      let same = ap (rise set.steps.items) sum in
      let most = mul-le-mul_right limit (few d (omega (arith, is.around, sum))) in
      record {
        low = omega (arith, ints, rises.high, same, most, constant.low);
        high = omega (arith, ints, rises.low, same, most, constant.high);
      }
  | inr past ↦
      let d : ℕ = level - set.back in
      let sum : set.back + d ≡ level = omega (arith, past) in
      let rises = rise_at_most limit set.steps.items set.back d is.small in
      let same = ap (rise set.steps.items) sum in
      let most = mul-le-mul_right limit (few d (omega (arith, within, sum))) in
      record {
        low = omega (arith, ints, rises.low, same, most, constant.low);
        high = omega (arith, ints, rises.high, same, most, constant.high);
      }
]
  where
    constant : IsAtMost set.constant limit
    constant = is.constant

    few : (d : ℕ) → d ≤ room set.steps.items → d ≤ 2097152
    few d below = let most = is.few in omega (arith, below, most)

-- what amounts of the first trades add
pub terms_so_far : (market : UnitMarket) (amounts : List UnitAmounts) (sold bought : List ℕ) (f k : ℕ) → IsWideMarket market
    → length amounts ≡ length market.trades.items
    → ((t : ℕ) (each : UnitAmounts) → slice_get amounts t ≡ Some each
    → IsAtMost each.seller most_wide_amount × IsAtMost each.buyer most_wide_amount)
    → AreCounts market.trades.items (count_in sold) → AreCounts market.trades.items (count_in bought)
    → k ≤ length market.trades.items
    → IsAtMost (total (own_term market.trades.items amounts sold bought f) k) (k * 10 ^ 20)
unfolding total
terms_so_far market amounts sold bought f zero is sized small few fewer within =
    record { low = omega (arith, ints); high = omega (arith, ints) }
terms_so_far market amounts sold bought f (suc k) is sized small few fewer within =
    let before = terms_so_far market amounts sold bought f k is sized small few fewer (omega (arith, within)) in
    let trade = trade_at market.trades.items k in
    let below : k < length market.trades.items = omega (arith, within) in
    let units = units_below market.trades.items k below in
    let all = is.few_units in
    let each = small k (amounts_at amounts k)
    (slice_get-get_or amounts k (record { seller = pos 0; buyer = pos 0 }) (omega (arith, below, sized))) in
    let sells = times_small (amounts_at amounts k).seller (count_in sold k) most_wide_amount each.0 in
    let buys = times_small (amounts_at amounts k).buyer (count_in bought k) most_wide_amount each.1 in
    let sold_few = few k below in
    let bought_few = fewer k below in
    let first = by (f == trade.seller) ((amounts_at amounts k).seller *ℤ pos (count_in sold k)) (record {
      low = omega (arith, ints, sells.low, sold_few, units, all);
      high = omega (arith, ints, sells.high, sold_few, units, all);
    }) in
    let second = by (f == trade.buyer) ((amounts_at amounts k).buyer *ℤ pos (count_in bought k)) (record {
      low = omega (arith, ints, buys.low, bought_few, units, all);
      high = omega (arith, ints, buys.high, bought_few, units, all);
    }) in
    record {
      low = omega (arith, ints, before.low, first.low, second.low);
      high = omega (arith, ints, before.high, first.high, second.high);
    }
  where
    by : (b : Bool) (z : ℤ) → IsAtMost z (3 * 10 ^ 19) → IsAtMost (if b then z else pos 0) (3 * 10 ^ 19)
    by true z small = small
    by false z small = record { low = omega (arith, ints); high = omega (arith, ints) }

pub terms_sum : (market : UnitMarket) (amounts : List UnitAmounts) (sold bought : List ℕ) (numbers : List ℤ) (f k : ℕ)
    → IsWideMarket market → length amounts ≡ length market.trades.items
    → ((t : ℕ) (each : UnitAmounts) → slice_get amounts t ≡ Some each
    → IsAtMost each.seller most_wide_amount × IsAtMost each.buyer most_wide_amount)
    → AreCounts market.trades.items (count_in sold) → AreCounts market.trades.items (count_in bought)
    → k ≤ length market.trades.items
    → get_or numbers f (pos 0) ≡ total (own_term market.trades.items amounts sold bought f) k
    → IsAtMost (get_or numbers f (pos 0)) (10 ^ 25)
terms_sum market amounts sold bought numbers f k is sized small few fewer within so_far =
    let all = terms_so_far market amounts sold bought f k is sized small few fewer within in
    let trades = is.few_trades in
    record {
      low = omega (arith, ints, all.low, so_far, within, trades);
      high = omega (arith, ints, all.high, so_far, within, trades);
    }

-- what a number is after those of two ends were added
pub two_more : (before middle after : List ℤ) (p q v : ℕ) (x y : ℤ) → p < length before → q < length before
    → middle ≡ set before p (get_or before p (pos 0) +ℤ x) → after ≡ set middle q (get_or middle q (pos 0) +ℤ y)
    → get_or after v (pos 0) ≡ get_or before v (pos 0)
    +ℤ ((if v == p then x else pos 0) +ℤ (if v == q then y else pos 0))
two_more before middle after p q v x y p_in q_in first second =
    let one = ap (λ (xs : List ℤ). get_or xs v (pos 0)) first ∙ added before p v x p_in in
    let sized = ap length first ∙ length-set before p (get_or before p (pos 0) +ℤ x) in
    let two = ap (λ (xs : List ℤ). get_or xs v (pos 0)) second ∙ added middle q v y (omega (arith, q_in, sized)) in
    omega (arith, ints, one, two)

pub terms_more : (trades : List UnitTrade) (amounts : List UnitAmounts) (sold bought : List ℕ) (numbers : List ℤ) (f k : ℕ)
    (now : ℤ) → get_or numbers f (pos 0) ≡ total (own_term trades amounts sold bought f) k
    → now ≡ get_or numbers f (pos 0) +ℤ own_term trades amounts sold bought f k
    → now ≡ total (own_term trades amounts sold bought f) (k + 1)
terms_more trades amounts sold bought numbers f k now so_far is =
    let next = total_next (own_term trades amounts sold bought f) k in
    omega (arith, ints, so_far, is, next)

pub below_zero : (z : ℤ) → z <ℤ pos 0 → (k : ℕ) × (z ≡ negsuc k)
below_zero (pos n) below = absurd (omega (arith, ints, below))
below_zero (negsuc k) below = (k, refl)

pub nothing_added : (c : ℕ → ℤ) (numbers : List ℤ) (f : ℕ) → get_or numbers f (pos 0) ≡ pos 0
    → get_or numbers f (pos 0) ≡ total c 0
unfolding total
nothing_added c numbers f is = is

pub weaker : {z : ℤ} → IsAtMost z (10 ^ 25) → IsAtMost z most_sum
weaker {z} small = record { low = omega (arith, ints, small.low); high = omega (arith, ints, small.high) }

pub second_small : (market : UnitMarket) (counts : List ℕ) (before after : List ℤ) (p q t : ℕ) (each : ℤ)
    → IsWideMarket market → AreCounts market.trades.items (count_in counts) → t < length market.trades.items
    → p < length before → IsAtMost each most_wide_amount
    → after ≡ set before p (get_or before p (pos 0) +ℤ each *ℤ pos (count_in counts t))
    → IsAtMost (get_or before q (pos 0)) (10 ^ 25) → IsAtMost (get_or after q (pos 0)) most_sum
second_small market counts before after p q t each is few below inside small made so_far =
    let step = ap (λ (xs : List ℤ). get_or xs q (pos 0)) made ∙ added before p q (each *ℤ pos (count_in counts t)) inside in
    let more = times_small each (count_in counts t) most_wide_amount small in
    let own = few t below in
    let units = units_below market.trades.items t below in
    let all = is.few_units in
    let here = by (q == p) (record {
      low = omega (arith, ints, more.low, own, units, all);
      high = omega (arith, ints, more.high, own, units, all);
    }) in
    record {
      low = omega (arith, ints, step, so_far.low, here.low);
      high = omega (arith, ints, step, so_far.high, here.high);
    }
  where
    by : (b : Bool) → IsAtMost (each *ℤ pos (count_in counts t)) (10 ^ 24)
        → IsAtMost (if b then each *ℤ pos (count_in counts t) else pos 0) (10 ^ 24)
    by true small = small
    by false small = record { low = omega (arith, ints); high = omega (arith, ints) }

-- ---- what all amounts add is small

scaled : (u : ℕ → ℕ) (limit n : ℕ)
    → (sum : ℕ) × (total (λ t. pos (u t)) n ≡ pos sum) × (total (λ t. pos (u t * limit)) n ≡ pos (sum * limit))
unfolding total
scaled u limit zero = (0, refl, omega (arith, ints))
scaled u limit (suc n) =
    let before = scaled u limit n in
    let one = before.1 in
    let two = before.2 in
    (before.0 + u n, omega (arith, ints, one), omega (arith, ints, two))

-- at most one end is the firm's
one_end : (s b : Bool) (x y : ℤ) (most : ℕ) → (s ≡ true → b ≡ false) → IsAtMost x most → IsAtMost y most
    → ((pos 0 -ℤ pos most) ≤ℤ (when s x +ℤ when b y)) × ((when s x +ℤ when b y) ≤ℤ pos most)
one_end true true x y most apart first second = absurd (true≢false (apart refl))
one_end true false x y most apart first second = (omega (arith, ints, first.low), omega (arith, ints, first.high))
one_end false true x y most apart first second = (omega (arith, ints, second.low), omega (arith, ints, second.high))
one_end false false x y most apart first second = (omega (arith, ints), omega (arith, ints))

fewer_units : (z : ℤ) (n units limit : ℕ) → IsAtMost z (n * limit) → n ≤ units → IsAtMost z (units * limit)
fewer_units z n units limit small few =
    let more = mul-le-mul_right limit few in
    record { low = omega (arith, ints, small.low, more); high = omega (arith, ints, small.high, more) }

-- what units of all trades bring, each at most a limit
pub units_bring : {trades limit : ℕ} (market : UnitMarket) (rate : ℕ → ℤ) (counts : ℕ → ℕ) (most : ℕ)
    → IsMarketWithin trades limit market
    → ((t : ℕ) → t < length market.trades.items → IsAtMost (rate t) most) → AreCounts market.trades.items counts
    → IsAtMost (total (λ t. rate t *ℤ pos (counts t)) (length market.trades.items)) (1048576 * most)
units_bring market rate counts most is small few =
    let scale = scaled (λ t. (trade_at trades t).units) most (length trades) in
    let units = units_total trades in
    let all = is.few_units in
    let one = scale.1 in
    let two = scale.2 in
    let below : scale.0 ≤ 1048576 = omega (arith, ints, one, units, all) in
    let times = mul-le-mul_right most below in
    let within = total_small (λ t. rate t *ℤ pos (counts t)) (λ t. pos ((trade_at trades t).units * most)) (length trades)
    (λ t inside. let own = each t inside in (omega (arith, ints, own.low), omega (arith, ints, own.high))) in
    record { low = omega (arith, ints, within.0, two, times); high = omega (arith, ints, within.1, two, times) }
  where
    trades : List UnitTrade
    trades = market.trades.items

    each : (t : ℕ) → t < length trades → IsAtMost (rate t *ℤ pos (counts t)) ((trade_at trades t).units * most)
    each t inside =
        fewer_units (rate t *ℤ pos (counts t)) (counts t) (trade_at trades t).units most
        (times_small (rate t) (counts t) most (small t inside)) (few t inside)

-- what a unit of a trade adds at its two ends, of which a firm is at most one
pub amount_small : (f : ℕ) (trade : UnitTrade) (amounts : UnitAmounts) (limit : ℕ) → trade.seller ≢ trade.buyer
    → IsAtMost amounts.seller limit → IsAtMost amounts.buyer limit → IsAtMost (amount_to f trade amounts) limit
amount_small f trade amounts limit apart first second =
    let most = one_end (f == trade.seller) (f == trade.buyer) amounts.seller amounts.buyer limit
    (λ sells. ne_eqb f trade.buyer (λ buys. apart (sym (eqb-true f trade.seller sells) ∙ buys))) first second in
    record { low = omega (arith, ints, most.0); high = omega (arith, ints, most.1) }

-- what amounts of counts within the units add
pub amounts_within : {trades limit : ℕ} (market : UnitMarket) (amounts : List UnitAmounts) (counts : ℕ → ℕ) (f most : ℕ)
    → IsMarketWithin trades limit market
    → ((t : ℕ) → t < length market.trades.items
    → IsAtMost (amounts_at amounts t).seller most × IsAtMost (amounts_at amounts t).buyer most)
    → AreCounts market.trades.items counts
    → IsAtMost (amount_sum market.trades.items amounts f counts) (1048576 * most)
amounts_within market amounts counts f most is small few =
    units_bring market (λ t. amount_to f (trade_at market.trades.items t) (amounts_at amounts t)) counts most is
    (λ t inside. let own = small t inside in
    amount_small f (trade_at market.trades.items t) (amounts_at amounts t) most (between_at market is t inside).apart own.0
    own.1) few

pub amounts_small : (market : UnitMarket) (amounts : List UnitAmounts) (sold bought : List ℕ) (f limit : ℕ)
    → IsWideMarket market
    → ((t : ℕ) → t < length market.trades.items
    → IsAtMost (amounts_at amounts t).seller limit × IsAtMost (amounts_at amounts t).buyer limit)
    → AreCounts market.trades.items (count_in sold) → AreCounts market.trades.items (count_in bought)
    → IsAtMost (amount_sum market.trades.items amounts f (own_counts market.trades.items sold bought f)) (1048576 * limit)
amounts_small market amounts sold bought f limit is small few fewer =
    amounts_within market amounts (own_counts market.trades.items sold bought f) f limit is small
    (λ t inside. either (f == (trade_at market.trades.items t).seller) (few t inside) (fewer t inside))
  where
    either : (b : Bool) {units n m : ℕ} → n ≤ units → m ≤ units → (if b then n else m) ≤ units
    either true first second = first
    either false first second = second

-- ---- set by set

pub number_is : (market : UnitMarket) (sold bought : List ℕ) (i : ℕ) (one : CountSet) (net : ℤ) → IsWideMarket market
    → slice_get market.sets.items i ≡ Some one → net ≡ net_at market sold bought i
    → added_at one (net +ℤ pos one.back)
    ≡ set_number market.trades.items one (own_counts market.trades.items sold bought one.firm)
number_is market sold bought i one net is at net_is =
    ap (λ (z : ℤ). added_at one (z +ℤ pos one.back)) (net_is ∙ net_own market sold bought i one is at)

pub worth_step : (market : UnitMarket) (sold bought : List ℕ) (i : ℕ) (one : CountSet) (before after : List (Option ℤ))
    (number whole : Option ℤ) (f : ℕ) → slice_get market.sets.items i ≡ Some one
    → number ≡ set_number market.trades.items one (own_counts market.trades.items sold bought one.firm)
    → one.firm < length before → after ≡ set before one.firm (both (get_or before one.firm None) number)
    → both (get_or before f None) (set_sum market.trades.items f (own_counts market.trades.items sold bought f)
    (drop i market.sets.items)) ≡ whole
    → both (get_or after f None) (set_sum market.trades.items f (own_counts market.trades.items sold bought f)
    (drop (i + 1) market.sets.items)) ≡ whole
worth_step market sold bought i one before after number whole f at number_at inside made so_far = elim (cases_eq f one.firm) [
  | inl own ↦
      let now : get_or after f None ≡ both (get_or before f None) number =
      ap (λ (xs : List (Option ℤ)). get_or xs f None) made
      ∙ ap (λ (k : ℕ). get_or (set before one.firm (both (get_or before one.firm None) number)) k None) own
      ∙ get_or-set_same before one.firm (both (get_or before one.firm None) number) None inside
      ∙ ap (λ (k : ℕ). both (get_or before k None) number) (sym own) in
      let here : number ≡ set_number trades one (own_counts trades sold bought f) =
      number_at ∙ ap (λ (k : ℕ). set_number trades one (own_counts trades sold bought k)) (sym own) in
      ap (λ (o : Option ℤ). both o (rest (i + 1))) now ∙ both_assoc (get_or before f None) number (rest (i + 1))
      ∙ ap (λ (o : Option ℤ). both (get_or before f None) (both o (rest (i + 1)))) here
      ∙ sym (ap (both (get_or before f None)) (sets_here trades f (own_counts trades sold bought f) market.sets.items i one at
      ∙ ap (λ (b : Bool). if b then both (set_number trades one (own_counts trades sold bought f)) (rest (i + 1))
      else rest (i + 1)) (eq-eqb f one.firm own)))
      ∙ so_far
  | inr other ↦
      let now : get_or after f None ≡ get_or before f None =
      ap (λ (xs : List (Option ℤ)). get_or xs f None) made
      ∙ get_or-set_other before one.firm f (both (get_or before one.firm None) number) None other in
      ap (λ (o : Option ℤ). both o (rest (i + 1))) now
      ∙ sym (ap (both (get_or before f None)) (sets_here trades f (own_counts trades sold bought f) market.sets.items i one at
      ∙ ap (λ (b : Bool). if b then both (set_number trades one (own_counts trades sold bought f)) (rest (i + 1))
      else rest (i + 1)) (ne_eqb f one.firm other)))
      ∙ so_far
]
  where
    trades : List UnitTrade
    trades = market.trades.items

    rest : ℕ → Option ℤ
    rest k = set_sum trades f (own_counts trades sold bought f) (drop k market.sets.items)

pub small_step : (i firm : ℕ) (before after : List (Option ℤ)) (number : Option ℤ) (f : ℕ) (worth : ℤ)
    → firm < length before → after ≡ set before firm (both (get_or before firm None) number)
    → ((g : ℕ) (value : ℤ) → get_or before g None ≡ Some value → IsAtMost value (20971520000000000000 + i * most_set_number))
    → ((value : ℤ) → number ≡ Some value → IsAtMost value most_set_number)
    → get_or after f None ≡ Some worth → IsAtMost worth (20971520000000000000 + (i + 1) * most_set_number)
small_step i firm before after number f worth inside made so_far small is = elim (cases_eq f firm) [
  | inl own ↦
      let now : get_or after f None ≡ both (get_or before firm None) number =
      ap (λ (xs : List (Option ℤ)). get_or xs f None) made
      ∙ ap (λ (k : ℕ). get_or (set before firm (both (get_or before firm None) number)) k None) own
      ∙ get_or-set_same before firm (both (get_or before firm None) number) None inside in
      let parts = both_parts (get_or before firm None) number worth (sym now ∙ is) in
      let one = so_far firm parts.first parts.first_is in
      let two = small parts.second parts.second_is in
      let sum = parts.sum_is in
      record { low = omega (arith, ints, one.low, two.low, sum); high = omega (arith, ints, one.high, two.high, sum) }
  | inr other ↦
      let now : get_or after f None ≡ get_or before f None =
      ap (λ (xs : List (Option ℤ)). get_or xs f None) made
      ∙ get_or-set_other before firm f (both (get_or before firm None) number) None other in
      let one = so_far f worth (sym now ∙ is) in
      record { low = omega (arith, ints, one.low); high = omega (arith, ints, one.high) }
]

pub all_added : (w whole : Option ℤ) → both w (Some (pos 0)) ≡ whole → w ≡ whole
all_added None whole is = is
all_added (Some a) whole is = let same : a ≡ a +ℤ pos 0 = omega (arith, ints) in ap Some same ∙ is

-- ---- the amounts of a market

pub small_amounts : {trades limit : ℕ} (market : UnitMarket) → IsMarketWithin trades limit market → (t : ℕ)
    → t < length market.trades.items
    → IsAtMost (amounts_at market.amounts.items t).seller limit × IsAtMost (amounts_at market.amounts.items t).buyer limit
small_amounts market is t below =
    let sized = is.as_many in
    let small = is.small t (amounts_at market.amounts.items t)
    (slice_get-get_or market.amounts.items t (record { seller = pos 0; buyer = pos 0 }) (omega (arith, below, sized))) in
    (small.seller, small.buyer)

pub wide_amounts : (amounts : List UnitAmounts)
    → ((t : ℕ) (each : UnitAmounts) → slice_get amounts t ≡ Some each → AreAmountsWithin most_wide_amount each) → (t : ℕ)
    (each : UnitAmounts) → slice_get amounts t ≡ Some each → IsAtMost each.seller most_wide_amount × IsAtMost each.buyer most_wide_amount
wide_amounts amounts small t each at = let own = small t each at in (own.seller, own.buyer)

pub some_at : (xs : List ℤ) (f : ℕ) → f < length xs → get_or (map Some xs) f None ≡ Some (get_or xs f (pos 0))
some_at [] f below = absurd (omega (arith, below))
some_at (x ∷ xs) zero below = refl
some_at (x ∷ xs) (suc f) below = some_at xs f (omega (arith, below))

pub some_is : (xs : List ℤ) (f : ℕ) (value : ℤ) → get_or (map Some xs) f None ≡ Some value → get_or xs f (pos 0) ≡ value
some_is [] f value is = absurd (none-some value is)
some_is (x ∷ xs) zero value is = same_Some x value is
some_is (x ∷ xs) (suc f) value is = some_is xs f value is
