-- A unit firm meets exchange exactly where its firm exchanges by counts. From sets to counts, take the first units of both:
-- they are nested among the twins of each trade, so a twin is on the up side exactly where the counts are. From counts to
-- sets, a twin on the up side of a trade whose counts are not has another on the down side, and no count changes.
use Rattle.std.proofs.Common.{◌≡◌, ◌≢◌, ℕ, ◌+◌, ◌-◌, ◌^◌, ◌<◌, ◌≤◌, Bool, true, false, not, ◌==◌, ◌&&◌, nat_lt, if◌then◌else◌, List, length, slice_get, Option, Some, None, ◌⊎◌, inl, inr, refl, sym, ap, ap₂, ◌∙◌, subst, arith, ℤ, pos, neg_ℤ, ◌+ℤ◌, ◌-ℤ◌, ◌*ℤ◌, ◌≤ℤ◌}
use Rattle.std.specs.Prelude.{◌<ℤ◌, ◌↔◌}
use Rattle.std.proofs.lemmas.Bool.{and_parts, cases_Bool, cases_lt, eq-eqb, eqb-true, le-ltb, lt-ltb, ltb-true, ltb-false, ne_eqb}
use Rattle.std.proofs.lemmas.Int.{ints}
use Rattle.std.proofs.lemmas.Option.{none-some}
use Rattle.tn_base.specs.Exchange.{MeetsExchange}
use Rattle.tn_base.specs.Firm.{HasOwnBundles, net}
use Rattle.tn_base.specs.Sets.{has, toggle}
use Rattle.tn_base.specs.Table.{buys_of}
use Rattle.tn_base.proofs.SetLemmas.{has-set_of, set_of_within, toggle-toggle, has-toggle_same}
use Rattle.tn_base.proofs.SumLemmas.{sum_over-same_terms}
use Rattle.tn_firm_laws.specs.Places.{ExchangesOverPlaces, SwapsAt, level, move, toggle_at, trade_level}
use Rattle.tn_firm_laws.proofs.AdditiveLemmas.{move-within}
use Rattle.tn_firm_laws.proofs.DistanceLemmas.{up_apart_down, up_moves}
use Rattle.tn_firm_laws.proofs.ExchangeLemmas.{exchange_from_places, exchange_to_places, null_is_net_count}
use Rattle.tn_firm_laws.proofs.MoveLemmas.{bought_level, move-order, sold_level}
use Rattle.tn_firm_laws.proofs.NestedFamilies.{cases_ltℤ}
use Rattle.tn_firm_laws.proofs.PlaceLemmas.{level-trade, move-both, places, toggle_at-null, toggle_at-trade, trade_level-toggle_other}
use Rattle.tn_links.specs.Totals.{total}
use Rattle.tn_links.proofs.TotalLemmas.{total-same}
use Rattle.tn_model.specs.InOrder.{sides_of}
use Rattle.tn_model.specs.Network.{own, part}
use Rattle.tn_counts.specs.Counts.{AreCounts, CountFirm, trade_at}
use Rattle.tn_counts.specs.Laminar.{bought_by}
use Rattle.tn_counts.specs.declared.trade.UnitTrade.{UnitTrade}
use Rattle.tn_unit_laws.specs.Exchange.{ExchangesByCounts, SwapsByCounts, count_level, lowered_at, raised_at}
use Rattle.tn_unit_laws.specs.Laws.{ExchangeByCounts, FitByCounts}
use Rattle.tn_unit_laws.specs.Units.{counts_of, first_units, is_own, own_units, trade_of, twins_before, unit_count, unit_firm, unit_trades}
use Rattle.tn_unit_laws.proofs.CountLemmas.{count-most, count-strict, more_or_none, one, trade_of-within}
use Rattle.tn_unit_laws.proofs.BundleLemmas.{counts_of_part, counts_within}
use Rattle.tn_unit_laws.proofs.PaymentLemmas.{not_ends, own_below, side_at, sum_by_counts}
use Rattle.tn_unit_laws.proofs.EquilibriumLemmas.{first_have}
use Rattle.tn_unit_laws.proofs.TwinLemmas.{count-in, swapped_worth, unit_worth}
use Rattle.tn_unit_laws.proofs.LaminarLemmas.{net_sum, sign}

differ : true ≡ false → ⊥
differ e = absurd (cc)

first_off : (a b : Bool) → (a && b) ≡ false → b ≡ true → a ≡ false
first_off false b e on = refl
first_off true b e on = absurd (differ (sym on ∙ e))

-- ---- levels at a position, by its side

-- on the up side a purchase is in the first bundle and not in the second, and a sale the other way round
up_parts : (n buys x y k : ℕ) (b : Bool) → k < n → has buys k ≡ b → level n buys y k < level n buys x k
    → (has x k ≡ b) × (has y k ≡ not b)
unfolding trade_level
up_parts n buys x y k b below side up =
    let first = level-trade n buys x k below in
    let second = level-trade n buys y k below in
    let levels : trade_level buys y k < trade_level buys x k = omega (arith, up, first, second) in
    by b (has x k) (has y k) (subst (λ (c : Bool). (if c then (if has y k then 1 else 0) else (if has y k then 0 else 1))
    < (if c then (if has x k then 1 else 0) else (if has x k then 0 else 1))) side levels)
  where
    by : (b h g : Bool) → (if b then (if g then 1 else 0) else (if g then 0 else 1))
        < (if b then (if h then 1 else 0) else (if h then 0 else 1)) → (h ≡ b) × (g ≡ not b)
    by true true true up = absurd (omega (arith, up))
    by true true false up = (refl, refl)
    by true false true up = absurd (omega (arith, up))
    by true false false up = absurd (omega (arith, up))
    by false true true up = absurd (omega (arith, up))
    by false true false up = absurd (omega (arith, up))
    by false false true up = (refl, refl)
    by false false false up = absurd (omega (arith, up))

up_from : (n buys x y k : ℕ) (b : Bool) → k < n → has buys k ≡ b → has x k ≡ b → has y k ≡ not b
    → level n buys y k < level n buys x k
up_from n buys x y k true below side first second =
    let high = bought_level n buys x k true below side first in
    let low = bought_level n buys y k false below side second in
    omega (arith, high, low)
up_from n buys x y k false below side first second =
    let high = sold_level n buys x k false below side first in
    let low = sold_level n buys y k true below side second in
    omega (arith, high, low)

-- ---- counts that a toggle changes by a unit

lower_bought : (same buy : Bool) (old new : ℕ) → (same ≡ true → buy ≡ true) → old ≡ new + one same
    → new ≡ (if same then (if buy then old - 1 else old + 1) else old)
lower_bought true true old new side e = omega (arith, e)
lower_bought true false old new side e = absurd (differ (sym (side refl)))
lower_bought false buy old new side e = omega (arith, e)

lower_sold : (same buy : Bool) (old new : ℕ) → (same ≡ true → buy ≡ false) → new ≡ old + one same
    → new ≡ (if same then (if buy then old - 1 else old + 1) else old)
lower_sold true true old new side e = absurd (differ (side refl))
lower_sold true false old new side e = omega (arith, e)
lower_sold false buy old new side e = omega (arith, e)

raise_bought : (same buy : Bool) (old new : ℕ) → (same ≡ true → buy ≡ true) → new ≡ old + one same
    → new ≡ (if same then (if buy then old + 1 else old - 1) else old)
raise_bought true true old new side e = omega (arith, e)
raise_bought true false old new side e = absurd (differ (sym (side refl)))
raise_bought false buy old new side e = omega (arith, e)

raise_sold : (same buy : Bool) (old new : ℕ) → (same ≡ true → buy ≡ false) → old ≡ new + one same
    → new ≡ (if same then (if buy then old + 1 else old - 1) else old)
raise_sold true true old new side e = absurd (differ (side refl))
raise_sold true false old new side e = omega (arith, e)
raise_sold false buy old new side e = omega (arith, e)

-- ---- one firm

module _ (firms : List CountFirm) (trades : List UnitTrade) (fit : FitByCounts firms trades) (f : ℕ) (firm : CountFirm)
    (is : slice_get firms f ≡ Some firm) where
  abbrev n : ℕ
  n = own_units trades f

  abbrev buys : ℕ
  buys = buys_of (sides_of (unit_trades trades) f)

  -- the trade at a position
  abbrev at : ℕ → ℕ
  at k = trade_of trades (own (unit_trades trades) f k)

  -- the place by counts of a place
  abbrev spot : ℕ → ℕ
  spot k = if nat_lt k n then at k else length trades

  at_within : (k : ℕ) → k < n → at k < length trades
  at_within k below = trade_of-within trades (own (unit_trades trades) f k) (own_below firms trades fit f firm is k below)

  spot_trade : (k : ℕ) → k < n → spot k ≡ at k
  spot_trade k below = ap (λ (b : Bool). if b then at k else length trades) (lt-ltb k n below)

  spot_null : (k : ℕ) → n ≤ k → spot k ≡ length trades
  spot_null k past = ap (λ (b : Bool). if b then at k else length trades) (le-ltb k n past)

  spot_within : (k : ℕ) → spot k ≤ length trades
  spot_within k = elim (cases_lt k n) [
    | inl below ↦ let same = spot_trade k below in let inside = at_within k below in omega (arith, same, inside)
    | inr past ↦ let same = spot_null k past in omega (arith, same)
  ]

  -- ---- levels by counts

  abbrev IsBought : ℕ → Type 0
  IsBought t = ((f == (trade_at trades t).buyer) ≡ true) × ((f == (trade_at trades t).seller) ≡ false)

  abbrev IsSold : ℕ → Type 0
  IsSold t = ((f == (trade_at trades t).buyer) ≡ false) × ((f == (trade_at trades t).seller) ≡ true)

  level_is : (counts : ℕ → ℕ) (t : ℕ) → t < length trades
      → count_level trades f counts t ≡ bought_by f (trade_at trades t) (pos (counts t))
  level_is counts t below =
      ap (λ (b : Bool). if b then neg_ℤ (total (λ s. bought_by f (trade_at trades s) (pos (counts s))) (length trades))
      else bought_by f (trade_at trades t) (pos (counts t))) (ne_eqb t (length trades) (λ e. omega (arith, e, below)))

  sides_are : (t : ℕ) (z : ℤ) (b s : Bool) → (f == (trade_at trades t).buyer) ≡ b → (f == (trade_at trades t).seller) ≡ s
      → bought_by f (trade_at trades t) z ≡ (if b then z else pos 0) -ℤ (if s then z else pos 0)
  sides_are t z b s buyer seller = ap₂ (λ (c d : Bool). (if c then z else pos 0) -ℤ (if d then z else pos 0)) buyer seller

  bought_is : (counts : ℕ → ℕ) (t : ℕ) → t < length trades → IsBought t
      → count_level trades f counts t ≡ pos (counts t) -ℤ pos 0
  bought_is counts t below side = level_is counts t below ∙ sides_are t (pos (counts t)) true false side.0 side.1

  sold_is : (counts : ℕ → ℕ) (t : ℕ) → t < length trades → IsSold t
      → count_level trades f counts t ≡ pos 0 -ℤ pos (counts t)
  sold_is counts t below side = level_is counts t below ∙ sides_are t (pos (counts t)) false true side.0 side.1

  -- levels differ of own trades alone
  side_of : (counts others : ℕ → ℕ) (t : ℕ) → t < length trades
      → count_level trades f counts t <ℤ count_level trades f others t → IsBought t ⊎ IsSold t
  side_of counts others t below lower =
      by (f == (trade_at trades t).buyer) (f == (trade_at trades t).seller) refl refl
    where
      by : (b s : Bool) → (f == (trade_at trades t).buyer) ≡ b → (f == (trade_at trades t).seller) ≡ s
          → IsBought t ⊎ IsSold t
      by true true buyer seller =
          absurd (fit.apart t below (sym (eqb-true f (trade_at trades t).seller seller)
          ∙ eqb-true f (trade_at trades t).buyer buyer))
      by true false buyer seller = inl (buyer, seller)
      by false true buyer seller = inr (buyer, seller)
      by false false buyer seller =
          let first = level_is counts t below ∙ sides_are t (pos (counts t)) false false buyer seller in
          let second = level_is others t below ∙ sides_are t (pos (others t)) false false buyer seller in
          absurd (omega (arith, ints, lower, first, second))

  -- the side of a position is that of its trade
  position_side : (k : ℕ) → k < n → (IsBought (at k) × (has buys k ≡ true)) ⊎ (IsSold (at k) × (has buys k ≡ false))
  position_side k below = elim (side_at firms trades fit f firm is k below) [
    | inl sells ↦ inr ((sells.1, sells.0), sells.2)
    | inr bought ↦ inl ((bought.1, bought.0), bought.2)
  ]

  bought_there : (k t : ℕ) → k < n → at k ≡ t → IsBought t → has buys k ≡ true
  bought_there k t below same side = elim (position_side k below) [
    | inl here ↦ here.1
    | inr sells ↦ absurd (differ (sym side.0 ∙ ap (λ (s : ℕ). f == (trade_at trades s).buyer) (sym same) ∙ sells.0.0))
  ]

  sold_there : (k t : ℕ) → k < n → at k ≡ t → IsSold t → has buys k ≡ false
  sold_there k t below same side = elim (position_side k below) [
    | inl bought ↦ absurd (differ (sym bought.0.0 ∙ ap (λ (s : ℕ). f == (trade_at trades s).buyer) same ∙ side.0))
    | inr here ↦ here.1
  ]

  -- ---- twins of a trade in one bundle and not in another

  -- a twin of trade t that is in y and not in x
  record IsMissed (x y t : ℕ) : Type 0 where
    place : ℕ
    below : place < n
    twin : at place ≡ t
    off : has x place ≡ false
    on : has y place ≡ true

  missed_or_none : (x y t : ℕ) → IsMissed x y t
      ⊎ ((k : ℕ) → k < n → (has y k && t == at k) ≡ true → (has x k && t == at k) ≡ true)
  missed_or_none x y t = elim (more_or_none (λ k. has y k && t == at k) (λ k. has x k && t == at k) n) [
    | inl found ↦
        let parts = and_parts (has y found.0) (t == at found.0) found.2 in
        inl (record {
          place = found.0;
          below = found.1;
          twin = sym (eqb-true t (at found.0) parts.1);
          off = first_off (has x found.0) (t == at found.0) found.3 parts.1;
          on = parts.0;
        })
    | inr none ↦ inr none
  ]

  missed : (x y t : ℕ) → counts_of trades f x t < counts_of trades f y t → IsMissed x y t
  missed x y t fewer = elim (missed_or_none x y t) [
    | inl found ↦ found
    | inr none ↦
        let most = count-most (λ k. has y k && t == at k) (λ k. has x k && t == at k) n none in
        absurd (omega (arith, fewer, most))
  ]

  missed_beside : (x y i : ℕ) → i < n → has x i ≡ true → has y i ≡ false
      → counts_of trades f x (at i) ≤ counts_of trades f y (at i) → IsMissed x y (at i)
  missed_beside x y i below on off most = elim (missed_or_none x y (at i)) [
    | inl found ↦ found
    | inr none ↦
        let fewer = count-strict (λ k. has y k && at i == at k) (λ k. has x k && at i == at k) n none i below
        (ap₂ (λ (a b : Bool). a && b) on (eq-eqb (at i) (at i) refl))
        (ap (λ (a : Bool). a && at i == at i) off) in
        absurd (omega (arith, fewer, most))
  ]

  -- ---- net counts

  net_is : (x : ℕ) → x < 2 ^ n
      → net buys x ≡ total (λ t. bought_by f (trade_at trades t) (pos (counts_of trades f x t))) (length trades)
  net_is x below =
      net_sum n buys x below
      ∙ sum_over-same_terms (λ k. sign (has buys k)) (λ k. rate (at k)) x n (λ k inside member. each k inside)
      ∙ sum_by_counts firms trades fit f firm is rate x
      ∙ total-same (λ t. rate t *ℤ pos (counts_of trades f x t))
      (λ t. bought_by f (trade_at trades t) (pos (counts_of trades f x t))) (length trades)
      (λ t inside. times (f == (trade_at trades t).buyer) (f == (trade_at trades t).seller)
      (pos (counts_of trades f x t)))
    where
      rate : ℕ → ℤ
      rate t = bought_by f (trade_at trades t) (pos 1)

      each : (k : ℕ) → k < n → sign (has buys k) ≡ rate (at k)
      each k inside = elim (position_side k inside) [
        | inl bought ↦ ap sign bought.1 ∙ sym (sides_are (at k) (pos 1) true false bought.0.0 bought.0.1)
        | inr sells ↦ ap sign sells.1 ∙ sym (sides_are (at k) (pos 1) false true sells.0.0 sells.0.1)
      ]

      times : (b s : Bool) (z : ℤ) → ((if b then pos 1 else pos 0) -ℤ (if s then pos 1 else pos 0)) *ℤ z
          ≡ (if b then z else pos 0) -ℤ (if s then z else pos 0)
      times true true z = omega (arith, ints)
      times true false z = omega (arith, ints)
      times false true z = omega (arith, ints)
      times false false z = omega (arith, ints)

  null_is : (counts : ℕ → ℕ) → count_level trades f counts (length trades)
      ≡ neg_ℤ (total (λ t. bought_by f (trade_at trades t) (pos (counts t))) (length trades))
  null_is counts =
      ap (λ (b : Bool). if b then neg_ℤ (total (λ t. bought_by f (trade_at trades t) (pos (counts t))) (length trades))
      else bought_by f (trade_at trades (length trades)) (pos (counts (length trades))))
      (eq-eqb (length trades) (length trades) refl)

  -- null's levels are in the same order
  null_order : (x y : ℕ) → x < 2 ^ n → y < 2 ^ n → (level n buys x n < level n buys y n)
      ↔ (count_level trades f (counts_of trades f x) (length trades)
      <ℤ count_level trades f (counts_of trades f y) (length trades))
  null_order x y x_below y_below =
      let both = null_is_net_count n buys y x y_below x_below in
      let first = null_is (counts_of trades f x) in
      let second = null_is (counts_of trades f y) in
      let x_net = net_is x x_below in
      let y_net = net_is y y_below in (
        (λ lower. let nets = both.1 lower in omega (arith, ints, nets, first, second, x_net, y_net)),
        (λ lower. both.0 (omega (arith, ints, lower, first, second, x_net, y_net))),
      )

  -- ---- from a place by counts to a place

  -- a place with that place by counts, where x has the lower level
  record IsLower (x y place : ℕ) : Type 0 where
    here : ℕ
    within : here ≤ n
    same : spot here ≡ place
    lower : level n buys x here < level n buys y here

  lower_trade : (x y t : ℕ) → t < length trades
      → count_level trades f (counts_of trades f x) t <ℤ count_level trades f (counts_of trades f y) t → IsLower x y t
  lower_trade x y t below lower = elim (side_of (counts_of trades f x) (counts_of trades f y) t below lower) [
    | inl side ↦
        let first = bought_is (counts_of trades f x) t below side in
        let second = bought_is (counts_of trades f y) t below side in
        let found = missed x y t (omega (arith, ints, lower, first, second)) in
        at_twin found.place found.below found.twin
        (up_from n buys y x found.place true found.below (bought_there found.place t found.below found.twin side)
        found.on found.off)
    | inr side ↦
        let first = sold_is (counts_of trades f x) t below side in
        let second = sold_is (counts_of trades f y) t below side in
        let found = missed y x t (omega (arith, ints, lower, first, second)) in
        at_twin found.place found.below found.twin
        (up_from n buys y x found.place false found.below (sold_there found.place t found.below found.twin side)
        found.off found.on)
  ]
    where
      at_twin : (k : ℕ) → k < n → at k ≡ t → level n buys x k < level n buys y k → IsLower x y t
      at_twin k inside twin levels = record {
        here = k;
        within = omega (arith, inside);
        same = spot_trade k inside ∙ twin;
        lower = levels;
      }

  lower_place : (x y place : ℕ) → x < 2 ^ n → y < 2 ^ n → place ≤ length trades
      → count_level trades f (counts_of trades f x) place <ℤ count_level trades f (counts_of trades f y) place
      → IsLower x y place
  lower_place x y place x_below y_below within lower = elim (cases_lt place (length trades)) [
    | inl below ↦ lower_trade x y place below lower
    | inr past ↦
        let last : length trades ≡ place = omega (arith, within, past) in
        record {
          here = n;
          within = omega arith;
          same = spot_null n (omega arith) ∙ last;
          lower = (null_order x y x_below y_below).1
              (subst (λ (p : ℕ). count_level trades f (counts_of trades f x) p
              <ℤ count_level trades f (counts_of trades f y) p) (sym last) lower);
        }
  ]

  -- ---- moves by counts

  abbrev buyer_at : ℕ → Bool
  buyer_at t = f == (trade_at trades t).buyer

  counts_in : (x i t : ℕ) → i < n → has x i ≡ false
      → counts_of trades f (toggle x i) t ≡ counts_of trades f x t + one (t == at i)
  counts_in x i t below off = count-in (λ k. t == at k) x i n below off

  counts_out : (x i t : ℕ) → i < n → has x i ≡ true
      → counts_of trades f x t ≡ counts_of trades f (toggle x i) t + one (t == at i)
  counts_out x i t below on =
      sym (ap (λ (y : ℕ). counts_of trades f y t) (toggle-toggle x i))
      ∙ counts_in (toggle x i) i t below (has-toggle_same x i ∙ ap not on)

  -- a position of level 1 is lowered, and one of level 0 raised
  lowered : (x i t : ℕ) → i < n → level n buys x i ≡ 1
      → counts_of trades f (toggle x i) t ≡ lowered_at trades f (at i) (counts_of trades f x) t
  lowered x i t below high = elim (position_side i below) [
    | inl bought ↦ lower_bought (t == at i) (buyer_at t) (counts_of trades f x t) (counts_of trades f (toggle x i) t)
        (λ same. ap buyer_at (eqb-true t (at i) same) ∙ bought.0.0)
        (counts_out x i t below (by bought.1 (has x i) refl))
    | inr sells ↦ lower_sold (t == at i) (buyer_at t) (counts_of trades f x t) (counts_of trades f (toggle x i) t)
        (λ same. ap buyer_at (eqb-true t (at i) same) ∙ sells.0.0)
        (counts_in x i t below (out sells.1 (has x i) refl))
  ]
    where
      by : has buys i ≡ true → (b : Bool) → has x i ≡ b → has x i ≡ true
      by side true on = on
      by side false off = let low = bought_level n buys x i false below side off in absurd (omega (arith, low, high))

      out : has buys i ≡ false → (b : Bool) → has x i ≡ b → has x i ≡ false
      out side true on = let low = sold_level n buys x i true below side on in absurd (omega (arith, low, high))
      out side false off = off

  raised : (x i t : ℕ) → i < n → level n buys x i ≡ 0
      → counts_of trades f (toggle x i) t ≡ raised_at trades f (at i) (counts_of trades f x) t
  raised x i t below low = elim (position_side i below) [
    | inl bought ↦ raise_bought (t == at i) (buyer_at t) (counts_of trades f x t) (counts_of trades f (toggle x i) t)
        (λ same. ap buyer_at (eqb-true t (at i) same) ∙ bought.0.0)
        (counts_in x i t below (out bought.1 (has x i) refl))
    | inr sells ↦ raise_sold (t == at i) (buyer_at t) (counts_of trades f x t) (counts_of trades f (toggle x i) t)
        (λ same. ap buyer_at (eqb-true t (at i) same) ∙ sells.0.0)
        (counts_out x i t below (by sells.1 (has x i) refl))
  ]
    where
      out : has buys i ≡ true → (b : Bool) → has x i ≡ b → has x i ≡ false
      out side true on = let high = bought_level n buys x i true below side on in absurd (omega (arith, low, high))
      out side false off = off

      by : has buys i ≡ false → (b : Bool) → has x i ≡ b → has x i ≡ true
      by side true on = on
      by side false off = let high = sold_level n buys x i false below side off in absurd (omega (arith, low, high))

  lowered_place : (x i t : ℕ) → (i < n → level n buys x i ≡ 1) → t < length trades
      → counts_of trades f (toggle_at n x i) t ≡ lowered_at trades f (spot i) (counts_of trades f x) t
  lowered_place x i t high inside = elim (cases_lt i n) [
    | inl below ↦ ap (λ (y : ℕ). counts_of trades f y t) (toggle_at-trade n x i below)
        ∙ lowered x i t below (high below)
        ∙ sym (ap (λ (p : ℕ). lowered_at trades f p (counts_of trades f x) t) (spot_trade i below))
    | inr past ↦ ap (λ (y : ℕ). counts_of trades f y t) (toggle_at-null n x i past)
        ∙ sym (ap (λ (b : Bool). if b then (if buyer_at t then counts_of trades f x t - 1 else counts_of trades f x t + 1)
        else counts_of trades f x t) (ne_eqb t (spot i) (λ e. let null = spot_null i past in
        omega (arith, e, null, inside))))
  ]

  raised_place : (x i t : ℕ) → (i < n → level n buys x i ≡ 0) → t < length trades
      → counts_of trades f (toggle_at n x i) t ≡ raised_at trades f (spot i) (counts_of trades f x) t
  raised_place x i t low inside = elim (cases_lt i n) [
    | inl below ↦ ap (λ (y : ℕ). counts_of trades f y t) (toggle_at-trade n x i below)
        ∙ raised x i t below (low below)
        ∙ sym (ap (λ (p : ℕ). raised_at trades f p (counts_of trades f x) t) (spot_trade i below))
    | inr past ↦ ap (λ (y : ℕ). counts_of trades f y t) (toggle_at-null n x i past)
        ∙ sym (ap (λ (b : Bool). if b then (if buyer_at t then counts_of trades f x t + 1 else counts_of trades f x t - 1)
        else counts_of trades f x t) (ne_eqb t (spot i) (λ e. let null = spot_null i past in
        omega (arith, e, null, inside))))
  ]

  -- a toggle keeps the level of every other position
  kept : (x i j : ℕ) → j < n → j ≢ i → level n buys (toggle_at n x i) j ≡ level n buys x j
  kept x i j below other = elim (cases_lt i n) [
    | inl own_i ↦ ap (λ (y : ℕ). level n buys y j) (toggle_at-trade n x i own_i) ∙ level-trade n buys (toggle x i) j below
        ∙ trade_level-toggle_other buys x i j other ∙ sym (level-trade n buys x j below)
    | inr past ↦ ap (λ (y : ℕ). level n buys y j) (toggle_at-null n x i past)
  ]

  -- a move that lowers place i and raises place j, and one the other way round
  moved_towards : (x y i j t : ℕ) → level n buys y i < level n buys x i → level n buys x j < level n buys y j
      → t < length trades
      → counts_of trades f (move n x i j) t
      ≡ raised_at trades f (spot j) (lowered_at trades f (spot i) (counts_of trades f x)) t
  unfolding move
  moved_towards x y i j t up down inside =
      let apart = up_apart_down (level n buys x) (level n buys y) i j up down in
      raised_place (toggle_at n x i) j t (λ below. kept x i j below (λ e. apart (sym e))
      ∙ (up_moves n (level n buys) (move n) (places n buys) y x j down).0 below) inside
      ∙ ap (λ (c : ℕ). if t == spot j then (if buyer_at t then c + 1 else c - 1) else c)
      (lowered_place x i t (up_moves n (level n buys) (move n) (places n buys) x y i up).1 inside)

  moved_back : (x y i j t : ℕ) → level n buys y i < level n buys x i → level n buys x j < level n buys y j
      → t < length trades
      → counts_of trades f (move n y i j) t
      ≡ lowered_at trades f (spot j) (raised_at trades f (spot i) (counts_of trades f y)) t
  unfolding move
  moved_back x y i j t up down inside =
      let apart = up_apart_down (level n buys x) (level n buys y) i j up down in
      lowered_place (toggle_at n y i) j t (λ below. kept y i j below (λ e. apart (sym e))
      ∙ (up_moves n (level n buys) (move n) (places n buys) y x j down).1 below) inside
      ∙ ap (λ (c : ℕ). if t == spot j then (if buyer_at t then c - 1 else c + 1) else c)
      (raised_place y i t (up_moves n (level n buys) (move n) (places n buys) x y i up).0 inside)

  own_bundles : HasOwnBundles (unit_firm trades f firm)
  own_bundles x a at_x = elim (cases_Bool (nat_lt x (2 ^ n))) [
    | inl below ↦ ltb-true x (2 ^ n) below
    | inr past ↦ absurd (none-some a (sym (ap (λ (b : Bool). if b then firm.worth (counts_of trades f x) else None) past)
        ∙ at_x))
  ]

  worth_is : (x : ℕ) (a : ℤ) → (unit_firm trades f firm).worth x ≡ Some a → firm.worth (counts_of trades f x) ≡ Some a
  worth_is x a at_x = sym (unit_worth firms trades fit f firm is x (own_bundles x a at_x)) ∙ at_x

  -- ---- from counts to sets

  module _ (exchanges : ExchangesByCounts trades f firm) where
    -- where the counts are on the up side, they say where the bundles swap
    swaps_by_counts : (x y : ℕ) (a b : ℤ) → (unit_firm trades f firm).worth x ≡ Some a
        → (unit_firm trades f firm).worth y ≡ Some b → (i : ℕ) → level n buys y i < level n buys x i
        → count_level trades f (counts_of trades f y) (spot i) <ℤ count_level trades f (counts_of trades f x) (spot i)
        → SwapsAt (unit_firm trades f firm) x y (a +ℤ b) i
    swaps_by_counts x y a b x_is y_is i up above =
        let x_below = own_bundles x a x_is in
        let y_below = own_bundles y b y_is in
        let swap = exchanges (counts_of trades f x) (counts_of trades f y) a b (counts_within firms trades fit f firm is x)
        (counts_within firms trades fit f firm is y) (worth_is x a x_is) (worth_is y b y_is) (spot i) (spot_within i) above in
        let found = lower_place x y swap.at x_below y_below swap.is_place swap.is_lower in
        record {
          at = found.here;
          is_place = found.within;
          is_down = found.lower;
          enough = record {
            first = swap.first;
            second = swap.second;
            first_is = unit_worth firms trades fit f firm is (move n x i found.here)
                (move-within n x i found.here x_below)
                ∙ fit.own f firm is (counts_of trades f (move n x i found.here))
                (raised_at trades f swap.at (lowered_at trades f (spot i) (counts_of trades f x)))
                (λ t inside mine. moved_towards x y i found.here t up found.lower inside
                ∙ ap (λ (p : ℕ). raised_at trades f p (lowered_at trades f (spot i) (counts_of trades f x)) t) found.same)
                ∙ swap.first_is;
            second_is = unit_worth firms trades fit f firm is (move n y i found.here)
                (move-within n y i found.here y_below)
                ∙ fit.own f firm is (counts_of trades f (move n y i found.here))
                (lowered_at trades f swap.at (raised_at trades f (spot i) (counts_of trades f y)))
                (λ t inside mine. moved_back x y i found.here t up found.lower inside
                ∙ ap (λ (p : ℕ). lowered_at trades f p (raised_at trades f (spot i) (counts_of trades f y)) t) found.same)
                ∙ swap.second_is;
            enough = swap.enough;
          };
        }

  -- where they are not, another twin is on the down side
  swaps_twins : (x y : ℕ) (a b : ℤ) → (unit_firm trades f firm).worth x ≡ Some a
      → (unit_firm trades f firm).worth y ≡ Some b → (i : ℕ) → i < n → level n buys y i < level n buys x i
      → count_level trades f (counts_of trades f x) (at i) ≤ℤ count_level trades f (counts_of trades f y) (at i)
      → SwapsAt (unit_firm trades f firm) x y (a +ℤ b) i
  swaps_twins x y a b x_is y_is i below up most = elim (position_side i below) [
    | inl bought ↦
        let parts = up_parts n buys x y i true below bought.1 up in
        let first = bought_is (counts_of trades f x) (at i) (at_within i below) bought.0 in
        let second = bought_is (counts_of trades f y) (at i) (at_within i below) bought.0 in
        let found = missed_beside x y i below parts.0 parts.1 (omega (arith, ints, most, first, second)) in
        record {
          at = found.place;
          is_place = let inside = found.below in omega (arith, inside);
          is_down = up_from n buys y x found.place true found.below
              (bought_there found.place (at i) found.below found.twin bought.0) found.on found.off;
          enough = record {
            first = a;
            second = b;
            first_is = ap worth (move-both n x i found.place below found.below)
                ∙ swapped_worth firms trades fit f firm is x i found.place (own_bundles x a x_is) below found.below parts.0
                found.off (sym found.twin) ∙ x_is;
            second_is = ap worth (move-order n y i found.place ∙ move-both n y found.place i found.below below)
                ∙ swapped_worth firms trades fit f firm is y found.place i (own_bundles y b y_is) found.below below found.on
                parts.1 found.twin ∙ y_is;
            enough = omega (arith, ints);
          };
        }
    | inr sells ↦
        let parts = up_parts n buys x y i false below sells.1 up in
        let first = sold_is (counts_of trades f x) (at i) (at_within i below) sells.0 in
        let second = sold_is (counts_of trades f y) (at i) (at_within i below) sells.0 in
        let found = missed_beside y x i below parts.1 parts.0 (omega (arith, ints, most, first, second)) in
        record {
          at = found.place;
          is_place = let inside = found.below in omega (arith, inside);
          is_down = up_from n buys y x found.place false found.below
              (sold_there found.place (at i) found.below found.twin sells.0) found.off found.on;
          enough = record {
            first = a;
            second = b;
            first_is = ap worth (move-order n x i found.place ∙ move-both n x found.place i found.below below)
                ∙ swapped_worth firms trades fit f firm is x found.place i (own_bundles x a x_is) found.below below found.on
                parts.0 found.twin ∙ x_is;
            second_is = ap worth (move-both n y i found.place below found.below)
                ∙ swapped_worth firms trades fit f firm is y i found.place (own_bundles y b y_is) below found.below parts.1
                found.off (sym found.twin) ∙ y_is;
            enough = omega (arith, ints);
          };
        }
  ]
    where
      worth : ℕ → Option ℤ
      worth z = (unit_firm trades f firm).worth z

  to_sets : ExchangesByCounts trades f firm → MeetsExchange (unit_firm trades f firm)
  to_sets exchanges = exchange_from_places (unit_firm trades f firm) own_bundles swaps
    where
      swaps : ExchangesOverPlaces (unit_firm trades f firm)
      swaps x y a b x_is y_is i within up =
          elim (cases_ltℤ (count_level trades f (counts_of trades f y) (spot i))
          (count_level trades f (counts_of trades f x) (spot i))) [
            | inl above ↦ swaps_by_counts exchanges x y a b x_is y_is i up above
            | inr most ↦ elim (cases_lt i n) [
              | inl below ↦ swaps_twins x y a b x_is y_is i below up
                  (subst (λ (p : ℕ). count_level trades f (counts_of trades f x) p
                  ≤ℤ count_level trades f (counts_of trades f y) p) (spot_trade i below) most)
              | inr past ↦
                  let last : i ≡ n = omega (arith, within, past) in
                  let greater = (null_order y x (own_bundles y b y_is) (own_bundles x a x_is)).0
                  (subst (λ (k : ℕ). level n buys y k < level n buys x k) last up) in
                  let here = subst (λ (p : ℕ). count_level trades f (counts_of trades f x) p
                  ≤ℤ count_level trades f (counts_of trades f y) p) (spot_null i past) most in
                  absurd (omega (arith, ints, greater, here))
            ]
          ]

  -- ---- from sets to counts

  -- the bundle of the first units of counts
  abbrev bundle : (ℕ → ℕ) → ℕ
  bundle counts = part (unit_trades trades) f n (first_units trades counts)

  bundle_within : (counts : ℕ → ℕ) → bundle counts < 2 ^ n
  bundle_within counts = set_of_within (λ k. has (first_units trades counts) (own (unit_trades trades) f k)) n

  bundle_has : (counts : ℕ → ℕ) (k : ℕ) → k < n
      → has (bundle counts) k ≡ nat_lt (twins_before trades (own (unit_trades trades) f k)) (counts (at k))
  bundle_has counts k below =
      has-set_of (λ i. has (first_units trades counts) (own (unit_trades trades) f i)) n k
      ∙ ap (λ (b : Bool). b && has (first_units trades counts) (own (unit_trades trades) f k)) (lt-ltb k n below)
      ∙ has-set_of (λ u. nat_lt (twins_before trades u) (counts (trade_of trades u))) (unit_count trades)
      (own (unit_trades trades) f k)
      ∙ ap (λ (b : Bool). b && nat_lt (twins_before trades (own (unit_trades trades) f k)) (counts (at k)))
      (lt-ltb (own (unit_trades trades) f k) (unit_count trades) (own_below firms trades fit f firm is k below))

  bundle_counts : (counts : ℕ → ℕ) → AreCounts trades counts → (t : ℕ) → t < length trades → is_own trades f t ≡ true
      → counts_of trades f (bundle counts) t ≡ counts t
  bundle_counts counts within t below mine =
      counts_of_part firms trades fit f firm is (first_units trades counts) t mine ∙ first_have trades counts within t below

  -- so it has their levels
  bundle_level : (counts : ℕ → ℕ) → AreCounts trades counts → (place : ℕ)
      → place ≤ length trades
      → count_level trades f (counts_of trades f (bundle counts)) place ≡ count_level trades f counts place
  bundle_level counts within place is_place = elim (cases_lt place (length trades)) [
    | inl below ↦ level_is (counts_of trades f (bundle counts)) place below ∙ each place below
        ∙ sym (level_is counts place below)
    | inr past ↦
        let last : length trades ≡ place = omega (arith, is_place, past) in
        subst (λ (p : ℕ). count_level trades f (counts_of trades f (bundle counts)) p ≡ count_level trades f counts p) last
        (null_is (counts_of trades f (bundle counts))
        ∙ ap neg_ℤ (total-same (λ t. bought_by f (trade_at trades t) (pos (counts_of trades f (bundle counts) t)))
        (λ t. bought_by f (trade_at trades t) (pos (counts t))) (length trades) each) ∙ sym (null_is counts))
  ]
    where
      each : (t : ℕ) → t < length trades → bought_by f (trade_at trades t) (pos (counts_of trades f (bundle counts) t))
          ≡ bought_by f (trade_at trades t) (pos (counts t))
      each t below = elim (cases_Bool (is_own trades f t)) [
        | inl mine ↦ ap (λ (c : ℕ). bought_by f (trade_at trades t) (pos c)) (bundle_counts counts within t below mine)
        | inr other ↦
            let ends = not_ends trades f t other in
            sides_are t (pos (counts_of trades f (bundle counts) t)) false false ends.1 ends.0
            ∙ sym (sides_are t (pos (counts t)) false false ends.1 ends.0)
      ]

  -- a twin on the down side of two bundles of first units has the counts of its trade on the down side
  nested : (counts others : ℕ → ℕ) → AreCounts trades counts → AreCounts trades others → (j : ℕ) → j ≤ n
      → level n buys (bundle counts) j < level n buys (bundle others) j
      → count_level trades f counts (spot j) <ℤ count_level trades f others (spot j)
  nested counts others within others_within j is_place lower = elim (cases_lt j n) [
    | inl below ↦ subst (λ (p : ℕ). count_level trades f counts p <ℤ count_level trades f others p)
        (sym (spot_trade j below)) (at_twin below)
    | inr past ↦
        let last : j ≡ n = omega (arith, is_place, past) in
        let greater = (null_order (bundle counts) (bundle others) (bundle_within counts) (bundle_within others)).0
        (subst (λ (k : ℕ). level n buys (bundle counts) k < level n buys (bundle others) k) last lower) in
        let first = bundle_level counts within (length trades) (omega arith) in
        let second = bundle_level others others_within (length trades) (omega arith) in
        subst (λ (p : ℕ). count_level trades f counts p <ℤ count_level trades f others p) (sym (spot_null j past))
        (omega (arith, ints, greater, first, second))
  ]
    where
      before : ℕ
      before = twins_before trades (own (unit_trades trades) f j)

      fewer : (few many : ℕ → ℕ) → j < n → has (bundle few) j ≡ false → has (bundle many) j ≡ true → few (at j) < many (at j)
      fewer few many below off on =
          let low = ltb-false before (few (at j)) (sym (bundle_has few j below) ∙ off) in
          let high = ltb-true before (many (at j)) (sym (bundle_has many j below) ∙ on) in
          omega (arith, low, high)

      at_twin : j < n → count_level trades f counts (at j) <ℤ count_level trades f others (at j)
      at_twin below = elim (position_side j below) [
        | inl bought ↦
            let parts = up_parts n buys (bundle others) (bundle counts) j true below bought.1 lower in
            let less = fewer counts others below parts.1 parts.0 in
            let first = bought_is counts (at j) (at_within j below) bought.0 in
            let second = bought_is others (at j) (at_within j below) bought.0 in
            omega (arith, ints, less, first, second)
        | inr sells ↦
            let parts = up_parts n buys (bundle others) (bundle counts) j false below sells.1 lower in
            let less = fewer others counts below parts.0 parts.1 in
            let first = sold_is counts (at j) (at_within j below) sells.0 in
            let second = sold_is others (at j) (at_within j below) sells.0 in
            omega (arith, ints, less, first, second)
      ]

  bundle_worth : (counts : ℕ → ℕ) (a : ℤ) → AreCounts trades counts → firm.worth counts ≡ Some a
      → (unit_firm trades f firm).worth (bundle counts) ≡ Some a
  bundle_worth counts a within is_a =
      unit_worth firms trades fit f firm is (bundle counts) (bundle_within counts)
      ∙ fit.own f firm is (counts_of trades f (bundle counts)) counts (bundle_counts counts within) ∙ is_a

  -- what two bundles of first units are moved to has the counts that these are moved to
  counts_towards : (counts others : ℕ → ℕ) → AreCounts trades counts → (place i j : ℕ) → spot i ≡ place
      → level n buys (bundle others) i < level n buys (bundle counts) i
      → level n buys (bundle counts) j < level n buys (bundle others) j → (t : ℕ) → t < length trades
      → is_own trades f t ≡ true
      → counts_of trades f (move n (bundle counts) i j) t
      ≡ raised_at trades f (spot j) (lowered_at trades f place counts) t
  counts_towards counts others within place i j from up down t inside mine =
      moved_towards (bundle counts) (bundle others) i j t up down inside
      ∙ ap₂ (λ (p c : ℕ). if t == spot j then (if buyer_at t then (lower p c) + 1 else (lower p c) - 1) else lower p c) from
      (bundle_counts counts within t inside mine)
    where
      lower : ℕ → ℕ → ℕ
      lower p c = if t == p then (if buyer_at t then c - 1 else c + 1) else c

  counts_back : (counts others : ℕ → ℕ) → AreCounts trades others → (place i j : ℕ) → spot i ≡ place
      → level n buys (bundle others) i < level n buys (bundle counts) i
      → level n buys (bundle counts) j < level n buys (bundle others) j → (t : ℕ) → t < length trades
      → is_own trades f t ≡ true
      → counts_of trades f (move n (bundle others) i j) t
      ≡ lowered_at trades f (spot j) (raised_at trades f place others) t
  counts_back counts others within place i j from up down t inside mine =
      moved_back (bundle counts) (bundle others) i j t up down inside
      ∙ ap₂ (λ (p c : ℕ). if t == spot j then (if buyer_at t then (raise p c) - 1 else (raise p c) + 1) else raise p c) from
      (bundle_counts others within t inside mine)
    where
      raise : ℕ → ℕ → ℕ
      raise p c = if t == p then (if buyer_at t then c + 1 else c - 1) else c

  -- so where the bundles swap, the counts do
  swap_of : (counts others : ℕ → ℕ) (total : ℤ) → AreCounts trades counts → AreCounts trades others → (place i : ℕ)
      → spot i ≡ place → level n buys (bundle others) i < level n buys (bundle counts) i
      → SwapsAt (unit_firm trades f firm) (bundle counts) (bundle others) total i
      → SwapsByCounts trades f firm counts others total place
  swap_of counts others total within others_within place i from up swap = record {
    at = spot swap.at;
    is_place = spot_within swap.at;
    is_lower = nested counts others within others_within swap.at swap.is_place swap.is_down;
    first = swap.enough.first;
    second = swap.enough.second;
    first_is = sym (fit.own f firm is (counts_of trades f (move n (bundle counts) i swap.at))
        (raised_at trades f (spot swap.at) (lowered_at trades f place counts))
        (counts_towards counts others within place i swap.at from up swap.is_down))
        ∙ worth_is (move n (bundle counts) i swap.at) swap.enough.first swap.enough.first_is;
    second_is = sym (fit.own f firm is (counts_of trades f (move n (bundle others) i swap.at))
        (lowered_at trades f (spot swap.at) (raised_at trades f place others))
        (counts_back counts others others_within place i swap.at from up swap.is_down))
        ∙ worth_is (move n (bundle others) i swap.at) swap.enough.second swap.enough.second_is;
    enough = swap.enough.enough;
  }

  to_counts : MeetsExchange (unit_firm trades f firm) → ExchangesByCounts trades f firm
  to_counts meets counts others a b within others_within is_a is_b place is_place above =
      let first_level = bundle_level counts within place is_place in
      let second_level = bundle_level others others_within place is_place in
      let from = lower_place (bundle others) (bundle counts) place (bundle_within others) (bundle_within counts) is_place
      (omega (arith, ints, above, first_level, second_level)) in
      swap_of counts others (a +ℤ b) within others_within place from.here from.same from.lower
      (exchange_to_places (unit_firm trades f firm) own_bundles meets (bundle counts) (bundle others) a b
      (bundle_worth counts a within is_a) (bundle_worth others b others_within is_b) from.here from.within from.lower)

pub exchange_is_by_counts : ExchangeByCounts
exchange_is_by_counts firms trades f firm fit is =
    (to_sets firms trades fit f firm is, to_counts firms trades fit f firm is)
