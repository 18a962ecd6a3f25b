-- What a firm gets at each position, and sums over a bundle of what depends on the trade alone.
use Rattle.std.proofs.Common.{◌≡◌, ◌≢◌, ℕ, ◌^◌, ◌<◌, Bool, true, false, ◌==◌, ◌&&◌, ◌||◌, nat_lt, if◌then◌else◌, List, length, slice_get, Option, Some, None, option_map, ◌⊎◌, inl, inr, refl, sym, ap, ap₂, ◌∙◌, arith, ℤ, pos, neg_ℤ, ◌+ℤ◌, ◌-ℤ◌, ◌*ℤ◌}
use Rattle.std.proofs.lemmas.Bool.{and_parts, cases_Bool, eq-eqb, eqb-true, ltb-true, ne_eqb, or_parts}
use Rattle.std.proofs.lemmas.Int.{ints}
use Rattle.std.proofs.lemmas.Option.{none-some, same_Some}
use Rattle.std.proofs.Math.IntN.{zero-*ℤ}
use Rattle.tn_base.specs.Firm.{Firm, payments as bundle_payments}
use Rattle.tn_base.specs.Sets.{has, sum_over}
use Rattle.tn_base.specs.Table.{buys_of}
use Rattle.tn_links.specs.Totals.{total}
use Rattle.tn_links.proofs.TotalLemmas.{total-same}
use Rattle.tn_model.specs.declared.ends.Ends.{Ends}
use Rattle.tn_model.specs.InOrder.{sides_of}
use Rattle.tn_model.specs.Network.{own, stands_at}
use Rattle.tn_model.proofs.NetworkLemmas.{one_trade}
use Rattle.tn_market.specs.Equilibrium.{prices_at, utility_at}
use Rattle.tn_counts.specs.Counts.{CountFirm, count_utility, paid_to, trade_at}
use Rattle.tn_counts.specs.declared.trade.UnitTrade.{UnitTrade}
use Rattle.tn_unit_laws.specs.Laws.{FitByCounts}
use Rattle.tn_unit_laws.specs.Units.{counts_of, is_own, own_units, trade_of, unit_count, unit_firm, unit_firms, unit_trades}
use Rattle.tn_unit_laws.proofs.CountLemmas.{sum_by_kinds, trade_of-within}
use Rattle.tn_unit_laws.proofs.UnitLemmas.{length-units, unit_at, unit_firm_at}
use Rattle.tn_unit_laws.proofs.BundleLemmas.{fits_network, place_of, unit}

-- what firm f gets at a position, at prices of unit trades
abbrev pub gets_at : List UnitTrade → ℕ → (ℕ → ℤ) → ℕ → ℤ
gets_at trades f prices k =
    bundle_payments (buys_of (sides_of (unit_trades trades) f)) (prices_at (unit_trades trades) prices f) k

-- a firm is neither end of a trade of others
pub not_ends : (trades : List UnitTrade) (f t : ℕ) → is_own trades f t ≡ false
    → ((f == (trade_at trades t).seller) ≡ false) × ((f == (trade_at trades t).buyer) ≡ false)
not_ends trades f t other =
    let ends = or_parts ((trade_at trades t).seller == f) ((trade_at trades t).buyer == f) other in
    (turned (trade_at trades t).seller ends.0, turned (trade_at trades t).buyer ends.1)
  where
    differ : true ≡ false → ⊥
    differ e = absurd (cc)

    turned : (g : ℕ) → (g == f) ≡ false → (f == g) ≡ false
    turned g away = ne_eqb f g (λ e. differ (sym (eq-eqb g f (sym e)) ∙ away))

module _ (firms : List CountFirm) (trades : List UnitTrade) (fit : FitByCounts firms trades) (f : ℕ) (firm : CountFirm)
    (is : slice_get firms f ≡ Some firm) where
  unit_is : slice_get (unit_firms trades firms) f ≡ Some (unit_firm trades f firm)
  unit_is = unit_firm_at trades 0 firms f f firm (omega arith) is

  -- the unit trade at a position is one
  pub own_below : (k : ℕ) → k < own_units trades f → own (unit_trades trades) f k < unit_count trades
  own_below k below =
      let inside = (fits_network firms trades fit).whole f k (unit_firm trades f firm) unit_is below in
      let long = length-units trades (unit_count trades) in
      omega (arith, inside, long)

  -- at each position stands a unit trade that the firm sells, or one that it buys
  pub side_at : (k : ℕ) → k < own_units trades f
      → (((f == (trade_at trades (trade_of trades (own (unit_trades trades) f k))).seller) ≡ true)
      × ((f == (trade_at trades (trade_of trades (own (unit_trades trades) f k))).buyer) ≡ false)
      × (has (buys_of (sides_of (unit_trades trades) f)) k ≡ false))
      ⊎ (((f == (trade_at trades (trade_of trades (own (unit_trades trades) f k))).seller) ≡ false)
      × ((f == (trade_at trades (trade_of trades (own (unit_trades trades) f k))).buyer) ≡ true)
      × (has (buys_of (sides_of (unit_trades trades) f)) k ≡ true))
  side_at k below = elim (cases_Bool (trade.seller == f && place_of trades trade.seller u == k)) [
    | inl sells ↦
        let parts = and_parts (trade.seller == f) (place_of trades trade.seller u == k) sells in
        let sold = (fits_network firms trades fit).sold u (unit trades u) there in
        let side = same_side trade.seller (place_of trades trade.seller u) (eqb-true trade.seller f parts.0)
        (eqb-true (place_of trades trade.seller u) k parts.1) sold.0 sold.1 in
        inl (
          eq-eqb f trade.seller (sym (eqb-true trade.seller f parts.0)),
          ne_eqb f trade.buyer (λ e. apart (eqb-true trade.seller f parts.0 ∙ e)),
          side ∙ sold.3,
        )
    | inr other ↦
        let buys : (trade.buyer == f && place_of trades trade.buyer u == k) ≡ true =
        sym (ap (λ (b : Bool). b || (trade.buyer == f && place_of trades trade.buyer u == k)) other) ∙ stands in
        let parts = and_parts (trade.buyer == f) (place_of trades trade.buyer u == k) buys in
        let bought = (fits_network firms trades fit).bought u (unit trades u) there in
        let side = same_side trade.buyer (place_of trades trade.buyer u) (eqb-true trade.buyer f parts.0)
        (eqb-true (place_of trades trade.buyer u) k parts.1) bought.0 bought.1 in
        inr (
          ne_eqb f trade.seller (λ e. apart (sym e ∙ sym (eqb-true trade.buyer f parts.0))),
          eq-eqb f trade.buyer (sym (eqb-true trade.buyer f parts.0)),
          side ∙ bought.3,
        )
  ]
    where
      u : ℕ
      u = own (unit_trades trades) f k

      trade : UnitTrade
      trade = trade_at trades (trade_of trades u)

      below_u : u < unit_count trades
      below_u = own_below k below

      there : slice_get (unit_trades trades) u ≡ Some (unit trades u)
      there = unit_at trades (unit_count trades) u below_u

      apart : trade.seller ≢ trade.buyer
      apart = fit.apart (trade_of trades u) (trade_of-within trades u below_u)

      stands : stands_at (unit trades u) f k ≡ true
      stands =
          let found = (one_trade (unit_firms trades firms) (unit_trades trades) f k u (unit_firm trades f firm)
          (fits_network firms trades fit) unit_is below).0 refl in
          ap (λ (e : Ends). stands_at e f k)
          (same_Some (unit trades u) found.trade (sym there ∙ found.is)) ∙ found.stands

      same_side : (g i : ℕ) → g ≡ f → i ≡ k → (other : Firm) → slice_get (unit_firms trades firms) g ≡ Some other
          → has (buys_of (sides_of (unit_trades trades) f)) k ≡ has other.buys i
      same_side g i same at other other_is =
          let one_is : unit_firm trades f firm ≡ other =
          same_Some (unit_firm trades f firm) other
          (sym unit_is ∙ ap (slice_get (unit_firms trades firms)) (sym same) ∙ other_is) in
          ap₂ (λ (x : Firm) (j : ℕ). has x.buys j) one_is (sym at)

  -- so it gets its price, or pays it
  pub gets_is : (prices : ℕ → ℤ) (k : ℕ) → k < own_units trades f → gets_at trades f prices k
      ≡ paid_to f (prices (own (unit_trades trades) f k))
      (trade_at trades (trade_of trades (own (unit_trades trades) f k)))
  gets_is prices k below = elim (side_at k below) [
    | inl sells ↦ ap (λ (b : Bool). if b then neg_ℤ price else price) sells.2
        ∙ (let none : price ≡ price -ℤ pos 0 = omega (arith, ints) in none)
        ∙ sym (ap₂ (λ (a b : Bool). (if a then price else pos 0) -ℤ (if b then price else pos 0)) sells.0 sells.1)
    | inr buys ↦ ap (λ (b : Bool). if b then neg_ℤ price else price) buys.2
        ∙ (let all : neg_ℤ price ≡ pos 0 -ℤ price = omega (arith, ints) in all)
        ∙ sym (ap₂ (λ (a b : Bool). (if a then price else pos 0) -ℤ (if b then price else pos 0)) buys.0 buys.1)
  ]
    where
      price : ℤ
      price = prices (own (unit_trades trades) f k)

  -- a sum over a bundle of what depends on the trade alone is one over trades, times their counts
  pub sum_by_counts : (each : ℕ → ℤ) (x : ℕ)
      → sum_over (λ k. each (trade_of trades (own (unit_trades trades) f k))) (own_units trades f) x
      ≡ total (λ t. each t *ℤ pos (counts_of trades f x t)) (length trades)
  sum_by_counts each x =
      sum_by_kinds (λ k. trade_of trades (own (unit_trades trades) f k)) (length trades) each x (own_units trades f)
      (λ k below there. trade_of-within trades (own (unit_trades trades) f k) (own_below k below))

  -- only bundles of own unit trades have a utility
  pub bundle_below : (scale : ℤ) (prices : ℕ → ℤ) (x : ℕ) (value : ℤ)
      → utility_at (unit_trades trades) scale prices f (unit_firm trades f firm) x ≡ Some value
      → x < 2 ^ own_units trades f
  bundle_below scale prices x value at = elim (cases_Bool (nat_lt x (2 ^ own_units trades f))) [
    | inl below ↦ ltb-true x (2 ^ own_units trades f) below
    | inr past ↦
        absurd (none-some value (sym (ap (λ (b : Bool). option_map (λ a. scale *ℤ a
        +ℤ sum_over (gets_at trades f prices) (own_units trades f) x)
        (if b then firm.worth (counts_of trades f x) else None)) past) ∙ at))
  ]

  -- counts that are the same of own trades have the same utility
  pub same_utility : (scale : ℤ) (prices : ℕ → ℤ) (counts others : ℕ → ℕ)
      → ((t : ℕ) → t < length trades → is_own trades f t ≡ true → counts t ≡ others t)
      → count_utility trades scale prices f firm counts ≡ count_utility trades scale prices f firm others
  same_utility scale prices counts others same =
      ap₂ (λ (o : Option ℤ) (z : ℤ). option_map (λ worth. scale *ℤ worth +ℤ z) o)
      (fit.own f firm is counts others same)
      (total-same (λ t. paid_to f (prices t) (trade_at trades t) *ℤ pos (counts t))
      (λ t. paid_to f (prices t) (trade_at trades t) *ℤ pos (others t)) (length trades)
      (λ t below. by t below (is_own trades f t) refl))
    where
      nothing : (t : ℕ) → is_own trades f t ≡ false → paid_to f (prices t) (trade_at trades t) ≡ pos 0
      nothing t other =
          let ends = not_ends trades f t other in
          ap₂ (λ (a b : Bool). (if a then prices t else pos 0) -ℤ (if b then prices t else pos 0)) ends.0 ends.1

      by : (t : ℕ) → t < length trades → (b : Bool) → is_own trades f t ≡ b
          → paid_to f (prices t) (trade_at trades t) *ℤ pos (counts t)
          ≡ paid_to f (prices t) (trade_at trades t) *ℤ pos (others t)
      by t below true mine = ap (λ (n : ℕ). paid_to f (prices t) (trade_at trades t) *ℤ pos n) (same t below mine)
      by t below false other =
          let none = nothing t other in
          ap (λ (z : ℤ). z *ℤ pos (counts t)) none ∙ zero-*ℤ (pos (counts t))
          ∙ sym (ap (λ (z : ℤ). z *ℤ pos (others t)) none ∙ zero-*ℤ (pos (others t)))
