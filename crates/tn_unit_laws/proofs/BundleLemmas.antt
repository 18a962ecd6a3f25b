-- The counts of a bundle decide what it is worth and what it brings, and every count within the units is that of one.
use Rattle.std.proofs.Common.{◌≡◌, ℕ, zero, suc, ◌+◌, ◌<◌, ◌≤◌, Bool, true, false, ◌==◌, ◌&&◌, ◌||◌, List, [], ◌∷◌, length, take, get_or, slice_get, Some, None, inl, inr, refl, sym, ap, ap₂, ◌∙◌, arith, length-append}
use Rattle.std.specs.Prelude.{cond, nat_eq, ◌⊎◌}
use Rattle.std.proofs.lemmas.Bool.{and_parts, cases_Bool, eq-eqb, eqb-true, lt-ltb}
use Rattle.std.proofs.lemmas.Option.{same_Some, get_or_from_slice_get}
use Rattle.tn_base.specs.Firm.{Firm}
use Rattle.tn_base.specs.Sets.{has}
use Rattle.tn_base.specs.declared.side.Side.TheVariants.{Buy, Sell}
use Rattle.tn_base.proofs.SetLemmas.{has-set_of}
use Rattle.tn_model.specs.declared.ends.Ends.{Ends}
use Rattle.tn_model.specs.InOrder.{side_in, sides_of}
use Rattle.tn_model.specs.Network.{IsNetwork, own, part, stands_at}
use Rattle.tn_model.proofs.InOrderLemmas.{sides_of-next, sides_of-none, with_next}
use Rattle.tn_model.proofs.NetworkLemmas.{one_trade}
use Rattle.tn_counts.specs.Counts.{AreCounts, CountFirm, trade_at}
use Rattle.tn_counts.specs.declared.trade.UnitTrade.{UnitTrade}
use Rattle.tn_unit_laws.specs.Laws.{FitByCounts}
use Rattle.tn_unit_laws.specs.Units.{count_below, counts_of, first_unit_trades, is_own, own_units, trade_of, unit_after, unit_count, unit_firm, unit_firms, unit_trades, units_on}
use Rattle.tn_unit_laws.proofs.CountLemmas.{count-most, count-same, count-twins, one}
use Rattle.tn_unit_laws.proofs.UnitLemmas.{length-units, take-units, unit_at, unit_firm_at, units_network}

-- the unit trade u as it stands in the unit network
abbrev pub unit : List UnitTrade → ℕ → Ends
unit trades u = unit_after (first_unit_trades trades u) (trade_at trades (trade_of trades u))

-- how many of the first u unit trades are trades of firm f
abbrev pub place_of : List UnitTrade → ℕ → ℕ → ℕ
place_of trades f u = length (sides_of (first_unit_trades trades u) f)

-- one more of them where the next is its own
place_next : (trades : List UnitTrade) (f u : ℕ) → place_of trades f (suc u)
    ≡ place_of trades f u + one (is_own trades f (trade_of trades u))
place_next trades f u =
    let long = length-units trades (suc u) in
    let next = sides_of-next f (first_unit_trades trades (suc u)) u (unit trades u) (omega (arith, long)) in
    let all : take (suc u) (first_unit_trades trades (suc u)) ≡ first_unit_trades trades (suc u) =
    ap (λ (n : ℕ). take (suc u) (first_unit_trades trades n)) (omega arith) ∙ take-units trades (suc u) 0 in
    let before : take u (first_unit_trades trades (suc u)) ≡ first_unit_trades trades u =
    ap (λ (n : ℕ). take u (first_unit_trades trades n)) (omega arith) ∙ take-units trades u 1 in
    let here : get_or (first_unit_trades trades (suc u)) u (unit trades u) ≡ unit trades u =
    get_or_from_slice_get (first_unit_trades trades (suc u)) u (unit trades u) (unit trades u)
    (unit_at trades (suc u) u (omega arith)) in
    ap (λ (es : List Ends). length (sides_of es f)) (sym all) ∙ ap length next
    ∙ ap₂ (λ (e : Ends) (es : List Ends). length (with_next f (side_in f e) (sides_of es f))) here before
    ∙ by (nat_eq (trade_at trades (trade_of trades u)).seller f) (nat_eq (trade_at trades (trade_of trades u)).buyer f)
  where
    by : (sells buys : Bool)
        → length (with_next f (cond sells (Some Sell) (cond buys (Some Buy) None))
        (sides_of (first_unit_trades trades u) f))
        ≡ place_of trades f u + one (sells || buys)
    by true buys = length-append (sides_of (first_unit_trades trades u) f) (Sell ∷ [])
    by false true = length-append (sides_of (first_unit_trades trades u) f) (Buy ∷ [])
    by false false = omega arith

-- ---- a firm of the unit network

module _ (firms : List CountFirm) (trades : List UnitTrade) (fit : FitByCounts firms trades) where
  pub fits_network : IsNetwork (unit_firms trades firms) (unit_trades trades)
  fits_network = units_network firms trades fit.ends fit.apart

  module _ (f : ℕ) (firm : CountFirm) (is : slice_get firms f ≡ Some firm) where
    unit_is : slice_get (unit_firms trades firms) f ≡ Some (unit_firm trades f firm)
    unit_is = unit_firm_at trades 0 firms f f firm (omega arith) is

    -- where an own unit trade stands
    stands_there : (u : ℕ) → is_own trades f (trade_of trades u) ≡ true
        → stands_at (unit trades u) f (place_of trades f u) ≡ true
    stands_there u mine = by (cases_Bool (seller == f)) mine
      where
        seller : ℕ
        seller = (trade_at trades (trade_of trades u)).seller

        buyer : ℕ
        buyer = (trade_at trades (trade_of trades u)).buyer

        at : (g : ℕ) → g == f ≡ true → (place_of trades g u == place_of trades f u) ≡ true
        at g same = eq-eqb (place_of trades g u) (place_of trades f u)
            (ap (λ (h : ℕ). place_of trades h u) (eqb-true g f same))

        by : ((seller == f) ≡ true) ⊎ ((seller == f) ≡ false) → (seller == f || buyer == f) ≡ true
            → ((seller == f && place_of trades seller u == place_of trades f u)
            || (buyer == f && place_of trades buyer u == place_of trades f u)) ≡ true
        by (inl sells) mine = rw sells (rw (at seller sells) refl)
        by (inr other) mine =
            let buys : (buyer == f) ≡ true = sym (ap (λ (b : Bool). b || buyer == f) other) ∙ mine in
            ap (λ (b : Bool). (b && place_of trades seller u == place_of trades f u)
            || (buyer == f && place_of trades buyer u == place_of trades f u)) other
            ∙ ap (λ (b : Bool). b && place_of trades buyer u == place_of trades f u) buys ∙ at buyer buys

    pub place_within : (u : ℕ) → u < unit_count trades → is_own trades f (trade_of trades u) ≡ true
        → place_of trades f u < own_units trades f
    place_within u below mine = elim (cases_Bool (seller == f)) [
      | inl sells ↦
          let sold = fits_network.sold u (unit trades u) (unit_at trades (unit_count trades) u below) in
          inside seller (eqb-true seller f sells) sold.0 sold.1 sold.2
      | inr other ↦
          let buys : (buyer == f) ≡ true = sym (ap (λ (b : Bool). b || buyer == f) other) ∙ mine in
          let bought = fits_network.bought u (unit trades u) (unit_at trades (unit_count trades) u below) in
          inside buyer (eqb-true buyer f buys) bought.0 bought.1 bought.2
    ]
      where
        seller : ℕ
        seller = (trade_at trades (trade_of trades u)).seller

        buyer : ℕ
        buyer = (trade_at trades (trade_of trades u)).buyer

        inside : (g : ℕ) → g ≡ f → (one : Firm) → slice_get (unit_firms trades firms) g ≡ Some one
            → place_of trades g u < one.count → place_of trades f u < own_units trades f
        inside g same one there below =
            let firm_is : one ≡ unit_firm trades f firm =
            same_Some one (unit_firm trades f firm) (sym there ∙ ap (slice_get (unit_firms trades firms)) same ∙ unit_is) in
            let count : one.count ≡ own_units trades f = ap (λ (x : Firm). x.count) firm_is in
            let place : place_of trades g u ≡ place_of trades f u = ap (λ (h : ℕ). place_of trades h u) same in
            omega (arith, below, count, place)

    -- there it is found
    pub own_here : (u : ℕ) → u < unit_count trades → is_own trades f (trade_of trades u) ≡ true
        → own (unit_trades trades) f (place_of trades f u) ≡ u
    own_here u below mine =
        (one_trade (unit_firms trades firms) (unit_trades trades) f (place_of trades f u) u (unit_firm trades f firm)
        fits_network unit_is (place_within u below mine)).1
        (record {
          trade = unit trades u;
          is = unit_at trades (unit_count trades) u below;
          stands = stands_there u mine;
        })

    -- a count over the first positions is one over unit trades
    pub reindex : (g : ℕ → Bool) (n : ℕ) → n ≤ unit_count trades
        → count_below (λ k. g (own (unit_trades trades) f k)) (place_of trades f n)
        ≡ count_below (λ u. g u && is_own trades f (trade_of trades u)) n
    unfolding count_below first_unit_trades
    reindex g zero most =
        ap (λ (n : ℕ). count_below (λ k. g (own (unit_trades trades) f k)) n) (ap length (sides_of-none f))
    reindex g (suc n) most =
        by (is_own trades f (trade_of trades n)) refl (reindex g n (omega (arith, most)))
      where
        among : ℕ → ℕ
        among m = count_below (λ k. g (own (unit_trades trades) f k)) m

        by : (b : Bool) → is_own trades f (trade_of trades n) ≡ b
            → among (place_of trades f n) ≡ count_below (λ u. g u && is_own trades f (trade_of trades u)) n
            → among (place_of trades f (suc n))
            ≡ count_below (λ u. g u && is_own trades f (trade_of trades u)) n
            + one (g n && is_own trades f (trade_of trades n))
        by true mine before =
            let next : place_of trades f (suc n) ≡ suc (place_of trades f n) =
            place_next trades f n ∙ ap (λ (b : Bool). place_of trades f n + one b) mine ∙ omega arith in
            let there : own (unit_trades trades) f (place_of trades f n) ≡ n = own_here n (omega (arith, most)) mine in
            let term : one (g (own (unit_trades trades) f (place_of trades f n)))
            ≡ one (g n && is_own trades f (trade_of trades n)) =
            ap (λ (u : ℕ). one (g u)) there ∙ sym (ap (λ (b : Bool). one (g n && b)) mine ∙ and_true (g n)) in
            let more : among (place_of trades f (suc n)) ≡ among (place_of trades f n)
            + one (g (own (unit_trades trades) f (place_of trades f n))) = ap among next in
            omega (arith, more, before, term)
          where
            and_true : (b : Bool) → one (b && true) ≡ one b
            and_true true = refl
            and_true false = refl
        by false other before =
            let next : place_of trades f (suc n) ≡ place_of trades f n =
            place_next trades f n ∙ ap (λ (b : Bool). place_of trades f n + one b) other ∙ omega arith in
            let term : one (g n && is_own trades f (trade_of trades n)) ≡ 0 =
            ap (λ (b : Bool). one (g n && b)) other ∙ and_false (g n) in
            let more : among (place_of trades f (suc n)) ≡ among (place_of trades f n) = ap among next in
            omega (arith, more, before, term)
          where
            and_false : (b : Bool) → one (b && false) ≡ 0
            and_false true = refl
            and_false false = refl

    -- the counts of a firm's bundle of a set are those of the set
    pub counts_of_part : (on t : ℕ) → is_own trades f t ≡ true
        → counts_of trades f (part (unit_trades trades) f (own_units trades f) on) t ≡ units_on trades on t
    counts_of_part on t mine =
        count-same
        (λ k. has (part (unit_trades trades) f (own_units trades f) on) k
        && t == trade_of trades (own (unit_trades trades) f k))
        (λ k. passes (own (unit_trades trades) f k)) (own_units trades f)
        (λ k below. ap (λ (b : Bool). b && t == trade_of trades (own (unit_trades trades) f k))
        (has-set_of (λ i. has on (own (unit_trades trades) f i)) (own_units trades f) k
        ∙ ap (λ (b : Bool). b && has on (own (unit_trades trades) f k)) (lt-ltb k (own_units trades f) below)))
        ∙ reindex passes (unit_count trades) (omega arith)
        ∙ count-same (λ u. passes u && is_own trades f (trade_of trades u)) passes (unit_count trades)
        (λ u below. by u (passes u) refl)
      where
        passes : ℕ → Bool
        passes u = has on u && t == trade_of trades u

        by : (u : ℕ) (b : Bool) → (has on u && t == trade_of trades u) ≡ b
            → (b && is_own trades f (trade_of trades u)) ≡ b
        by u true e =
            let same = eqb-true t (trade_of trades u) (and_parts (has on u) (t == trade_of trades u) e).1 in
            ap (λ (s : ℕ). is_own trades f s) (sym same) ∙ mine
        by u false e = refl

    -- no bundle has more units of a trade than there are
    pub counts_within : (x : ℕ) → AreCounts trades (counts_of trades f x)
    counts_within x t below =
        let all = count-most (λ k. has x k && t == trade_of trades (own (unit_trades trades) f k))
        (λ k. t == trade_of trades (own (unit_trades trades) f k)) (own_units trades f)
        (λ k inside e. (and_parts (has x k) (t == trade_of trades (own (unit_trades trades) f k)) e).1) in
        let there = reindex (λ u. t == trade_of trades u) (unit_count trades) (omega arith) in
        let twins = count-most (λ u. t == trade_of trades u && is_own trades f (trade_of trades u))
        (λ u. t == trade_of trades u) (unit_count trades)
        (λ u inside e. (and_parts (t == trade_of trades u) (is_own trades f (trade_of trades u)) e).0) in
        let units = count-twins trades t in
        omega (arith, all, there, twins, units)
