-- A network by counts whose trades are kinds of unit trades: what is best by its counts is best among the bundles of these
-- kinds.
use Rattle.std.proofs.Common.{◌≡◌, ℕ, ◌^◌, ◌<◌, Bool, true, false, ◌==◌, ◌&&◌, ◌||◌, nat_lt, if◌then◌else◌, List, length, slice_get, Option, Some, None, option_map, inl, inr, refl, sym, ap, ap₂, ◌∙◌, arith, ℤ, pos, ◌+ℤ◌, ◌-ℤ◌, ◌*ℤ◌, ◌≤ℤ◌}
use Rattle.std.specs.Prelude.{◌↔◌}
use Rattle.std.proofs.lemmas.Bool.{and_parts, cases_Bool, eq-eqb, eqb-true, le-ltb, lt-ltb, ltb-true}
use Rattle.tn_base.specs.Sets.{has, set_of, sum_over}
use Rattle.tn_base.proofs.SetLemmas.{has-set_of, set_of_within}
use Rattle.tn_base.proofs.SumLemmas.{sum_over-same_terms}
use Rattle.tn_model.specs.Network.{own, part}
use Rattle.tn_market.specs.Equilibrium.{utility_at}
use Rattle.tn_counts.specs.Counts.{AreCounts, CountFirm, IsBestCount, count_utility, paid_to, payments, trade_at}
use Rattle.tn_counts.specs.declared.trade.UnitTrade.{UnitTrade}
use Rattle.tn_unit_laws.specs.Laws.{FitByCounts}
use Rattle.tn_unit_laws.specs.Units.{count_below, counts_of, is_own, own_units, trade_of, unit_count, unit_firm, unit_trades}
use Rattle.tn_unit_laws.proofs.CountLemmas.{count-first, count-most, count-strict, count-same, sum_by_kinds}
use Rattle.tn_unit_laws.proofs.BundleLemmas.{reindex}
use Rattle.tn_unit_laws.proofs.PaymentLemmas.{bundle_below, gets_at, gets_is, own_below, same_utility}

-- unit trades are of kinds, the trades of another list, between the same firms; those of a kind past the list are left out
pub record AreKinds (trades others : List UnitTrade) (kind : ℕ → ℕ) : Type 0 where
  pub seller : (u : ℕ) → u < unit_count trades → kind u < length others
      → (trade_at others (kind u)).seller ≡ (trade_at trades (trade_of trades u)).seller
  pub buyer : (u : ℕ) → u < unit_count trades → kind u < length others
      → (trade_at others (kind u)).buyer ≡ (trade_at trades (trade_of trades u)).buyer
  pub size : (s : ℕ) → s < length others
      → count_below (λ u. s == kind u) (unit_count trades) ≡ (trade_at others s).units

-- how many there are of each kind in a bundle of firm f
abbrev pub kinds_of : List UnitTrade → (ℕ → ℕ) → ℕ → ℕ → ℕ → ℕ
kinds_of trades kind f x s =
    count_below (λ k. has x k && s == kind (own (unit_trades trades) f k)) (own_units trades f)

-- and in a set of unit trades
abbrev pub kinds_on : List UnitTrade → (ℕ → ℕ) → ℕ → ℕ → ℕ
kinds_on trades kind on s = count_below (λ u. has on u && s == kind u) (unit_count trades)

-- a bundle has none that is left out
abbrev pub IsOfKinds : List UnitTrade → List UnitTrade → (ℕ → ℕ) → ℕ → ℕ → Type 0
IsOfKinds trades others kind f x = (k : ℕ) → k < own_units trades f → has x k ≡ true
    → kind (own (unit_trades trades) f k) < length others

-- a bundle of these kinds has a value, and none has more
pub record IsBestOfKinds (trades others : List UnitTrade) (kind : ℕ → ℕ) (f : ℕ) (value_of : ℕ → Option ℤ) (x : ℕ)
    (value : ℤ) : Type 0 where
  pub is : value_of x ≡ Some value
  pub most : (y : ℕ) (other : ℤ) → IsOfKinds trades others kind f y → value_of y ≡ Some other → other ≤ℤ value

module _ (firms : List CountFirm) (trades : List UnitTrade) (fit : FitByCounts firms trades) (f : ℕ) (firm : CountFirm)
    (is : slice_get firms f ≡ Some firm) (fellows : List CountFirm) (others : List UnitTrade)
    (fellows_fit : FitByCounts fellows others) (fellow : CountFirm) (fellow_is : slice_get fellows f ≡ Some fellow)
    (kind : ℕ → ℕ) (kinds : AreKinds trades others kind) where
  abbrev n : ℕ
  n = own_units trades f

  -- the kind at a position
  abbrev at : ℕ → ℕ
  at k = kind (own (unit_trades trades) f k)

  -- a kind is the firm's where its unit trades are
  own_kind : (u : ℕ) → u < unit_count trades → kind u < length others
      → is_own others f (kind u) ≡ is_own trades f (trade_of trades u)
  own_kind u below inside = ap₂ (λ (s b : ℕ). s == f || b == f) (kinds.seller u below inside) (kinds.buyer u below inside)

  -- no bundle has more of a kind than there are
  pub kinds_within : (x : ℕ) → AreCounts others (kinds_of trades kind f x)
  kinds_within x s below =
      let all = count-most (λ k. has x k && s == at k) (λ k. s == at k) n
      (λ k inside e. (and_parts (has x k) (s == at k) e).1) in
      let there = reindex firms trades fit f firm is (λ u. s == kind u) (unit_count trades) (omega arith) in
      let some = count-most (λ u. s == kind u && is_own trades f (trade_of trades u)) (λ u. s == kind u)
      (unit_count trades) (λ u inside e. (and_parts (s == kind u) (is_own trades f (trade_of trades u)) e).0) in
      let size = kinds.size s below in
      omega (arith, all, there, some, size)

  -- the firm's bundle of a set has as many of its own kinds as the set
  pub kinds_of_part : (on s : ℕ) → s < length others → is_own others f s ≡ true
      → kinds_of trades kind f (part (unit_trades trades) f n on) s ≡ kinds_on trades kind on s
  kinds_of_part on s inside mine =
      count-same (λ k. has (part (unit_trades trades) f n on) k && s == at k)
      (λ k. passes (own (unit_trades trades) f k)) n
      (λ k below. ap (λ (b : Bool). b && s == at k)
      (has-set_of (λ i. has on (own (unit_trades trades) f i)) n k
      ∙ ap (λ (b : Bool). b && has on (own (unit_trades trades) f k)) (lt-ltb k n below)))
      ∙ reindex firms trades fit f firm is passes (unit_count trades) (omega arith)
      ∙ count-same (λ u. passes u && is_own trades f (trade_of trades u)) passes (unit_count trades)
      (λ u below. by u below (passes u) refl)
    where
      passes : ℕ → Bool
      passes u = has on u && s == kind u

      by : (u : ℕ) → u < unit_count trades → (b : Bool) → (has on u && s == kind u) ≡ b
          → (b && is_own trades f (trade_of trades u)) ≡ b
      by u below true e =
          let same = eqb-true s (kind u) (and_parts (has on u) (s == kind u) e).1 in
          sym (own_kind u below (let there = inside in omega (arith, there, same)))
          ∙ ap (is_own others f) (sym same) ∙ mine
      by u below false e = refl

  -- a bundle that has all of a kind has each of the firm's unit trades of that kind
  pub takes_whole : (x s p : ℕ) → s < length others → kinds_of trades kind f x s ≡ (trade_at others s).units → p < n
      → at p ≡ s → has x p ≡ true
  takes_whole x s p inside whole below same = elim (cases_Bool (has x p)) [
    | inl there ↦ there
    | inr away ↦
        let fewer = count-strict (λ k. has x k && s == at k) (λ k. s == at k) n
        (λ k k_below e. (and_parts (has x k) (s == at k) e).1) p below (eq-eqb s (at p) (sym same))
        (ap (λ (b : Bool). b && s == at p) away) in
        let there = reindex firms trades fit f firm is (λ u. s == kind u) (unit_count trades) (omega arith) in
        let some = count-most (λ u. s == kind u && is_own trades f (trade_of trades u)) (λ u. s == kind u)
        (unit_count trades) (λ u u_below e. (and_parts (s == kind u) (is_own trades f (trade_of trades u)) e).0) in
        let size = kinds.size s inside in
        absurd (omega (arith, fewer, there, some, size, whole))
  ]

  -- ---- each count is that of a bundle

  -- no more than the counts of a kind, and none of what is left out
  most_of : (ℕ → ℕ) → ℕ → ℕ
  most_of counts s = if nat_lt s (length others) then counts s else 0

  -- the first so many unit trades of each kind
  pub first_kinds : (ℕ → ℕ) → ℕ
  first_kinds counts =
      set_of (λ u. nat_lt (count_below (λ v. kind u == kind v) u) (most_of counts (kind u))) (unit_count trades)

  pub first_have : (counts : ℕ → ℕ) → AreCounts others counts → (s : ℕ) → s < length others
      → kinds_on trades kind (first_kinds counts) s ≡ counts s
  unfolding first_kinds most_of
  first_have counts within s below =
      let there = count-same (λ u. has (first_kinds counts) u && s == kind u)
      (λ u. nat_lt (count_below (λ v. kind u == kind v) u) (most_of counts (kind u)) && s == kind u) (unit_count trades)
      (λ u inside. ap (λ (b : Bool). b && s == kind u)
      (has-set_of (λ v. nat_lt (count_below (λ w. kind v == kind w) v) (most_of counts (kind v))) (unit_count trades) u
      ∙ ap (λ (b : Bool). b && nat_lt (count_below (λ v. kind u == kind v) u) (most_of counts (kind u)))
      (lt-ltb u (unit_count trades) inside))) in
      let least = count-first kind (most_of counts) s (unit_count trades) in
      let size = kinds.size s below in
      let few = within s below in
      let most = ap (λ (b : Bool). if b then counts s else 0) (lt-ltb s (length others) below) in
      elim least [
        | inl all ↦ let less = all.0 in let same = all.1 in omega (arith, there, size, few, most, less, same)
        | inr full ↦ let same = full.1 in omega (arith, there, most, same)
      ]

  pub first_of_kinds : (counts : ℕ → ℕ)
      → IsOfKinds trades others kind f (part (unit_trades trades) f n (first_kinds counts))
  unfolding first_kinds most_of
  first_of_kinds counts k below there = elim (cases_Bool (nat_lt (at k) (length others))) [
    | inl inside ↦ ltb-true (at k) (length others) inside
    | inr past ↦ absurd (by (sym (most_is past) ∙ taken))
  ]
    where
      u : ℕ
      u = own (unit_trades trades) f k

      taken : nat_lt (count_below (λ v. kind u == kind v) u) (most_of counts (kind u)) ≡ true
      taken =
          let on = (and_parts (nat_lt k n) (has (first_kinds counts) u)
          (sym (has-set_of (λ i. has (first_kinds counts) (own (unit_trades trades) f i)) n k) ∙ there)).1 in
          (and_parts (nat_lt u (unit_count trades))
          (nat_lt (count_below (λ v. kind u == kind v) u) (most_of counts (kind u)))
          (sym (has-set_of (λ v. nat_lt (count_below (λ w. kind v == kind w) v) (most_of counts (kind v)))
          (unit_count trades) u) ∙ on)).1

      most_is : nat_lt (kind u) (length others) ≡ false
          → nat_lt (count_below (λ v. kind u == kind v) u) (most_of counts (kind u)) ≡ false
      most_is past = ap (λ (b : Bool). nat_lt (count_below (λ v. kind u == kind v) u) (if b then counts (kind u) else 0)) past
          ∙ le-ltb (count_below (λ v. kind u == kind v) u) 0 (omega arith)

      by : false ≡ true → ⊥
      by e = absurd (cc)

  -- ---- utilities

  module _ (scale : ℤ) (prices twin_prices : ℕ → ℤ)
      (priced : (u : ℕ) → u < unit_count trades → kind u < length others → twin_prices u ≡ prices (kind u))
      (worths : (x : ℕ) → IsOfKinds trades others kind f x
      → fellow.worth (kinds_of trades kind f x) ≡ firm.worth (counts_of trades f x)) where
    abbrev utility : ℕ → Option ℤ
    utility x = utility_at (unit_trades trades) scale twin_prices f (unit_firm trades f firm) x

    abbrev by_kinds : (ℕ → ℕ) → Option ℤ
    by_kinds counts = count_utility others scale prices f fellow counts

    brings : (x : ℕ) → IsOfKinds trades others kind f x
        → sum_over (gets_at trades f twin_prices) n x ≡ payments others prices f (kinds_of trades kind f x)
    brings x of =
        sum_over-same_terms (gets_at trades f twin_prices) (λ k. each (at k)) x n
        (λ k below there. gets_is firms trades fit f firm is twin_prices k below ∙ price k below (of k below there))
        ∙ sum_by_kinds at (length others) each x n of
      where
        each : ℕ → ℤ
        each s = paid_to f (prices s) (trade_at others s)

        price : (k : ℕ) → k < n → at k < length others
            → paid_to f (twin_prices (own (unit_trades trades) f k))
            (trade_at trades (trade_of trades (own (unit_trades trades) f k)))
            ≡ paid_to f (prices (at k)) (trade_at others (at k))
        price k below inside =
            let u_below = own_below firms trades fit f firm is k below in
            ap (λ (z : ℤ). paid_to f z (trade_at trades (trade_of trades (own (unit_trades trades) f k))))
            (priced (own (unit_trades trades) f k) u_below inside)
            ∙ ap₂ (λ (s b : ℕ). (if f == s then prices (at k) else pos 0) -ℤ (if f == b then prices (at k) else pos 0))
            (sym (kinds.seller (own (unit_trades trades) f k) u_below inside))
            (sym (kinds.buyer (own (unit_trades trades) f k) u_below inside))

    -- the utility of a bundle of these kinds is that of its counts of them
    utility_is : (x : ℕ) → x < 2 ^ n → IsOfKinds trades others kind f x → utility x ≡ by_kinds (kinds_of trades kind f x)
    utility_is x below of =
        ap (λ (b : Bool). option_map (λ a. scale *ℤ a +ℤ sum_over (gets_at trades f twin_prices) n x)
        (if b then firm.worth (counts_of trades f x) else None)) (lt-ltb x (2 ^ n) below)
        ∙ ap₂ (λ (o : Option ℤ) (z : ℤ). option_map (λ a. scale *ℤ a +ℤ z) o) (sym (worths x of)) (brings x of)

    part_utility : (on : ℕ) (counts : ℕ → ℕ) → ((s : ℕ) → s < length others → kinds_on trades kind on s ≡ counts s)
        → IsOfKinds trades others kind f (part (unit_trades trades) f n on)
        → utility (part (unit_trades trades) f n on) ≡ by_kinds counts
    part_utility on counts have of =
        utility_is (part (unit_trades trades) f n on) (set_of_within (λ k. has on (own (unit_trades trades) f k)) n) of
        ∙ same_utility fellows others fellows_fit f fellow fellow_is scale prices
        (kinds_of trades kind f (part (unit_trades trades) f n on)) counts
        (λ s below mine. kinds_of_part on s below mine ∙ have s below)

    -- no counts have more than a bundle that is best among those of these kinds
    none_more : (x : ℕ) (value : ℤ)
        → IsBestOfKinds trades others kind f
        (utility_at (unit_trades trades) scale twin_prices f (unit_firm trades f firm)) x value
        → (chosen : ℕ → ℕ) (other : ℤ) → AreCounts others chosen → by_kinds chosen ≡ Some other → other ≤ℤ value
    none_more x value best chosen other within at_chosen =
        best.most (part (unit_trades trades) f n (first_kinds chosen)) other (first_of_kinds chosen)
        (part_utility (first_kinds chosen) chosen (first_have chosen within) (first_of_kinds chosen) ∙ at_chosen)

    -- a bundle that is best among those of these kinds has best counts
    pub best_counts : (x : ℕ) (value : ℤ) → IsOfKinds trades others kind f x
        → IsBestOfKinds trades others kind f
        (utility_at (unit_trades trades) scale twin_prices f (unit_firm trades f firm)) x value
        → IsBestCount others (count_utility others scale prices f fellow) (kinds_of trades kind f x) value
    best_counts x value of best = record {
      within = kinds_within x;
      is = sym (utility_is x (bundle_below firms trades fit f firm is scale twin_prices x value best.is) of) ∙ best.is;
      most = none_more x value best;
    }

    -- what is best by these counts is best among the bundles of these kinds, and the other way round
    pub best_by_kinds : (on : ℕ) (counts : ℕ → ℕ) (value : ℤ)
        → ((s : ℕ) → s < length others → kinds_on trades kind on s ≡ counts s)
        → IsOfKinds trades others kind f (part (unit_trades trades) f n on)
        → IsBestCount others (count_utility others scale prices f fellow) counts value
        ↔ IsBestOfKinds trades others kind f
        (utility_at (unit_trades trades) scale twin_prices f (unit_firm trades f firm)) (part (unit_trades trades) f n on) value
    best_by_kinds on counts value have of = (
      (λ best. record {
        is = part_utility on counts have of ∙ best.is;
        most = λ y other y_of at_y. best.most (kinds_of trades kind f y) other (kinds_within y)
            (sym (utility_is y (bundle_below firms trades fit f firm is scale twin_prices y other at_y) y_of) ∙ at_y);
      }),
      (λ best. record {
        within = λ s below.
            let most = count-most (λ u. has on u && s == kind u) (λ u. s == kind u) (unit_count trades)
            (λ u inside e. (and_parts (has on u) (s == kind u) e).1) in
            let size = kinds.size s below in
            let same = have s below in
            omega (arith, most, size, same);
        is = sym (part_utility on counts have of) ∙ best.is;
        most = none_more (part (unit_trades trades) f n on) value best;
      }),
    )
