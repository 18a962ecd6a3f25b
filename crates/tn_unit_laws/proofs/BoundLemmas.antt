-- Where firms sell other units than are bought, prices of an equilibrium of the unit network hold what they lose.
use Rattle.std.proofs.Common.{◌≡◌, ℕ, suc, ◌+◌, ◌<◌, ◌⊎◌, Bool, true, false, not, ◌==◌, ◌&&◌, if◌then◌else◌, List, [], ◌∷◌, length, slice_get, Some, option_map, inl, inr, refl, sym, ap, ap₂, ◌∙◌, subst, arith, ℤ, pos, neg_ℤ, ◌+ℤ◌, ◌-ℤ◌, ◌*ℤ◌, ◌≤ℤ◌}
use Rattle.std.proofs.lemmas.Bool.{cases_eq, lt-ltb, ne_eqb, eq-eqb}
use Rattle.std.proofs.lemmas.Int.{ints}
use Rattle.std.proofs.lemmas.Option.{option_and_then_some, same_Some}
use Rattle.tn_base.specs.Firm.{Firm}
use Rattle.tn_base.specs.Sets.{has, set_of, sum_over, toggle}
use Rattle.tn_base.proofs.SetLemmas.{has-set_of, has-toggle_other, has-toggle_same, set_of_within}
use Rattle.tn_base.proofs.SumLemmas.{times-plus}
use Rattle.tn_firm_laws.proofs.KeepLemmas.{option_map-some, times-le}
use Rattle.tn_links.specs.Totals.{total}
use Rattle.tn_links.proofs.TotalLemmas.{times-minus, total-first, total-same, total_one}
use Rattle.tn_model.specs.Network.{own, part}
use Rattle.tn_market.specs.Equilibrium.{IsEquilibrium, surplus_from}
use Rattle.tn_network_laws.proofs.SumLemmas.{sum_list, sum_to, sum_to-same}
use Rattle.tn_network_laws.proofs.WelfareLemmas.{at_side, ends_total, equilibrium_is_efficient, paid, paid_cancels, price_in, sum_over-sum_to}
use Rattle.tn_counts.specs.Counts.{CountFirm, IsEfficientByCounts, trade_at}
use Rattle.tn_counts.specs.Ranges.{apart_counts}
use Rattle.tn_counts.specs.declared.trade.UnitTrade.{UnitTrade}
use Rattle.tn_unit_laws.specs.Laws.{FitByCounts, HasOneMore, LoseApart, LossesBoundUnitPrices}
use Rattle.tn_unit_laws.specs.Units.{HasCounts, count_below, counts_of, is_own, own_units, trade_of, unit_count, unit_firm, unit_firms, unit_firms_from, unit_trades, units_on}
use Rattle.tn_unit_laws.proofs.CountLemmas.{count-same, trade_of-within}
use Rattle.tn_unit_laws.proofs.UnitLemmas.{length-units, unit_firm_at}
use Rattle.tn_unit_laws.proofs.BundleLemmas.{fits_network, reindex}
use Rattle.tn_unit_laws.proofs.PaymentLemmas.{gets_at, side_at}
use Rattle.tn_unit_laws.proofs.EquilibriumLemmas.{surplus_of_counts, units_within}
use Rattle.tn_unit_laws.proofs.TwinLemmas.{unit_worth}
use Rattle.tn_unit_laws.proofs.AvoidLemmas.{has_with, has_without}

-- ---- one firm, which sells the twins of one set and buys those of another

module _ (firms : List CountFirm) (trades : List UnitTrade) (fit : FitByCounts firms trades) (sell buy : ℕ) where
  -- the set of which firm f takes a unit trade
  side_set : ℕ → ℕ → ℕ
  side_set f u = if f == (trade_at trades (trade_of trades u)).seller then sell else buy

  -- its bundle
  both_sides : ℕ → ℕ
  both_sides f = set_of (λ k. has (side_set f (own (unit_trades trades) f k)) (own (unit_trades trades) f k))
      (own_units trades f)

  module _ (f : ℕ) (firm : CountFirm) (is : slice_get firms f ≡ Some firm) where
    member : (k : ℕ) → k < own_units trades f → has (both_sides f) k
        ≡ has (side_set f (own (unit_trades trades) f k)) (own (unit_trades trades) f k)
    unfolding both_sides
    member k below =
        has-set_of (λ i. has (side_set f (own (unit_trades trades) f i)) (own (unit_trades trades) f i))
        (own_units trades f) k
        ∙ ap (λ (b : Bool). b && has (side_set f (own (unit_trades trades) f k)) (own (unit_trades trades) f k))
        (lt-ltb k (own_units trades f) below)

    counts_of_sides : (t : ℕ) → is_own trades f t ≡ true → counts_of trades f (both_sides f) t
        ≡ apart_counts trades (units_on trades sell) (units_on trades buy) f t
    unfolding side_set
    counts_of_sides t mine =
        count-same (λ k. has (both_sides f) k && t == trade_of trades (own (unit_trades trades) f k))
        (λ k. passes (own (unit_trades trades) f k)) (own_units trades f)
        (λ k below. ap (λ (b : Bool). b && t == trade_of trades (own (unit_trades trades) f k)) (member k below))
        ∙ reindex firms trades fit f firm is passes (unit_count trades) (omega arith)
        ∙ count-same (λ u. passes u && is_own trades f (trade_of trades u))
        (λ u. has (if f == (trade_at trades t).seller then sell else buy) u && t == trade_of trades u) (unit_count trades)
        (λ u below. by u (cases_eq t (trade_of trades u)))
        ∙ choose (f == (trade_at trades t).seller)
      where
        passes : ℕ → Bool
        passes u = has (side_set f u) u && t == trade_of trades u

        use_none : (x y z : Bool) → ((x && false) && y) ≡ (z && false)
        use_none true y true = refl
        use_none true y false = refl
        use_none false y true = refl
        use_none false y false = refl

        use_all : (x : Bool) → ((x && true) && true) ≡ (x && true)
        use_all true = refl
        use_all false = refl

        by : (u : ℕ) → (t ≡ trade_of trades u) ⊎ (t ≡ trade_of trades u → ⊥)
            → (passes u && is_own trades f (trade_of trades u))
            ≡ (has (if f == (trade_at trades t).seller then sell else buy) u && t == trade_of trades u)
        by u (inl same) =
            ap₂ (λ (a b : Bool). (has (side_set f u) u && a) && b) (eq-eqb t (trade_of trades u) same)
            (ap (is_own trades f) (sym same) ∙ mine)
            ∙ use_all (has (side_set f u) u)
            ∙ ap (λ (s : ℕ). has (if f == (trade_at trades s).seller then sell else buy) u && true) (sym same)
            ∙ sym (ap (λ (a : Bool). has (if f == (trade_at trades t).seller then sell else buy) u && a)
            (eq-eqb t (trade_of trades u) same))
        by u (inr other) =
            ap (λ (a : Bool). (has (side_set f u) u && a) && is_own trades f (trade_of trades u))
            (ne_eqb t (trade_of trades u) other)
            ∙ use_none (has (side_set f u) u) (is_own trades f (trade_of trades u))
            (has (if f == (trade_at trades t).seller then sell else buy) u)
            ∙ sym (ap (λ (a : Bool). has (if f == (trade_at trades t).seller then sell else buy) u && a)
            (ne_eqb t (trade_of trades u) other))

        choose : (b : Bool) → count_below (λ u. has (if b then sell else buy) u && t == trade_of trades u)
            (unit_count trades) ≡ (if b then units_on trades sell t else units_on trades buy t)
        choose true = refl
        choose false = refl

    sides_worth : (sold bought : ℕ → ℕ) → HasCounts trades sell sold → HasCounts trades buy bought
        → (unit_firm trades f firm).worth (both_sides f) ≡ firm.worth (apart_counts trades sold bought f)
    unfolding both_sides
    sides_worth sold bought have_sold have_bought =
        unit_worth firms trades fit f firm is (both_sides f)
        (set_of_within (λ k. has (side_set f (own (unit_trades trades) f k)) (own (unit_trades trades) f k))
        (own_units trades f))
        ∙ fit.own f firm is (counts_of trades f (both_sides f)) (apart_counts trades sold bought f)
        (λ t below mine. counts_of_sides t mine ∙ ap₂ (λ (a b : ℕ). if f == (trade_at trades t).seller then a else b)
        (have_sold t below) (have_bought t below))

    sides_paid : (prices : ℕ → ℤ)
        → sum_over (gets_at trades f prices) (own_units trades f) (both_sides f)
        ≡ sum_to (at_side (unit_trades trades) (price_in sell prices) (λ u. neg_ℤ (price_in buy prices u)) f
        (unit_firm trades f firm)) (own_units trades f)
    unfolding side_set
    sides_paid prices =
        sum_over-sum_to (gets_at trades f prices) (own_units trades f) (both_sides f)
        ∙ sum_to-same (λ k. if has (both_sides f) k then gets_at trades f prices k else pos 0)
        (at_side (unit_trades trades) (price_in sell prices) (λ u. neg_ℤ (price_in buy prices u)) f
        (unit_firm trades f firm)) (own_units trades f)
        (λ k below. ap (λ (b : Bool). if b then gets_at trades f prices k else pos 0) (member k below) ∙ each k below)
      where
        paid_there : (b : Bool) (z : ℤ) → (if b then neg_ℤ z else pos 0) ≡ neg_ℤ (if b then z else pos 0)
        paid_there true z = refl
        paid_there false z = refl

        each : (k : ℕ) → k < own_units trades f
            → (if has (side_set f (own (unit_trades trades) f k)) (own (unit_trades trades) f k)
            then gets_at trades f prices k else pos 0)
            ≡ at_side (unit_trades trades) (price_in sell prices) (λ u. neg_ℤ (price_in buy prices u)) f
            (unit_firm trades f firm) k
        each k below =
            let u = own (unit_trades trades) f k in
            elim (side_at firms trades fit f firm is k below) [
              | inl sells ↦
                  ap₂ (λ (a b : Bool). if has (if a then sell else buy) (own (unit_trades trades) f k)
                  then (if b then neg_ℤ (prices (own (unit_trades trades) f k))
                  else prices (own (unit_trades trades) f k)) else pos 0) sells.0 sells.2
                  ∙ sym (ap (λ (b : Bool). if b then neg_ℤ (price_in buy prices (own (unit_trades trades) f k))
                  else price_in sell prices (own (unit_trades trades) f k)) sells.2)
              | inr buys ↦
                  ap₂ (λ (a b : Bool). if has (if a then sell else buy) (own (unit_trades trades) f k)
                  then (if b then neg_ℤ (prices (own (unit_trades trades) f k))
                  else prices (own (unit_trades trades) f k)) else pos 0) buys.0 buys.2
                  ∙ paid_there (has buy (own (unit_trades trades) f k)) (prices (own (unit_trades trades) f k))
                  ∙ sym (ap (λ (b : Bool). if b then neg_ℤ (price_in buy prices (own (unit_trades trades) f k))
                  else price_in sell prices (own (unit_trades trades) f k)) buys.2)
            ]

  -- ---- all firms

  module _ (sold bought : ℕ → ℕ) (have_sold : HasCounts trades sell sold) (have_bought : HasCounts trades buy bought)
      (scale : ℤ) (on : ℕ) (prices : ℕ → ℤ)
      (equal : IsEquilibrium (unit_firms trades firms) (unit_trades trades) scale on prices) where
    -- what a firm gets by its bundle of both sets
    abbrev sides : ℕ → Firm → ℤ
    sides f one = sum_to (at_side (unit_trades trades) (price_in sell prices) (λ u. neg_ℤ (price_in buy prices u)) f one)
        one.count

    all_below : (s : ℕ) (some : List CountFirm) (worths : ℕ → ℤ) (surplus : ℤ)
        → ((i f : ℕ) (firm : CountFirm) → f ≡ s + i → slice_get some i ≡ Some firm
        → (slice_get firms f ≡ Some firm) × (firm.worth (apart_counts trades sold bought f) ≡ Some (worths i)))
        → surplus_from (unit_trades trades) on s (unit_firms_from trades s some) ≡ Some surplus
        → (scale *ℤ total worths (length some) +ℤ sum_list sides s (unit_firms_from trades s some))
        ≤ℤ (scale *ℤ surplus +ℤ sum_list (paid (unit_trades trades) prices on) s (unit_firms_from trades s some))
    unfolding total
    all_below s [] worths surplus known is =
        let none = ap (λ (z : ℤ). scale *ℤ z) (same_Some (pos 0) surplus is) in
        omega (arith, ints, none)
    all_below s (firm ∷ some) worths surplus known is =
        option_and_then_some (λ worth. option_map (λ more. worth +ℤ more)
        (surplus_from (unit_trades trades) on (s + 1) (unit_firms_from trades (s + 1) some)))
        (one.worth (part (unit_trades trades) s one.count on)) surplus is (λ a a_is sum_is.
        let rest = option_map-some (λ z. a +ℤ z)
        (surplus_from (unit_trades trades) on (s + 1) (unit_firms_from trades (s + 1) some)) surplus sum_is in
        let later = all_below (s + 1) some (λ i. worths (suc i)) rest.0
        (λ i f other at other_is. known (suc i) f other (omega (arith, at)) other_is) rest.1 in
        let there = known 0 s firm (omega arith) refl in
        let best = equal s one (unit_firm_at trades 0 firms s s firm (omega arith) there.0) in
        let worth_is = sides_worth s firm there.0 sold bought have_sold have_bought ∙ there.1 in
        let below = best.1.most (both_sides s)
        (scale *ℤ worths 0 +ℤ sum_over (gets_at trades s prices) (own_units trades s) (both_sides s))
        (ap (option_map (λ z. scale *ℤ z
        +ℤ sum_over (gets_at trades s prices) (own_units trades s) (both_sides s))) worth_is) in
        let gets = sides_paid s firm there.0 prices in
        let value = same_Some (scale *ℤ a +ℤ paid (unit_trades trades) prices on s one) best.0
        (sym (ap (option_map (λ z. scale *ℤ z +ℤ paid (unit_trades trades) prices on s one)) a_is) ∙ best.1.is) in
        let first = ap (λ (z : ℤ). scale *ℤ z) (total-first worths (length some)) in
        let split = times-plus scale (worths 0) (total (λ i. worths (suc i)) (length some)) in
        let whole = ap (λ (z : ℤ). scale *ℤ z) rest.2 in
        let parts = times-plus scale a rest.0 in
        add (scale *ℤ worths 0) (sum_over (gets_at trades s prices) (own_units trades s) (both_sides s)) best.0
        (scale *ℤ total (λ i. worths (suc i)) (length some))
        (sum_list sides (s + 1) (unit_firms_from trades (s + 1) some)) (scale *ℤ rest.0)
        (sum_list (paid (unit_trades trades) prices on) (s + 1) (unit_firms_from trades (s + 1) some))
        (scale *ℤ a) (paid (unit_trades trades) prices on s one) (sides s one)
        (scale *ℤ total worths (suc (length some))) (scale *ℤ surplus) below later gets value (first ∙ split)
        (sym whole ∙ parts))
      where
        one : Firm
        one = unit_firm trades s firm

        add : (w p v r q b c a d e x y : ℤ) → (w +ℤ p) ≤ℤ v → (r +ℤ q) ≤ℤ (b +ℤ c) → p ≡ e → a +ℤ d ≡ v
            → x ≡ w +ℤ r → y ≡ a +ℤ b → (x +ℤ (e +ℤ q)) ≤ℤ (y +ℤ (d +ℤ c))
        add w p v r q b c a d e x y below later gets value first whole =
            omega (arith, ints, below, later, gets, value, first, whole)

-- ---- the sum of all payments

sum_list-total : {A : Type 0} (z : ℕ → ℤ) (s : ℕ) (xs : List A) → sum_list (λ i x. z i) s xs
    ≡ total (λ i. z (s + i)) (length xs)
unfolding total
sum_list-total z s [] = refl
sum_list-total z s (x ∷ xs) =
    let rest = sum_list-total z (s + 1) xs in
    let first = total-first (λ i. z (s + i)) (length xs) in
    let same = total-same (λ i. z (s + 1 + i)) (λ i. z (s + suc i)) (length xs)
    (λ i below. ap z (let place : s + 1 + i ≡ s + suc i = omega arith in place)) in
    let here : z (s + 0) ≡ z s = ap z (let place : s + 0 ≡ s = omega arith in place) in
    omega (arith, ints, rest, first, same, here)

-- with one unit trade more on one side, the others cancel
one_left : (z : ℕ → ℤ) (w : ℤ) (n u : ℕ) {A : Type 0} (xs : List A) → length xs ≡ n → u < n
    → ((v : ℕ) → z v ≡ (if v == u then w else pos 0)) → sum_list (λ i x. z i) 0 xs ≡ w
one_left z w n u xs long below is =
    sum_list-total z 0 xs
    ∙ total-same (λ i. z (0 + i)) (λ v. if v == u then w else pos 0) (length xs)
    (λ i inside. ap z (let place : 0 + i ≡ i = omega arith in place) ∙ is i)
    ∙ total_one w u (length xs) (omega (arith, long, below))

-- what is got beside the worths is at most what they lose
holds : (w p b c gets l m k : ℤ) → (w +ℤ p) ≤ℤ (b +ℤ c) → c ≡ pos 0 → p ≡ gets → b ≤ℤ l → w ≡ m → m ≡ l -ℤ k → gets ≤ℤ k
holds w p b c gets l m k below cancel paid_is most sum parts =
    omega (arith, ints, below, cancel, paid_is, most, sum, parts)

turned : (price cost : ℤ) → neg_ℤ price ≤ℤ cost → neg_ℤ cost ≤ℤ price
turned price cost most = omega (arith, ints, most)

pub losses_bound : LossesBoundUnitPrices
losses_bound = record { above = above; below = below }
  where
    above : (firms : List CountFirm) (trades : List UnitTrade) (counts sold bought : ℕ → ℕ) (cost : ℤ) (u : ℕ)
        → FitByCounts firms trades → IsEfficientByCounts firms trades counts
        → LoseApart firms trades counts sold bought cost → u < unit_count trades
        → HasOneMore trades (trade_of trades u) sold bought
        → (scale : ℤ) (on : ℕ) (prices : ℕ → ℤ) → pos 1 ≤ℤ scale
        → IsEquilibrium (unit_firms trades firms) (unit_trades trades) scale on prices → prices u ≤ℤ (scale *ℤ cost)
    above firms trades counts sold bought cost u fit efficient lose inside more scale on prices least equal =
        let within = trade_of-within trades u inside in
        let room = lose.sold_within (trade_of trades u) within in
        let step = more.here in
        let found = has_without trades bought u lose.bought_within inside (omega (arith, room, step)) in
        let network = fits_network firms trades fit in
        let have = has_with trades sold bought u found.set inside more found.counted found.without in
        let best = equilibrium_is_efficient (unit_firms trades firms) (unit_trades trades) scale on prices network least
        equal in
        let all = all_below firms trades fit (toggle found.set u) found.set sold bought have found.counted scale on prices
        equal 0 firms lose.worths best.0 (λ i f firm at is.
        let same : i ≡ f = omega (arith, at) in
        let here = ap (slice_get firms) (sym same) ∙ is in
        (here, lose.each f firm here ∙ ap (λ (j : ℕ). Some (lose.worths j)) (sym same))) best.1.is in
        let cancel = paid_cancels (unit_firms trades firms) (unit_trades trades) network on prices in
        let sides = ends_total (unit_firms trades firms) (unit_trades trades) network
        (price_in (toggle found.set u) prices) (λ v. neg_ℤ (price_in found.set prices v)) in
        let left = one_left (λ v. price_in (toggle found.set u) prices v +ℤ neg_ℤ (price_in found.set prices v)) (prices u)
        (unit_count trades) u (unit_trades trades) (length-units trades (unit_count trades)) inside
        (λ v. alone found.set v found.without (cases_eq v u)) in
        let most = efficient.1.most (units_on trades on) best.0 (units_within trades on)
        (sym (surplus_of_counts firms trades on fit) ∙ best.1.is) in
        let same = same_Some efficient.0 lose.surplus (sym efficient.1.is ∙ lose.is) in
        let scaled = times-le scale best.0 lose.surplus (omega (arith, ints, least)) (omega (arith, ints, most, same)) in
        let sum = ap (λ (z : ℤ). scale *ℤ z) lose.sum in
        let parts = times-minus scale lose.surplus cost in
        holds _ _ _ _ (prices u) _ _ (scale *ℤ cost) all cancel (sides ∙ left) scaled sum parts
      where
        alone : (set v : ℕ) → has set u ≡ false → (v ≡ u) ⊎ (v ≡ u → ⊥)
            → price_in (toggle set u) prices v +ℤ neg_ℤ (price_in set prices v) ≡ (if v == u then prices u else pos 0)
        alone set v off (inl same) =
            subst (λ (w : ℕ). price_in (toggle set u) prices w +ℤ neg_ℤ (price_in set prices w)
            ≡ (if w == u then prices u else pos 0)) (sym same)
            (ap₂ (λ (a b : Bool). (if a then prices u else pos 0) +ℤ neg_ℤ (if b then prices u else pos 0))
            (has-toggle_same set u ∙ ap not off) off
            ∙ (let whole : prices u +ℤ neg_ℤ (pos 0) ≡ prices u = omega (arith, ints) in whole)
            ∙ sym (ap (λ (b : Bool). if b then prices u else pos 0) (eq-eqb u u refl)))
        alone set v off (inr other) =
            ap (λ (b : Bool). (if b then prices v else pos 0) +ℤ neg_ℤ (price_in set prices v))
            (has-toggle_other set u v other)
            ∙ (let none : price_in set prices v +ℤ neg_ℤ (price_in set prices v) ≡ pos 0 = omega (arith, ints) in none)
            ∙ sym (ap (λ (b : Bool). if b then prices u else pos 0) (ne_eqb v u other))

    below : (firms : List CountFirm) (trades : List UnitTrade) (counts sold bought : ℕ → ℕ) (cost : ℤ) (u : ℕ)
        → FitByCounts firms trades → IsEfficientByCounts firms trades counts
        → LoseApart firms trades counts sold bought cost → u < unit_count trades
        → HasOneMore trades (trade_of trades u) bought sold
        → (scale : ℤ) (on : ℕ) (prices : ℕ → ℤ) → pos 1 ≤ℤ scale
        → IsEquilibrium (unit_firms trades firms) (unit_trades trades) scale on prices
        → neg_ℤ (scale *ℤ cost) ≤ℤ prices u
    below firms trades counts sold bought cost u fit efficient lose inside more scale on prices least equal =
        let within = trade_of-within trades u inside in
        let room = lose.bought_within (trade_of trades u) within in
        let step = more.here in
        let found = has_without trades sold u lose.sold_within inside (omega (arith, room, step)) in
        let network = fits_network firms trades fit in
        let have = has_with trades bought sold u found.set inside more found.counted found.without in
        let best = equilibrium_is_efficient (unit_firms trades firms) (unit_trades trades) scale on prices network least
        equal in
        let all = all_below firms trades fit found.set (toggle found.set u) sold bought found.counted have scale on prices
        equal 0 firms lose.worths best.0 (λ i f firm at is.
        let same : i ≡ f = omega (arith, at) in
        let here = ap (slice_get firms) (sym same) ∙ is in
        (here, lose.each f firm here ∙ ap (λ (j : ℕ). Some (lose.worths j)) (sym same))) best.1.is in
        let cancel = paid_cancels (unit_firms trades firms) (unit_trades trades) network on prices in
        let sides = ends_total (unit_firms trades firms) (unit_trades trades) network
        (price_in found.set prices) (λ v. neg_ℤ (price_in (toggle found.set u) prices v)) in
        let left = one_left (λ v. price_in found.set prices v +ℤ neg_ℤ (price_in (toggle found.set u) prices v))
        (neg_ℤ (prices u))
        (unit_count trades) u (unit_trades trades) (length-units trades (unit_count trades)) inside
        (λ v. alone found.set v found.without (cases_eq v u)) in
        let most = efficient.1.most (units_on trades on) best.0 (units_within trades on)
        (sym (surplus_of_counts firms trades on fit) ∙ best.1.is) in
        let same = same_Some efficient.0 lose.surplus (sym efficient.1.is ∙ lose.is) in
        let scaled = times-le scale best.0 lose.surplus (omega (arith, ints, least)) (omega (arith, ints, most, same)) in
        let sum = ap (λ (z : ℤ). scale *ℤ z) lose.sum in
        let parts = times-minus scale lose.surplus cost in
        turned (prices u) (scale *ℤ cost)
        (holds _ _ _ _ (neg_ℤ (prices u)) _ _ (scale *ℤ cost) all cancel (sides ∙ left) scaled sum parts)
      where
        alone : (set v : ℕ) → has set u ≡ false → (v ≡ u) ⊎ (v ≡ u → ⊥)
            → price_in set prices v +ℤ neg_ℤ (price_in (toggle set u) prices v)
            ≡ (if v == u then neg_ℤ (prices u) else pos 0)
        alone set v off (inl same) =
            subst (λ (w : ℕ). price_in set prices w +ℤ neg_ℤ (price_in (toggle set u) prices w)
            ≡ (if w == u then neg_ℤ (prices u) else pos 0)) (sym same)
            (ap₂ (λ (a b : Bool). (if a then prices u else pos 0) +ℤ neg_ℤ (if b then prices u else pos 0))
            off (has-toggle_same set u ∙ ap not off)
            ∙ (let whole : pos 0 +ℤ neg_ℤ (prices u) ≡ neg_ℤ (prices u) = omega (arith, ints) in whole)
            ∙ sym (ap (λ (b : Bool). if b then neg_ℤ (prices u) else pos 0) (eq-eqb u u refl)))
        alone set v off (inr other) =
            ap (λ (b : Bool). price_in set prices v +ℤ neg_ℤ (if b then prices v else pos 0))
            (has-toggle_other set u v other)
            ∙ (let none : price_in set prices v +ℤ neg_ℤ (price_in set prices v) ≡ pos 0 = omega (arith, ints) in none)
            ∙ sym (ap (λ (b : Bool). if b then neg_ℤ (prices u) else pos 0) (ne_eqb v u other))
