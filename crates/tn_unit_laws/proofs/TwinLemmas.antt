-- A firm may take one twin of a trade for another.
use Rattle.std.proofs.Common.{◌≡◌, ◌≢◌, ℕ, zero, suc, ◌+◌, ◌^◌, ◌<◌, Bool, true, false, not, ◌==◌, ◌&&◌, ◌||◌, if◌then◌else◌, List, slice_get, Option, Some, None, option_map, inl, inr, refl, sym, ap, ap₂, ◌∙◌, subst, arith, ℤ, pos, ◌+ℤ◌, ◌-ℤ◌, ◌*ℤ◌, ◌≤ℤ◌}
use Rattle.std.proofs.lemmas.Bool.{cases_eq, eq-eqb, lt-ltb, ne_eqb}
use Rattle.std.proofs.lemmas.Int.{ints}
use Rattle.std.proofs.lemmas.Option.{none-some, same_Some}
use Rattle.tn_base.specs.Sets.{has, sum_over, toggle}
use Rattle.tn_base.proofs.SetLemmas.{has-set_of, has-toggle_other, has-toggle_same, set_of_within, toggle-toggle, toggle_within}
use Rattle.tn_base.proofs.SumLemmas.{sum_over-toggle_in, sum_over-toggle_out}
use Rattle.tn_model.specs.Network.{own, part}
use Rattle.tn_model.proofs.InOrderNetworks.{there}
use Rattle.tn_market.specs.Equilibrium.{IsEquilibrium}
use Rattle.tn_counts.specs.Counts.{CountFirm, paid_to, trade_at}
use Rattle.tn_counts.specs.declared.trade.UnitTrade.{UnitTrade}
use Rattle.tn_unit_laws.specs.Laws.{AreTwinsApart, FitByCounts, TwinsCostTheSame}
use Rattle.tn_unit_laws.specs.Units.{count_below, counts_of, is_own, own_units, trade_of, unit_firm, unit_firms, unit_trades}
use Rattle.tn_unit_laws.proofs.CountLemmas.{count-same, one, trade_of-within}
use Rattle.tn_unit_laws.proofs.UnitLemmas.{unit_firm_at}
use Rattle.tn_unit_laws.proofs.BundleLemmas.{own_here, place_of, place_within}
use Rattle.tn_unit_laws.proofs.PaymentLemmas.{gets_at, gets_is}

-- ---- a count with one number more

pub count-in : (g : ℕ → Bool) (x p n : ℕ) → p < n → has x p ≡ false
    → count_below (λ k. has (toggle x p) k && g k) n ≡ count_below (λ k. has x k && g k) n + one (g p)
unfolding count_below
count-in g x p zero below off = absurd (omega (arith, below))
count-in g x p (suc n) below off = elim (cases_eq p n) [
  | inl last ↦
      let before = count-same (λ k. has (toggle x p) k && g k) (λ k. has x k && g k) n
      (λ k inside. ap (λ (b : Bool). b && g k) (has-toggle_other x p k (λ e. omega (arith, e, inside, last)))) in
      let new : one (has (toggle x p) n && g n) ≡ one (g p) =
      subst (λ (k : ℕ). one (has (toggle x p) k && g k) ≡ one (g p)) last
      (ap (λ (b : Bool). one (b && g p)) (has-toggle_same x p ∙ ap not off)) in
      let old : one (has x n && g n) ≡ 0 =
      subst (λ (k : ℕ). one (has x k && g k) ≡ 0) last (ap (λ (b : Bool). one (b && g p)) off) in
      omega (arith, before, new, old)
  | inr other ↦
      let before = count-in g x p n (omega (arith, below, other)) off in
      let here : one (has (toggle x p) n && g n) ≡ one (has x n && g n) =
      ap (λ (b : Bool). one (b && g n)) (has-toggle_other x p n (λ e. other (sym e))) in
      omega (arith, before, here)
]

-- one number for another
pub count-swap : (g : ℕ → Bool) (x p q n : ℕ) → p < n → q < n → has x p ≡ true → has x q ≡ false → g p ≡ g q
    → count_below (λ k. has (toggle (toggle x p) q) k && g k) n ≡ count_below (λ k. has x k && g k) n
count-swap g x p q n p_below q_below p_on q_off same =
    let apart : q ≢ p = λ e. differ (sym p_on ∙ ap (has x) (sym e) ∙ q_off) in
    let out : has (toggle x p) p ≡ false = has-toggle_same x p ∙ ap not p_on in
    let back = count-in g (toggle x p) p n p_below out in
    let whole : count_below (λ k. has (toggle (toggle x p) p) k && g k) n ≡ count_below (λ k. has x k && g k) n =
    ap (λ (y : ℕ). count_below (λ k. has y k && g k) n) (toggle-toggle x p) in
    let next = count-in g (toggle x p) q n q_below (has-toggle_other x p q apart ∙ q_off) in
    let terms : one (g p) ≡ one (g q) = ap one same in
    omega (arith, back, whole, next, terms)
  where
    differ : true ≡ false → ⊥
    differ e = absurd (cc)

-- ---- one twin for another

module _ (firms : List CountFirm) (trades : List UnitTrade) (fit : FitByCounts firms trades) (f : ℕ) (firm : CountFirm)
    (is : slice_get firms f ≡ Some firm) where
  -- the worth of a bundle of own unit trades is that of its counts
  pub unit_worth : (x : ℕ) → x < 2 ^ own_units trades f
      → (unit_firm trades f firm).worth x ≡ firm.worth (counts_of trades f x)
  unit_worth x below =
      ap (λ (b : Bool). if b then firm.worth (counts_of trades f x) else None) (lt-ltb x (2 ^ own_units trades f) below)

  -- what a bundle is worth does not change where one of two twins is taken for the other
  pub swapped_worth : (x p q : ℕ) → x < 2 ^ own_units trades f → p < own_units trades f → q < own_units trades f
      → has x p ≡ true → has x q ≡ false
      → trade_of trades (own (unit_trades trades) f p) ≡ trade_of trades (own (unit_trades trades) f q)
      → (unit_firm trades f firm).worth (toggle (toggle x p) q) ≡ (unit_firm trades f firm).worth x
  swapped_worth x p q below p_below q_below p_on q_off twins =
      unit_worth (toggle (toggle x p) q)
      (toggle_within (toggle x p) q (own_units trades f) (toggle_within x p (own_units trades f) below p_below) q_below)
      ∙ fit.own f firm is (counts_of trades f (toggle (toggle x p) q)) (counts_of trades f x)
      (λ t inside mine. count-swap (λ k. t == trade_of trades (own (unit_trades trades) f k)) x p q (own_units trades f)
      p_below q_below p_on q_off (ap (λ (s : ℕ). t == s) twins))
      ∙ sym (unit_worth x below)

  -- in an equilibrium an own twin that is on brings no less than one that is off
  pub brings_more : (scale : ℤ) (on a b : ℕ) (prices : ℕ → ℤ)
      → IsEquilibrium (unit_firms trades firms) (unit_trades trades) scale on prices → AreTwinsApart trades on a b
      → is_own trades f (trade_of trades a) ≡ true
      → paid_to f (prices b) (trade_at trades (trade_of trades a))
      ≤ℤ paid_to f (prices a) (trade_at trades (trade_of trades a))
  brings_more scale on a b prices equal apart mine =
      let best = equal f (unit_firm trades f firm) (unit_firm_at trades 0 firms f f firm (omega arith) is) in
      let value = (unit_firm trades f firm).worth x in
      let swapped = swapped_worth x p q x_below p_below q_below p_on q_off
      (ap (trade_of trades) p_is ∙ apart.twins ∙ ap (trade_of trades) (sym q_is)) in
      let sums = sum_over-toggle_out gets n x p p_below p_on in
      let more = sum_over-toggle_in gets n (toggle x p) q q_below (has-toggle_other x p q other ∙ q_off) in
      by value best.0 best.1.is (λ w at. best.1.most (toggle (toggle x p) q)
      (scale *ℤ w +ℤ sum_over gets n (toggle (toggle x p) q))
      (ap (option_map (λ z. scale *ℤ z +ℤ sum_over gets n (toggle (toggle x p) q))) (swapped ∙ at))) refl sums more
    where
      n : ℕ
      n = own_units trades f

      x : ℕ
      x = part (unit_trades trades) f n on

      p : ℕ
      p = place_of trades f a

      q : ℕ
      q = place_of trades f b

      gets : ℕ → ℤ
      gets = gets_at trades f prices

      theirs : is_own trades f (trade_of trades b) ≡ true
      theirs = ap (is_own trades f) (sym apart.twins) ∙ mine

      p_is : own (unit_trades trades) f p ≡ a
      p_is = own_here firms trades fit f firm is a apart.first mine

      q_is : own (unit_trades trades) f q ≡ b
      q_is = own_here firms trades fit f firm is b apart.second theirs

      p_below : p < n
      p_below = place_within firms trades fit f firm is a apart.first mine

      q_below : q < n
      q_below = place_within firms trades fit f firm is b apart.second theirs

      x_below : x < 2 ^ n
      x_below = set_of_within (λ k. has on (own (unit_trades trades) f k)) n

      member : (k : ℕ) → k < n → has x k ≡ has on (own (unit_trades trades) f k)
      member k below = has-set_of (λ i. has on (own (unit_trades trades) f i)) n k
          ∙ ap (λ (b : Bool). b && has on (own (unit_trades trades) f k)) (lt-ltb k n below)

      p_on : has x p ≡ true
      p_on = member p p_below ∙ ap (has on) p_is ∙ apart.is_on

      q_off : has x q ≡ false
      q_off = member q q_below ∙ ap (has on) q_is ∙ apart.is_off

      other : q ≢ p
      other e = differ (sym p_on ∙ ap (has x) (sym e) ∙ q_off)
        where
          differ : true ≡ false → ⊥
          differ e = absurd (cc)

      p_gets : gets p ≡ paid_to f (prices a) (trade_at trades (trade_of trades a))
      p_gets = gets_is firms trades fit f firm is prices p p_below
          ∙ ap (λ (u : ℕ). paid_to f (prices u) (trade_at trades (trade_of trades u))) p_is

      q_gets : gets q ≡ paid_to f (prices b) (trade_at trades (trade_of trades a))
      q_gets = gets_is firms trades fit f firm is prices q q_below
          ∙ ap (λ (u : ℕ). paid_to f (prices u) (trade_at trades (trade_of trades u))) q_is
          ∙ ap (λ (t : ℕ). paid_to f (prices b) (trade_at trades t)) (sym apart.twins)

      by : (o : Option ℤ) (v : ℤ) → option_map (λ z. scale *ℤ z +ℤ sum_over gets n x) o ≡ Some v
          → ((w : ℤ) → (unit_firm trades f firm).worth x ≡ Some w
          → (scale *ℤ w +ℤ sum_over gets n (toggle (toggle x p) q)) ≤ℤ v)
          → (unit_firm trades f firm).worth x ≡ o
          → sum_over gets n (toggle x p) ≡ sum_over gets n x -ℤ gets p
          → sum_over gets n (toggle (toggle x p) q) ≡ sum_over gets n (toggle x p) +ℤ gets q
          → paid_to f (prices b) (trade_at trades (trade_of trades a))
          ≤ℤ paid_to f (prices a) (trade_at trades (trade_of trades a))
      by None v at most here sums more = absurd (none-some v at)
      by (Some w) v at most here sums more =
          let below = most w here in
          let value = same_Some (scale *ℤ w +ℤ sum_over gets n x) v at in
          let first = p_gets in
          let second = q_gets in
          omega (arith, ints, below, value, sums, more, first, second)

pub twins_same : TwinsCostTheSame
twins_same firms trades scale on a b prices fit equal apart =
    let within = trade_of-within trades a apart.first in
    let seller = there firms (trade_at trades (trade_of trades a)).seller (fit.ends.sellers (trade_of trades a) within) in
    let buyer = there firms (trade_at trades (trade_of trades a)).buyer (fit.ends.buyers (trade_of trades a) within) in
    let sold = brings_more firms trades fit trade.seller seller.0 seller.1 scale on a b prices equal apart
    (ap (λ (c : Bool). c || trade.buyer == trade.seller) (eq-eqb trade.seller trade.seller refl)) in
    let bought = brings_more firms trades fit trade.buyer buyer.0 buyer.1 scale on a b prices equal apart
    (ap (λ (c : Bool). trade.seller == trade.buyer || c) (eq-eqb trade.buyer trade.buyer refl)
    ∙ or_true (trade.seller == trade.buyer)) in
    let seller_a = seller_is (prices a) in
    let seller_b = seller_is (prices b) in
    let buyer_a = buyer_is (prices a) in
    let buyer_b = buyer_is (prices b) in
    omega (arith, ints, sold, bought, seller_a, seller_b, buyer_a, buyer_b)
  where
    trade : UnitTrade
    trade = trade_at trades (trade_of trades a)

    two : trade.seller ≢ trade.buyer
    two = fit.apart (trade_of trades a) (trade_of-within trades a apart.first)

    or_true : (b : Bool) → (b || true) ≡ true
    or_true true = refl
    or_true false = refl

    seller_is : (z : ℤ) → paid_to trade.seller z trade ≡ z -ℤ pos 0
    seller_is z = ap₂ (λ (c d : Bool). (if c then z else pos 0) -ℤ (if d then z else pos 0))
        (eq-eqb trade.seller trade.seller refl) (ne_eqb trade.seller trade.buyer two)

    buyer_is : (z : ℤ) → paid_to trade.buyer z trade ≡ pos 0 -ℤ z
    buyer_is z = ap₂ (λ (c d : Bool). (if c then z else pos 0) -ℤ (if d then z else pos 0))
        (ne_eqb trade.buyer trade.seller (λ e. two (sym e))) (eq-eqb trade.buyer trade.buyer refl)
