-- Where firms meet exchange, one price for the twins of a trade is enough: a firm that would be better off by a unit at
-- that price would be by a unit of the twin whose price it is.
use Rattle.std.proofs.Common.{◌≡◌, ℕ, ◌+◌, ◌^◌, ◌<◌, Bool, true, false, not, ◌==◌, ◌&&◌, if◌then◌else◌, List, slice_get, Option, Some, option_map, ◌⊎◌, inl, inr, refl, sym, ap, ap₂, ◌∙◌, subst, arith, ℤ, pos, neg_ℤ, ◌+ℤ◌, ◌-ℤ◌, ◌*ℤ◌, ◌≤ℤ◌}
use Rattle.std.proofs.lemmas.Bool.{cases_Bool, lt-ltb}
use Rattle.std.proofs.lemmas.Int.{ints}
use Rattle.tn_base.specs.Exchange.{MeetsExchange}
use Rattle.tn_base.specs.Firm.{Firm, HasOwnBundles}
use Rattle.tn_base.specs.Sets.{has, sum_over, toggle}
use Rattle.tn_base.specs.Table.{buys_of}
use Rattle.tn_base.proofs.SetLemmas.{has-set_of, has-toggle_other, has-toggle_same, set_of_within, toggle-toggle, toggle_comm, toggle_within}
use Rattle.tn_base.proofs.SumLemmas.{sum_over-toggle_in, sum_over-toggle_out}
use Rattle.tn_firm_laws.specs.Places.{trade_level}
use Rattle.tn_firm_laws.proofs.KeepLemmas.{option_map-some}
use Rattle.tn_firm_laws.proofs.LocalLemmas.{local_is_global}
use Rattle.tn_firm_laws.proofs.PlaceLemmas.{trade_level-toggle_other}
use Rattle.tn_model.specs.InOrder.{sides_of}
use Rattle.tn_model.specs.Network.{own, part}
use Rattle.tn_market.specs.Equilibrium.{HasBest, IsEquilibrium, prices_at}
use Rattle.tn_counts.specs.Counts.{CountFirm, trade_at}
use Rattle.tn_counts.specs.declared.trade.UnitTrade.{UnitTrade}
use Rattle.tn_unit_laws.specs.Laws.{FitByCounts, OnePriceIsEnough}
use Rattle.tn_unit_laws.specs.Units.{count_below, counts_of, is_own, own_units, price_of_unit, trade_of, unit_count, unit_firm, unit_firms, unit_trades}
use Rattle.tn_unit_laws.proofs.CountLemmas.{one}
use Rattle.tn_unit_laws.proofs.UnitLemmas.{comes_from, unit_firm_at}
use Rattle.tn_unit_laws.proofs.BundleLemmas.{own_here, place_of, place_within}
use Rattle.tn_unit_laws.proofs.PaymentLemmas.{gets_at, not_ends, own_below, side_at}
use Rattle.tn_unit_laws.proofs.TwinLemmas.{count-in, twins_same, unit_worth}

-- either of two numbers of one kind, both in or both out, is toggled
count-either : (g : ℕ → Bool) (y p q n : ℕ) → p < n → q < n → g p ≡ g q → has y p ≡ has y q
    → count_below (λ k. has (toggle y p) k && g k) n ≡ count_below (λ k. has (toggle y q) k && g k) n
count-either g y p q n p_below q_below same alike = elim (cases_Bool (has y p)) [
  | inr off ↦
      let first = count-in g y p n p_below off in
      let second = count-in g y q n q_below (sym alike ∙ off) in
      let terms : one (g p) ≡ one (g q) = ap one same in
      omega (arith, first, second, terms)
  | inl on ↦
      let first = back p p_below on in
      let second = back q q_below (sym alike ∙ on) in
      let terms : one (g p) ≡ one (g q) = ap one same in
      omega (arith, first, second, terms)
]
  where
    back : (r : ℕ) → r < n → has y r ≡ true
        → count_below (λ k. has y k && g k) n ≡ count_below (λ k. has (toggle y r) k && g k) n + one (g r)
    back r below on =
        ap (λ (z : ℕ). count_below (λ k. has z k && g k) n) (sym (toggle-toggle y r))
        ∙ count-in g (toggle y r) r n below (has-toggle_same y r ∙ ap not on)

-- the level of a trade, by whether it is bought and whether it goes
abbrev level_by : Bool → Bool → ℕ
level_by bought goes = if bought then (if goes then 1 else 0) else (if goes then 0 else 1)

module _ (firms : List CountFirm) (trades : List UnitTrade) (fit : FitByCounts firms trades) (f : ℕ) (firm : CountFirm)
    (is : slice_get firms f ≡ Some firm) where
  -- a raised trade costs the firm its price, and a lowered one brings it
  raise_sum : (prices : ℕ → ℤ) (x k : ℕ) → k < own_units trades f
      → trade_level (buys_of (sides_of (unit_trades trades) f)) x k ≡ 0
      → sum_over (gets_at trades f prices) (own_units trades f) (toggle x k)
      ≡ sum_over (gets_at trades f prices) (own_units trades f) x -ℤ prices (own (unit_trades trades) f k)
  unfolding trade_level
  raise_sum prices x k below low =
      by (has (buys_of (sides_of (unit_trades trades) f)) k) (has x k) refl refl low
    where
      by : (b c : Bool) → has (buys_of (sides_of (unit_trades trades) f)) k ≡ b → has x k ≡ c
          → level_by b c ≡ 0
          → sum_over (gets_at trades f prices) (own_units trades f) (toggle x k)
          ≡ sum_over (gets_at trades f prices) (own_units trades f) x -ℤ prices (own (unit_trades trades) f k)
      by true true buys there low = absurd (omega (arith, low))
      by true false buys there low =
          let sum = sum_over-toggle_in (gets_at trades f prices) (own_units trades f) x k below there in
          let gets : gets_at trades f prices k ≡ neg_ℤ (prices (own (unit_trades trades) f k)) =
          ap (λ (b : Bool). if b then neg_ℤ (prices (own (unit_trades trades) f k))
          else prices (own (unit_trades trades) f k)) buys in
          omega (arith, ints, sum, gets)
      by false true buys there low =
          let sum = sum_over-toggle_out (gets_at trades f prices) (own_units trades f) x k below there in
          let gets : gets_at trades f prices k ≡ prices (own (unit_trades trades) f k) =
          ap (λ (b : Bool). if b then neg_ℤ (prices (own (unit_trades trades) f k))
          else prices (own (unit_trades trades) f k)) buys in
          omega (arith, ints, sum, gets)
      by false false buys there low = absurd (omega (arith, low))

  lower_sum : (prices : ℕ → ℤ) (x k : ℕ) → k < own_units trades f
      → trade_level (buys_of (sides_of (unit_trades trades) f)) x k ≡ 1
      → sum_over (gets_at trades f prices) (own_units trades f) (toggle x k)
      ≡ sum_over (gets_at trades f prices) (own_units trades f) x +ℤ prices (own (unit_trades trades) f k)
  unfolding trade_level
  lower_sum prices x k below high =
      by (has (buys_of (sides_of (unit_trades trades) f)) k) (has x k) refl refl high
    where
      by : (b c : Bool) → has (buys_of (sides_of (unit_trades trades) f)) k ≡ b → has x k ≡ c
          → level_by b c ≡ 1
          → sum_over (gets_at trades f prices) (own_units trades f) (toggle x k)
          ≡ sum_over (gets_at trades f prices) (own_units trades f) x +ℤ prices (own (unit_trades trades) f k)
      by true false buys there high = absurd (omega (arith, high))
      by true true buys there high =
          let sum = sum_over-toggle_out (gets_at trades f prices) (own_units trades f) x k below there in
          let gets : gets_at trades f prices k ≡ neg_ℤ (prices (own (unit_trades trades) f k)) =
          ap (λ (b : Bool). if b then neg_ℤ (prices (own (unit_trades trades) f k))
          else prices (own (unit_trades trades) f k)) buys in
          omega (arith, ints, sum, gets)
      by false false buys there high =
          let sum = sum_over-toggle_in (gets_at trades f prices) (own_units trades f) x k below there in
          let gets : gets_at trades f prices k ≡ prices (own (unit_trades trades) f k) =
          ap (λ (b : Bool). if b then neg_ℤ (prices (own (unit_trades trades) f k))
          else prices (own (unit_trades trades) f k)) buys in
          omega (arith, ints, sum, gets)
      by false true buys there high = absurd (omega (arith, high))

  -- two positions of twins, both in the bundle or both not
  pub record AreAlike (x p q : ℕ) : Type 0 where
    pub first : p < own_units trades f
    pub second : q < own_units trades f
    pub twins : trade_of trades (own (unit_trades trades) f p) ≡ trade_of trades (own (unit_trades trades) f q)
    pub members : has x p ≡ has x q
    pub level : trade_level (buys_of (sides_of (unit_trades trades) f)) x p
        ≡ trade_level (buys_of (sides_of (unit_trades trades) f)) x q

  -- either may be toggled
  either_worth : (y p q : ℕ) → y < 2 ^ own_units trades f → p < own_units trades f → q < own_units trades f
      → trade_of trades (own (unit_trades trades) f p) ≡ trade_of trades (own (unit_trades trades) f q)
      → has y p ≡ has y q
      → (unit_firm trades f firm).worth (toggle y p) ≡ (unit_firm trades f firm).worth (toggle y q)
  either_worth y p q below p_below q_below twins alike =
      unit_worth firms trades fit f firm is (toggle y p) (toggle_within y p (own_units trades f) below p_below)
      ∙ fit.own f firm is (counts_of trades f (toggle y p)) (counts_of trades f (toggle y q))
      (λ t inside mine. count-either (λ k. t == trade_of trades (own (unit_trades trades) f k)) y p q (own_units trades f)
      p_below q_below (ap (λ (s : ℕ). t == s) twins) alike)
      ∙ sym (unit_worth firms trades fit f firm is (toggle y q) (toggle_within y q (own_units trades f) below q_below))

  buys_alike : (p q : ℕ) → p < own_units trades f → q < own_units trades f
      → trade_of trades (own (unit_trades trades) f p) ≡ trade_of trades (own (unit_trades trades) f q)
      → has (buys_of (sides_of (unit_trades trades) f)) p ≡ has (buys_of (sides_of (unit_trades trades) f)) q
  buys_alike p q p_below q_below twins =
      by (side_at firms trades fit f firm is p p_below) (side_at firms trades fit f firm is q q_below)
    where
      seller : ℕ → Bool
      seller k = f == (trade_at trades (trade_of trades (own (unit_trades trades) f k))).seller

      buyer : ℕ → Bool
      buyer k = f == (trade_at trades (trade_of trades (own (unit_trades trades) f k))).buyer

      buys : ℕ → Bool
      buys k = has (buys_of (sides_of (unit_trades trades) f)) k

      sells_alike : seller p ≡ seller q
      sells_alike = ap (λ (t : ℕ). f == (trade_at trades t).seller) twins

      differ : true ≡ false → ⊥
      differ e = absurd (cc)

      by : ((seller p ≡ true) × (buyer p ≡ false) × (buys p ≡ false))
          ⊎ ((seller p ≡ false) × (buyer p ≡ true) × (buys p ≡ true))
          → ((seller q ≡ true) × (buyer q ≡ false) × (buys q ≡ false))
          ⊎ ((seller q ≡ false) × (buyer q ≡ true) × (buys q ≡ true))
          → buys p ≡ buys q
      by (inl a) (inl b) = a.2 ∙ sym b.2
      by (inl a) (inr b) = absurd (differ (sym a.0 ∙ sells_alike ∙ b.0))
      by (inr a) (inl b) = absurd (differ (sym b.0 ∙ sym sells_alike ∙ a.0))
      by (inr a) (inr b) = a.2 ∙ sym b.2

  alike_level : (x p q : ℕ)
      → has (buys_of (sides_of (unit_trades trades) f)) p ≡ has (buys_of (sides_of (unit_trades trades) f)) q
      → has x p ≡ has x q → trade_level (buys_of (sides_of (unit_trades trades) f)) x p
      ≡ trade_level (buys_of (sides_of (unit_trades trades) f)) x q
  unfolding trade_level
  alike_level x p q buys members =
      ap₂ level_by buys members

  level_cases : (x k : ℕ) → (trade_level (buys_of (sides_of (unit_trades trades) f)) x k ≡ 0)
      ⊎ (trade_level (buys_of (sides_of (unit_trades trades) f)) x k ≡ 1)
  unfolding trade_level
  level_cases x k = by (has (buys_of (sides_of (unit_trades trades) f)) k) (has x k)
    where
      by : (c d : Bool) → (level_by c d ≡ 0)
          ⊎ (level_by c d ≡ 1)
      by true true = inr refl
      by true false = inl refl
      by false true = inl refl
      by false false = inr refl

  -- ---- other prices, by which no unit is better than that of some twin was before

  -- a twin whose price fits
  pub record HasPartner (x p : ℕ) (fits : ℤ → Type 0) (prices : ℕ → ℤ) : Type 0 where
    pub at : ℕ
    pub alike : AreAlike x p at
    pub price : fits (prices (own (unit_trades trades) f at))

  module _ (scale : ℤ) (on : ℕ) (prices others : ℕ → ℤ) (from_zero : pos 0 ≤ℤ scale)
      (raise : (p : ℕ) → p < own_units trades f
      → HasPartner (part (unit_trades trades) f (own_units trades f) on) p
      (λ z. z ≤ℤ others (own (unit_trades trades) f p)) prices)
      (lower : (p : ℕ) → p < own_units trades f
      → HasPartner (part (unit_trades trades) f (own_units trades f) on) p
      (λ z. others (own (unit_trades trades) f p) ≤ℤ z) prices)
      (own_bundles : HasOwnBundles (unit_firm trades f firm)) (meets : MeetsExchange (unit_firm trades f firm))
      (best : HasBest (unit_trades trades) scale on prices f (unit_firm trades f firm)) where
    abbrev x : ℕ
    x = part (unit_trades trades) f (own_units trades f) on

    abbrev buys : ℕ
    buys = buys_of (sides_of (unit_trades trades) f)

    abbrev worth : ℕ → Option ℤ
    worth y = (unit_firm trades f firm).worth y

    abbrev paid : (ℕ → ℤ) → ℕ → ℤ
    paid q y = sum_over (gets_at trades f q) (own_units trades f) y

    x_below : x < 2 ^ own_units trades f
    x_below = set_of_within (λ k. has on (own (unit_trades trades) f k)) (own_units trades f)

    mine : (a : ℤ) × (worth x ≡ Some a) × (scale *ℤ a +ℤ paid prices x ≡ best.0)
    mine = option_map-some (λ a. scale *ℤ a +ℤ paid prices x) (worth x) best.0 best.1.is

    most : (y : ℕ) (b : ℤ) → worth y ≡ Some b → (scale *ℤ b +ℤ paid prices y) ≤ℤ best.0
    most y b at = best.1.most y (scale *ℤ b +ℤ paid prices y)
        (ap (option_map (λ a. scale *ℤ a +ℤ paid prices y)) at)

    -- one place alone
    single : (i : ℕ) (b : ℤ) → i < own_units trades f → worth (toggle x i) ≡ Some b
        → (scale *ℤ b +ℤ paid others (toggle x i)) ≤ℤ (scale *ℤ mine.0 +ℤ paid others x)
    single i b below at = elim (level_cases x i) [
      | inl low ↦
          let p = raise i below in
          let same = either_worth x i p.at x_below p.alike.first p.alike.second p.alike.twins p.alike.members in
          let no_more = most (toggle x p.at) b (sym same ∙ at) in
          let before = raise_sum prices x p.at p.alike.second (sym p.alike.level ∙ low) in
          let after = raise_sum others x i below low in
          fall (scale *ℤ b) (scale *ℤ mine.0) (paid prices (toggle x p.at)) (paid prices x)
          (prices (own (unit_trades trades) f p.at)) (paid others (toggle x i)) (paid others x)
          (others (own (unit_trades trades) f i)) best.0 no_more before after p.price mine.2
      | inr high ↦
          let p = lower i below in
          let same = either_worth x i p.at x_below p.alike.first p.alike.second p.alike.twins p.alike.members in
          let no_more = most (toggle x p.at) b (sym same ∙ at) in
          let before = lower_sum prices x p.at p.alike.second (sym p.alike.level ∙ high) in
          let after = lower_sum others x i below high in
          rise (scale *ℤ b) (scale *ℤ mine.0) (paid prices (toggle x p.at)) (paid prices x)
          (prices (own (unit_trades trades) f p.at)) (paid others (toggle x i)) (paid others x)
          (others (own (unit_trades trades) f i)) best.0 no_more before after p.price mine.2
    ]
      where
        fall : (b a pt px p ot ox o v : ℤ) → (b +ℤ pt) ≤ℤ v → pt ≡ px -ℤ p → ot ≡ ox -ℤ o → p ≤ℤ o → a +ℤ px ≡ v
            → (b +ℤ ot) ≤ℤ (a +ℤ ox)
        fall b a pt px p ot ox o v no_more before after price value =
            omega (arith, ints, no_more, before, after, price, value)

        rise : (b a pt px p ot ox o v : ℤ) → (b +ℤ pt) ≤ℤ v → pt ≡ px +ℤ p → ot ≡ ox +ℤ o → o ≤ℤ p → a +ℤ px ≡ v
            → (b +ℤ ot) ≤ℤ (a +ℤ ox)
        rise b a pt px p ot ox o v no_more before after price value =
            omega (arith, ints, no_more, before, after, price, value)

    -- one that is raised and one that is lowered
    pair : (i j : ℕ) (b : ℤ) → i < own_units trades f → j < own_units trades f → trade_level buys x i ≡ 0
        → trade_level buys x j ≡ 1 → worth (toggle (toggle x i) j) ≡ Some b
        → (scale *ℤ b +ℤ paid others (toggle (toggle x i) j)) ≤ℤ (scale *ℤ mine.0 +ℤ paid others x)
    pair i j b i_below j_below low high at =
        let p = raise i i_below in
        let q = lower j j_below in
        let p_low : trade_level buys x p.at ≡ 0 = sym p.alike.level ∙ low in
        let q_high : trade_level buys x q.at ≡ 1 = sym q.alike.level ∙ high in
        let apart = λ (k l : ℕ) (u : trade_level buys x k ≡ 0) (v : trade_level buys x l ≡ 1) (e : l ≡ k).
        zero_is_not_one (sym u ∙ ap (trade_level buys x) (sym e) ∙ v) in
        let j_i = apart i j low high in
        let q_i = apart i q.at low q_high in
        let q_p = apart p.at q.at p_low q_high in
        let first = either_worth (toggle x i) j q.at (toggle_within x i (own_units trades f) x_below i_below) j_below
        q.alike.second q.alike.twins
        (has-toggle_other x i j j_i ∙ q.alike.members ∙ sym (has-toggle_other x i q.at q_i)) in
        let second = either_worth (toggle x q.at) i p.at (toggle_within x q.at (own_units trades f) x_below q.alike.second)
        i_below p.alike.second p.alike.twins
        (has-toggle_other x q.at i (λ e. q_i (sym e)) ∙ p.alike.members
        ∙ sym (has-toggle_other x q.at p.at (λ e. q_p (sym e)))) in
        let no_more = most (toggle (toggle x q.at) p.at) b
        (sym second ∙ ap worth (toggle_comm x q.at i) ∙ sym first ∙ at) in
        let before = raise_sum prices (toggle x q.at) p.at p.alike.second
        (trade_level-toggle_other buys x q.at p.at (λ e. q_p (sym e)) ∙ p_low) in
        let before_that = lower_sum prices x q.at q.alike.second q_high in
        let after = lower_sum others (toggle x i) j j_below (trade_level-toggle_other buys x i j j_i ∙ high) in
        let after_that = raise_sum others x i i_below low in
        both_moved (scale *ℤ b) (scale *ℤ mine.0) (paid prices (toggle (toggle x q.at) p.at)) (paid prices (toggle x q.at))
        (paid prices x) (prices (own (unit_trades trades) f p.at)) (prices (own (unit_trades trades) f q.at))
        (paid others (toggle (toggle x i) j)) (paid others (toggle x i)) (paid others x)
        (others (own (unit_trades trades) f i)) (others (own (unit_trades trades) f j)) best.0 no_more before before_that
        after after_that p.price q.price mine.2
      where
        zero_is_not_one : ◌≡◌ {A = ℕ} 0 1 → ⊥
        zero_is_not_one e = absurd (omega (arith, e))

        both_moved : (b a ptt pt px p q ott ot ox o r v : ℤ) → (b +ℤ ptt) ≤ℤ v → ptt ≡ pt -ℤ p → pt ≡ px +ℤ q
            → ott ≡ ot +ℤ r → ot ≡ ox -ℤ o → p ≤ℤ o → r ≤ℤ q → a +ℤ px ≡ v → (b +ℤ ott) ≤ℤ (a +ℤ ox)
        both_moved b a ptt pt px p q ott ot ox o r v no_more before before_that after after_that raised lowered value =
            omega (arith, ints, no_more, before, before_that, after, after_that, raised, lowered, value)

    pub best_again : HasBest (unit_trades trades) scale on others f (unit_firm trades f firm)
    best_again = (
      scale *ℤ mine.0 +ℤ paid others x,
      (local_is_global (unit_firm trades f firm) own_bundles meets scale (prices_at (unit_trades trades) others f)
          from_zero x
          (scale *ℤ mine.0 +ℤ paid others x)
          (ap (option_map (λ a. scale *ℤ a +ℤ paid others x)) mine.1)).1
          (record {
            single = λ i other below at.
                let found = option_map-some (λ a. scale *ℤ a +ℤ paid others (toggle x i)) (worth (toggle x i)) other at in
                subst (λ (z : ℤ). z ≤ℤ (scale *ℤ mine.0 +ℤ paid others x)) found.2 (single i found.0 below found.1);
            pair = λ i j other i_below j_below low high at.
                let found = option_map-some (λ a. scale *ℤ a +ℤ paid others (toggle (toggle x i) j))
                (worth (toggle (toggle x i) j)) other at in
                subst (λ (z : ℤ). z ≤ℤ (scale *ℤ mine.0 +ℤ paid others x)) found.2
                (pair i j found.0 i_below j_below low high found.1);
          }),
    )

  -- ---- partners

  -- the trade at a position is the firm's own
  own_at : (k : ℕ) → k < own_units trades f → is_own trades f (trade_of trades (own (unit_trades trades) f k)) ≡ true
  own_at k below = elim (cases_Bool (is_own trades f (trade_of trades (own (unit_trades trades) f k)))) [
    | inl mine ↦ mine
    | inr other ↦
        let ends = not_ends trades f (trade_of trades (own (unit_trades trades) f k)) other in
        elim (side_at firms trades fit f firm is k below) [
          | inl sells ↦ absurd (differ (sym sells.0 ∙ ends.0))
          | inr buys ↦ absurd (differ (sym buys.1 ∙ ends.1))
        ]
  ]
    where
      differ : true ≡ false → ⊥
      differ e = absurd (cc)

  pub itself : (x k : ℕ) (fits : ℤ → Type 0) (prices : ℕ → ℤ) → k < own_units trades f
      → fits (prices (own (unit_trades trades) f k)) → HasPartner x k fits prices
  itself x k fits prices below price = record {
    at = k;
    alike = record { first = below; second = below; twins = refl; members = refl; level = refl };
    price = price;
  }

  -- a twin at a price that goes exactly where the unit trade goes is a partner
  pub alike_partner : (on k v : ℕ) (fits : ℤ → Type 0) (prices : ℕ → ℤ) → k < own_units trades f → v < unit_count trades
      → trade_of trades v ≡ trade_of trades (own (unit_trades trades) f k)
      → has on (own (unit_trades trades) f k) ≡ has on v → fits (prices v)
      → HasPartner (part (unit_trades trades) f (own_units trades f) on) k fits prices
  alike_partner on k v fits prices below inside twins goes price =
      let members = member k below ∙ goes ∙ ap (has on) (sym there) ∙ sym (member (place_of trades f v) there_below) in
      record {
        at = place_of trades f v;
        alike = record {
          first = below;
          second = there_below;
          twins = same_trade;
          members = members;
          level = alike_level (part (unit_trades trades) f (own_units trades f) on) k (place_of trades f v)
              (buys_alike k (place_of trades f v) below there_below same_trade) members;
        };
        price = subst (λ (w : ℕ). fits (prices w)) (sym there) price;
      }
    where
      theirs : is_own trades f (trade_of trades v) ≡ true
      theirs = ap (is_own trades f) twins ∙ own_at k below

      there : own (unit_trades trades) f (place_of trades f v) ≡ v
      there = own_here firms trades fit f firm is v inside theirs

      there_below : place_of trades f v < own_units trades f
      there_below = place_within firms trades fit f firm is v inside theirs

      member : (i : ℕ) → i < own_units trades f → has (part (unit_trades trades) f (own_units trades f) on) i
          ≡ has on (own (unit_trades trades) f i)
      member i inside = has-set_of (λ j. has on (own (unit_trades trades) f j)) (own_units trades f) i
          ∙ ap (λ (b : Bool). b && has on (own (unit_trades trades) f i)) (lt-ltb i (own_units trades f) inside)

      same_trade : trade_of trades (own (unit_trades trades) f k)
          ≡ trade_of trades (own (unit_trades trades) f (place_of trades f v))
      same_trade = sym twins ∙ ap (trade_of trades) (sym there)

  -- in an equilibrium a twin at a price is one, since it goes exactly where the unit trade goes, or costs as much
  twin_partner : (scale : ℤ) (on k v : ℕ) (fits : ℤ → Type 0) (prices : ℕ → ℤ)
      → IsEquilibrium (unit_firms trades firms) (unit_trades trades) scale on prices → k < own_units trades f
      → v < unit_count trades → trade_of trades v ≡ trade_of trades (own (unit_trades trades) f k) → fits (prices v)
      → HasPartner (part (unit_trades trades) f (own_units trades f) on) k fits prices
  twin_partner scale on k v fits prices equal below inside twins price =
      by (has on u) (has on v) refl refl
    where
      u : ℕ
      u = own (unit_trades trades) f k

      other : has on u ≡ has on v → HasPartner (part (unit_trades trades) f (own_units trades f) on) k fits prices
      other same = alike_partner on k v fits prices below inside twins same price

      as_much : prices u ≡ prices v → HasPartner (part (unit_trades trades) f (own_units trades f) on) k fits prices
      as_much same = itself (part (unit_trades trades) f (own_units trades f) on) k fits prices below
          (subst fits (sym same) price)

      by : (b c : Bool) → has on u ≡ b → has on v ≡ c
          → HasPartner (part (unit_trades trades) f (own_units trades f) on) k fits prices
      by true true here that = other (here ∙ sym that)
      by false false here that = other (here ∙ sym that)
      by true false here that =
          as_much (twins_same firms trades scale on u v prices fit equal (record {
            first = own_below firms trades fit f firm is k below;
            second = inside;
            twins = sym twins;
            is_on = here;
            is_off = that;
          }))
      by false true here that =
          as_much (sym (twins_same firms trades scale on v u prices fit equal (record {
            first = inside;
            second = own_below firms trades fit f firm is k below;
            twins = twins;
            is_on = that;
            is_off = here;
          })))

pub one_price : OnePriceIsEnough
one_price = record {
  greatest = λ firms trades scale on prices ones has high f unit at.
      let fit = has.fit in
      let equal = has.equilibrium in
      let least = has.from_one in
      let from = comes_from trades 0 firms f f unit (omega arith) at in
      let there = unit_firm_at trades 0 firms f f from.firm (omega arith) from.is in
      let law = has.exchange f (unit_firm trades f from.firm) there in
      subst (λ (one : Firm). HasBest (unit_trades trades) scale on (price_of_unit trades ones) f one) from.same
      (best_again firms trades fit f from.firm from.is scale on prices (price_of_unit trades ones)
      (omega (arith, ints, least))
      (λ k below. itself firms trades fit f from.firm from.is (part (unit_trades trades) f (own_units trades f) on) k
      (λ z. z ≤ℤ price_of_unit trades ones (own (unit_trades trades) f k)) prices below
      (high.most (own (unit_trades trades) f k) (own_below firms trades fit f from.firm from.is k below)))
      (λ k below.
      let top = high.reached (own (unit_trades trades) f k) (own_below firms trades fit f from.firm from.is k below) in
      let price = top.3 in
      twin_partner firms trades fit f from.firm from.is scale on k top.0
      (λ z. price_of_unit trades ones (own (unit_trades trades) f k) ≤ℤ z) prices equal below top.1 top.2
      (omega (arith, ints, price)))
      law.0 law.1 (equal f (unit_firm trades f from.firm) there));
  least = λ firms trades scale on prices ones has low f unit at.
      let fit = has.fit in
      let equal = has.equilibrium in
      let least = has.from_one in
      let from = comes_from trades 0 firms f f unit (omega arith) at in
      let there = unit_firm_at trades 0 firms f f from.firm (omega arith) from.is in
      let law = has.exchange f (unit_firm trades f from.firm) there in
      subst (λ (one : Firm). HasBest (unit_trades trades) scale on (price_of_unit trades ones) f one) from.same
      (best_again firms trades fit f from.firm from.is scale on prices (price_of_unit trades ones)
      (omega (arith, ints, least))
      (λ k below.
      let bottom = low.reached (own (unit_trades trades) f k) (own_below firms trades fit f from.firm from.is k below) in
      let price = bottom.3 in
      twin_partner firms trades fit f from.firm from.is scale on k bottom.0
      (λ z. z ≤ℤ price_of_unit trades ones (own (unit_trades trades) f k)) prices equal below bottom.1 bottom.2
      (omega (arith, ints, price)))
      (λ k below. itself firms trades fit f from.firm from.is (part (unit_trades trades) f (own_units trades f) on) k
      (λ z. price_of_unit trades ones (own (unit_trades trades) f k) ≤ℤ z) prices below
      (low.least (own (unit_trades trades) f k) (own_below firms trades fit f from.firm from.is k below)))
      law.0 law.1 (equal f (unit_firm trades f from.firm) there));
}
