-- A residual market is a network.
use Rattle.std.proofs.Common.{◌≡◌, ◌≢◌, ℕ, zero, suc, ◌+◌, ◌*◌, ◌<◌, ◌≤◌, Bool, true, false, ◌==◌, ◌&&◌, if◌then◌else◌, List, [], ◌∷◌, length, map, slice_get, Some, refl, sym, ap, ap₂, ◌∙◌, subst, arith, inl, inr, ◌⊎◌, ℤ, ◌*ℤ◌}
use Rattle.std.proofs.lemmas.Bool.{cases_Bool, cases_lt, eqb-true, eq-eqb, and_parts, or_cases, or_left, or_right, true≢false}
use Rattle.std.proofs.lemmas.List.{length-append, length-map}
use Rattle.std.proofs.lemmas.Option.{same_Some, slice_get_within}
use Rattle.tn_base.specs.Sets.{has}
use Rattle.tn_base.specs.Firm.{Firm}
use Rattle.tn_model.specs.declared.ends.Ends.{Ends}
use Rattle.tn_model.specs.declared.contract.Contract.{Contract}
use Rattle.tn_model.specs.Network.{own, stands_at, IsNetwork}
use Rattle.tn_model.specs.Choices.{IsFeasible}
use Rattle.tn_market.specs.Outside.{outside}
use Rattle.tn_market.specs.Signed.{is_signed}
use Rattle.tn_model.proofs.NetworkLemmas.{own_stands}
use Rattle.tn_outcome_laws.proofs.SignedLemmas.{contract_on, signed_by}
use Rattle.tn_residual.specs.Residual.{sold_to, bought_from, residual_trades, levied_from, outsides, residual_of, number_from}
use Rattle.tn_residual.proofs.TradeLemmas.{HaveTrades, have_trades, free_count, trade_from, free_trade, half_trades, levied_firm, levied_count, market_firm, outside_firm, firm_from}

-- ---- where a trade stands

-- a trade that stands somewhere stands there as its seller's, or as its buyer's
pub ends_at : (trade : Ends) (f k : ℕ) → stands_at trade f k ≡ true → ((trade.seller ≡ f) × (trade.at_seller ≡ k))
    ⊎ ((trade.buyer ≡ f) × (trade.at_buyer ≡ k))
ends_at trade f k stands =
    elim (or_cases (trade.seller == f && trade.at_seller == k) (trade.buyer == f && trade.at_buyer == k) stands) [
      | inl h ↦ let parts = and_parts (trade.seller == f) (trade.at_seller == k) h in
          inl (eqb-true _ _ parts.0, eqb-true _ _ parts.1)
      | inr h ↦ let parts = and_parts (trade.buyer == f) (trade.at_buyer == k) h in
          inr (eqb-true _ _ parts.0, eqb-true _ _ parts.1)
    ]

both_true : (a b c d : ℕ) → a ≡ b → c ≡ d → (a == b && c == d) ≡ true
both_true a b c d e f = ap₂ (λ (x y : Bool). x && y) (eq-eqb a b e) (eq-eqb c d f)

pub stands_sold : (trade : Ends) (f k : ℕ) → trade.seller ≡ f → trade.at_seller ≡ k → stands_at trade f k ≡ true
stands_sold trade f k e at =
    or_left (trade.seller == f && trade.at_seller == k) (trade.buyer == f && trade.at_buyer == k)
    (both_true trade.seller f trade.at_seller k e at)

pub stands_bought : (trade : Ends) (f k : ℕ) → trade.buyer ≡ f → trade.at_buyer ≡ k → stands_at trade f k ≡ true
stands_bought trade f k e at =
    or_right (trade.seller == f && trade.at_seller == k) (trade.buyer == f && trade.at_buyer == k)
    (both_true trade.buyer f trade.at_buyer k e at)

-- where some trade stands, `own` finds one
pub own_inside : (trades : List Ends) (f k s : ℕ) (trade : Ends) → slice_get trades s ≡ Some trade
    → stands_at trade f k ≡ true → own trades f k < length trades
own_inside [] f k s trade is stands = absurd (cc is)
own_inside (first ∷ trades) f k zero trade is stands =
    let here : stands_at first f k ≡ true = ap (λ (z : Ends). stands_at z f k) (same_Some first trade is) ∙ stands in
    let at : own (first ∷ trades) f k ≡ 0 = ap (λ (b : Bool). if b then 0 else own trades f k + 1) here in
    omega (arith, at)
own_inside (first ∷ trades) f k (suc s) trade is stands =
    by_case (stands_at first f k) (own_inside trades f k s trade is stands)
  where
    by_case : (b : Bool) → own trades f k < length trades → (if b then 0 else own trades f k + 1) < suc (length trades)
    by_case true below = omega arith
    by_case false below = omega (arith, below)

-- both firms of a trade are firms
seller_below : (firms : List Firm) (trades : List Ends) → IsNetwork firms trades → (t : ℕ) (trade : Ends)
    → slice_get trades t ≡ Some trade → trade.seller < length firms
seller_below firms trades network t trade is = let sold = network.sold t trade is in
    slice_get_within firms trade.seller sold.0 sold.1

buyer_below : (firms : List Firm) (trades : List Ends) → IsNetwork firms trades → (t : ℕ) (trade : Ends)
    → slice_get trades t ≡ Some trade → trade.buyer < length firms
buyer_below firms trades network t trade is = let bought = network.bought t trade is in
    slice_get_within firms trade.buyer bought.0 bought.1

-- ---- a trade at a position of the market

-- a trade of the residual market at a position of the market: the market's trade there, or its half there
pub record StandsFor (trades : List Ends) (contracts : List Contract) (f k s : ℕ) : Type 0 where
  pub t : ℕ
  pub trade : Ends
  pub is : slice_get trades t ≡ Some trade
  pub stands : stands_at trade f k ≡ true
  pub kind : ((is_signed contracts t ≡ false) × (s ≡ number_from contracts 0 t))
      ⊎ ((c : ℕ) × (contract : Contract) × (slice_get contracts c ≡ Some contract) × (contract.trade ≡ t)
      × (((trade.seller ≡ f) × (s ≡ free_count trades contracts + 2 * c))
      ⊎ ((trade.buyer ≡ f) × (s ≡ free_count trades contracts + (2 * c + 1)))))

pub stands_for : (firms : List Firm) (trades : List Ends) (contracts : List Contract) → IsNetwork firms trades
    → HaveTrades trades contracts → (f k s : ℕ) (ends : Ends) → f < length firms
    → slice_get (residual_trades (length firms) trades contracts) s ≡ Some ends → stands_at ends f k ≡ true
    → StandsFor trades contracts f k s
stands_for firms trades contracts network have f k s ends below is stands =
    elim (trade_from trades contracts have (length firms) s ends is) [
      | inl free ↦ record {
        t = free.t;
        trade = ends;
        is = free.is;
        stands = stands;
        kind = inl ((let at : free.t ≡ 0 + free.t = omega arith in ap (is_signed contracts) at ∙ free.free), free.at);
      }
      | inr half ↦ elim half.half.which [
        | inl sold ↦
            elim (ends_at (sold_to (length firms + half.half.c) half.half.trade) f k
            (ap (λ (z : Ends). stands_at z f k) (sym sold.0) ∙ stands)) [
              | inl here ↦ record {
                t = half.half.contract.trade;
                trade = half.half.trade;
                is = half.half.is;
                stands = stands_sold half.half.trade f k here.0 here.1;
                kind = inr (
                  half.half.c,
                  half.half.contract,
                  half.half.there,
                  refl,
                  inl (here.0, half.at ∙ ap (λ (j : ℕ). free_count trades contracts + j) sold.1),
                );
              }
              | inr there ↦ absurd (let at = there.0 in omega (arith, at, below))
            ]
        | inr bought ↦
            elim (ends_at (bought_from (length firms + half.half.c) half.half.trade) f k
            (ap (λ (z : Ends). stands_at z f k) (sym bought.0) ∙ stands)) [
              | inl there ↦ absurd (let at = there.0 in omega (arith, at, below))
              | inr here ↦ record {
                t = half.half.contract.trade;
                trade = half.half.trade;
                is = half.half.is;
                stands = stands_bought half.half.trade f k here.0 here.1;
                kind = inr (
                  half.half.c,
                  half.half.contract,
                  half.half.there,
                  refl,
                  inr (here.0, half.at ∙ ap (λ (j : ℕ). free_count trades contracts + j) bought.1),
                );
              }
            ]
      ]
    ]

-- there is one
stands_some : (firms : List Firm) (trades : List Ends) (contracts : List Contract) → IsNetwork firms trades
    → HaveTrades trades contracts → (f k t : ℕ) (trade : Ends)
    → slice_get trades t ≡ Some trade → stands_at trade f k ≡ true
    → (s : ℕ) × (ends : Ends) × (slice_get (residual_trades (length firms) trades contracts) s ≡ Some ends)
    × (stands_at ends f k ≡ true)
stands_some firms trades contracts network have f k t trade is stands = elim (cases_Bool (is_signed contracts t)) [
  | inr free ↦ (number_from contracts 0 t, trade, free_trade trades contracts (length firms) t trade is free, stands)
  | inl signed ↦
      let found = contract_on contracts t signed in
      let halves =
      half_trades trades contracts have (length firms) found.place found.contract trade found.is
      (ap (slice_get trades) found.trade ∙ is) in
      elim (ends_at trade f k stands) [
        | inl sold ↦ (
          free_count trades contracts + 2 * found.place,
          sold_to (length firms + found.place) trade,
          halves.0,
          stands_sold (sold_to (length firms + found.place) trade) f k sold.0 sold.1,
        )
        | inr bought ↦ (
          free_count trades contracts + (2 * found.place + 1),
          bought_from (length firms + found.place) trade,
          halves.1,
          stands_bought (bought_from (length firms + found.place) trade) f k bought.0 bought.1,
        )
      ]
]

-- and only one
stands_once : (firms : List Firm) (trades : List Ends) (contracts : List Contract) → IsNetwork firms trades
    → IsFeasible trades contracts → (f k s s' : ℕ)
    → StandsFor trades contracts f k s → StandsFor trades contracts f k s' → s ≡ s'
stands_once firms trades contracts network feasible f k s s' one other =
    by_kind one other (network.once f k one.t other.t one.trade other.trade one.is other.is one.stands other.stands)
  where
    by_kind : (one : StandsFor trades contracts f k s) (other : StandsFor trades contracts f k s') → one.t ≡ other.t
        → s ≡ s'
    by_kind one other same = elim one.kind [
      | inl free ↦ elim other.kind [
        | inl free' ↦ free.1 ∙ ap (number_from contracts 0) same ∙ sym free'.1
        | inr half' ↦
            absurd (true≢false (sym (signed_by contracts half'.0 other.t half'.1 half'.2 half'.3)
            ∙ ap (is_signed contracts) (sym same) ∙ free.0))
      ]
      | inr half ↦ elim other.kind [
        | inl free' ↦
            absurd (true≢false (sym (signed_by contracts half.0 one.t half.1 half.2 half.3)
            ∙ ap (is_signed contracts) same ∙ free'.0))
        | inr half' ↦
            let at : half.0 ≡ half'.0 =
            feasible.once half.0 half'.0 half.1 half'.1 half.2 half'.2 (half.3 ∙ same ∙ sym half'.3) in
            let trade : one.trade ≡ other.trade = same_Some _ _ (sym one.is ∙ ap (slice_get trades) same ∙ other.is) in
            elim half.4 [
              | inl sold ↦ elim half'.4 [
                | inl sold' ↦ sold.1 ∙ ap (λ (c : ℕ). free_count trades contracts + 2 * c) at ∙ sym sold'.1
                | inr bought' ↦
                    absurd (network.apart other.t other.trade other.is (ap (λ (z : Ends). z.seller) (sym trade)
                    ∙ sold.0 ∙ sym bought'.0))
              ]
              | inr bought ↦ elim half'.4 [
                | inl sold' ↦
                    absurd (network.apart other.t other.trade other.is (sold'.0
                    ∙ sym (ap (λ (z : Ends). z.buyer) (sym trade) ∙ bought.0)))
                | inr bought' ↦ bought.1 ∙ ap (λ (c : ℕ). free_count trades contracts + (2 * c + 1)) at ∙ sym bought'.1
              ]
            ]
      ]
    ]

-- ---- a trade at a firm outside

-- the trade that stands at a position of a firm outside is a half of its contract
outside_at : (firms : List Firm) (trades : List Ends) (contracts : List Contract) → IsNetwork firms trades
    → HaveTrades trades contracts → (f k s : ℕ) (ends : Ends) → length firms ≤ f
    → slice_get (residual_trades (length firms) trades contracts) s ≡ Some ends → stands_at ends f k ≡ true
    → (c : ℕ) × (f ≡ length firms + c) × (s ≡ free_count trades contracts + (2 * c + k))
outside_at firms trades contracts network have f k s ends above is stands =
    elim (trade_from trades contracts have (length firms) s ends is) [
      | inl free ↦ elim (ends_at ends f k stands) [
        | inl sold ↦ absurd (let low = seller_below firms trades network free.t ends free.is in let at = sold.0 in
            omega (arith, low, at, above))
        | inr bought ↦ absurd (let low = buyer_below firms trades network free.t ends free.is in let at = bought.0 in
            omega (arith, low, at, above))
      ]
      | inr half ↦ elim half.half.which [
        | inl sold ↦
            elim (ends_at (sold_to (length firms + half.half.c) half.half.trade) f k
            (ap (λ (z : Ends). stands_at z f k) (sym sold.0) ∙ stands)) [
              | inl there ↦
                  absurd (let low = seller_below firms trades network half.half.contract.trade half.half.trade
                  half.half.is in
                  let at = there.0 in omega (arith, low, at, above))
              | inr here ↦ (
                half.half.c,
                sym here.0,
                (let at = half.at in let j = sold.1 in let k_is = here.1 in
                    omega (arith, at, j, k_is)),
              )
            ]
        | inr bought ↦
            elim (ends_at (bought_from (length firms + half.half.c) half.half.trade) f k
            (ap (λ (z : Ends). stands_at z f k) (sym bought.0) ∙ stands)) [
              | inl here ↦ (
                half.half.c,
                sym here.0,
                (let at = half.at in let j = bought.1 in let k_is = here.1 in
                    omega (arith, at, j, k_is)),
              )
              | inr there ↦
                  absurd (let low = buyer_below firms trades network half.half.contract.trade half.half.trade
                  half.half.is in
                  let at = there.0 in omega (arith, low, at, above))
            ]
      ]
    ]

-- ---- the network

-- the first position is bought, and the second isn't
pub first_bought : has 1 0 ≡ true
unfolding has
first_bought = refl

pub second_sold : has 1 1 ≡ false
unfolding has
second_sold = refl

-- a firm at an end of a trade, with its position there
HasEnd : List Firm → ℕ → ℕ → Bool → Type 0
HasEnd parties f k bought = (party : Firm) × (slice_get parties f ≡ Some party) × (k < party.count)
    × (has party.buys k ≡ bought)

pub residual_network : (firms : List Firm) (trades : List Ends) (over : ℤ) (contracts : List Contract) (scale tax : ℤ)
    → IsNetwork firms trades → IsFeasible trades contracts
    → IsNetwork (residual_of firms trades over contracts scale tax) (residual_trades (length firms) trades contracts)
unfolding HasEnd
residual_network firms trades over contracts scale tax network feasible = record {
  apart = λ s ends is. elim (trade_from trades contracts have (length firms) s ends is) [
    | inl free ↦ network.apart free.t ends free.is
    | inr half ↦
        let sold_low = seller_below firms trades network half.half.contract.trade half.half.trade half.half.is in
        let bought_low = buyer_below firms trades network half.half.contract.trade half.half.trade half.half.is in
        elim half.half.which [
          | inl sold ↦ subst (λ (z : Ends). z.seller ≢ z.buyer) (sym sold.0) (λ e. omega (arith, sold_low, e))
          | inr bought ↦ subst (λ (z : Ends). z.seller ≢ z.buyer) (sym bought.0) (λ e. omega (arith, bought_low, e))
        ]
  ];
  sold = λ s ends is. elim (trade_from trades contracts have (length firms) s ends is) [
    | inl free ↦ seller_end free.t ends free.is
    | inr half ↦ elim half.half.which [
      | inl sold ↦
          subst (λ (z : Ends). HasEnd parties z.seller z.at_seller false) (sym sold.0)
          (seller_end half.half.contract.trade half.half.trade half.half.is)
      | inr bought ↦ subst (λ (z : Ends). HasEnd parties z.seller z.at_seller false) (sym bought.0) (
        outside (scale *ℤ half.half.contract.price),
        outside_firm firms trades over contracts scale tax half.half.c
            half.half.contract half.half.there,
        omega arith,
        second_sold,
      )
    ]
  ];
  bought = λ s ends is. elim (trade_from trades contracts have (length firms) s ends is) [
    | inl free ↦ buyer_end free.t ends free.is
    | inr half ↦ elim half.half.which [
      | inl sold ↦ subst (λ (z : Ends). HasEnd parties z.buyer z.at_buyer true) (sym sold.0) (
        outside (scale *ℤ half.half.contract.price),
        outside_firm firms trades over contracts scale tax half.half.c
            half.half.contract half.half.there,
        omega arith,
        first_bought,
      )
      | inr bought ↦
          subst (λ (z : Ends). HasEnd parties z.buyer z.at_buyer true) (sym bought.0)
          (buyer_end half.half.contract.trade half.half.trade half.half.is)
    ]
  ];
  whole = λ f k party is below. elim (firm_from firms trades over contracts scale tax f party is) [
    | inl market ↦
        let inside : k < market.firm.count = subst (λ (z : Firm). k < z.count) market.same below in
        let there = own_stands trades f k (network.whole f k market.firm market.is inside) in
        let found = stands_some firms trades contracts network have f k (own trades f k) there.trade there.is
        there.stands in
        own_inside (residual_trades (length firms) trades contracts) f k found.0 found.1 found.2 found.3
    | inr out ↦
        let inside : k < 2 = subst (λ (z : Firm). k < z.count) out.same below in
        let trade = have out.c out.contract out.there in
        let halves = half_trades trades contracts have (length firms) out.c out.contract trade.0 out.there trade.1 in
        outside_whole f k out.c trade.0 out.at inside halves
  ];
  once = λ f k s t one other one_is other_is here there. elim (cases_lt f (length firms)) [
    | inl below ↦
        stands_once firms trades contracts network feasible f k s t
        (stands_for firms trades contracts network have f k s one below one_is here)
        (stands_for firms trades contracts network have f k t other below other_is there)
    | inr above ↦
        let first = outside_at firms trades contracts network have f k s one above one_is here in
        let second = outside_at firms trades contracts network have f k t other above other_is there in
        let a = first.1 in
        let b = second.1 in
        let c = first.2 in
        let d = second.2 in
        omega (arith, a, b, c, d)
  ];
}
  where
    have : HaveTrades trades contracts
    have = have_trades trades contracts feasible

    parties : List Firm
    parties = residual_of firms trades over contracts scale tax

    seller_end : (t : ℕ) (trade : Ends) → slice_get trades t ≡ Some trade
        → HasEnd (residual_of firms trades over contracts scale tax) trade.seller trade.at_seller false
    seller_end t trade is = let sold = network.sold t trade is in (
      levied_firm trades contracts (over *ℤ scale) tax trade.seller sold.0,
      market_firm firms trades over contracts scale tax trade.seller sold.0 sold.1,
      sold.2,
      sold.3,
    )

    buyer_end : (t : ℕ) (trade : Ends) → slice_get trades t ≡ Some trade
        → HasEnd (residual_of firms trades over contracts scale tax) trade.buyer trade.at_buyer true
    buyer_end t trade is = let bought = network.bought t trade is in (
      levied_firm trades contracts (over *ℤ scale) tax trade.buyer bought.0,
      market_firm firms trades over contracts scale tax trade.buyer bought.0 bought.1,
      bought.2,
      bought.3,
    )

    outside_whole : (f k c : ℕ) (trade : Ends) → f ≡ length firms + c → k < 2
        → (slice_get (residual_trades (length firms) trades contracts) (free_count trades contracts + 2 * c)
        ≡ Some (sold_to (length firms + c) trade))
        × (slice_get (residual_trades (length firms) trades contracts) (free_count trades contracts + (2 * c + 1))
        ≡ Some (bought_from (length firms + c) trade))
        → own (residual_trades (length firms) trades contracts) f k
        < length (residual_trades (length firms) trades contracts)
    outside_whole f zero c trade at inside halves =
        own_inside (residual_trades (length firms) trades contracts) f 0 (free_count trades contracts + 2 * c)
        (sold_to (length firms + c) trade) halves.0
        (stands_bought (sold_to (length firms + c) trade) f 0 (sym at) refl)
    outside_whole f (suc zero) c trade at inside halves =
        own_inside (residual_trades (length firms) trades contracts) f 1 (free_count trades contracts + (2 * c + 1))
        (bought_from (length firms + c) trade) halves.1
        (stands_sold (bought_from (length firms + c) trade) f 1 (sym at) refl)
    outside_whole f (suc (suc k)) c trade at inside halves = absurd (omega (arith, inside))

-- lists that are its firms and its trades
pub made_network : {A : Type 0} (firm_of : A → Firm) (items : List A) (made : List Ends) (firms : List Firm)
    (trades : List Ends) (over : ℤ) (contracts : List Contract) (scale tax : ℤ)
    → map firm_of items ≡ residual_of firms trades over contracts scale tax
    → made ≡ residual_trades (length firms) trades contracts → IsNetwork firms trades → IsFeasible trades contracts
    → IsNetwork (map firm_of items) made
made_network firm_of items made firms trades over contracts scale tax firms_are trades_are network feasible =
    subst (λ (xs : List Firm). IsNetwork xs made) (sym firms_are)
    (subst (IsNetwork (residual_of firms trades over contracts scale tax)) (sym trades_are)
    (residual_network firms trades over contracts scale tax network feasible))

pub firms_count : {A : Type 0} (firm_of : A → Firm) (items : List A) (firms : List Firm) (trades : List Ends) (over : ℤ)
    (contracts : List Contract) (scale tax : ℤ)
    → map firm_of items ≡ residual_of firms trades over contracts scale tax
    → length items ≡ length firms + length contracts
firms_count firm_of items firms trades over contracts scale tax are =
    sym (length-map items firm_of) ∙ ap length are
    ∙ length-append (levied_from trades contracts (over *ℤ scale) tax 0 firms) (outsides scale contracts)
    ∙ ap₂ (λ (m n : ℕ). m + n) (levied_count trades contracts (over *ℤ scale) tax 0 firms)
    (length-map contracts (λ (z : Contract). outside (scale *ℤ z.price)))
