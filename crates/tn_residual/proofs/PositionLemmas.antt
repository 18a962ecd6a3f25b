-- What stands at the positions of a firm in a residual market, and what is paid there.
use Rattle.std.proofs.Common.{◌≡◌, ℕ, zero, suc, ◌+◌, ◌-◌, ◌*◌, ◌^◌, ◌<◌, ◌≤◌, Bool, true, false, not, ltb, ◌&&◌, if◌then◌else◌, List, [], ◌∷◌, length, slice_get, Some, option_map, refl, sym, ap, ap₂, ◌∙◌, arith, inl, inr, ℤ, pos, neg_ℤ, ◌+ℤ◌, ◌-ℤ◌, ◌*ℤ◌}
use Rattle.std.proofs.lemmas.Int.{ints}
use Rattle.std.proofs.lemmas.Bool.{lt-ltb, le-ltb, true≢false}
use Rattle.std.proofs.lemmas.Option.{same_Some, slice_get_within}
use Rattle.tn_base.specs.Sets.{has, meet, minus, size, sum_over}
use Rattle.tn_base.specs.Firm.{Firm, HasOwnBundles, payments}
use Rattle.tn_base.proofs.SetLemmas.{same_below, has-set_of, has-meet, has-minus, set_of_within, minus_within, meet_within}
use Rattle.tn_base.proofs.SumLemmas.{sum_over-same_terms, sum_over-times, times-plus}
use Rattle.tn_model.specs.declared.ends.Ends.{Ends}
use Rattle.tn_model.specs.declared.contract.Contract.{Contract}
use Rattle.tn_model.specs.Network.{own, part, stands_at, IsNetwork}
use Rattle.tn_model.specs.Choices.{IsFeasible}
use Rattle.tn_market.specs.Equilibrium.{prices_at}
use Rattle.tn_market.specs.Levied.{levy}
use Rattle.tn_market.specs.Outside.{outside, outside_sum}
use Rattle.tn_market.specs.OutsideLemmas.{outside-worth}
use Rattle.tn_market.specs.Signed.{is_signed, signed_price, signed_bundle}
use Rattle.tn_model.proofs.NetworkLemmas.{own_stands}
use Rattle.tn_model.proofs.NetworkLemmas.{one_trade}
use Rattle.tn_market.proofs.GraphLemmas.{has-part}
use Rattle.tn_market.proofs.LevyLemmas.{levy_is}
use Rattle.tn_network_laws.proofs.WelfareLemmas.{paid}
use Rattle.tn_network_laws.proofs.StabilityLemmas.{times-neg, times-times}
use Rattle.tn_outcome_laws.proofs.SignedLemmas.{price_of_contract, no_price, signed_by, has-signed_bundle}
use Rattle.tn_residual.specs.Residual.{sold_to, bought_from, residual_of, residual_trades, number_from, unsigned, unsigned_from, unsigned_part}
use Rattle.tn_residual.proofs.TradeLemmas.{have_trades, free_count, free_at, half_trades, levied_firm, market_firm, outside_firm}
use Rattle.tn_residual.proofs.ResidualLemmas.{first_bought, second_sold, StandsFor, stands_for, stands_sold, stands_bought, residual_network}

-- an outcome of a network, and the scale and the tax of its residual market
pub record Setting : Type 0 where
  pub firms : List Firm
  pub trades : List Ends
  pub over : ℤ
  pub contracts : List Contract
  pub scale : ℤ
  pub tax : ℤ
  pub network : IsNetwork firms trades
  pub feasible : IsFeasible trades contracts
  pub own_bundles : (f : ℕ) (firm : Firm) → slice_get firms f ≡ Some firm → HasOwnBundles firm

abbrev pub parties : Setting → List Firm
parties z = residual_of z.firms z.trades z.over z.contracts z.scale z.tax

abbrev pub made : Setting → List Ends
made z = residual_trades (length z.firms) z.trades z.contracts

-- firm f in the residual market
abbrev pub party : Setting → ℕ → Firm → Firm
party z f firm = levied_firm z.trades z.contracts (z.over *ℤ z.scale) z.tax f firm

pub made_network : (z : Setting) → IsNetwork (parties z) (made z)
made_network z = residual_network z.firms z.trades z.over z.contracts z.scale z.tax z.network z.feasible

pub party_at : (z : Setting) (f : ℕ) (firm : Firm) → slice_get z.firms f ≡ Some firm
    → slice_get (parties z) f ≡ Some (party z f firm)
party_at z f firm is = market_firm z.firms z.trades z.over z.contracts z.scale z.tax f firm is

-- ---- positions

-- what stands at a position of a firm of the market
pub stands_here : (z : Setting) (f k : ℕ) (firm : Firm) → slice_get z.firms f ≡ Some firm → k < firm.count
    → StandsFor z.trades z.contracts f k (own (made z) f k)
stands_here z f k firm is below =
    let there = own_stands (made z) f k ((made_network z).whole f k (party z f firm) (party_at z f firm is) below) in
    stands_for z.firms z.trades z.contracts z.network (have_trades z.trades z.contracts z.feasible) f k
    (own (made z) f k) there.trade (slice_get_within z.firms f firm is) there.is there.stands

pub stands_own : (z : Setting) (f k : ℕ) (firm : Firm) → slice_get z.firms f ≡ Some firm → k < firm.count
    → (at : StandsFor z.trades z.contracts f k (own (made z) f k))
    → at.t ≡ own z.trades f k
stands_own z f k firm is below at =
    let there = own_stands z.trades f k (z.network.whole f k firm is below) in
    z.network.once f k at.t (own z.trades f k) at.trade there.trade at.is there.is at.stands there.stands

-- an unsigned trade has its number there
pub own_free : (z : Setting) (f k : ℕ) (firm : Firm) → slice_get z.firms f ≡ Some firm → k < firm.count
    → is_signed z.contracts (own z.trades f k) ≡ false
    → own (made z) f k ≡ number_from z.contracts 0 (own z.trades f k)
own_free z f k firm is below free =
    let at = stands_here z f k firm is below in
    let t = stands_own z f k firm is below at in
    elim at.kind [
      | inl here ↦ here.1 ∙ ap (number_from z.contracts 0) t
      | inr half ↦
          absurd (true≢false (sym (signed_by z.contracts half.0 at.t half.1 half.2 half.3)
          ∙ ap (is_signed z.contracts) t ∙ free))
    ]

-- ---- bundles

-- the unsigned part of a firm's bundle is its part of the unsigned trades
pub part_beside : (z : Setting) (f on : ℕ) (firm : Firm) → slice_get z.firms f ≡ Some firm
    → minus (part (made z) f firm.count on) (signed_bundle z.trades z.contracts f firm)
    ≡ part z.trades f firm.count (unsigned_part z.contracts (length z.trades) on)
part_beside z f on firm is =
    same_below (minus (part (made z) f firm.count on) (signed_bundle z.trades z.contracts f firm))
    (part z.trades f firm.count (unsigned_part z.contracts (length z.trades) on)) firm.count
    (minus_within (part (made z) f firm.count on) (signed_bundle z.trades z.contracts f firm) firm.count
    (set_of_within (λ k. has on (own (made z) f k)) firm.count))
    (set_of_within (λ k. has (unsigned_part z.contracts (length z.trades) on) (own z.trades f k)) firm.count)
    (λ k below. has-minus (part (made z) f firm.count on) (signed_bundle z.trades z.contracts f firm) k
    ∙ ap₂ (λ (a b : Bool). a && not b) (has-part (made z) f firm.count on k below)
    (has-signed_bundle z.firms z.trades z.network z.contracts f k firm is below)
    ∙ by_case k below (is_signed z.contracts (own z.trades f k)) refl
    ∙ sym (has-part z.trades f firm.count (unsigned_part z.contracts (length z.trades) on) k below
    ∙ has-set_of (λ t. not (is_signed z.contracts t) && has on (number_from z.contracts 0 t)) (length z.trades)
    (own z.trades f k)
    ∙ ap (λ (b : Bool). b && (not (is_signed z.contracts (own z.trades f k))
    && has on (number_from z.contracts 0 (own z.trades f k))))
    (lt-ltb (own z.trades f k) (length z.trades) (z.network.whole f k firm is below))))
  where
    never : (b : Bool) → (b && not true) ≡ false
    never true = refl
    never false = refl

    always : (b : Bool) → (b && not false) ≡ b
    always true = refl
    always false = refl

    by_case : (k : ℕ) → k < firm.count → (b : Bool) → is_signed z.contracts (own z.trades f k) ≡ b
        → (has on (own (made z) f k) && not (is_signed z.contracts (own z.trades f k)))
        ≡ (not (is_signed z.contracts (own z.trades f k)) && has on (number_from z.contracts 0 (own z.trades f k)))
    by_case k below true signed =
        ap (λ (b : Bool). has on (own (made z) f k) && not b) signed ∙ never (has on (own (made z) f k))
        ∙ sym (ap (λ (b : Bool). not b && has on (number_from z.contracts 0 (own z.trades f k))) signed)
    by_case k below false free =
        ap (λ (b : Bool). has on (own (made z) f k) && not b) free ∙ always (has on (own (made z) f k))
        ∙ ap (has on) (own_free z f k firm is below free)
        ∙ sym (ap (λ (b : Bool). not b && has on (number_from z.contracts 0 (own z.trades f k))) free)

-- the taxed positions of a bundle are those beside the signed ones
pub taxed_beside : (z : Setting) (f : ℕ) (firm : Firm) → slice_get z.firms f ≡ Some firm → (y : ℕ) → y < 2 ^ firm.count
    → meet y (part z.trades f firm.count (unsigned (length z.trades) z.contracts))
    ≡ minus y (signed_bundle z.trades z.contracts f firm)
taxed_beside z f firm is y within =
    same_below (meet y (part z.trades f firm.count (unsigned (length z.trades) z.contracts)))
    (minus y (signed_bundle z.trades z.contracts f firm)) firm.count
    (meet_within y (part z.trades f firm.count (unsigned (length z.trades) z.contracts)) firm.count within)
    (minus_within y (signed_bundle z.trades z.contracts f firm) firm.count within)
    (λ k below. has-meet y (part z.trades f firm.count (unsigned (length z.trades) z.contracts)) k
    ∙ ap (λ (b : Bool). has y k && b) (has-part z.trades f firm.count (unsigned (length z.trades) z.contracts) k below
    ∙ has-set_of (λ t. not (is_signed z.contracts t)) (length z.trades) (own z.trades f k)
    ∙ ap (λ (b : Bool). b && not (is_signed z.contracts (own z.trades f k)))
    (lt-ltb (own z.trades f k) (length z.trades) (z.network.whole f k firm is below))
    ∙ ap not (sym (has-signed_bundle z.firms z.trades z.network z.contracts f k firm is below)))
    ∙ sym (has-minus y (signed_bundle z.trades z.contracts f firm) k))

-- ---- prices

-- the price of the contract of each half
pub half_price : List Contract → ℕ → ℤ
half_price [] j = pos 0
half_price (contract ∷ contracts) zero = contract.price
half_price (contract ∷ contracts) (suc zero) = contract.price
half_price (contract ∷ contracts) (suc (suc j)) = half_price contracts j

pub half_price-at : (contracts : List Contract) (c : ℕ) (contract : Contract) → slice_get contracts c ≡ Some contract
    → (half_price contracts (2 * c) ≡ contract.price) × (half_price contracts (2 * c + 1) ≡ contract.price)
unfolding half_price
half_price-at [] c contract is = absurd (cc is)
half_price-at (first ∷ contracts) zero contract is = let same =
    ap (λ (x : Contract). x.price) (same_Some first contract is) in (same, same)
half_price-at (first ∷ contracts) (suc c) contract is =
    let rest = half_price-at contracts c contract is in
    let twice : 2 * suc c ≡ suc (suc (2 * c)) = omega arith in
    let more : 2 * suc c + 1 ≡ suc (suc (2 * c + 1)) = omega arith in
    (ap (half_price (first ∷ contracts)) twice ∙ rest.0, ap (half_price (first ∷ contracts)) more ∙ rest.1)

-- the prices at which the firms outside gain nothing: none for the unsigned trades
pub half_prices : Setting → ℕ → ℤ
half_prices z s = if ltb s (free_count z.trades z.contracts) then pos 0
    else z.scale *ℤ half_price z.contracts (s - free_count z.trades z.contracts)

half_prices-free : (z : Setting) (s : ℕ) → s < free_count z.trades z.contracts → half_prices z s ≡ pos 0
unfolding half_prices
half_prices-free z s below = ap (λ (b : Bool). if b then pos 0
    else z.scale *ℤ half_price z.contracts (s - free_count z.trades z.contracts))
    (lt-ltb s (free_count z.trades z.contracts) below)

pub half_prices-half : (z : Setting) (j s : ℕ) → s ≡ free_count z.trades z.contracts + j
    → half_prices z s ≡ z.scale *ℤ half_price z.contracts j
unfolding half_prices
half_prices-half z j s at =
    let above : free_count z.trades z.contracts ≤ s = omega (arith, at) in
    let less : s - free_count z.trades z.contracts ≡ j = omega (arith, at) in
    ap (λ (b : Bool). if b then pos 0 else z.scale *ℤ half_price z.contracts (s - free_count z.trades z.contracts))
    (le-ltb s (free_count z.trades z.contracts) above)
    ∙ ap (λ (i : ℕ). z.scale *ℤ half_price z.contracts i) less

-- at a firm of the market they are the contracts' prices, scaled
pub own_price : (z : Setting) (f k : ℕ) (firm : Firm) → slice_get z.firms f ≡ Some firm → k < firm.count
    → half_prices z (own (made z) f k) ≡ z.scale *ℤ signed_price z.contracts (own z.trades f k)
own_price z f k firm is below =
    let at = stands_here z f k firm is below in
    let t = stands_own z f k firm is below at in
    elim at.kind [
      | inl free ↦
          let inside : own (made z) f k < free_count z.trades z.contracts =
          (let there = slice_get_within (unsigned_from z.contracts 0 z.trades) (number_from z.contracts 0 at.t) at.trade
          (free_at z.trades z.contracts 0 at.t at.trade at.is (let same : 0 + at.t ≡ at.t = omega arith in
          ap (is_signed z.contracts) same ∙ free.0)) in
          let number = free.1 in omega (arith, there, number)) in
          let none : z.scale *ℤ signed_price z.contracts (own z.trades f k) ≡ z.scale *ℤ pos 0 =
          ap (λ (p : ℤ). z.scale *ℤ p) (no_price z.contracts (own z.trades f k) (ap (is_signed z.contracts) (sym t)
          ∙ free.0)) in
          half_prices-free z (own (made z) f k) inside ∙ sym (none ∙ omega (arith, ints))
      | inr half ↦
          let prices = half_price-at z.contracts half.0 half.1 half.2 in
          let contract : signed_price z.contracts (own z.trades f k) ≡ half.1.price =
          ap (signed_price z.contracts) (sym t ∙ sym half.3) ∙ price_of_contract z.contracts z.feasible.once half.0
          half.1 half.2 in
          elim half.4 [
            | inl sold ↦ half_prices-half z (2 * half.0) (own (made z) f k) sold.1
                ∙ ap (λ (p : ℤ). z.scale *ℤ p) (prices.0 ∙ sym contract)
            | inr bought ↦ half_prices-half z (2 * half.0 + 1) (own (made z) f k) bought.1
                ∙ ap (λ (p : ℤ). z.scale *ℤ p) (prices.1 ∙ sym contract)
          ]
    ]

-- what a firm of the market gets for its halves is what it gets for its contracts, scaled
pub paid_market : (z : Setting) (f on : ℕ) (firm : Firm) → slice_get z.firms f ≡ Some firm
    → paid (made z) (half_prices z) on f (party z f firm)
    ≡ z.scale *ℤ sum_over (payments firm.buys (prices_at z.trades (signed_price z.contracts) f)) firm.count
    (part (made z) f firm.count on)
paid_market z f on firm is =
    sum_over-same_terms (payments firm.buys (prices_at (made z) (half_prices z) f))
    (λ k. z.scale *ℤ payments firm.buys (prices_at z.trades (signed_price z.contracts) f) k)
    (part (made z) f firm.count on) firm.count
    (λ k below member. ap (λ (p : ℤ). if has firm.buys k then neg_ℤ p else p) (own_price z f k firm is below)
    ∙ by_side (has firm.buys k) (signed_price z.contracts (own z.trades f k)))
    ∙ sum_over-times z.scale (payments firm.buys (prices_at z.trades (signed_price z.contracts) f)) firm.count
    (part (made z) f firm.count on)
  where
    by_side : (b : Bool) (p : ℤ) → (if b then neg_ℤ (z.scale *ℤ p) else z.scale *ℤ p) ≡ z.scale *ℤ (if b then neg_ℤ p
        else p)
    by_side true p = sym (times-neg z.scale p)
    by_side false p = refl

-- ---- a firm of the market

-- the worth of its bundle, with what it gets for the halves, is its utility at the contracts' prices, scaled, less the
-- taxes
pub market_value : (z : Setting) (f on : ℕ) (firm : Firm) → slice_get z.firms f ≡ Some firm → (worth : ℤ)
    → firm.worth (part (made z) f firm.count on) ≡ Some worth
    → (value : ℤ) × ((party z f firm).worth (part (made z) f firm.count on) ≡ Some value)
    × (value +ℤ paid (made z) (half_prices z) on f (party z f firm)
    ≡ z.scale *ℤ (z.over *ℤ worth +ℤ sum_over (payments firm.buys (prices_at z.trades (signed_price z.contracts) f))
    firm.count (part (made z) f firm.count on))
    -ℤ z.tax *ℤ pos (size (part z.trades f firm.count (unsigned_part z.contracts (length z.trades) on))))
market_value z f on firm is worth worth_is = (
  (z.over *ℤ z.scale) *ℤ worth +ℤ sum_over (levy taxed z.tax) firm.count y,
  ap (option_map (λ a. (z.over *ℤ z.scale) *ℤ a +ℤ sum_over (levy taxed z.tax) firm.count y)) worth_is,
  add _ _ _ _ _ _ _ (times-times z.over z.scale worth) taxes (paid_market z f on firm is)
      (times-plus z.scale (z.over *ℤ worth) _),
)
  where
    y : ℕ
    y = part (made z) f firm.count on

    taxed : ℕ
    taxed = part z.trades f firm.count (unsigned (length z.trades) z.contracts)

    within : part (made z) f firm.count on < 2 ^ firm.count
    within = set_of_within (λ k. has on (own (made z) f k)) firm.count

    taxes : sum_over (levy (part z.trades f firm.count (unsigned (length z.trades) z.contracts)) z.tax) firm.count
        (part (made z) f firm.count on)
        ≡ neg_ℤ (z.tax *ℤ pos (size (part z.trades f firm.count (unsigned_part z.contracts (length z.trades) on))))
    taxes = levy_is taxed firm.count (part (made z) f firm.count on) z.tax within
        ∙ ap (λ (x : ℕ). neg_ℤ (z.tax *ℤ pos (size x))) (taxed_beside z f firm is (part (made z) f firm.count on) within
        ∙ part_beside z f on firm is)

    add : (w w' l p t u v : ℤ) → w ≡ w' → l ≡ neg_ℤ t → p ≡ u → v ≡ w' +ℤ u → (w +ℤ l) +ℤ p ≡ v -ℤ t
    add w w' l p t u v scaled taxes paid sum = omega (arith, ints, scaled, taxes, paid, sum)

-- ---- a firm outside

-- with what it gets for its halves it has nothing
pub outside_value : (z : Setting) (c on : ℕ) (contract : Contract) → slice_get z.contracts c ≡ Some contract
    → (value : ℤ) × ((outside (z.scale *ℤ contract.price)).worth (part (made z) (length z.firms + c) 2 on) ≡ Some value)
    × (value +ℤ paid (made z) (half_prices z) on (length z.firms + c) (outside (z.scale *ℤ contract.price)) ≡ pos 0)
unfolding sum_over
outside_value z c on contract there = (
  outside_sum price (has y 0) (has y 1),
  outside-worth price y (set_of_within (λ k. has on (own (made z) (length z.firms + c) k)) 2),
  cancel (has y 0) (has y 1) first second,
)
  where
    price : ℤ
    price = z.scale *ℤ contract.price

    y : ℕ
    y = part (made z) (length z.firms + c) 2 on

    trade : (trade : Ends) × (slice_get z.trades contract.trade ≡ Some trade)
    trade = have_trades z.trades z.contracts z.feasible c contract there

    halves : (slice_get (made z) (free_count z.trades z.contracts + 2 * c)
        ≡ Some (sold_to (length z.firms + c) (have_trades z.trades z.contracts z.feasible c contract there).0))
        × (slice_get (made z) (free_count z.trades z.contracts + (2 * c + 1))
        ≡ Some (bought_from (length z.firms + c) (have_trades z.trades z.contracts z.feasible c contract there).0))
    halves = half_trades z.trades z.contracts (have_trades z.trades z.contracts z.feasible) (length z.firms) c contract
        trade.0 there trade.1

    at : (k s : ℕ) (ends : Ends) → k < 2 → slice_get (made z) s ≡ Some ends
        → stands_at ends (length z.firms + c) k ≡ true → own (made z) (length z.firms + c) k ≡ s
    at k s ends below is stands =
        (one_trade (parties z) (made z) (length z.firms + c) k s (outside (z.scale *ℤ contract.price)) (made_network z)
        (outside_firm z.firms z.trades z.over z.contracts z.scale z.tax c contract there) below).1 (record {
          trade =
              ends;
          is = is;
          stands = stands;
        })

    first : (if has 1 0 then neg_ℤ (half_prices z (own (made z) (length z.firms + c) 0))
        else half_prices z (own (made z) (length z.firms + c) 0)) ≡ neg_ℤ (z.scale *ℤ contract.price)
    first = ap (λ (b : Bool). if b then neg_ℤ (half_prices z (own (made z) (length z.firms + c) 0))
        else half_prices z (own (made z) (length z.firms + c) 0)) first_bought
        ∙ ap neg_ℤ (half_prices-half z (2 * c) (own (made z) (length z.firms + c) 0)
        (at 0 (free_count z.trades z.contracts + 2 * c) (sold_to (length z.firms + c) trade.0) (omega arith)
        halves.0
        (stands_bought (sold_to (length z.firms + c) trade.0) (length z.firms + c) 0 refl refl))
        ∙ ap (λ (p : ℤ). z.scale *ℤ p) (half_price-at z.contracts c contract there).0)

    second : (if has 1 1 then neg_ℤ (half_prices z (own (made z) (length z.firms + c) 1))
        else half_prices z (own (made z) (length z.firms + c) 1)) ≡ z.scale *ℤ contract.price
    second = ap (λ (b : Bool). if b then neg_ℤ (half_prices z (own (made z) (length z.firms + c) 1))
        else half_prices z (own (made z) (length z.firms + c) 1)) second_sold
        ∙ half_prices-half z (2 * c + 1) (own (made z) (length z.firms + c) 1)
        (at 1 (free_count z.trades z.contracts + (2 * c + 1)) (bought_from (length z.firms + c) trade.0)
        (omega arith) halves.1
        (stands_sold (bought_from (length z.firms + c) trade.0) (length z.firms + c) 1 refl refl))
        ∙ ap (λ (p : ℤ). z.scale *ℤ p) (half_price-at z.contracts c contract there).1

    cancel : (b s : Bool) {u v : ℤ} → u ≡ neg_ℤ (z.scale *ℤ contract.price) → v ≡ z.scale *ℤ contract.price
        → outside_sum (z.scale *ℤ contract.price) b s +ℤ ((pos 0 +ℤ (if b then u else pos 0)) +ℤ (if s then v
        else pos 0)) ≡ pos 0
    cancel true true p q = omega (arith, ints, p, q)
    cancel true false p q = omega (arith, ints, p)
    cancel false true p q = omega (arith, ints, q)
    cancel false false p q = omega (arith, ints)
