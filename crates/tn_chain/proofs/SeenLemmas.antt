-- An equilibrium of the residual market, seen from the market: a taxed equilibrium of the unsigned trades.
use Rattle.std.proofs.Common.{◌≡◌, ℕ, ◌+◌, ◌*◌, ◌^◌, ◌<◌, ◌≤◌, Bool, true, false, not, ◌&&◌, if◌then◌else◌, length, slice_get, Some, None, option_map, refl, sym, ap, ap₂, ◌∙◌, subst, arith, inl, inr, ℤ, pos, negsuc, neg_ℤ, ◌+ℤ◌, ◌-ℤ◌, ◌*ℤ◌, ◌≤ℤ◌}
use Rattle.std.specs.Prelude.{nat_lt}
use Rattle.std.proofs.lemmas.Int.{ints}
use Rattle.std.proofs.lemmas.Bool.{cases_eq, and_parts, lt-ltb, ltb-true, true≢false}
use Rattle.std.proofs.lemmas.Option.{same_Some, slice_get_within}
use Rattle.tn_base.specs.Sets.{has, toggle, meet, minus, size, sum_over}
use Rattle.tn_base.specs.Firm.{Firm, plus_sum, payments, among, IsBest}
use Rattle.tn_base.proofs.SetLemmas.{has-set_of, has-minus, has_below, set_of_within, minus-zero_from, has_from_minus-zero, minus_within, toggle_within}
use Rattle.tn_base.proofs.SizeLemmas.{size_at}
use Rattle.tn_base.proofs.SumLemmas.{sum_over-toggle_in, sum_over-toggle_out}
use Rattle.tn_firm_laws.proofs.FavourLemmas.{IsFavoured, Favours, favoured_best}
use Rattle.tn_firm_laws.proofs.KeepLemmas.{option_map-some}
use Rattle.tn_model.specs.declared.ends.Ends.{Ends}
use Rattle.tn_model.specs.declared.contract.Contract.{Contract}
use Rattle.tn_model.specs.Network.{own, part, stands_at}
use Rattle.tn_market.specs.Best.{IsSubset}
use Rattle.tn_market.specs.Equilibrium.{prices_at, HasBest, IsEquilibrium}
use Rattle.tn_market.specs.Admitted.{admitted}
use Rattle.tn_market.specs.Levied.{levy}
use Rattle.tn_market.specs.Outside.{outside, outside_amount}
use Rattle.tn_market.specs.Signed.{is_signed, signed_price, signed_bundle}
use Rattle.tn_market.specs.Reduced.{reduced, reduced_firms}
use Rattle.tn_market.proofs.GraphLemmas.{has-part, seller_end, buyer_end, same_firm, IsEnd}
use Rattle.tn_market.proofs.LevyLemmas.{levy_is}
use Rattle.tn_model.proofs.NetworkLemmas.{one_trade}
use Rattle.tn_network_laws.proofs.AdmittedLemmas.{admitted_is, admitted_from_firm, among_inside, among_parts, part_inside}
use Rattle.tn_network_laws.proofs.PartLemmas.{own_once}
use Rattle.tn_outcome_laws.proofs.SignedLemmas.{has-signed_bundle}
use Rattle.tn_outcome_laws.proofs.CompletionLemmas.{reduced_from_firm}
use Rattle.tn_residual.specs.Residual.{sold_to, bought_from, number_from, unsigned, unsigned_part}
use Rattle.tn_residual.proofs.TradeLemmas.{have_trades, free_count, half_trades, outside_firm}
use Rattle.tn_residual.proofs.ResidualLemmas.{first_bought, second_sold, stands_sold, stands_bought, StandsFor}
use Rattle.tn_residual.proofs.PositionLemmas.{Setting, parties, made, party, made_network, party_at, stands_here, stands_own, own_free, part_beside, taxed_beside, half_prices, half_prices-half, half_price-at, own_price}
use Rattle.tn_blocking_laws.specs.Taxed.{taxed, taxed_firms, IsTaxedEquilibrium}
use Rattle.tn_blocking_laws.proofs.TaxLemmas.{taxed_from, tax_is}
use Rattle.tn_blocking_laws.proofs.ScaleLemmas.{IsCover, firm_cover, scaled_price}

-- the trades of the residual market that are admitted: the numbers of some unsigned trades, and all halves
pub record IsAdmitting (z : Setting) (allowed numbers : ℕ) : Type 0 where
  pub only : (t : ℕ) → t < length z.trades → is_signed z.contracts t ≡ false
      → has numbers (number_from z.contracts 0 t) ≡ true → has allowed t ≡ true
  pub each : (t : ℕ) → t < length z.trades → is_signed z.contracts t ≡ false → has allowed t ≡ true
      → has numbers (number_from z.contracts 0 t) ≡ true
  pub halves : (s : ℕ) → free_count z.trades z.contracts ≤ s → s < length (made z) → has numbers s ≡ true

-- ---- a firm outside

-- an independent position is on where it gains, and off where it loses
outside_favours : (price : ℤ) (limit : ℕ) (paid : ℕ → ℤ) (x : ℕ) (value : ℤ) → x < 2 ^ 2
    → ((k : ℕ) → k < 2 → has limit k ≡ true)
    → IsBest (plus_sum (pos 1) paid (among limit (outside price))).worth x value → (k : ℕ) → k < 2
    → IsFavoured (has x k) (outside_amount price k) (neg_ℤ (paid k))
outside_favours price limit paid x value within all best k below = by_case (has x k) refl
  where
    worth : (y : ℕ) → y < 2 ^ 2 → (plus_sum (pos 1) paid (among limit (outside price))).worth y
        ≡ Some (pos 1 *ℤ sum_over (outside_amount price) 2 y +ℤ sum_over paid 2 y)
    worth y inside =
        ap (option_map (λ a. pos 1 *ℤ a +ℤ sum_over paid 2 y))
        (among_inside limit (outside price) y (minus-zero_from y limit
        (λ j there. all j (has_below y 2 j inside there)))
        ∙ ap (λ (b : Bool). if b then Some (sum_over (outside_amount price) 2 y) else None) (lt-ltb y (2 ^ 2) inside))

    mine : value ≡ pos 1 *ℤ sum_over (outside_amount price) 2 x +ℤ sum_over paid 2 x
    mine = same_Some _ _ (sym best.is ∙ worth x within)

    theirs : (pos 1 *ℤ sum_over (outside_amount price) 2 (toggle x k) +ℤ sum_over paid 2 (toggle x k)) ≤ℤ value
    theirs = best.most (toggle x k) _ (worth (toggle x k) (toggle_within x k 2 within below))

    gains : (a p a' p' c d v : ℤ) → v ≡ pos 1 *ℤ a +ℤ p → (pos 1 *ℤ a' +ℤ p') ≤ℤ v → a' ≡ a -ℤ c → p' ≡ p -ℤ d
        → neg_ℤ d ≤ℤ c
    gains a p a' p' c d v is most first second = omega (arith, ints, is, most, first, second)

    loses : (a p a' p' c d v : ℤ) → v ≡ pos 1 *ℤ a +ℤ p → (pos 1 *ℤ a' +ℤ p') ≤ℤ v → a' ≡ a +ℤ c → p' ≡ p +ℤ d
        → c ≤ℤ neg_ℤ d
    loses a p a' p' c d v is most first second = omega (arith, ints, is, most, first, second)

    by_case : (b : Bool) → has x k ≡ b → IsFavoured b (outside_amount price k) (neg_ℤ (paid k))
    by_case true there =
        gains (sum_over (outside_amount price) 2 x) (sum_over paid 2 x) (sum_over (outside_amount price) 2 (toggle x k))
        (sum_over paid 2 (toggle x k)) (outside_amount price k) (paid k) value mine theirs
        (sum_over-toggle_out (outside_amount price) 2 x k below there) (sum_over-toggle_out paid 2 x k below there)
    by_case false away =
        loses (sum_over (outside_amount price) 2 x) (sum_over paid 2 x) (sum_over (outside_amount price) 2 (toggle x k))
        (sum_over paid 2 (toggle x k)) (outside_amount price k) (paid k) value mine theirs
        (sum_over-toggle_in (outside_amount price) 2 x k below away) (sum_over-toggle_in paid 2 x k below away)

-- at prices that make an equilibrium, a seller's half that is on costs at most the contract's price, and one that is
-- off at least that; a buyer's half the other way
pub record AreHalvesPriced (z : Setting) (on : ℕ) (prices : ℕ → ℤ) (c : ℕ) : Type 0 where
  pub sold : IsFavoured (has on (free_count z.trades z.contracts + 2 * c))
      (half_prices z (free_count z.trades z.contracts + 2 * c)) (prices (free_count z.trades z.contracts + 2 * c))
  pub bought : IsFavoured (has on (free_count z.trades z.contracts + (2 * c + 1)))
      (prices (free_count z.trades z.contracts + (2 * c + 1)))
      (half_prices z (free_count z.trades z.contracts + (2 * c + 1)))

negated : (b : Bool) (u v : ℤ) → IsFavoured b (neg_ℤ u) (neg_ℤ v) → IsFavoured b v u
negated true u v h = omega (arith, ints, h)
negated false u v h = omega (arith, ints, h)

pub halves_priced : (z : Setting) (allowed numbers on : ℕ) (prices : ℕ → ℤ) → IsAdmitting z allowed numbers
    → IsEquilibrium (admitted (made z) numbers (parties z)) (made z) (pos 1) on prices
    → (c : ℕ) (contract : Contract) → slice_get z.contracts c ≡ Some contract → AreHalvesPriced z on prices c
halves_priced z allowed numbers on prices admitting equilibrium c contract there = record {
  sold = subst (λ (p : ℤ). IsFavoured (has on s0) p (prices s0)) (sym price0)
      (at (has x 0) (has on s0) _ _ (has-part (made z) g 2 on 0 (omega arith) ∙ ap (has on) own0)
      (twice (prices (own (made z) g 0)) (prices s0)
      (ap (λ (b : Bool). neg_ℤ (if b then neg_ℤ (prices (own (made z) g 0)) else prices (own (made z) g 0)))
      first_bought) (ap prices own0)) (favours 0 (omega arith)));
  bought = subst (λ (p : ℤ). IsFavoured (has on s1) (prices s1) p) (sym price1) (negated (has on s1) price (prices s1)
      (at (has x 1) (has on s1) _ _ (has-part (made z) g 2 on 1 (omega arith) ∙ ap (has on) own1)
      (ap (λ (b : Bool). neg_ℤ (if b then neg_ℤ (prices (own (made z) g 1)) else prices (own (made z) g 1))) second_sold
      ∙ ap (λ (s : ℕ). neg_ℤ (prices s)) own1) (favours 1 (omega arith))));
}
  where
    g : ℕ
    g = length z.firms + c

    price : ℤ
    price = z.scale *ℤ contract.price

    s0 : ℕ
    s0 = free_count z.trades z.contracts + 2 * c

    s1 : ℕ
    s1 = free_count z.trades z.contracts + (2 * c + 1)

    x : ℕ
    x = part (made z) (length z.firms + c) 2 on

    trade : (trade : Ends) × (slice_get z.trades contract.trade ≡ Some trade)
    trade = have_trades z.trades z.contracts z.feasible c contract there

    halves : (slice_get (made z) (free_count z.trades z.contracts + 2 * c)
        ≡ Some (sold_to (length z.firms + c) (have_trades z.trades z.contracts z.feasible c contract there).0))
        × (slice_get (made z) (free_count z.trades z.contracts + (2 * c + 1))
        ≡ Some (bought_from (length z.firms + c) (have_trades z.trades z.contracts z.feasible c contract there).0))
    halves = half_trades z.trades z.contracts (have_trades z.trades z.contracts z.feasible) (length z.firms) c contract
        (have_trades z.trades z.contracts z.feasible c contract there).0 there
        (have_trades z.trades z.contracts z.feasible c contract there).1

    is : slice_get (parties z) (length z.firms + c) ≡ Some (outside (z.scale *ℤ contract.price))
    is = outside_firm z.firms z.trades z.over z.contracts z.scale z.tax c contract there

    owned : (k s : ℕ) (ends : Ends) → k < 2 → slice_get (made z) s ≡ Some ends
        → stands_at ends (length z.firms + c) k ≡ true → own (made z) (length z.firms + c) k ≡ s
    owned k s ends below ends_is stands =
        (one_trade (parties z) (made z) (length z.firms + c) k s (outside (z.scale *ℤ contract.price)) (made_network z)
        is below).1 (record { trade = ends; is = ends_is; stands = stands })

    own0 : own (made z) (length z.firms + c) 0 ≡ free_count z.trades z.contracts + 2 * c
    own0 = owned 0 (free_count z.trades z.contracts + 2 * c) (sold_to (length z.firms + c) trade.0) (omega arith)
        halves.0
        (stands_bought (sold_to (length z.firms + c) trade.0) (length z.firms + c) 0 refl refl)

    own1 : own (made z) (length z.firms + c) 1 ≡ free_count z.trades z.contracts + (2 * c + 1)
    own1 = owned 1 (free_count z.trades z.contracts + (2 * c + 1)) (bought_from (length z.firms + c) trade.0)
        (omega arith) halves.1
        (stands_sold (bought_from (length z.firms + c) trade.0) (length z.firms + c) 1 refl refl)

    price0 : half_prices z (free_count z.trades z.contracts + 2 * c) ≡ z.scale *ℤ contract.price
    price0 = half_prices-half z (2 * c) (free_count z.trades z.contracts + 2 * c) refl
        ∙ ap (λ (p : ℤ). z.scale *ℤ p) (half_price-at z.contracts c contract there).0

    price1 : half_prices z (free_count z.trades z.contracts + (2 * c + 1)) ≡ z.scale *ℤ contract.price
    price1 = half_prices-half z (2 * c + 1) (free_count z.trades z.contracts + (2 * c + 1)) refl
        ∙ ap (λ (p : ℤ). z.scale *ℤ p) (half_price-at z.contracts c contract there).1

    all : (k : ℕ) → k < 2 → has (part (made z) (length z.firms + c) 2 numbers) k ≡ true
    all k below = has-part (made z) (length z.firms + c) 2 numbers k below ∙ elim (cases_eq k 0) [
      | inl e ↦ ap (λ (j : ℕ). has numbers (own (made z) (length z.firms + c) j)) e ∙ ap (has numbers) own0
          ∙ admitting.halves (free_count z.trades z.contracts + 2 * c) (omega arith)
          (slice_get_within (made z) (free_count z.trades z.contracts + 2 * c) _ halves.0)
      | inr d ↦ let one : k ≡ 1 = omega (arith, below, d) in
          ap (λ (j : ℕ). has numbers (own (made z) (length z.firms + c) j)) one ∙ ap (has numbers) own1
          ∙ admitting.halves (free_count z.trades z.contracts + (2 * c + 1)) (omega arith)
          (slice_get_within (made z) (free_count z.trades z.contracts + (2 * c + 1)) _ halves.1)
    ]

    favours : (k : ℕ) → k < 2
        → IsFavoured (has (part (made z) (length z.firms + c) 2 on) k) (outside_amount (z.scale *ℤ contract.price) k)
        (neg_ℤ (payments 1 (prices_at (made z) prices (length z.firms + c)) k))
    favours =
        let best = equilibrium (length z.firms + c) (among (part (made z) (length z.firms + c) 2 numbers)
        (outside (z.scale *ℤ contract.price)))
        (admitted_is (made z) numbers (parties z) (length z.firms + c) (outside (z.scale *ℤ contract.price)) is) in
        outside_favours (z.scale *ℤ contract.price) (part (made z) (length z.firms + c) 2 numbers)
        (payments 1 (prices_at (made z) prices (length z.firms + c)))
        (part (made z) (length z.firms + c) 2 on) best.0 (set_of_within
        (λ k. has on (own (made z) (length z.firms + c) k)) 2) all best.1

    twice : (u v : ℤ) {w : ℤ} → w ≡ neg_ℤ (neg_ℤ u) → u ≡ v → w ≡ v
    twice u v {w} e f = omega (arith, ints, e, f)

    at : (b d : Bool) (u w : ℤ) {v : ℤ} → b ≡ d → v ≡ w → IsFavoured b u v → IsFavoured d u w
    at b d u w {v} e f h = subst (λ (c : Bool). IsFavoured c u w) e (subst (λ (y : ℤ). IsFavoured b u y) f h)

-- ---- a firm of the market

-- the prices of unsigned trades are those of their numbers
abbrev pub numbered : Setting → (ℕ → ℤ) → ℕ → ℤ
numbered z prices t = prices (number_from z.contracts 0 t)

pays_favoured : (b h : Bool) (new old : ℤ) → (b ≡ true → IsFavoured h old new) → (b ≡ false → IsFavoured h new old)
    → IsFavoured h (if b then neg_ℤ new else new) (if b then neg_ℤ old else old)
pays_favoured true h new old bought sold = negated_back h new old (bought refl)
  where
    negated_back : (h : Bool) (u v : ℤ) → IsFavoured h v u → IsFavoured h (neg_ℤ u) (neg_ℤ v)
    negated_back true u v p = omega (arith, ints, p)
    negated_back false u v p = omega (arith, ints, p)
pays_favoured false h new old bought sold = sold refl

same_favoured : (h : Bool) (u v : ℤ) → u ≡ v → IsFavoured h u v
same_favoured true u v e = omega (arith, ints, e)
same_favoured false u v e = omega (arith, ints, e)

-- with the contracts' own prices for its halves, its bundle stays best
firm_favoured : (z : Setting) (allowed numbers on : ℕ) (prices : ℕ → ℤ) → IsAdmitting z allowed numbers
    → IsEquilibrium (admitted (made z) numbers (parties z)) (made z) (pos 1) on prices
    → (f : ℕ) (firm : Firm) → slice_get z.firms f ≡ Some firm
    → Favours firm.count (part (made z) f firm.count on)
    (payments firm.buys (prices_at z.trades (scaled_price z.contracts z.scale (numbered z prices)) f))
    (payments firm.buys (prices_at (made z) prices f))
firm_favoured z allowed numbers on prices admitting equilibrium f firm is k below =
    subst (λ (h : Bool). IsFavoured h (payments firm.buys
    (prices_at z.trades (scaled_price z.contracts z.scale (numbered z prices)) f) k)
    (payments firm.buys (prices_at (made z) prices f) k))
    (sym (has-part (made z) f firm.count on k below)) (by_case (is_signed z.contracts (own z.trades f k)) refl)
  where
    pays : ℤ → ℤ
    pays p = if has firm.buys k then neg_ℤ p else p

    by_case : (b : Bool) → is_signed z.contracts (own z.trades f k) ≡ b
        → IsFavoured (has on (own (made z) f k))
        (pays (scaled_price z.contracts z.scale (numbered z prices) (own z.trades f k)))
        (pays (prices (own (made z) f k)))
    by_case false free = same_favoured (has on (own (made z) f k)) _ _
        (ap pays (ap (λ (b : Bool). if b then z.scale *ℤ signed_price z.contracts (own z.trades f k)
        else numbered z prices (own z.trades f k)) free ∙ ap prices (sym (own_free z f k firm is below free))))
    by_case true signed =
        subst (λ (p : ℤ). IsFavoured (has on (own (made z) f k)) (pays p) (pays (prices (own (made z) f k))))
        (own_price z f k firm is below ∙ sym (ap (λ (b : Bool). if b
        then z.scale *ℤ signed_price z.contracts (own z.trades f k)
        else numbered z prices (own z.trades f k)) signed))
        (by_half (stands_here z f k firm is below) (stands_own z f k firm is below (stands_here z f k firm is below)))
      where
        side : (t g i : ℕ) (bought : Bool) → g ≡ f → IsEnd z.firms z.trades t g i bought → own z.trades f k ≡ t
            → has firm.buys k ≡ bought
        side t g i bought at end same =
            let one = same_firm z.firms f end.firm firm (ap (slice_get z.firms) (sym at) ∙ end.is) is in
            let place = own_once z.firms z.trades z.network f firm is i k
            (subst (λ (w : Firm). i < w.count) one end.inside) below (ap (λ (h : ℕ). own z.trades h i) (sym at)
            ∙ end.owns ∙ sym same) in
            ap (has firm.buys) (sym place) ∙ ap (λ (w : Firm). has w.buys i) (sym one) ∙ end.side

        by_half : (at : StandsFor z.trades z.contracts f k (own (made z) f k)) → at.t ≡ own z.trades f k
            → IsFavoured (has on (own (made z) f k)) (pays (half_prices z (own (made z) f k)))
            (pays (prices (own (made z) f k)))
        by_half at same = elim at.kind [
          | inl free ↦ absurd (true≢false (sym signed ∙ ap (is_signed z.contracts) (sym same) ∙ free.0))
          | inr half ↦ elim half.4 [
            | inl sold ↦
                let priced = (halves_priced z allowed numbers on prices admitting equilibrium half.0 half.1 half.2).sold
                in
                let sells = side at.t at.trade.seller at.trade.at_seller false sold.0
                (seller_end z.firms z.trades z.network at.t at.trade at.is) (sym same) in
                pays_favoured (has firm.buys k) (has on (own (made z) f k)) (half_prices z (own (made z) f k))
                (prices (own (made z) f k))
                (λ buys. absurd (true≢false (sym buys ∙ sells)))
                (λ e. subst (λ (s : ℕ). IsFavoured (has on s) (half_prices z s) (prices s)) (sym sold.1) priced)
            | inr bought ↦
                let priced =
                (halves_priced z allowed numbers on prices admitting equilibrium half.0 half.1 half.2).bought in
                let buys = side at.t at.trade.buyer at.trade.at_buyer true bought.0
                (buyer_end z.firms z.trades z.network at.t at.trade at.is) (sym same) in
                pays_favoured (has firm.buys k) (has on (own (made z) f k)) (half_prices z (own (made z) f k))
                (prices (own (made z) f k))
                (λ e. subst (λ (s : ℕ). IsFavoured (has on s) (prices s) (half_prices z s)) (sym bought.1) priced)
                (λ sells. absurd (true≢false (sym buys ∙ sells)))
          ]
        ]

-- the tax on a bundle is that on its part beside the signed positions
taxes : (z : Setting) → z.tax ≡ pos 1 → (f : ℕ) (firm : Firm) → slice_get z.firms f ≡ Some firm → (y : ℕ)
    → y < 2 ^ firm.count
    → sum_over (levy (part z.trades f firm.count (unsigned (length z.trades) z.contracts)) z.tax) firm.count y
    ≡ sum_over (λ k. negsuc 0) firm.count (minus y (signed_bundle z.trades z.contracts f firm))
taxes z one f firm is y within =
    let sum = levy_is (part z.trades f firm.count (unsigned (length z.trades) z.contracts)) firm.count y z.tax within in
    let beside = ap size (taxed_beside z f firm is y within)
    ∙ size_at firm.count (minus y (signed_bundle z.trades z.contracts f firm))
    (minus_within y (signed_bundle z.trades z.contracts f firm) firm.count within) in
    let tax = tax_is firm.count (minus y (signed_bundle z.trades z.contracts f firm)) in
    let product : z.tax *ℤ pos (size (meet y (part z.trades f firm.count (unsigned (length z.trades) z.contracts))))
    ≡ pos (size (meet y (part z.trades f firm.count (unsigned (length z.trades) z.contracts)))) =
    ap (λ (t : ℤ). t *ℤ pos (size (meet y (part z.trades f firm.count (unsigned (length z.trades) z.contracts))))) one
    ∙ omega (arith, ints) in
    omega (arith, ints, sum, beside, tax, product)

-- what is on in the residual market is allowed
on_inside : (z : Setting) (allowed numbers on : ℕ) → IsAdmitting z allowed numbers → IsSubset on numbers
    → IsSubset (unsigned_part z.contracts (length z.trades) on) allowed
on_inside z allowed numbers on admitting inside t there =
    let parts = and_parts (nat_lt t (length z.trades)) (not (is_signed z.contracts t)
    && has on (number_from z.contracts 0 t))
    (sym (has-set_of (λ t. not (is_signed z.contracts t) && has on (number_from z.contracts 0 t)) (length z.trades) t)
    ∙ there) in
    let both = and_parts (not (is_signed z.contracts t)) (has on (number_from z.contracts 0 t)) parts.1 in
    admitting.only t (ltb-true t (length z.trades) parts.0) (turned (is_signed z.contracts t) both.0)
    (inside (number_from z.contracts 0 t) both.1)
  where
    turned : (b : Bool) → not b ≡ true → b ≡ false
    turned true e = absurd (cc e)
    turned false e = refl

-- the half at a signed position is admitted
half_admitted : (z : Setting) (allowed numbers : ℕ) → IsAdmitting z allowed numbers → (f k : ℕ) (firm : Firm)
    → slice_get z.firms f ≡ Some firm → k < firm.count
    → is_signed z.contracts (own z.trades f k) ≡ true → has numbers (own (made z) f k) ≡ true
half_admitted z allowed numbers admitting f k firm is below signed =
    let at = stands_here z f k firm is below in
    let same = stands_own z f k firm is below at in
    elim at.kind [
      | inl free ↦ absurd (true≢false (sym signed ∙ ap (is_signed z.contracts) (sym same) ∙ free.0))
      | inr half ↦ admitting.halves (own (made z) f k) (elim half.4 [
        | inl sold ↦ (let place = sold.1 in omega (arith, place))
        | inr bought ↦ (let place = bought.1 in omega (arith, place))
      ]) ((made_network z).whole f k (party z f firm) (party_at z f firm is) below)
    ]

-- the firm's reduced worth has its best bundle among the allowed trades where those that are on are
firm_seen : (z : Setting) → z.tax ≡ pos 1 → pos 0 ≤ℤ z.scale → (allowed numbers on : ℕ) (prices : ℕ → ℤ)
    → IsAdmitting z allowed numbers → IsSubset on numbers
    → IsEquilibrium (admitted (made z) numbers (parties z)) (made z) (pos 1) on prices
    → (f : ℕ) (firm : Firm) → slice_get z.firms f ≡ Some firm
    → HasBest z.trades (pos 1) (unsigned_part z.contracts (length z.trades) on) (numbered z prices) f
    (among (part z.trades f firm.count allowed) (taxed z.scale (reduced z.trades z.over z.contracts f firm)))
firm_seen z one from_zero allowed numbers on prices admitting inside equilibrium f firm is = (
  pos 1 *ℤ (z.scale *ℤ here.0 +ℤ tax x) +ℤ paid x,
  record {
    is = value x here.0 here.1 x_inside;
    most = λ y other other_is.
        let worth = option_map-some (λ w. pos 1 *ℤ w +ℤ paid y)
        ((among limit (taxed z.scale (reduced z.trades z.over z.contracts f firm))).worth y) other other_is in
        let parts = among_parts limit (taxed z.scale (reduced z.trades z.over z.contracts f firm)) y worth.0 worth.1 in
        let plain = option_map-some (λ w. z.scale *ℤ w +ℤ tax y) ((reduced z.trades z.over z.contracts f firm).worth y)
        worth.0 parts.1 in
        let reach = cover.reached y (z.scale *ℤ plain.0 +ℤ paid y)
        (ap (option_map (λ w. z.scale *ℤ w +ℤ paid y)) plain.1) in
        let own_worth =
        option_map-some (λ w. (z.over *ℤ z.scale) *ℤ w +ℤ all reach.0) (firm.worth reach.0) (z.scale *ℤ plain.0
        +ℤ paid y) reach.2 in
        let within = z.own_bundles f firm is reach.0 own_worth.0 own_worth.1 in
        let step = best.1.most reach.0 (pos 1 *ℤ ((z.over *ℤ z.scale) *ℤ own_worth.0 +ℤ levied_tax reach.0)
        +ℤ all reach.0)
        (ap (option_map (λ w. pos 1 *ℤ w +ℤ all reach.0)) (among_inside whole (party z f firm) reach.0
        (reach_inside y reach.0 within reach.1 parts.0)
        ∙ ap (option_map (λ w. (z.over *ℤ z.scale) *ℤ w +ℤ levied_tax reach.0)) own_worth.1)) in
        let reach_tax = taxes z one f firm is reach.0 within ∙ ap tax reach.1 in
        less ((z.over *ℤ z.scale) *ℤ own_worth.0) (all reach.0) (levied_tax reach.0) (tax y) (z.scale *ℤ plain.0)
        (paid y) worth.0 other ((z.over *ℤ z.scale) *ℤ mine.0) (all b) (levied_tax b) (tax x)
        (z.scale *ℤ here.0) (paid x) covered.0 best.0 plain.2 worth.2 own_worth.2 step reach_tax mine.2 b_tax covered.2
        here.2;
  },
)
  where
    b : ℕ
    b = part (made z) f firm.count on

    given : ℕ
    given = signed_bundle z.trades z.contracts f firm

    x : ℕ
    x = part z.trades f firm.count (unsigned_part z.contracts (length z.trades) on)

    limit : ℕ
    limit = part z.trades f firm.count allowed

    whole : ℕ
    whole = part (made z) f firm.count numbers

    paid : ℕ → ℤ
    paid y = sum_over (payments firm.buys (prices_at z.trades (numbered z prices) f)) firm.count y

    all : ℕ → ℤ
    all y = sum_over (payments firm.buys (prices_at z.trades (scaled_price z.contracts z.scale (numbered z prices)) f))
        firm.count y

    tax : ℕ → ℤ
    tax y = sum_over (λ k. negsuc 0) firm.count y

    levied_tax : ℕ → ℤ
    levied_tax y =
        sum_over (levy (part z.trades f firm.count (unsigned (length z.trades) z.contracts)) z.tax) firm.count y

    cover : IsCover
        (plus_sum (z.over *ℤ z.scale)
        (payments firm.buys (prices_at z.trades (scaled_price z.contracts z.scale (numbered z prices)) f)) firm)
        (plus_sum z.scale (payments firm.buys (prices_at z.trades (numbered z prices) f))
        (reduced z.trades z.over z.contracts f firm)).worth (signed_bundle z.trades z.contracts f firm)
    cover = firm_cover z.firms z.trades z.network z.over z.contracts z.scale from_zero (numbered z prices) f firm is
        (z.own_bundles f firm is)

    best : (value : ℤ)
        × IsBest (plus_sum (pos 1)
        (payments firm.buys (prices_at z.trades (scaled_price z.contracts z.scale (numbered z prices)) f))
        (among (part (made z) f firm.count numbers) (party z f firm))).worth
        (part (made z) f firm.count on) value
    best =
        let old = equilibrium f (among (part (made z) f firm.count numbers) (party z f firm))
        (admitted_is (made z) numbers (parties z) f (party z f firm) (party_at z f firm is)) in
        favoured_best (pos 1) (among (part (made z) f firm.count numbers) (party z f firm))
        (payments firm.buys (prices_at z.trades (scaled_price z.contracts z.scale (numbered z prices)) f))
        (payments firm.buys (prices_at (made z) prices f)) (part (made z) f firm.count on) old.0 old.1
        (firm_favoured z allowed numbers on prices admitting equilibrium f firm is)

    mine : (w : ℤ) × (firm.worth (part (made z) f firm.count on) ≡ Some w)
        × (pos 1 *ℤ ((z.over *ℤ z.scale) *ℤ w +ℤ levied_tax (part (made z) f firm.count on))
        +ℤ all (part (made z) f firm.count on) ≡ best.0)
    mine =
        let first = option_map-some (λ w. pos 1 *ℤ w +ℤ all (part (made z) f firm.count on))
        ((among whole (party z f firm)).worth (part (made z) f firm.count on)) best.0 best.1.is in
        let second = (among_parts whole (party z f firm) (part (made z) f firm.count on) first.0 first.1).1 in
        let third = option_map-some (λ w. (z.over *ℤ z.scale) *ℤ w +ℤ levied_tax (part (made z) f firm.count on))
        (firm.worth (part (made z) f firm.count on)) first.0 second in
        (third.0, third.1, ap (λ (w : ℤ). pos 1 *ℤ w +ℤ all (part (made z) f firm.count on)) third.2 ∙ first.2)

    b_within : part (made z) f firm.count on < 2 ^ firm.count
    b_within = set_of_within (λ k. has on (own (made z) f k)) firm.count

    b_tax : levied_tax (part (made z) f firm.count on) ≡ tax
        (part z.trades f firm.count (unsigned_part z.contracts (length z.trades) on))
    b_tax = taxes z one f firm is (part (made z) f firm.count on) b_within ∙ ap tax (part_beside z f on firm is)

    covered : (v : ℤ)
        × ((plus_sum z.scale (payments firm.buys (prices_at z.trades (numbered z prices) f))
        (reduced z.trades z.over z.contracts f firm)).worth
        (part z.trades f firm.count (unsigned_part z.contracts (length z.trades) on)) ≡ Some v)
        × (((z.over *ℤ z.scale) *ℤ mine.0 +ℤ all (part (made z) f firm.count on)) ≤ℤ v)
    covered =
        let there = cover.covers (part (made z) f firm.count on) ((z.over *ℤ z.scale) *ℤ mine.0
        +ℤ all (part (made z) f firm.count on))
        (ap (option_map (λ w. (z.over *ℤ z.scale) *ℤ w +ℤ all (part (made z) f firm.count on))) mine.1) in (
          there.0,
          ap (plus_sum z.scale (payments firm.buys (prices_at z.trades (numbered z prices) f))
              (reduced z.trades z.over z.contracts f firm)).worth (sym (part_beside z f on firm is)) ∙ there.1,
          there.2,
        )

    here : (r : ℤ)
        × ((reduced z.trades z.over z.contracts f firm).worth
        (part z.trades f firm.count (unsigned_part z.contracts (length z.trades) on)) ≡ Some r)
        × (z.scale *ℤ r +ℤ paid (part z.trades f firm.count (unsigned_part z.contracts (length z.trades) on))
        ≡ covered.0)
    here = option_map-some (λ w. z.scale *ℤ w
        +ℤ paid (part z.trades f firm.count (unsigned_part z.contracts (length z.trades) on)))
        ((reduced z.trades z.over z.contracts f firm).worth
        (part z.trades f firm.count (unsigned_part z.contracts (length z.trades) on))) covered.0 covered.1

    -- a trade that is on is allowed
    x_inside : minus (part z.trades f firm.count (unsigned_part z.contracts (length z.trades) on))
        (part z.trades f firm.count allowed) ≡ 0
    x_inside = part_inside z.trades f firm.count allowed (unsigned_part z.contracts (length z.trades) on)
        (on_inside z allowed numbers on admitting inside)

    value : (y : ℕ) (r : ℤ) → (reduced z.trades z.over z.contracts f firm).worth y ≡ Some r → minus y limit ≡ 0
        → (plus_sum (pos 1) (payments firm.buys (prices_at z.trades (numbered z prices) f))
        (among limit (taxed z.scale (reduced z.trades z.over z.contracts f firm)))).worth y
        ≡ Some (pos 1 *ℤ (z.scale *ℤ r +ℤ tax y) +ℤ paid y)
    value y r y_is y_inside =
        ap (option_map (λ w. pos 1 *ℤ w +ℤ paid y)) (among_inside limit
        (taxed z.scale (reduced z.trades z.over z.contracts f firm)) y y_inside
        ∙ ap (option_map (λ w. z.scale *ℤ w +ℤ tax y)) y_is)

    -- a bundle whose unsigned part is allowed is admitted
    reach_inside : (y w : ℕ) → w < 2 ^ firm.count → minus w given ≡ y → minus y limit ≡ 0 → minus w whole ≡ 0
    reach_inside y w within beside y_inside = minus-zero_from w whole (λ k there.
        let below = has_below w firm.count k within there in
        has-part (made z) f firm.count numbers k below ∙ by_case k below there
        (is_signed z.contracts (own z.trades f k)) refl)
      where
        by_case : (k : ℕ) → k < firm.count → has w k ≡ true → (s : Bool) → is_signed z.contracts (own z.trades f k) ≡ s
            → has numbers (own (made z) f k) ≡ true
        by_case k below there true signed = half_admitted z allowed numbers admitting f k firm is below signed
        by_case k below there false free =
            ap (has numbers) (own_free z f k firm is below free)
            ∙ admitting.each (own z.trades f k) (z.network.whole f k firm is below) free
            (sym (has-part z.trades f firm.count allowed k below) ∙ has_from_minus-zero y limit k y_inside
            (ap (λ (v : ℕ). has v k) (sym beside) ∙ has-minus w given k
            ∙ ap₂ (λ (a b : Bool). a && not b) there (has-signed_bundle z.firms z.trades z.network z.contracts f k
            firm is below ∙ free)))

    less : (w aw lw tw r p u v w' ab lb tb r' p' c d : ℤ) → r +ℤ tw ≡ u → pos 1 *ℤ u +ℤ p ≡ v → w +ℤ aw ≡ r +ℤ p
        → (pos 1 *ℤ (w +ℤ lw) +ℤ aw) ≤ℤ d → lw ≡ tw
        → pos 1 *ℤ (w' +ℤ lb) +ℤ ab ≡ d → lb ≡ tb → (w' +ℤ ab) ≤ℤ c → r' +ℤ p' ≡ c → v ≤ℤ (pos 1 *ℤ (r' +ℤ tb) +ℤ p')
    less w aw lw tw r p u v w' ab lb tb r' p' c d plain worth own_worth step reach_tax mine b_tax covered here =
        omega (arith, ints, plain, worth, own_worth, step, reach_tax, mine, b_tax, covered, here)

pub seen : (z : Setting) → z.tax ≡ pos 1 → pos 0 ≤ℤ z.scale → (allowed numbers on : ℕ) (prices : ℕ → ℤ)
    → IsAdmitting z allowed numbers → IsSubset on numbers
    → IsEquilibrium (admitted (made z) numbers (parties z)) (made z) (pos 1) on prices
    → IsTaxedEquilibrium z.firms z.trades z.over z.contracts z.scale allowed
    (unsigned_part z.contracts (length z.trades) on) (numbered z prices)
seen z one from_zero allowed numbers on prices admitting inside equilibrium = record {
  inside = on_inside z allowed numbers on admitting inside;
  equilibrium = λ f other other_is.
      let first = admitted_from_firm z.trades allowed (taxed_firms z.firms z.trades z.over z.contracts z.scale) f other
      other_is in
      let second = taxed_from z.scale (reduced_firms z.trades z.over z.contracts z.firms) f first.0 first.1 in
      let third = reduced_from_firm z.trades z.over z.contracts z.firms f second.0 second.1 in
      let same : other ≡ among (part z.trades f third.0.count allowed)
      (taxed z.scale (reduced z.trades z.over z.contracts f third.0)) =
      first.2 ∙ ap (λ (w : Firm). among (part z.trades f w.count allowed) w) (second.2 ∙ ap (taxed z.scale) third.2) in
      subst (λ (w : Firm). HasBest z.trades (pos 1) (unsigned_part z.contracts (length z.trades) on) (numbered z prices)
      f w) (sym same)
      (firm_seen z one from_zero allowed numbers on prices admitting inside equilibrium f third.0 third.1);
}
