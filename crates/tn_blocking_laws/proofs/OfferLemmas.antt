-- The trades of a taxed equilibrium that are on block the outcome.
use Rattle.std.proofs.Common.{◌≡◌, ℕ, zero, suc, ◌+◌, ◌<◌, ◌≤◌, Bool, true, false, not, ◌&&◌, if◌then◌else◌, List, length, slice_get, Some, option_map, refl, sym, ap, ap₂, ◌∙◌, subst, arith, inl, inr, ◌⊎◌, ℤ, pos, negsuc, neg_ℤ, ◌+ℤ◌, ◌*ℤ◌, ◌≤ℤ◌}
use Rattle.std.proofs.Math.IntN.{*ℤ_comm}
use Rattle.std.proofs.lemmas.Int.{ints}
use Rattle.std.proofs.lemmas.Bool.{cases_Bool, cases_eq, and_parts, lt-ltb}
use Rattle.std.proofs.lemmas.List.{length-map}
use Rattle.std.proofs.lemmas.Option.{same_Some, slice_get-map}
use Rattle.tn_base.specs.Sets.{has, minus, size_below, sum_over}
use Rattle.tn_base.specs.Firm.{Firm, HasOwnBundles, plus_sum, payments, among, IsBest}
use Rattle.tn_base.proofs.SetLemmas.{has-set_of, has-minus, has_below, set_of_within, minus-zero_from}
use Rattle.tn_base.proofs.SumLemmas.{times-plus, sum_over-same_terms, sum_over-times}
use Rattle.tn_firm_laws.proofs.KeepLemmas.{option_map-some}
use Rattle.tn_model.specs.declared.ends.Ends.{Ends}
use Rattle.tn_model.specs.declared.contract.Contract.{Contract}
use Rattle.tn_model.specs.Network.{own, part}
use Rattle.tn_market.specs.Best.{IsSubset}
use Rattle.tn_market.specs.Equilibrium.{prices_at}
use Rattle.tn_model.specs.Choices.{is_traded, bundle_by, counted, together, IsFeasible, IsChoice, Blocks}
use Rattle.tn_market.specs.Signed.{is_signed, signed_price, signed_bundle, contract_utility}
use Rattle.tn_market.specs.Reduced.{reduced, reduced_firms}
use Rattle.tn_market.proofs.GraphLemmas.{has-part}
use Rattle.tn_network_laws.proofs.AdmittedLemmas.{admitted_is, among_inside, among_parts}
use Rattle.tn_network_laws.proofs.PartLemmas.{own_contract, traded_at, IsTradedAt}
use Rattle.tn_network_laws.proofs.PoolLemmas.{append_cases, append_behind, counted_at, offer_in_pool}
use Rattle.tn_network_laws.proofs.StabilityLemmas.{times-times, times-neg}
use Rattle.tn_network_laws.proofs.WelfareLemmas.{le_from_times}
use Rattle.tn_outcome_laws.specs.Rational.{IsRationalOutcome}
use Rattle.tn_outcome_laws.proofs.SignedLemmas.{contract_on, signed_by, price_of_contract, has-signed_bundle}
use Rattle.tn_outcome_laws.proofs.RationalLemmas.{IsSigner, bundle_signed, choice_to_bundles, between_signed}
use Rattle.tn_outcome_laws.proofs.CompletionLemmas.{reduced_is}
use Rattle.tn_blocking_laws.specs.Taxed.{taxed, taxed_firms, IsTaxedEquilibrium, AreOffers}
use Rattle.tn_blocking_laws.proofs.TaxLemmas.{tax_is, taxed_is}
use Rattle.tn_blocking_laws.proofs.ScaleLemmas.{IsCover, firm_cover, scaled_price}

-- ---- the pool of offers and outcome

pub record IsOffer (firms : List Firm) (trades : List Ends) (over : ℤ) (contracts : List Contract) (scale : ℤ)
    (allowed on : ℕ) (prices : ℕ → ℤ) (offers : List Contract) : Type 0 where
  pub outcome : IsRationalOutcome firms trades over contracts
  pub from_zero : pos 0 ≤ℤ scale
  pub taxed_equilibrium : IsTaxedEquilibrium firms trades over contracts scale allowed on prices
  pub are : AreOffers trades contracts on prices offers

-- a contract of the pool is an offer, or one of the outcome
pool_cases : (over times : ℤ) (contracts offers : List Contract) (k : ℕ) (contract : Contract)
    → slice_get (together times offers over contracts) k ≡ Some contract
    → ((offer : Contract) × (slice_get offers k ≡ Some offer) × (contract.trade ≡ offer.trade)
    × (contract.price ≡ over *ℤ offer.price))
    ⊎ ((place : ℕ) × (signed : Contract) × (k ≡ length offers + place) × (slice_get contracts place ≡ Some signed)
    × (contract.trade ≡ signed.trade) × (contract.price ≡ times *ℤ signed.price))
pool_cases over times contracts offers k contract is =
    elim (append_cases (counted over offers) (counted times contracts) k contract is) [
      | inl front ↦
          let from = counted_at over offers k contract front.0 in
          inl (from.0, from.1, ap (λ (c : Contract). c.trade) from.2, ap (λ (c : Contract). c.price) from.2)
      | inr behind ↦
          let from = counted_at times contracts behind.place contract behind.is in
          let at = behind.at in
          let wide : length (counted over offers) ≡ length offers =
          length-map offers (λ (c : Contract). record { trade = c.trade; price = over *ℤ c.price }) in
          inr (
            behind.place,
            from.0,
            omega (arith, at, wide),
            from.1,
            ap (λ (c : Contract). c.trade) from.2,
            ap (λ (c : Contract). c.price) from.2,
          )
    ]

-- no two contracts of the pool are on one trade
pool_feasible : (trades : List Ends) (over times : ℤ) (contracts offers : List Contract) → IsFeasible trades contracts
    → IsFeasible trades offers
    → ((k : ℕ) (offer : Contract) → slice_get offers k ≡ Some offer → is_signed contracts offer.trade ≡ false)
    → IsFeasible trades (together times offers over contracts)
pool_feasible trades over times contracts offers outcome feasible unsigned = record {
  known = λ k contract is. elim (pool_cases over times contracts offers k contract is) [
    | inl front ↦ let below = feasible.known k front.0 front.1 in let same = front.2 in omega (arith, below, same)
    | inr behind ↦ let below = outcome.known behind.0 behind.1 behind.3 in let same = behind.4 in
        omega (arith, below, same)
  ];
  once = λ j k one other one_is other_is same.
      elim (pool_cases over times contracts offers j one one_is) [
        | inl first ↦ elim (pool_cases over times contracts offers k other other_is) [
          | inl second ↦ feasible.once j k first.0 second.0 first.1 second.1 (sym first.2 ∙ same ∙ second.2)
          | inr second ↦ absurd (apart j first.0 first.1 second.0 second.1 second.3 (sym first.2 ∙ same ∙ second.4))
        ]
        | inr first ↦ elim (pool_cases over times contracts offers k other other_is) [
          | inl second ↦ absurd (apart k second.0 second.1 first.0 first.1 first.3 (sym second.2 ∙ sym same ∙ first.4))
          | inr second ↦
              let places =
              outcome.once first.0 second.0 first.1 second.1 first.3 second.3 (sym first.4 ∙ same ∙ second.4) in
              let a = first.2 in
              let b = second.2 in
              omega (arith, a, b, places)
        ]
      ];
}
  where
    apart : (j : ℕ) (offer : Contract) → slice_get offers j ≡ Some offer → (place : ℕ) (signed : Contract)
        → slice_get contracts place ≡ Some signed → offer.trade ≡ signed.trade → ⊥
    apart j offer is place signed there same =
        let yes = signed_by contracts place offer.trade signed there (sym same) in
        let no = unsigned j offer is in
        cc (yes, no)

-- ---- sets

member_le : (a b : Bool) → (a ≡ true → b ≡ true) → ◌≤◌ (if a then 1 else 0) (if b then 1 else 0)
member_le true true h = omega arith
member_le true false h = absurd (let no = h refl in cc no)
member_le false b h = omega arith

pub fewer : (n x z : ℕ) → IsSubset x z → size_below n x ≤ size_below n z
unfolding size_below
fewer zero x z inside = omega arith
fewer (suc n) x z inside =
    let rest = fewer n x z inside in
    let last = member_le (has x n) (has z n) (inside n) in
    omega (arith, rest, last)

-- a part of a set with as many members is the set
pub whole_part : (n x z : ℕ) → IsSubset x z → size_below n z ≤ size_below n x → (k : ℕ) → k < n → has z k ≡ true
    → has x k ≡ true
unfolding size_below
whole_part zero x z inside many k below there = absurd (omega (arith, below))
whole_part (suc n) x z inside many k below there =
    let less = fewer n x z inside in
    let last = member_le (has x n) (has z n) (inside n) in
    elim (cases_Bool (has x k)) [
      | inl h ↦ h
      | inr away ↦ elim (cases_eq k n) [
        | inl same ↦
            let none : ◌≡◌ {A = ℕ} (if has x n then 1 else 0) 0 =
            ap (λ (b : Bool). if b then 1 else 0) (ap (has x) (sym same) ∙ away) in
            let one : ◌≡◌ {A = ℕ} (if has z n then 1 else 0) 1 =
            ap (λ (b : Bool). if b then 1 else 0) (ap (has z) (sym same) ∙ there) in
            absurd (omega (arith, many, less, none, one))
        | inr apart ↦ whole_part n x z inside (omega (arith, many, last)) k (omega (arith, below, apart)) there
      ]
    ]

-- ---- one firm

-- the prices of the pool are those of the offers and of the outcome's contracts, over the product of the denominators
pool_price : (firms : List Firm) (trades : List Ends) (over : ℤ) (contracts : List Contract) (scale : ℤ)
    (allowed on : ℕ) (prices : ℕ → ℤ) (offers : List Contract)
    → IsOffer firms trades over contracts scale allowed on prices offers → (t : ℕ)
    → is_signed (together (over *ℤ scale) offers over contracts) t ≡ true
    → (signed_price (together (over *ℤ scale) offers over contracts) t ≡ over *ℤ scaled_price contracts scale prices t)
    × (is_signed contracts t ≡ false → has on t ≡ true)
pool_price firms trades over contracts scale allowed on prices offers offered t signed =
    let found = contract_on (together (over *ℤ scale) offers over contracts) t signed in
    let feasible =
    pool_feasible trades over (over *ℤ scale) contracts offers offered.outcome.feasible offered.are.feasible
    offered.are.unsigned in
    let priced = ap (signed_price (together (over *ℤ scale) offers over contracts)) (sym found.trade)
    ∙ price_of_contract (together (over *ℤ scale) offers over contracts) feasible.once found.place found.contract
    found.is in
    elim (pool_cases over (over *ℤ scale) contracts offers found.place found.contract found.is) [
      | inl front ↦
          let trade : t ≡ front.0.trade = sym found.trade ∙ front.2 in
          let unsigned = ap (is_signed contracts) trade ∙ offered.are.unsigned found.place front.0 front.1 in (
            priced ∙ front.3 ∙ ap (λ (z : ℤ). over *ℤ z) (offered.are.priced found.place front.0 front.1
                ∙ ap prices (sym trade)
                ∙ sym (ap (λ (b : Bool). if b then scale *ℤ signed_price contracts t else prices t) unsigned)),
            λ away. ap (has on) trade ∙ offered.are.taken found.place front.0 front.1,
          )
      | inr behind ↦
          let trade : t ≡ behind.1.trade = sym found.trade ∙ behind.4 in
          let there = signed_by contracts behind.0 t behind.1 behind.3 (sym trade) in (
            priced ∙ behind.5
                ∙ times-times over scale behind.1.price ∙ swapped over scale behind.1.price
                ∙ ap (λ (z : ℤ). over *ℤ (scale *ℤ z)) (sym (ap (signed_price contracts) trade
                ∙ price_of_contract contracts offered.outcome.feasible.once behind.0 behind.1 behind.3))
                ∙ ap (λ (z : ℤ). over *ℤ z) (sym (ap (λ (b : Bool). if b then scale *ℤ signed_price contracts t
                else prices t) there)),
            λ away. absurd (cc (there, away)),
          )
    ]
  where
    swapped : (a b c : ℤ) → b *ℤ (a *ℤ c) ≡ a *ℤ (b *ℤ c)
    swapped a b c = sym (times-times a b c) ∙ ap (λ (z : ℤ). z *ℤ c) (*ℤ_comm a b) ∙ times-times b a c

-- so a bundle of the pool's trades has its utility at those prices, counted `over` times
pool_utility : (firms : List Firm) (trades : List Ends) (over : ℤ) (contracts : List Contract) (scale : ℤ)
    (allowed on : ℕ) (prices : ℕ → ℤ) (offers : List Contract)
    → IsOffer firms trades over contracts scale allowed on prices offers → (f : ℕ) (firm : Firm)
    → slice_get firms f ≡ Some firm
    → (y : ℕ) → IsSubset y (signed_bundle trades (together (over *ℤ scale) offers over contracts) f firm) → (u : ℤ)
    → (plus_sum (over *ℤ scale) (payments firm.buys (prices_at trades (scaled_price contracts scale prices) f))
    firm).worth y ≡ Some u
    → contract_utility trades (over *ℤ (over *ℤ scale)) (together (over *ℤ scale) offers over contracts) f firm y
    ≡ Some (over *ℤ u)
pool_utility firms trades over contracts scale allowed on prices offers offered f firm is y inside u y_is =
    let worth = option_map-some (λ w. (over *ℤ scale) *ℤ w +ℤ paid y) (firm.worth y) u y_is in
    ap (option_map (λ w. (over *ℤ (over *ℤ scale)) *ℤ w
    +ℤ sum_over (payments firm.buys (prices_at trades (signed_price pool) f)) firm.count y)) worth.1
    ∙ ap (λ (z : ℤ). Some z) (add _ _ _ _ _ (sums worth.0 worth.1) (times-times (over *ℤ scale) over worth.0)
    (ap (λ (z : ℤ). z *ℤ worth.0) (*ℤ_comm over (over *ℤ scale)))
    (times-plus over ((over *ℤ scale) *ℤ worth.0) (paid y)) (ap (λ (z : ℤ). over *ℤ z) worth.2))
  where
    pool : List Contract
    pool = together (over *ℤ scale) offers over contracts

    paid : ℕ → ℤ
    paid z = sum_over (payments firm.buys (prices_at trades (scaled_price contracts scale prices) f)) firm.count z

    by_side : (b : Bool) (p q : ℤ) → p ≡ over *ℤ q → (if b then neg_ℤ p else p) ≡ over *ℤ (if b then neg_ℤ q else q)
    by_side true p q same = ap neg_ℤ same ∙ sym (times-neg over q)
    by_side false p q same = same

    sums : (w : ℤ) → firm.worth y ≡ Some w
        → sum_over (payments firm.buys (prices_at trades (signed_price (together (over *ℤ scale) offers over contracts))
        f)) firm.count y ≡ over *ℤ paid y
    sums w w_is =
        sum_over-same_terms
        (payments firm.buys (prices_at trades (signed_price (together (over *ℤ scale) offers over contracts)) f))
        (λ k. over *ℤ payments firm.buys (prices_at trades (scaled_price contracts scale prices) f) k) y firm.count
        (λ k below there. by_side (has firm.buys k) _ _
        (pool_price firms trades over contracts scale allowed on prices offers offered (own trades f k)
        (sym (has-signed_bundle firms trades offered.outcome.network (together (over *ℤ scale) offers over contracts) f
        k firm is below) ∙ inside k there)).0)
        ∙ sum_over-times over (payments firm.buys (prices_at trades (scaled_price contracts scale prices) f)) firm.count
        y

    add : (a s p c d : ℤ) → s ≡ p → c ≡ d → a ≡ c → {e u : ℤ} → e ≡ d +ℤ p → e ≡ u → a +ℤ s ≡ u
    add a s p c d sum product same {e} {u} parts is = omega (arith, ints, sum, product, same, parts, is)

-- a position of the bundle of a part is traded by it
traded_in : (firms : List Firm) (trades : List Ends) (pool : List Contract) (x f : ℕ) (firm : Firm) (k : ℕ)
    → k < firm.count → has (bundle_by trades f firm.count pool x) k ≡ true
    → IsTradedAt pool x (own trades f k) (length pool)
traded_in firms trades pool x f firm k below there =
    traded_at pool x (own trades f k) (length pool)
    (sym (has-set_of (λ j. is_traded pool x (own trades f j) (length pool)) firm.count k
    ∙ ap (λ (b : Bool). b && is_traded pool x (own trades f k) (length pool)) (lt-ltb k firm.count below)) ∙ there)

-- what is worth at least as much, and less with its tax, has at least as many trades
less_tax : (a b p q t s c d v : ℤ) (m n : ℕ) → a +ℤ p ≡ v → c ≤ℤ v → (b +ℤ q) ≤ℤ c → pos 1 *ℤ (b +ℤ s) +ℤ q ≡ d
    → (pos 1 *ℤ (a +ℤ t) +ℤ p) ≤ℤ d
    → t +ℤ pos m ≡ pos 0 → s +ℤ pos n ≡ pos 0 → n ≤ m
less_tax a b p q t s c d v m n is covered chosen here most tax_m tax_n =
    omega (arith, ints, is, covered, chosen, here, most, tax_m, tax_n)

-- a choice from the pool has all trades that are on
takes_all : (firms : List Firm) (trades : List Ends) (over : ℤ) (contracts : List Contract) (scale : ℤ) (allowed on : ℕ)
    (prices : ℕ → ℤ) (offers : List Contract)
    → (offered : IsOffer firms trades over contracts scale allowed on prices offers) → (f : ℕ) (firm : Firm)
    → slice_get firms f ≡ Some firm → (x : ℕ)
    → IsChoice trades (over *ℤ (over *ℤ scale)) f firm (together (over *ℤ scale) offers over contracts) x
    → (k : ℕ) → has (part trades f firm.count on) k ≡ true
    → has (bundle_by trades f firm.count (together (over *ℤ scale) offers over contracts) x) k ≡ true
takes_all firms trades over contracts scale allowed on prices offers offered f firm is x choice k there =
    (and_parts (has y k) (not (has given k)) (sym (has-minus y given k)
    ∙ whole_part firm.count (minus y given) (part trades f firm.count on) rest_inside enough k
    (has_below (part trades f firm.count on) firm.count k (set_of_within (λ j. has on (own trades f j)) firm.count)
    there) there)).0
  where
    pool : List Contract
    pool = together (over *ℤ scale) offers over contracts

    given : ℕ
    given = signed_bundle trades contracts f firm

    y : ℕ
    y = bundle_by trades f firm.count (together (over *ℤ scale) offers over contracts) x

    own_bundles : HasOwnBundles firm
    own_bundles = (offered.outcome.meet f firm is).0

    signer : IsSigner firms trades (together (over *ℤ scale) offers over contracts) f firm
    signer = record {
      network = offered.outcome.network;
      feasible = pool_feasible trades over (over *ℤ scale) contracts offers offered.outcome.feasible
          offered.are.feasible offered.are.unsigned;
      is = is;
    }

    cover : IsCover
        (plus_sum (over *ℤ scale) (payments firm.buys (prices_at trades (scaled_price contracts scale prices) f)) firm)
        (plus_sum scale (payments firm.buys (prices_at trades prices f)) (reduced trades over contracts f firm)).worth
        (signed_bundle trades contracts f firm)
    cover = firm_cover firms trades offered.outcome.network over contracts scale offered.from_zero prices f firm is
        own_bundles

    -- what the firm gets for a bundle of unsigned trades at the prices, and the tax
    paid : ℕ → ℤ
    paid z = sum_over (payments firm.buys (prices_at trades prices f)) firm.count z

    tax : ℕ → ℤ
    tax z = sum_over (λ j. negsuc 0) firm.count z

    limit : ℕ
    limit = part trades f firm.count allowed

    best : (value : ℤ)
        × IsBest (plus_sum (pos 1) (payments firm.buys (prices_at trades prices f))
        (among (part trades f firm.count allowed) (taxed scale (reduced trades over contracts f firm)))).worth
        (part trades f firm.count on) value
    best = offered.taxed_equilibrium.equilibrium f (among (part trades f firm.count allowed)
        (taxed scale (reduced trades over contracts f firm)))
        (admitted_is trades allowed (taxed_firms firms trades over contracts scale) f
        (taxed scale (reduced trades over contracts f firm))
        (taxed_is scale (reduced_firms trades over contracts firms) f (reduced trades over contracts f firm)
        (reduced_is trades over contracts firms f firm is)))

    -- the reduced worth of what is on, and its value with the tax
    here : (r : ℤ) × ((reduced trades over contracts f firm).worth (part trades f firm.count on) ≡ Some r)
        × (pos 1 *ℤ (scale *ℤ r +ℤ tax (part trades f firm.count on)) +ℤ paid (part trades f firm.count on) ≡ best.0)
    here =
        let first = option_map-some (λ w. pos 1 *ℤ w +ℤ paid (part trades f firm.count on))
        ((among limit (taxed scale (reduced trades over contracts f firm))).worth (part trades f firm.count on))
        best.0 best.1.is in
        let second =
        (among_parts limit (taxed scale (reduced trades over contracts f firm)) (part trades f firm.count on)
        first.0 first.1).1 in
        let third = option_map-some (λ w. scale *ℤ w +ℤ tax (part trades f firm.count on))
        ((reduced trades over contracts f firm).worth (part trades f firm.count on)) first.0 second in
        (third.0, third.1, ap (λ (z : ℤ). pos 1 *ℤ z +ℤ paid (part trades f firm.count on)) third.2 ∙ first.2)

    -- a bundle of the firm with what is on that reaches it
    reach : (b : ℕ) × (minus b given ≡ part trades f firm.count on)
        × ((plus_sum (over *ℤ scale) (payments firm.buys (prices_at trades (scaled_price contracts scale prices) f))
        firm).worth b ≡ Some (scale *ℤ here.0 +ℤ paid (part trades f firm.count on)))
    reach = cover.reached (part trades f firm.count on) (scale *ℤ here.0 +ℤ paid (part trades f firm.count on))
        (ap (option_map (λ w. scale *ℤ w +ℤ paid (part trades f firm.count on))) here.1)

    -- a trade that is on, and one that is signed, is one of the pool
    pooled : (t : ℕ) → t < length trades → has on t ≡ true → is_signed pool t ≡ true
    pooled t below on_t =
        let found = offered.are.each t below on_t in
        signed_by pool found.0 t _ (offer_in_pool (over *ℤ scale) over offers contracts found.0 found.1 found.2) found.3

    signed_pooled : (t : ℕ) → is_signed contracts t ≡ true → is_signed pool t ≡ true
    signed_pooled t signed =
        let found = contract_on contracts t signed in
        signed_by pool (length offers + found.place) t (record {
          trade = found.contract.trade;
          price =
              (over *ℤ scale) *ℤ found.contract.price;
        })
        (append_behind (counted over offers) (counted (over *ℤ scale) contracts) found.place (length offers
        + found.place) _
        (ap (λ (n : ℕ). n + found.place)
        (sym (length-map offers (λ (c : Contract). record { trade = c.trade; price = over *ℤ c.price }))))
        (slice_get-map (λ (c : Contract). record { trade = c.trade; price = (over *ℤ scale) *ℤ c.price }) contracts
        found.place
        ∙ ap (option_map (λ (c : Contract). record { trade = c.trade; price = (over *ℤ scale) *ℤ c.price })) found.is))
        found.trade

    below_of : (b : ℕ) (u : ℤ)
        → (plus_sum (over *ℤ scale) (payments firm.buys (prices_at trades (scaled_price contracts scale prices) f))
        firm).worth b ≡ Some u → (j : ℕ) → has b j ≡ true → j < firm.count
    below_of b u b_is j member =
        let worth = option_map-some (λ w. (over *ℤ scale) *ℤ w
        +ℤ sum_over (payments firm.buys (prices_at trades (scaled_price contracts scale prices) f)) firm.count b)
        (firm.worth b) u b_is in
        has_below b firm.count j (own_bundles b worth.0 worth.1) member

    reach_inside : IsSubset reach.0 (signed_bundle trades (together (over *ℤ scale) offers over contracts) f firm)
    reach_inside j member =
        let below = below_of reach.0 _ reach.2 j member in
        let trade_below = offered.outcome.network.whole f j firm is below in
        has-signed_bundle firms trades offered.outcome.network pool f j firm is below
        ∙ elim (cases_Bool (has given j)) [
          | inl signed ↦
              signed_pooled (own trades f j)
              (sym (has-signed_bundle firms trades offered.outcome.network contracts f j firm is below) ∙ signed)
          | inr away ↦ pooled (own trades f j) trade_below (sym (has-part trades f firm.count on j below)
              ∙ (ap (λ (z : ℕ). has z j) (sym reach.1) ∙ has-minus reach.0 given j
              ∙ ap₂ (λ (a b : Bool). a && not b) member away))
        ]

    -- the choice is as good as that bundle
    chosen : (v : ℤ)
        × ((plus_sum (over *ℤ scale) (payments firm.buys (prices_at trades (scaled_price contracts scale prices) f))
        firm).worth y ≡ Some v)
        × ((scale *ℤ here.0 +ℤ paid (part trades f firm.count on)) ≤ℤ v)
    chosen =
        let bundles = choice_to_bundles firms trades (over *ℤ (over *ℤ scale)) pool f firm signer x choice in
        let most = bundles.most reach.0 (over *ℤ (scale *ℤ here.0 +ℤ paid (part trades f firm.count on)))
        (between_signed reach.0 (signed_bundle trades pool f firm) reach_inside)
        (pool_utility firms trades over contracts scale allowed on prices offers offered f firm is reach.0 reach_inside
        _ reach.2) in
        let worth = option_map-some (λ w. (over *ℤ (over *ℤ scale)) *ℤ w
        +ℤ sum_over (payments firm.buys (prices_at trades (signed_price pool) f)) firm.count y) (firm.worth y)
        choice.value bundles.is in
        let value = (over *ℤ scale) *ℤ worth.0
        +ℤ sum_over (payments firm.buys (prices_at trades (scaled_price contracts scale prices) f)) firm.count y in
        let y_is : (plus_sum (over *ℤ scale) (payments firm.buys
        (prices_at trades (scaled_price contracts scale prices) f)) firm).worth y ≡ Some value =
        ap (option_map (λ w. (over *ℤ scale) *ℤ w +ℤ sum_over
        (payments firm.buys (prices_at trades (scaled_price contracts scale prices) f)) firm.count y)) worth.1 in
        let same = same_Some _ _ (sym bundles.is ∙ pool_utility firms trades over contracts scale allowed on prices
        offers offered f firm is y
        (bundle_signed firms trades pool f firm signer x) value y_is) in (
          value,
          y_is,
          le_from_times over (scale *ℤ here.0 +ℤ paid (part trades f firm.count on)) value offered.outcome.from_one
              (subst (λ (z : ℤ). (over *ℤ (scale *ℤ here.0 +ℤ paid (part trades f firm.count on))) ≤ℤ z) same most),
        )

    rest_inside : IsSubset (minus y given) (part trades f firm.count on)
    rest_inside j member =
        let parts = and_parts (has y j) (not (has given j)) (sym (has-minus y given j) ∙ member) in
        let below = below_of y chosen.0 chosen.1 j parts.0 in
        let signed = sym (has-signed_bundle firms trades offered.outcome.network pool f j firm is below)
        ∙ bundle_signed firms trades pool f firm signer x j parts.0 in
        has-part trades f firm.count on j below
        ∙ (pool_price firms trades over contracts scale allowed on prices offers offered (own trades f j) signed).1
        (sym (has-signed_bundle firms trades offered.outcome.network contracts f j firm is below)
        ∙ turned (has given j) parts.1)
      where
        turned : (b : Bool) → not b ≡ true → b ≡ false
        turned true e = absurd (cc e)
        turned false e = refl

    -- but it has at most what is on has, less the taxes that it saves
    enough : size_below firm.count (part trades f firm.count on) ≤ size_below firm.count (minus y given)
    enough =
        let covered = cover.covers y chosen.0 chosen.1 in
        let worth = option_map-some (λ w. scale *ℤ w +ℤ paid (minus y given))
        ((reduced trades over contracts f firm).worth (minus y given)) covered.0 covered.1 in
        let inside : minus (minus y given) limit ≡ 0 = minus-zero_from (minus y given) limit (λ j member.
        let on_j = rest_inside j member in
        let below = has_below (part trades f firm.count on) firm.count j
        (set_of_within (λ i. has on (own trades f i)) firm.count) on_j in
        has-part trades f firm.count allowed j below ∙ offered.taxed_equilibrium.inside (own trades f j)
        (sym (has-part trades f firm.count on j below) ∙ on_j)) in
        let taxed_is_there =
        among_inside limit (taxed scale (reduced trades over contracts f firm)) (minus y given) inside
        ∙ ap (option_map (λ w. scale *ℤ w +ℤ tax (minus y given))) worth.1 in
        let most = best.1.most (minus y given) (pos 1 *ℤ (scale *ℤ worth.0 +ℤ tax (minus y given))
        +ℤ paid (minus y given))
        (ap (option_map (λ w. pos 1 *ℤ w +ℤ paid (minus y given))) taxed_is_there) in
        less_tax (scale *ℤ worth.0) (scale *ℤ here.0) (paid (minus y given)) (paid (part trades f firm.count on))
        (tax (minus y given)) (tax (part trades f firm.count on)) chosen.0 best.0 covered.0
        (size_below firm.count (minus y given)) (size_below firm.count (part trades f firm.count on))
        worth.2 covered.2 chosen.2 here.2 most (tax_is firm.count (minus y given))
        (tax_is firm.count (part trades f firm.count on))

pub all_on_block : (firms : List Firm) (trades : List Ends) (over : ℤ) (contracts : List Contract) (scale : ℤ)
    (allowed on : ℕ) (prices : ℕ → ℤ)
    → IsRationalOutcome firms trades over contracts → pos 0 ≤ℤ scale
    → IsTaxedEquilibrium firms trades over contracts scale allowed on prices
    → (offers : List Contract) → AreOffers trades contracts on prices offers
    → Blocks firms trades over contracts (over *ℤ scale) offers
all_on_block firms trades over contracts scale allowed on prices outcome from_zero taxed_equilibrium offers are =
    record {
      some = are.some;
      feasible = are.feasible;
      unsigned = λ j k offer signed offer_is signed_is same prices_same.
          let yes = signed_by contracts k offer.trade signed signed_is (sym same) in
          let no = are.unsigned j offer offer_is in
          cc (yes, no);
      chosen = λ f firm x is choice k offer offer_is of.
          let offered : IsOffer firms trades over contracts scale allowed on prices offers = record {
            outcome = outcome;
            from_zero = from_zero;
            taxed_equilibrium = taxed_equilibrium;
            are = are;
          } in
          let place = own_contract firms trades outcome.network f firm is offer of in
          let member = has-part trades f firm.count on place.place place.inside ∙ ap (has on) place.owns
          ∙ are.taken k offer offer_is in
          let taken = takes_all firms trades over contracts scale allowed on prices offers offered f firm is x choice
          place.place member in
          let traded =
          traded_in firms trades (together (over *ℤ scale) offers over contracts) x f firm place.place place.inside
          taken in
          let feasible =
          pool_feasible trades over (over *ℤ scale) contracts offers outcome.feasible are.feasible are.unsigned in
          let pool_offer = offer_in_pool (over *ℤ scale) over offers contracts k offer offer_is in
          ap (has x) (sym (feasible.once traded.place k traded.contract _ traded.is pool_offer
          (traded.trade ∙ place.owns)))
          ∙ traded.member;
    }
