-- No contracts block an equilibrium.
use Rattle.std.proofs.Common.{◌≡◌, ◌≢◌, ℕ, zero, suc, ◌+◌, ◌<◌, Bool, true, false, ◌==◌, ◌||◌, if◌then◌else◌, List, [], ◌∷◌, length, slice_get, Some, None, Option, option_map, refl, sym, ap, ap₂, ◌∙◌, arith, inl, inr, ◌⊎◌, ℤ, pos, ◌+ℤ◌, ◌-ℤ◌, neg_ℤ, ◌*ℤ◌, ◌≤ℤ◌}
use Rattle.std.specs.Prelude.{◌<ℤ◌, unwrap_or}
use Rattle.std.proofs.lemmas.Int.{ints, by_lt_z}
use Rattle.std.proofs.lemmas.Bool.{cases_Bool, cases_lt, eqb-true, eq-eqb, ne_eqb}
use Rattle.std.proofs.lemmas.Option.{same_Some, slice_get_cases, slice_get_within}
use Rattle.tn_base.specs.Sets.{sum_over}
use Rattle.tn_base.specs.Firm.{Firm}
use Rattle.tn_base.proofs.SumLemmas.{times-plus}
use Rattle.tn_firm_laws.proofs.KeepLemmas.{option_map-some, times-le}
use Rattle.tn_model.specs.declared.ends.Ends.{Ends}
use Rattle.tn_model.specs.declared.contract.Contract.{Contract}
use Rattle.tn_model.specs.Network.{part, IsNetwork}
use Rattle.tn_market.specs.Equilibrium.{HasBest, IsEquilibrium}
use Rattle.tn_model.specs.Choices.{is_end, is_of, paid_to, payment, bundle_by, part_utility, IsPart, IsChoice, together, Blocks, IsStable, contracts_of}
use Rattle.tn_network_laws.proofs.SumLemmas.{sum_to, sum_to-same, sum_to-zero, sum_list, sum_list-plus, sum_list-same, sum_list-none, AllFrom, all_from}
use Rattle.tn_network_laws.proofs.PoolLemmas.{AreContractsOf, arrangement_has_contracts, IsPool, pool_together}
use Rattle.tn_network_laws.proofs.PartLemmas.{at_place, at_place-is, at_place-none, gain_by, paid_for, other_contract, part_paid}
use Rattle.tn_network_laws.proofs.StabilityLemmas.{times-times, paid_for-times, no_choice, signed_part, signed_member, signed_is_part, signed_bundle, late_gain, all_gains, no_gains, gains}

-- ---- one firm

-- what is known of offers that block contracts at the prices of an equilibrium, one for each of its trades
record IsBlocked (firms : List Firm) (trades : List Ends) (d : ℤ) (on : ℕ) (prices : ℕ
    → ℤ) (outcome : List Contract) (e : ℤ) (offers : List Contract) : Type 0 where
  network : IsNetwork firms trades
  equilibrium : IsEquilibrium firms trades d on prices
  contracts : AreContractsOf (length trades) on prices outcome
  from_zero : pos 0 ≤ℤ e
  blocks : Blocks firms trades d outcome e offers

-- an early contract that isn't one of the firm gains it nothing
early_gain : (trades : List Ends) (on : ℕ) (prices : ℕ → ℤ) (offers pool : List Contract)
    → IsPool (length trades) on prices offers pool → (f k : ℕ)
    → ((offer : Contract) → slice_get offers k ≡ Some offer → is_of trades f offer ≡ false)
    → at_place (gain_by trades f prices) pool k ≡ pos 0
early_gain trades on prices offers pool is_pool f k other = elim (cases_lt k (length offers)) [
  | inr late ↦ late_gain trades on prices offers pool is_pool f k late
  | inl early ↦ elim (slice_get_cases pool k).1 [
    | inr past ↦ at_place-none (gain_by trades f prices) pool k past.1
    | inl found ↦
        let offer = is_pool.early k found.0 found.2 early in
        at_place-is (gain_by trades f prices) pool k found.0 found.2
        ∙ other_contract trades f found.0 (found.0.price -ℤ prices found.0.trade)
        (ap (λ (t : ℕ). unwrap_or (option_map (is_end f) (slice_get trades t)) false) offer.2 ∙ other offer.0 offer.1)
  ]
]

-- a firm without an offer gains nothing
firm_without : (firms : List Firm) (trades : List Ends) (d : ℤ) (on : ℕ) (prices : ℕ
    → ℤ) (outcome : List Contract) (e : ℤ) (offers : List Contract)
    → IsBlocked firms trades d on prices outcome e offers → (f : ℕ)
    → ((k : ℕ) (offer : Contract) → slice_get offers k ≡ Some offer → is_of trades f offer ≡ false)
    → gains trades (λ t. e *ℤ prices t) (together e offers d outcome) f ≡ pos 0
firm_without firms trades d on prices outcome e offers blocked f other =
    sum_to-same (at_place (gain_by trades f (λ t. e *ℤ prices t)) (together e offers d outcome)) (λ k. pos 0)
    (length (together e offers d outcome))
    (λ k below. early_gain trades on (λ t. e *ℤ prices t) offers (together e offers d outcome)
    (pool_together e d (length trades) on prices offers outcome blocked.contracts) f k (other k))
    ∙ sum_to-zero (length (together e offers d outcome))

-- a firm with an offer gains
firm_with : (firms : List Firm) (trades : List Ends) (d : ℤ) (on : ℕ) (prices : ℕ
    → ℤ) (outcome : List Contract) (e : ℤ) (offers : List Contract)
    → IsBlocked firms trades d on prices outcome e offers → (f : ℕ) (firm : Firm) → slice_get firms f ≡ Some firm
    → (k : ℕ) (offer : Contract)
    → slice_get offers k ≡ Some offer → is_of trades f offer ≡ true
    → pos 0 <ℤ gains trades (λ t. e *ℤ prices t) (together e offers d outcome) f
firm_with firms trades d on prices outcome e offers blocked f firm is k offer offer_is of =
    by_lt_z {P =
    pos 0 <ℤ gain} (pos 0) gain (λ h. h) (λ no_more. absurd
    (no_choice trades (d *ℤ e) f firm pool signed value is_part utility_is (λ x choice. against x choice no_more)))
  where
    pool : List Contract
    pool = together e offers d outcome

    counted_prices : ℕ → ℤ
    counted_prices t = e *ℤ prices t

    gain : ℤ
    gain = gains trades (λ t. e *ℤ prices t) (together e offers d outcome) f

    is_pool : IsPool (length trades) on (λ t. e *ℤ prices t) offers (together e offers d outcome)
    is_pool = pool_together e d (length trades) on prices offers outcome blocked.contracts

    signed : ℕ
    signed = signed_part trades f (together e offers d outcome) (length offers)

    is_part : IsPart trades f (together e offers d outcome)
        (signed_part trades f (together e offers d outcome) (length offers))
    is_part = signed_is_part trades on (λ t. e *ℤ prices t) offers (together e offers d outcome) is_pool f

    best : HasBest trades d on prices f firm
    best = blocked.equilibrium f firm is

    here : ℕ
    here = part trades f firm.count on

    mine : (a : ℤ) × (firm.worth (part trades f firm.count on) ≡ Some a)
        × (d *ℤ a +ℤ paid_for firm trades f prices (part trades f firm.count on) ≡ best.0)
    mine = option_map-some (λ a. d *ℤ a +ℤ paid_for firm trades f prices (part trades f firm.count on))
        (firm.worth (part trades f firm.count on)) best.0 best.1.is

    pays : ℕ → ℤ
    pays x = sum_over (payment trades f (together e offers d outcome)) (length (together e offers d outcome)) x

    bundle_is : bundle_by trades f firm.count (together e offers d outcome) signed ≡ part trades f firm.count on
    bundle_is = signed_bundle firms trades blocked.network on (λ t. e *ℤ prices t) offers (together e offers d outcome)
        is_pool f firm is

    value : ℤ
    value = (d *ℤ e) *ℤ mine.0 +ℤ pays signed

    utility_is : part_utility trades (d *ℤ e) f firm (together e offers d outcome) signed ≡ Some value
    utility_is = ap (λ (y : ℕ). option_map (λ a. (d *ℤ e) *ℤ a +ℤ pays signed) (firm.worth y)) bundle_is
        ∙ ap (option_map (λ a. (d *ℤ e) *ℤ a +ℤ pays signed)) mine.1

    -- the signed contracts give the firm its best utility, counted e times
    value_is : value ≡ e *ℤ best.0
    value_is =
        let parts = part_paid firms trades blocked.network f firm is pool signed is_part counted_prices in
        let none = no_gains (at_place (gain_by trades f (λ t. e *ℤ prices t)) (together e offers d outcome))
        (length (together e offers d outcome)) signed
        (λ j below member. late_gain trades on (λ t. e *ℤ prices t) offers (together e offers d outcome) is_pool f j
        (signed_member trades f (together e offers d outcome) (length offers) j member).late) in
        let flow : paid_for firm trades f counted_prices (bundle_by trades f firm.count pool signed)
        ≡ e *ℤ paid_for firm trades f prices here =
        ap (paid_for firm trades f (λ t. e *ℤ prices t)) bundle_is
        ∙ paid_for-times firm trades f e prices (part trades f firm.count on) in
        let worth = times-times d e mine.0 in
        let sum : e *ℤ best.0 ≡ e *ℤ (d *ℤ mine.0) +ℤ e *ℤ paid_for firm trades f prices here =
        ap (λ (z : ℤ). e *ℤ z) (sym mine.2) ∙ times-plus e (d *ℤ mine.0) (paid_for firm trades f prices here) in
        add _ _ _ _ _ _ _ parts none flow worth sum
      where
        add : (a p g q b c u : ℤ) → p ≡ g +ℤ q → g ≡ pos 0 → q ≡ c → a ≡ b → u ≡ b +ℤ c → a +ℤ p ≡ u
        add a p g q b c u parts none flow worth sum = omega (arith, ints, parts, none, flow, worth, sum)

    -- a choice takes each offer of the firm, so its gains are all gains
    chosen_gains : (x : ℕ) → IsChoice trades (d *ℤ e) f firm (together e offers d outcome) x
        → sum_over (at_place (gain_by trades f (λ t. e *ℤ prices t)) (together e offers d outcome))
        (length (together e offers d outcome)) x ≡ gain
    chosen_gains x choice =
        all_gains (at_place (gain_by trades f (λ t. e *ℤ prices t)) (together e offers d outcome))
        (length (together e offers d outcome)) x (λ j below away.
        early_gain trades on (λ t. e *ℤ prices t) offers (together e offers d outcome) is_pool f j
        (λ other other_is. elim (cases_Bool (is_of trades f other)) [
          | inr not_own ↦ not_own
          | inl owned ↦ let taken = blocked.blocks.chosen f firm x is choice j other other_is owned in
              absurd (cc (taken, away))
        ]))

    -- a choice that is better than the signed contracts gains
    better : (x : ℕ) (choice : IsChoice trades (d *ℤ e) f firm (together e offers d outcome) x) → value <ℤ choice.value
        → gain ≤ℤ pos 0 → ⊥
    better x choice more no_more =
        let y = bundle_by trades f firm.count pool x in
        let theirs =
        option_map-some (λ a. (d *ℤ e) *ℤ a +ℤ pays x) (firm.worth
        (bundle_by trades f firm.count (together e offers d outcome) x)) choice.value choice.is in
        let most = best.1.most y (d *ℤ theirs.0 +ℤ paid_for firm trades f prices y)
        (ap (option_map (λ a. d *ℤ a +ℤ paid_for firm trades f prices y)) theirs.1) in
        let counted = times-le e (d *ℤ theirs.0 +ℤ paid_for firm trades f prices y) best.0 blocked.from_zero most in
        let sum = times-plus e (d *ℤ theirs.0) (paid_for firm trades f prices y) in
        let parts = part_paid firms trades blocked.network f firm is pool x choice.part counted_prices in
        let flow = paid_for-times firm trades f e prices y in
        let worth = times-times d e theirs.0 in
        less _ _ _ _ _ _ _ _ _ _ _ theirs.2 counted sum parts flow worth (chosen_gains x choice) value_is more no_more
      where
        less : (a p v s u b c g q gain value : ℤ) → a +ℤ p ≡ v → s ≤ℤ u → s ≡ b +ℤ c → p ≡ g +ℤ q → q ≡ c → a ≡ b
            → g ≡ gain → value ≡ u → value <ℤ v → gain ≤ℤ pos 0 → ⊥
        less a p v s u b c g q gain value is counted sum parts flow worth all value_is more no_more =
            absurd (omega (arith, ints, is, counted, sum, parts, flow, worth, all, value_is, more, no_more))

    against : (x : ℕ) → IsChoice trades (d *ℤ e) f firm (together e offers d outcome) x → gain ≤ℤ pos 0 → ⊥
    against x choice no_more = by_lt_z {P = ⊥} value choice.value
        (λ more. better x choice more no_more)
        (λ enough.
        let too : IsChoice trades (d *ℤ e) f firm (together e offers d outcome) signed = record {
          part = is_part;
          value = value;
          is = utility_is;
          most = λ y other y_part y_is. let step = choice.most y other y_part y_is in omega (arith, ints, step, enough);
        } in
        let taken = blocked.blocks.chosen f firm signed is too k offer offer_is of in
        let late = (signed_member trades f pool (length offers) k taken).late in
        let early = slice_get_within offers k offer offer_is in
        absurd (omega (arith, late, early)))

-- ---- all firms

-- a term at one firm alone
sum_list-before : {A : Type 0} (a : ℕ) (v : ℤ) (s : ℕ) (xs : List A) → a < s
    → sum_list (λ f x. if a == f then v else pos 0) s xs ≡ pos 0
sum_list-before a v s [] before = refl
sum_list-before a v s (x ∷ xs) before =
    let rest = sum_list-before a v (s + 1) xs (omega (arith, before)) in
    let first : (if a == s then v else pos 0) ≡ pos 0 =
    ap (λ (b : Bool). if b then v else pos 0) (ne_eqb a s (omega (arith, before))) in
    omega (arith, ints, rest, first)

sum_list-at : {A : Type 0} (a : ℕ) (v : ℤ) (s i : ℕ) (xs : List A) → a ≡ s + i → i < length xs
    → sum_list (λ f x. if a == f then v else pos 0) s xs ≡ v
sum_list-at a v s i [] at inside = absurd (omega (arith, inside))
sum_list-at a v s zero (x ∷ xs) at inside =
    let rest = sum_list-before a v (s + 1) xs (omega (arith, at)) in
    let first : (if a == s then v else pos 0) ≡ v = ap (λ (b : Bool). if b then v
    else pos 0) (eq-eqb a s (omega (arith, at))) in
    omega (arith, ints, rest, first)
sum_list-at a v s (suc i) (x ∷ xs) at inside =
    let rest = sum_list-at a v (s + 1) i xs (omega (arith, at)) (omega (arith, inside)) in
    let first : (if a == s then v else pos 0) ≡ pos 0 =
    ap (λ (b : Bool). if b then v else pos 0) (ne_eqb a s (omega (arith, at))) in
    omega (arith, ints, rest, first)

-- what one contract gives its seller it takes from its buyer
one_trade : (firms : List Firm) (trades : List Ends) → IsNetwork firms trades → (t : ℕ) (price : ℤ)
    → sum_list (λ f firm. unwrap_or (option_map (paid_to f price) (slice_get trades t)) (pos 0)) 0 firms ≡ pos 0
one_trade firms trades network t price = by_case (slice_get trades t) refl
  where
    split : (trade : Ends) → trade.seller ≢ trade.buyer → (f : ℕ)
        → paid_to f price trade ≡ (if trade.seller == f then price else pos 0) +ℤ (if trade.buyer == f then neg_ℤ price
        else pos 0)
    split trade apart f = by_end (trade.seller == f) (trade.buyer == f) refl refl
      where
        by_end : (a b : Bool) → (trade.seller == f) ≡ a → (trade.buyer == f) ≡ b
            → (if a then price else (if b then neg_ℤ price else pos 0)) ≡ (if a then price else pos 0) +ℤ (if b
            then neg_ℤ price else pos 0)
        by_end true true p q = absurd (apart (eqb-true _ _ p ∙ sym (eqb-true _ _ q)))
        by_end true false p q = omega (arith, ints)
        by_end false true p q = omega (arith, ints)
        by_end false false p q = omega (arith, ints)

    by_case : (o : Option Ends) → slice_get trades t ≡ o
        → sum_list (λ f firm. unwrap_or (option_map (paid_to f price) o) (pos 0)) 0 firms ≡ pos 0
    by_case None there = sum_list-none (λ f firm. pos 0) 0 firms (all_from _ 0 firms (λ i f firm at is. refl))
    by_case (Some trade) there =
        let sold = network.sold t trade there in
        let bought = network.bought t trade there in
        let first = sum_list-at trade.seller price 0 trade.seller firms (omega arith)
        (slice_get_within firms trade.seller sold.0 sold.1) in
        let second =
        sum_list-at trade.buyer (neg_ℤ price) 0 trade.buyer firms (omega arith)
        (slice_get_within firms trade.buyer bought.0 bought.1) in
        let parts = sum_list-plus (λ f (firm : Firm). if trade.seller == f then price
        else pos 0) (λ f (firm : Firm). if trade.buyer == f then neg_ℤ price else pos 0) 0 firms in
        sum_list-same (λ f firm. paid_to f price trade) (λ f firm. (if trade.seller == f then price else pos 0)
        +ℤ (if trade.buyer == f then neg_ℤ price else pos 0)) 0 firms
        (all_from _ 0 firms (λ i f firm at is. split trade (network.apart t trade there) f))
        ∙ cancel _ _ _ price parts first second
      where
        cancel : (whole a b price : ℤ) → whole ≡ a +ℤ b → a ≡ price → b ≡ neg_ℤ price → whole ≡ pos 0
        cancel whole a b price parts first second = omega (arith, ints, parts, first, second)

one_place_cancels : (firms : List Firm) (trades : List Ends) → IsNetwork firms trades
    → (prices : ℕ → ℤ) (pool : List Contract) (k : ℕ)
    → sum_list (λ f firm. at_place (gain_by trades f prices) pool k) 0 firms ≡ pos 0
one_place_cancels firms trades network prices pool k = by_case (slice_get pool k)
  where
    by_case : (o : Option Contract)
        → sum_list (λ f firm. unwrap_or (option_map (gain_by trades f prices) o) (pos 0)) 0 firms ≡ pos 0
    by_case None = sum_list-none (λ f firm. pos 0) 0 firms (all_from _ 0 firms (λ i f firm at is. refl))
    by_case (Some contract) = one_trade firms trades network contract.trade (contract.price -ℤ prices contract.trade)

-- so all gains together are none
gains_cancel : (firms : List Firm) (trades : List Ends) → IsNetwork firms trades
    → (prices : ℕ → ℤ) (pool : List Contract) (n : ℕ)
    → sum_list (λ f firm. sum_to (at_place (gain_by trades f prices) pool) n) 0 firms ≡ pos 0
gains_cancel firms trades network prices pool zero =
    sum_list-none (λ f firm. pos 0) 0 firms (all_from _ 0 firms (λ i f firm at is. refl))
gains_cancel firms trades network prices pool (suc n) =
    let parts = sum_list-plus (λ f (firm : Firm). sum_to (at_place (gain_by trades f prices) pool) n)
    (λ f (firm : Firm). at_place (gain_by trades f prices) pool n) 0 firms in
    let rest = gains_cancel firms trades network prices pool n in
    let last = one_place_cancels firms trades network prices pool n in
    none _ _ _ parts rest last
  where
    none : (whole a b : ℤ) → whole ≡ a +ℤ b → a ≡ pos 0 → b ≡ pos 0 → whole ≡ pos 0
    none whole a b parts first second = omega (arith, ints, parts, first, second)

-- terms of which none is negative have no negative sum, and where one is positive it is
sum_list-from_zero : {A : Type 0} (g : ℕ → A → ℤ) (s : ℕ) (xs : List A) → AllFrom (λ i x. pos 0 ≤ℤ g i x) s xs
    → pos 0 ≤ℤ sum_list g s xs
sum_list-from_zero g s [] each = omega (arith, ints)
sum_list-from_zero g s (x ∷ xs) each =
    let rest = sum_list-from_zero g (s + 1) xs each.1 in
    let first = each.0 in
    omega (arith, ints, rest, first)

sum_list-positive : {A : Type 0} (g : ℕ → A → ℤ) (s i f : ℕ) (xs : List A) (x : A)
    → AllFrom (λ i x. pos 0 ≤ℤ g i x) s xs → f ≡ s + i → slice_get xs i ≡ Some x → pos 0 <ℤ g f x
    → pos 0 <ℤ sum_list g s xs
sum_list-positive g s i f [] x each at is more = absurd (cc is)
sum_list-positive {A} g s zero f (first ∷ xs) x each at is more =
    let rest = sum_list-from_zero g (s + 1) xs each.1 in
    let here : g f x ≡ g s first = ap₂ (λ (k : ℕ) (y : A). g k y) (omega (arith, at)) (sym (same_Some first x is)) in
    omega (arith, ints, rest, here, more)
sum_list-positive g s (suc i) f (first ∷ xs) x each at is more =
    let rest = sum_list-positive g (s + 1) i f xs x each.1 (omega (arith, at)) is more in
    let here = each.0 in
    omega (arith, ints, rest, here)

-- a list has an item that passes a test, or none
some_or_none : {A : Type 0} (test : A → Bool) (xs : List A)
    → ((k : ℕ) × (x : A) × (slice_get xs k ≡ Some x) × (test x ≡ true))
    ⊎ ((k : ℕ) (x : A) → slice_get xs k ≡ Some x → test x ≡ false)
some_or_none test [] = inr (λ k x is. absurd (cc is))
some_or_none {A} test (first ∷ xs) = elim (cases_Bool (test first)) [
  | inl passes ↦ inl (0, first, refl, passes)
  | inr fails ↦ elim (some_or_none test xs) [
    | inl found ↦ inl (suc found.0, found.1, found.2, found.3)
    | inr never ↦ inr (λ k x is. by_place fails never k x is)
  ]
]
  where
    by_place : test first ≡ false → ((k : ℕ) (x : A) → slice_get xs k ≡ Some x → test x ≡ false) → (k : ℕ) (x : A)
        → slice_get (first ∷ xs) k ≡ Some x → test x ≡ false
    by_place fails never zero x is = ap test (sym (same_Some first x is)) ∙ fails
    by_place fails never (suc k) x is = never k x is

-- no firm loses
firm_gains : (firms : List Firm) (trades : List Ends) (d : ℤ) (on : ℕ) (prices : ℕ
    → ℤ) (outcome : List Contract) (e : ℤ) (offers : List Contract)
    → IsBlocked firms trades d on prices outcome e offers → (f : ℕ) (firm : Firm) → slice_get firms f ≡ Some firm
    → pos 0 ≤ℤ gains trades (λ t. e *ℤ prices t) (together e offers d outcome) f
firm_gains firms trades d on prices outcome e offers blocked f firm is = elim (some_or_none (is_of trades f) offers) [
  | inl found ↦ let more =
      firm_with firms trades d on prices outcome e offers blocked f firm is found.0 found.1 found.2 found.3 in
      omega (arith, ints, more)
  | inr never ↦ let none = firm_without firms trades d on prices outcome e offers blocked f never in
      omega (arith, ints, none)
]

-- but the seller of the first offer gains
nothing_blocks : (firms : List Firm) (trades : List Ends) (d : ℤ) (on : ℕ) (prices : ℕ
    → ℤ) (outcome : List Contract) (e : ℤ) (offers : List Contract)
    → IsBlocked firms trades d on prices outcome e offers → ⊥
nothing_blocks firms trades d on prices outcome e offers blocked = elim (slice_get_cases offers 0).1 [
  | inr past ↦ let some = blocked.blocks.some in let none = past.0 in absurd (omega (arith, some, none))
  | inl offer ↦ elim (slice_get_cases trades offer.0.trade).1 [
    | inr past ↦ let known = blocked.blocks.feasible.known 0 offer.0 offer.2 in let none = past.0 in
        absurd (omega (arith, known, none))
    | inl trade ↦
        let sold = blocked.network.sold offer.0.trade trade.0 trade.2 in
        let of : is_of trades trade.0.seller offer.0 ≡ true =
        ap (λ (o : Option Ends). unwrap_or (option_map (is_end trade.0.seller) o) false) trade.2
        ∙ ap (λ (b : Bool). b || (trade.0.buyer == trade.0.seller)) (eq-eqb trade.0.seller trade.0.seller refl) in
        let more = firm_with firms trades d on prices outcome e offers blocked trade.0.seller sold.0 sold.1 0 offer.0
        offer.2 of in
        let all = gains_cancel firms trades blocked.network (λ t. e *ℤ prices t) (together e offers d outcome)
        (length (together e offers d outcome)) in
        let sum = sum_list-positive (λ f (firm : Firm). gains trades (λ t. e *ℤ prices t) (together e offers d outcome)
        f) 0 trade.0.seller trade.0.seller firms sold.0
        (all_from _ 0 firms (λ i f firm at is.
        let same : i ≡ f = omega (arith, at) in
        firm_gains firms trades d on prices outcome e offers blocked f firm (ap (slice_get firms) (sym same) ∙ is)))
        (omega arith) sold.1 more in
        absurd (omega (arith, ints, all, sum))
  ]
]

-- contracts at the prices of an equilibrium, one for each of its trades, are stable, in any order
pub signed_is_stable : (firms : List Firm) (trades : List Ends) (d : ℤ) (on : ℕ) (prices : ℕ
    → ℤ) (outcome : List Contract) → IsNetwork firms trades → IsEquilibrium firms trades d on prices
    → AreContractsOf (length trades) on prices outcome → IsStable firms trades d outcome
signed_is_stable firms trades d on prices outcome network equilibrium contracts e offers from_one blocks =
    nothing_blocks firms trades d on prices outcome e offers (record {
      network = network;
      equilibrium = equilibrium;
      contracts = contracts;
      from_zero = omega (arith, ints, from_one);
      blocks = blocks;
    })

pub equilibrium_is_stable : (firms : List Firm) (trades : List Ends) (d : ℤ) (on : ℕ) (prices : ℕ → ℤ)
    → IsNetwork firms trades → IsEquilibrium firms trades d on prices
    → IsStable firms trades d (contracts_of on prices (length trades))
equilibrium_is_stable firms trades d on prices network equilibrium =
    signed_is_stable firms trades d on prices (contracts_of on prices (length trades)) network equilibrium
    (arrangement_has_contracts (length trades) on prices)
