-- Offers by counts that block an outcome by counts are unit offers that block its unit contracts: a choice from the unit
-- contracts is a best bundle of signed and offered twins, so its counts are best, and have all units of the firm's offers.
use Rattle.std.proofs.Common.{◌≡◌, ℕ, ◌+◌, ◌-◌, ◌^◌, ◌<◌, ◌≤◌, Bool, true, false, not, ◌==◌, ◌&&◌, nat_lt, if◌then◌else◌, List, ◌++◌, length, get_or, slice_get, Option, Some, option_map, inl, inr, refl, sym, ap, ap₂, ◌∙◌, subst, arith, length-append, ℤ, pos, ◌*ℤ◌}
use Rattle.std.specs.Prelude.{unwrap_or}
use Rattle.std.proofs.lemmas.Bool.{and_parts, cases_Bool, cases_lt, eq-eqb, eqb-true, lt-ltb, ltb-true, or_cases, or_left, or_right}
use Rattle.std.proofs.lemmas.List.{get_or-append-add}
use Rattle.std.proofs.lemmas.Option.{get_or_from_slice_get, slice_get-get_or, slice_get_within}
use Rattle.tn_base.specs.Firm.{Firm}
use Rattle.tn_base.specs.Sets.{has}
use Rattle.tn_base.proofs.SetLemmas.{has-minus, has-set_of}
use Rattle.tn_model.specs.declared.contract.Contract.{Contract}
use Rattle.tn_model.specs.declared.ends.Ends.{Ends}
use Rattle.tn_model.specs.Choices.{Blocks, IsChoice, IsFeasible, IsStable, bundle_by, is_end, is_of, is_traded, together}
use Rattle.tn_model.specs.Network.{own, part}
use Rattle.tn_market.specs.Best.{IsSubset}
use Rattle.tn_market.specs.Equilibrium.{utility_at}
use Rattle.tn_market.specs.Signed.{signed, signed_bundle, signed_price}
use Rattle.tn_network_laws.proofs.PartLemmas.{traded_at}
use Rattle.tn_network_laws.proofs.PoolLemmas.{AreContractsOf, append_front, arrangement_has_contracts, offer_in_pool}
use Rattle.tn_outcome_laws.proofs.RationalLemmas.{IsSigner, between_signed, choice_to_bundles, inside_signed}
use Rattle.tn_outcome_laws.proofs.StableLemmas.{completed_is_stable}
use Rattle.tn_counts.specs.Counts.{CountFirm, IsBestCount, count_utility, trade_at}
use Rattle.tn_counts.specs.Outcomes.{AreUnitContracts, BlocksByCounts, CompletesByCounts, HasEnd, contract_at, joined, prices_beside, signed_units, split_firms, split_trades, together as together_units}
use Rattle.tn_counts.specs.declared.contract.UnitContract.{UnitContract}
use Rattle.tn_counts.specs.declared.trade.UnitTrade.{UnitTrade}
use Rattle.tn_unit_laws.specs.Laws.{BlockedByCounts, CompletedByCountsAreStable, FitByCounts}
use Rattle.tn_unit_laws.specs.Outcomes.{offered_twins, signed_twins, split_of, split_price, unit_contracts, unit_offers}
use Rattle.tn_unit_laws.specs.Units.{is_own, own_units, trade_of, twins_before, unit_count, unit_firm, unit_firms, unit_trades}
use Rattle.tn_unit_laws.proofs.CountLemmas.{count-none, more_or_none}
use Rattle.tn_unit_laws.proofs.UnitLemmas.{comes_from, length-units, unit_at, unit_firm_at}
use Rattle.tn_unit_laws.proofs.BundleLemmas.{fits_network, own_here, place_of, place_within}
use Rattle.tn_unit_laws.proofs.PaymentLemmas.{bundle_below}
use Rattle.tn_unit_laws.proofs.SplitLemmas.{signed-append, split_behind, split_below, split_front, split_signed}
use Rattle.tn_unit_laws.proofs.UnitContractLemmas.{are_contracts, each_has, feasible, has_on, kind_on, left_in, on_kind, on_within, set_feasible, set_priced, set_signed, signed_kind_is, signed_kinds, split_sized, split_trade}
use Rattle.tn_unit_laws.proofs.KindLemmas.{IsBestOfKinds, IsOfKinds, best_counts, kinds_of, takes_whole}
use Rattle.tn_unit_laws.proofs.OutcomeLemmas.{completed_is_by_counts, fellow_is, of_signed, signed_of, signed_worth_is, split_fit, split_from}
use Rattle.tn_unit_laws.proofs.TogetherLemmas.{AreAll, AreOfKinds, all_taken, count_price, pool_are as pool_is, price_behind, price_front, price_is, price_together}

differ : true ≡ false → ⊥
differ e = absurd (cc)

module _ (firms : List CountFirm) (trades : List UnitTrade) (fit : FitByCounts firms trades) (d : ℤ)
    (contracts : List UnitContract) (e : ℤ) (offers : List UnitContract)
    (beside : AreUnitContracts trades (contracts ++ offers)) where
  -- the contracts, and behind them the offers
  abbrev both : List UnitContract
  both = contracts ++ offers

  abbrev count : ℕ
  count = length (unit_trades trades)

  long : count ≡ unit_count trades
  long = length-units trades (unit_count trades)

  -- the twins that are signed, that are offered, and all of them
  abbrev set : ℕ
  set = signed_twins trades contracts

  abbrev more : ℕ
  more = offered_twins trades contracts offers

  abbrev all : ℕ
  all = signed_twins trades both

  abbrev kind : ℕ → ℕ
  kind u = split_of both (trade_of trades u) (twins_before trades u)

  abbrev signed_kind : ℕ → ℕ
  signed_kind u = if nat_lt (kind u) (length both) then kind u else length both + length trades

  before : AreUnitContracts trades contracts
  before = record {
    known = λ k contract at. beside.known k contract (append_front contracts offers k contract at);
    within = λ t below.
        let sum = signed-append contracts offers t in
        let few = beside.within t below in
        omega (arith, sum, few);
  }

  -- ---- signed and offered twins

  set_below : (u : ℕ) → u < unit_count trades → has set u ≡ true
      → twins_before trades u < signed_units contracts (trade_of trades u)
  set_below u below there =
      ltb-true (twins_before trades u) (signed_units contracts (trade_of trades u))
      (sym (has_on trades contracts before u below) ∙ there)

  set_past : (u : ℕ) → u < unit_count trades → has set u ≡ false
      → signed_units contracts (trade_of trades u) ≤ twins_before trades u
  set_past u below away = elim (cases_lt (twins_before trades u) (signed_units contracts (trade_of trades u))) [
    | inl less ↦ absurd (differ (sym (lt-ltb (twins_before trades u) (signed_units contracts (trade_of trades u)) less)
        ∙ sym (has_on trades contracts before u below) ∙ away))
    | inr past ↦ past
  ]

  set_all : (u : ℕ) → u < unit_count trades → has set u ≡ true → has all u ≡ true
  set_all u below there =
      has_on trades both beside u below
      ∙ lt-ltb (twins_before trades u) (signed_units both (trade_of trades u))
      (let less = set_below u below there in
      let sum = signed-append contracts offers (trade_of trades u) in
      omega (arith, less, sum))

  more_parts : (u : ℕ) → has more u ≡ true → (has all u ≡ true) × (has set u ≡ false)
  more_parts u there =
      let parts = and_parts (has all u) (not (has set u)) (sym (has-minus all set u) ∙ there) in
      (parts.0, by (has set u) parts.1)
    where
      by : (b : Bool) → not b ≡ true → b ≡ false
      by true e = absurd (differ (sym e))
      by false e = refl

  more_from : (u : ℕ) → has all u ≡ true → has set u ≡ false → has more u ≡ true
  more_from u there away = has-minus all set u ∙ ap₂ (λ (a b : Bool). a && not b) there away

  set_apart : (u : ℕ) → has set u ≡ true → has more u ≡ false
  set_apart u there = has-minus all set u ∙ ap (λ (b : Bool). has all u && not b) there ∙ none (has all u)
    where
      none : (b : Bool) → (b && false) ≡ false
      none true = refl
      none false = refl

  -- an offered twin is of an offer
  more_behind : (u : ℕ) → u < unit_count trades → has more u ≡ true
      → (length contracts ≤ kind u) × (kind u < length both)
  more_behind u below there =
      let parts = more_parts u there in (
        split_behind contracts offers (trade_of trades u) (twins_before trades u) (set_past u below parts.1),
        kind_on trades both beside u below parts.0,
      )

  -- ---- the pool of unit offers and unit contracts

  abbrev outcome : List Contract
  outcome = unit_contracts trades contracts

  abbrev offered : List Contract
  offered = unit_offers trades contracts offers

  abbrev pool : List Contract
  pool = together e offered d outcome

  abbrev set_price : ℕ → ℤ
  set_price u = split_price trades contracts (λ t. pos 0) u

  abbrev more_price : ℕ → ℤ
  more_price u = split_price trades both (λ t. pos 0) u

  abbrev pool_price : ℕ → ℤ
  pool_price = price_together d e more more_price set_price

  outcome_are : AreContractsOf count set set_price outcome
  outcome_are = are_contracts trades contracts before

  offered_are : AreContractsOf count more more_price offered
  offered_are = subst (λ (n : ℕ). AreContractsOf n more more_price offered) (sym long)
      (arrangement_has_contracts (unit_count trades) more more_price)

  -- no offered twin is signed
  apart : (j k : ℕ) (one other : Contract) → slice_get offered j ≡ Some one → slice_get outcome k ≡ Some other
      → one.trade ≡ other.trade → ⊥
  apart j k one other one_is other_is same =
      differ (sym (outcome_are.signed k other other_is).there ∙ ap (has set) (sym same)
      ∙ (more_parts one.trade (offered_are.signed j one one_is).there).1)

  are_all : AreAll count set more all
  are_all = record {
    set_in = λ u below there. set_all u (omega (arith, below, long)) there;
    more_in = λ u below there. more_parts u there;
    rest = λ u below there away. more_from u there away;
  }

  pool_are : AreContractsOf count all pool_price pool
  pool_are = pool_is count set more all are_all set_price more_price outcome offered outcome_are offered_are d e

  all_within : all < 2 ^ count
  all_within = subst (λ (n : ℕ). all < 2 ^ n) (sym long) (on_within trades both beside)

  pool_signed : signed count pool ≡ all
  pool_signed = set_signed all pool_price count pool all_within pool_are

  pool_feasible : IsFeasible (unit_trades trades) pool
  pool_feasible = set_feasible all pool_price (unit_trades trades) pool pool_are

  -- ---- its prices are those by counts

  abbrev split : List UnitTrade
  split = split_trades trades both (λ t. 0)

  abbrev count_prices : ℕ → ℤ
  count_prices = prices_beside (together_units d contracts e offers) (λ t. pos 0)

  pool_priced : (u : ℕ) → u < unit_count trades → kind u < length both → pool_price u ≡ count_prices (kind u)
  pool_priced u below inside = elim (cases_Bool (has set u)) [
    | inl signed ↦
        let less = set_below u below signed in
        let same = split_front contracts offers (trade_of trades u) (twins_before trades u) less in
        let here = split_below contracts (trade_of trades u) (twins_before trades u) less in
        ap (λ (b : Bool). if b then d *ℤ more_price u else e *ℤ set_price u) (set_apart u signed)
        ∙ ap (λ (z : ℤ). e *ℤ z) (price_is contracts (λ t. pos 0)
        (split_of contracts (trade_of trades u) (twins_before trades u)) here)
        ∙ sym (price_front e d contracts offers (split_of contracts (trade_of trades u) (twins_before trades u)) here)
        ∙ ap (λ (s : ℕ). (contract_at (together_units d contracts e offers) s).price) (sym same)
        ∙ sym (count_price e d contracts offers (kind u) inside)
    | inr away ↦
        let there = more_from u (on_kind trades both beside u below inside) away in
        let behind = more_behind u below there in
        ap (λ (b : Bool). if b then d *ℤ more_price u else e *ℤ set_price u) there
        ∙ ap (λ (z : ℤ). d *ℤ z) (price_is both (λ t. pos 0) (kind u) inside)
        ∙ sym (price_behind e d contracts offers (kind u) behind.0 inside)
        ∙ sym (count_price e d contracts offers (kind u) inside)
  ]

  priced : (u : ℕ) → u < unit_count trades → signed_kind u < length split
      → signed_price pool u ≡ count_prices (signed_kind u)
  priced u below inside =
      let sized = split_sized trades both (λ t. 0) in
      let of_both = left_in trades both beside u (omega (arith, inside, sized)) in
      set_priced all pool_price count pool pool_are u (omega (arith, below, long)) (on_kind trades both beside u below of_both)
      ∙ pool_priced u below of_both
      ∙ ap count_prices (sym (signed_kind_is trades both beside u of_both))

  -- ---- firms of the pool

  signer : (f : ℕ) (firm : CountFirm) → slice_get firms f ≡ Some firm
      → IsSigner (unit_firms trades firms) (unit_trades trades) pool f (unit_firm trades f firm)
  signer f firm is = record {
    network = fits_network firms trades fit;
    feasible = pool_feasible;
    is = unit_firm_at trades 0 firms f f firm (omega arith) is;
  }

  given_is : (f : ℕ) (firm : CountFirm) → signed_bundle (unit_trades trades) pool f (unit_firm trades f firm)
      ≡ part (unit_trades trades) f (own_units trades f) all
  given_is f firm = ap (λ (s : ℕ). part (unit_trades trades) f (own_units trades f) s) pool_signed

  -- ---- a choice of one firm

  module _ (f : ℕ) (firm : CountFirm) (is : slice_get firms f ≡ Some firm) (x : ℕ)
      (choice : IsChoice (unit_trades trades) (d *ℤ e) f (unit_firm trades f firm) pool x) where
    abbrev n : ℕ
    n = own_units trades f

    abbrev fellow : CountFirm
    fellow = record { worth = λ counts. firm.worth (joined both counts) }

    -- its bundle
    abbrev y : ℕ
    y = bundle_by (unit_trades trades) f n pool x

    abbrev whole_bundle : ℕ
    whole_bundle = part (unit_trades trades) f n all

    y_inside : IsSubset y whole_bundle
    y_inside = subst (IsSubset y) (given_is f firm)
        (inside_signed y (signed_bundle (unit_trades trades) pool f (unit_firm trades f firm))
        (choice_to_bundles (unit_firms trades firms) (unit_trades trades) (d *ℤ e) pool f (unit_firm trades f firm) (signer f firm is) x
        choice).between)

    y_of : IsOfKinds trades split signed_kind f y
    y_of = of_signed firms trades fit both beside f firm is y y_inside

    y_best : IsBestOfKinds trades split signed_kind f
        (utility_at (unit_trades trades) (d *ℤ e) (signed_price pool) f (unit_firm trades f firm)) y choice.value
    y_best =
        let best = choice_to_bundles (unit_firms trades firms) (unit_trades trades) (d *ℤ e) pool f (unit_firm trades f firm)
        (signer f firm is) x choice in
        record {
          is = best.is;
          most = λ z other z_of at_z.
              best.most z other (between_signed z (signed_bundle (unit_trades trades) pool f (unit_firm trades f firm))
              (subst (IsSubset z) (sym (given_is f firm)) (signed_of firms trades fit both beside f firm is z
              (bundle_below firms trades fit f firm is (d *ℤ e) (signed_price pool) z other at_z) z_of))) at_z;
        }

    -- so its counts are best
    y_counts : IsBestCount split (count_utility split (d *ℤ e) count_prices f fellow) (kinds_of trades signed_kind f y)
        choice.value
    y_counts =
        best_counts firms trades fit f firm is (split_firms both firms) split (split_fit firms trades fit both beside (λ t. 0))
        fellow (fellow_is firms trades fit both beside f firm is) signed_kind (signed_kinds trades both beside) (d *ℤ e)
        count_prices (signed_price pool) priced (signed_worth_is firms trades fit both beside f firm is) y choice.value y_of
        y_best

    -- and have each offered twin of the firm
    y_takes : BlocksByCounts firms trades d contracts e offers → (u : ℕ) → u < unit_count trades → has more u ≡ true
        → is_own trades f (trade_of trades u) ≡ true → has y (place_of trades f u) ≡ true
    y_takes blocks u below there mine =
        let behind = more_behind u below there in
        let summed = length-append contracts offers in
        let past = behind.0 in
        let inside = behind.1 in
        let place : length contracts + (kind u - length contracts) ≡ kind u = omega (arith, past) in
        let k_below : kind u - length contracts < length offers = omega (arith, past, inside, summed) in
        let offer_is = slice_get-get_or offers (kind u - length contracts)
        (record { trade = 0; units = 0; price = pos 0 }) k_below in
        let same : contract_at both (kind u) ≡ contract_at offers (kind u - length contracts) =
        ap (contract_at both) (sym place)
        ∙ get_or-append-add contracts offers (kind u - length contracts) (record { trade = 0; units = 0; price = pos 0 }) in
        let trade_is : (contract_at offers (kind u - length contracts)).trade ≡ trade_of trades u =
        ap (λ (c : UnitContract). c.trade) (sym same)
        ∙ split_trade both (kind u) (trade_of trades u) (twins_before trades u) inside refl in
        let takes = blocks.chosen f fellow (kinds_of trades signed_kind f y) choice.value
        (fellow_is firms trades fit both beside f firm is) y_counts (kind u - length contracts)
        (contract_at offers (kind u - length contracts)) offer_is (end_of trade_is) in
        takes_whole firms trades fit f firm is (split_firms both firms) split (split_fit firms trades fit both beside (λ t. 0))
        fellow (fellow_is firms trades fit both beside f firm is) signed_kind (signed_kinds trades both beside) y (kind u)
        (place_of trades f u) (let sized = split_sized trades both (λ t. 0) in omega (arith, inside, sized))
        (ap (kinds_of trades signed_kind f y) (sym place) ∙ takes
        ∙ sym (ap (λ (c : UnitContract). c.units) same)
        ∙ sym (ap (λ (t : UnitTrade). t.units) (split_signed trades both (λ t. 0) (kind u) inside)))
        (place_within firms trades fit f firm is u below mine)
        (ap signed_kind (own_here firms trades fit f firm is u below mine) ∙ signed_kind_is trades both beside u inside)
      where
        end_of : {t : ℕ} → t ≡ trade_of trades u → HasEnd f (trade_at trades t)
        end_of {t} same = subst (λ (s : ℕ). HasEnd f (trade_at trades s)) (sym same)
            (elim (or_cases ((trade_at trades (trade_of trades u)).seller == f)
            ((trade_at trades (trade_of trades u)).buyer == f) mine) [
              | inl sells ↦ inl (eqb-true (trade_at trades (trade_of trades u)).seller f sells)
              | inr buys ↦ inr (eqb-true (trade_at trades (trade_of trades u)).buyer f buys)
            ])

    takes_offers : BlocksByCounts firms trades d contracts e offers → (j : ℕ) (offer : Contract)
        → slice_get offered j ≡ Some offer → is_of (unit_trades trades) f offer ≡ true → has x j ≡ true
    takes_offers blocks j offer at mine =
        let there = offered_are.signed j offer at in
        let below : offer.trade < unit_count trades = let inside = there.below in omega (arith, inside, long) in
        let own_trade : is_own trades f (trade_of trades offer.trade) ≡ true =
        sym (ap (λ (o : Option Ends). unwrap_or (option_map (is_end f) o) false)
        (unit_at trades (unit_count trades) offer.trade below)) ∙ mine in
        let p_below = place_within firms trades fit f firm is offer.trade below own_trade in
        let p_is = own_here firms trades fit f firm is offer.trade below own_trade in
        let traded = (and_parts (nat_lt (place_of trades f offer.trade) n)
        (is_traded pool x (own (unit_trades trades) f (place_of trades f offer.trade)) (length pool))
        (sym (has-set_of (λ k. is_traded pool x (own (unit_trades trades) f k) (length pool)) n (place_of trades f offer.trade))
        ∙ y_takes blocks offer.trade below there.there own_trade)).1 in
        let found = traded_at pool x (own (unit_trades trades) f (place_of trades f offer.trade)) (length pool) traded in
        let same = pool_are.once found.place j found.contract (record { trade = offer.trade; price = d *ℤ offer.price })
        found.is (offer_in_pool e d offered outcome j offer at) (found.trade ∙ p_is) in
        ap (has x) (sym same) ∙ found.member

  -- ---- together

  some_offered : BlocksByCounts firms trades d contracts e offers → 0 < length offered
  some_offered blocks = elim (more_or_none (λ u. length contracts == kind u) (λ u. false) (unit_count trades)) [
    | inl found ↦
        let u = found.0 in
        let same = eqb-true (length contracts) (kind found.0) found.2 in
        let sum = length-append contracts offers in
        let first = blocks.some in
        let there = more_from found.0 (on_kind trades both beside found.0 found.1 (omega (arith, same, sum, first)))
        (unsigned found.0 found.1 same) in
        let offer = offered_are.found found.0 (let inside = found.1 in omega (arith, inside, long)) there in
        let within = slice_get_within offered offer.0 offer.1 offer.2 in
        omega (arith, within)
    | inr none ↦
        let sum = length-append contracts offers in
        let first = blocks.some in
        let empty = count-none (λ u. length contracts == kind u) (unit_count trades) (λ u below. off u below none) in
        let whole = each_has trades both beside (length contracts) (omega (arith, sum, first)) in
        let place : length contracts ≡ length contracts + 0 = omega arith in
        let offer_is = ap (λ (c : UnitContract). c.units) (ap (contract_at both) place
        ∙ get_or-append-add contracts offers 0 (record { trade = 0; units = 0; price = pos 0 })) in
        let units = blocks.units 0 (contract_at offers 0)
        (slice_get-get_or offers 0 (record { trade = 0; units = 0; price = pos 0 }) first) in
        absurd (omega (arith, empty, whole, offer_is, units))
  ]
    where
      unsigned : (u : ℕ) → u < unit_count trades → length contracts ≡ kind u → has set u ≡ false
      unsigned u below same = elim (cases_Bool (has set u)) [
        | inr away ↦ away
        | inl signed ↦
            let less = set_below u below signed in
            let front = split_front contracts offers (trade_of trades u) (twins_before trades u) less in
            let here = split_below contracts (trade_of trades u) (twins_before trades u) less in
            absurd (omega (arith, same, front, here))
      ]

      off : (u : ℕ) → u < unit_count trades
          → ((k : ℕ) → k < unit_count trades → (length contracts == kind k) ≡ true → false ≡ true)
          → (length contracts == kind u) ≡ false
      off u below none = elim (cases_Bool (length contracts == kind u)) [
        | inr away ↦ away
        | inl there ↦ absurd (differ (sym (none u below there)))
      ]

  unit_blocks : BlocksByCounts firms trades d contracts e offers
      → Blocks (unit_firms trades firms) (unit_trades trades) d outcome e offered
  unit_blocks blocks = record {
    some = some_offered blocks;
    feasible = set_feasible more more_price (unit_trades trades) offered offered_are;
    unsigned = λ j k offer one offer_is one_is same price. apart j k offer one offer_is one_is same;
    chosen = λ f unit_f x at choice j offer offer_is mine.
        let from = comes_from trades 0 firms f f unit_f (omega arith) at in
        takes_offers f from.firm from.is x
        (subst (λ (one : Firm). IsChoice (unit_trades trades) (d *ℤ e) f one pool x) (sym from.same) choice) blocks j offer
        offer_is mine;
  }

  -- ---- the other way round

  of_kinds : AreOfKinds trades split signed_kind count_prices all pool_price pool
  of_kinds = record {
    contracts_of = pool_are;
    within = all_within;
    signed_in = λ u below there.
        let inside = kind_on trades both beside u below there in
        let same = signed_kind_is trades both beside u inside in
        let sized = split_sized trades both (λ t. 0) in
        omega (arith, inside, same, sized);
    in_signed = λ u below inside. on_kind trades both beside u below (of_both u inside);
    priced = λ u below inside.
        pool_priced u below (of_both u inside) ∙ ap count_prices (sym (signed_kind_is trades both beside u (of_both u inside)));
  }
    where
      of_both : (u : ℕ) → signed_kind u < length split → kind u < length both
      of_both u inside = left_in trades both beside u (let sized = split_sized trades both (λ t. 0) in omega (arith, inside, sized))

  -- best counts have all units of each of the firm's offers, where each choice takes its unit offers
  takes_all : (f : ℕ) (firm : CountFirm) → slice_get firms f ≡ Some firm → (counts : ℕ → ℕ) (value : ℤ)
      → IsBestCount split (count_utility split (d *ℤ e) count_prices f
      (record { worth = λ c. firm.worth (joined both c) })) counts value
      → Blocks (unit_firms trades firms) (unit_trades trades) d outcome e offered → (k : ℕ) (offer : UnitContract)
      → slice_get offers k ≡ Some offer → HasEnd f (trade_at trades offer.trade)
      → counts (length contracts + k) ≡ offer.units
  takes_all f firm is counts value best blocks k offer at ends =
      let k_below = slice_get_within offers k offer at in
      let summed = length-append contracts offers in
      let inside : length contracts + k < length both = omega (arith, k_below, summed) in
      let sized = split_sized trades both (λ t. 0) in
      let same : contract_at both (length contracts + k) ≡ offer =
      get_or-append-add contracts offers k (record { trade = 0; units = 0; price = pos 0 })
      ∙ get_or_from_slice_get offers k offer (record { trade = 0; units = 0; price = pos 0 }) at in
      all_taken firms trades fit f firm is (split_firms both firms) split (split_fit firms trades fit both beside (λ t. 0))
      (record { worth = λ c. firm.worth (joined both c) }) (fellow_is firms trades fit both beside f firm is) signed_kind
      (signed_kinds trades both beside) count_prices all pool_price pool of_kinds
      (signed_worth_is firms trades fit both beside f firm is) (d *ℤ e) counts value best (length contracts + k)
      (omega (arith, inside, sized)) (λ u below place. each u below place inside same)
      ∙ ap (λ (t : UnitTrade). t.units) (split_signed trades both (λ t. 0) (length contracts + k) inside)
      ∙ ap (λ (c : UnitContract). c.units) same
    where
      owned : HasEnd f (trade_at trades offer.trade) → is_own trades f offer.trade ≡ true
      owned (inl sells) =
          or_left ((trade_at trades offer.trade).seller == f) ((trade_at trades offer.trade).buyer == f)
          (eq-eqb (trade_at trades offer.trade).seller f sells)
      owned (inr buys) =
          or_right ((trade_at trades offer.trade).seller == f) ((trade_at trades offer.trade).buyer == f)
          (eq-eqb (trade_at trades offer.trade).buyer f buys)

      unsigned : (u : ℕ) → u < unit_count trades → length contracts ≤ kind u → has set u ≡ false
      unsigned u below past = elim (cases_Bool (has set u)) [
        | inr away ↦ away
        | inl there ↦
            let less = set_below u below there in
            let front = split_front contracts offers (trade_of trades u) (twins_before trades u) less in
            let here = split_below contracts (trade_of trades u) (twins_before trades u) less in
            absurd (omega (arith, past, front, here))
      ]

      -- a twin of the offer is offered, and so each choice takes it
      each : (u : ℕ) → u < unit_count trades → signed_kind u ≡ length contracts + k
          → length contracts + k < length both → contract_at both (length contracts + k) ≡ offer
          → (is_own trades f (trade_of trades u) ≡ true)
          × ((place : ℕ) × (contract : Contract) × (slice_get pool place ≡ Some contract) × (contract.trade ≡ u)
          × ((x : ℕ) → IsChoice (unit_trades trades) (d *ℤ e) f (unit_firm trades f firm) pool x → has x place ≡ true))
      each u below place inside same =
          let of_both = left_in trades both beside u (omega (arith, place, inside)) in
          let kind_is = signed_kind_is trades both beside u of_both in
          let there = more_from u (on_kind trades both beside u below of_both)
          (unsigned u below (omega (arith, place, kind_is))) in
          let found = offered_are.found u (omega (arith, below, long)) there in
          let trade_is = split_trade both (length contracts + k) (trade_of trades u) (twins_before trades u) inside
          (omega (arith, place, kind_is)) in
          let mine : is_own trades f (trade_of trades u) ≡ true =
          ap (is_own trades f) (sym trade_is ∙ ap (λ (c : UnitContract). c.trade) same) ∙ owned ends in
          let of_firm : is_of (unit_trades trades) f found.1 ≡ true =
          ap (λ (t : ℕ). unwrap_or (option_map (is_end f) (slice_get (unit_trades trades) t)) false) found.3
          ∙ ap (λ (o : Option Ends). unwrap_or (option_map (is_end f) o) false)
          (unit_at trades (unit_count trades) u below) ∙ mine in (
            mine,
            (
              found.0,
              record { trade = found.1.trade; price = d *ℤ found.1.price },
              offer_in_pool e d offered outcome found.0 found.1 found.2,
              found.3,
              λ x choice. blocks.chosen f (unit_firm trades f firm) x (signer f firm is).is choice found.0 found.1 found.2
                  of_firm,
            ),
          )

  counts_block : ((k : ℕ) (offer : UnitContract) → slice_get offers k ≡ Some offer → 0 < offer.units)
      → Blocks (unit_firms trades firms) (unit_trades trades) d outcome e offered
      → BlocksByCounts firms trades d contracts e offers
  counts_block units blocks = record {
    some = some_offer;
    units = units;
    beside = beside;
    chosen = λ f fellow counts value at best k offer offer_is ends.
        let from = split_from both firms f fellow at in
        takes_all f from.firm from.is counts value
        (subst (λ (one : CountFirm). IsBestCount split (count_utility split (d *ℤ e) count_prices f one) counts value)
        (sym from.same) best) blocks k offer offer_is ends;
  }
    where
      some_offer : 0 < length offers
      some_offer =
          let first = slice_get-get_or offered 0 (record { trade = 0; price = pos 0 }) blocks.some in
          let there = offered_are.signed 0 (get_or offered 0 (record { trade = 0; price = pos 0 })) first in
          let within = there.below in
          let behind = more_behind (get_or offered 0 (record { trade = 0; price = pos 0 })).trade
          (omega (arith, within, long)) there.there in
          let low = behind.0 in
          let high = behind.1 in
          let sum = length-append contracts offers in
          omega (arith, low, high, sum)

pub blocked_is_by_counts : BlockedByCounts
blocked_is_by_counts = record {
  blocks = λ firms trades d contracts e offers fit blocks.
      unit_blocks firms trades fit d contracts e offers blocks.beside blocks;
  by_counts = λ firms trades d contracts e offers fit beside units blocks.
      counts_block firms trades fit d contracts e offers beside units blocks;
  stable = λ firms trades d contracts fit stable e offers from_one blocks.
      stable e (unit_offers trades contracts offers) from_one (unit_blocks firms trades fit d contracts e offers blocks.beside blocks);
}

-- ---- what is completed is stable

pub completed_are_stable : CompletedByCountsAreStable
completed_are_stable = record {
  over_units = over_units;
  by_counts = λ firms trades over contracts prices fit beside completes.
      blocked_is_by_counts.stable firms trades over contracts fit
      (over_units firms trades over contracts prices fit beside completes);
}
  where
    over_units : (firms : List CountFirm) (trades : List UnitTrade) (over : ℤ) (contracts : List UnitContract)
        (prices : ℕ → ℤ) → FitByCounts firms trades → AreUnitContracts trades contracts
        → CompletesByCounts firms trades over contracts prices
        → IsStable (unit_firms trades firms) (unit_trades trades) over (unit_contracts trades contracts)
    over_units firms trades over contracts prices fit beside completes =
        completed_is_stable (unit_firms trades firms) (unit_trades trades) over (unit_contracts trades contracts)
        (split_price trades contracts prices) (fits_network firms trades fit) (feasible trades contracts beside)
        ((completed_is_by_counts firms trades over contracts prices fit beside).0 completes)
