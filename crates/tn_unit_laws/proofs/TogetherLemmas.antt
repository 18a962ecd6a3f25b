-- Unit contracts and offers beside them in one list: the trades of both at prices over one denominator, and what choices
-- from the list say of counts that are best where these trades are kinds.
use Rattle.std.proofs.Common.{◌≡◌, ℕ, zero, suc, ◌+◌, ◌-◌, ◌^◌, ◌<◌, ◌≤◌, Bool, true, false, ◌==◌, ◌&&◌, nat_lt, if◌then◌else◌, List, [], ◌∷◌, ◌++◌, length, slice_get, Some, option_map, ◌⊎◌, inl, inr, refl, sym, ap, ap₂, ◌∙◌, subst, arith, length-append, ℤ, pos, ◌*ℤ◌}
use Rattle.std.proofs.lemmas.Bool.{and_parts, cases_Bool, eqb-true, lt-ltb}
use Rattle.std.proofs.lemmas.List.{length-map}
use Rattle.std.proofs.lemmas.Option.{slice_get-map, slice_get_within}
use Rattle.tn_base.specs.Sets.{has}
use Rattle.tn_base.proofs.SetLemmas.{has-set_of, has_below, set_of_within}
use Rattle.tn_model.specs.declared.contract.Contract.{Contract}
use Rattle.tn_model.specs.Choices.{IsChoice, IsFeasible, bundle_by, counted, is_traded, together}
use Rattle.tn_model.specs.Network.{own, part}
use Rattle.tn_market.specs.Best.{IsSubset}
use Rattle.tn_market.specs.Equilibrium.{utility_at}
use Rattle.tn_market.specs.Signed.{contract_utility, is_signed, signed, signed_bundle, signed_price}
use Rattle.tn_network_laws.proofs.PartLemmas.{traded_by}
use Rattle.tn_network_laws.proofs.PoolLemmas.{AreContractsOf, IsSigned, append_behind, append_cases, counted_at, offer_in_pool}
use Rattle.tn_outcome_laws.proofs.RationalLemmas.{IsSigner, bundle_signed, in_is, is_in, part_bundle, part_is_bundle, wanted_is_part, wanted_part}
use Rattle.tn_outcome_laws.proofs.SignedLemmas.{has-signed_bundle}
use Rattle.tn_counts.specs.Counts.{CountFirm, IsBestCount, count_utility, trade_at}
use Rattle.tn_counts.specs.Outcomes.{contract_at, counted as counted_units, prices_beside, together as together_units}
use Rattle.tn_counts.specs.declared.contract.UnitContract.{UnitContract}
use Rattle.tn_counts.specs.declared.trade.UnitTrade.{UnitTrade}
use Rattle.tn_unit_laws.specs.Laws.{FitByCounts}
use Rattle.tn_unit_laws.specs.Units.{counts_of, is_own, own_units, trade_of, unit_count, unit_firm, unit_firms, unit_trades}
use Rattle.tn_unit_laws.proofs.CountLemmas.{count-same}
use Rattle.tn_unit_laws.proofs.UnitLemmas.{length-units, unit_firm_at}
use Rattle.tn_unit_laws.proofs.BundleLemmas.{fits_network, own_here, place_of, place_within}
use Rattle.tn_unit_laws.proofs.PaymentLemmas.{own_below}
use Rattle.tn_unit_laws.proofs.UnitContractLemmas.{set_feasible, set_priced, set_signed}
use Rattle.tn_unit_laws.proofs.KindLemmas.{AreKinds, IsBestOfKinds, IsOfKinds, best_by_kinds, first_have, first_kinds, first_of_kinds, kinds_of, kinds_on}

differ : true ≡ false → ⊥
differ e = absurd (cc)

-- ---- prices over the product of the denominators

counted_price : (z : ℤ) (contracts : List UnitContract) (s : ℕ) → s < length contracts
    → (contract_at (counted_units z contracts) s).price ≡ z *ℤ (contract_at contracts s).price
counted_price z [] s below = absurd (omega (arith, below))
counted_price z (contract ∷ contracts) zero below = refl
counted_price z (contract ∷ contracts) (suc s) below = counted_price z contracts s (omega (arith, below))

pub price_front : (e d : ℤ) (contracts offers : List UnitContract) (s : ℕ) → s < length contracts
    → (contract_at (counted_units e contracts ++ counted_units d offers) s).price
    ≡ e *ℤ (contract_at contracts s).price
price_front e d [] offers s below = absurd (omega (arith, below))
price_front e d (contract ∷ contracts) offers zero below = refl
price_front e d (contract ∷ contracts) offers (suc s) below = price_front e d contracts offers s (omega (arith, below))

pub price_behind : (e d : ℤ) (contracts offers : List UnitContract) (s : ℕ) → length contracts ≤ s
    → s < length (contracts ++ offers)
    → (contract_at (counted_units e contracts ++ counted_units d offers) s).price
    ≡ d *ℤ (contract_at (contracts ++ offers) s).price
price_behind e d [] offers s past below = counted_price d offers s below
price_behind e d (contract ∷ contracts) offers zero past below = absurd (omega (arith, past))
price_behind e d (contract ∷ contracts) offers (suc s) past below =
    price_behind e d contracts offers s (omega (arith, past)) (omega (arith, below))

pub price_is : (contracts : List UnitContract) (prices : ℕ → ℤ) (s : ℕ) → s < length contracts
    → prices_beside contracts prices s ≡ (contract_at contracts s).price
price_is contracts prices s below =
    ap (λ (b : Bool). if b then (contract_at contracts s).price else prices (s - length contracts))
    (lt-ltb s (length contracts) below)

pub count_price : (e d : ℤ) (contracts offers : List UnitContract) (s : ℕ) → s < length (contracts ++ offers)
    → prices_beside (together_units d contracts e offers) (λ t. pos 0) s
    ≡ (contract_at (together_units d contracts e offers) s).price
count_price e d contracts offers s below =
    let sum = length-append (counted_units e contracts) (counted_units d offers) in
    let first = length-map contracts (λ (c : UnitContract).
    let one : UnitContract = record { trade = c.trade; units = c.units; price = e *ℤ c.price } in one) in
    let second = length-map offers (λ (c : UnitContract).
    let one : UnitContract = record { trade = c.trade; units = c.units; price = d *ℤ c.price } in one) in
    let whole = length-append contracts offers in
    price_is (together_units d contracts e offers) (λ t. pos 0) s (omega (arith, sum, first, second, whole, below))

-- ---- the list of both

-- the price of an offered trade is that of its offer, and of another that of its contract, over the product of denominators
abbrev pub price_together : ℤ → ℤ → ℕ → (ℕ → ℤ) → (ℕ → ℤ) → ℕ → ℤ
price_together d e more more_price set_price u = if has more u then d *ℤ more_price u else e *ℤ set_price u

-- the trades of a set and those that are offered, none of which is in the set, are all of another
pub record AreAll (count set more all : ℕ) : Type 0 where
  pub set_in : (u : ℕ) → u < count → has set u ≡ true → has all u ≡ true
  pub more_in : (u : ℕ) → u < count → has more u ≡ true → (has all u ≡ true) × (has set u ≡ false)
  pub rest : (u : ℕ) → u < count → has all u ≡ true → has set u ≡ false → has more u ≡ true

module _ (count set more all : ℕ) (are : AreAll count set more all) (set_price more_price : ℕ → ℤ)
    (outcome offered : List Contract) (outcome_are : AreContractsOf count set set_price outcome)
    (offered_are : AreContractsOf count more more_price offered) (d e : ℤ) where
  abbrev pool : List Contract
  pool = together e offered d outcome

  abbrev pool_price : ℕ → ℤ
  pool_price = price_together d e more more_price set_price

  record IsFront (k : ℕ) (contract : Contract) : Type 0 where
    original : Contract
    is : slice_get offered k ≡ Some original
    same : contract ≡ record { trade = original.trade; price = d *ℤ original.price }

  record IsLate (k : ℕ) (contract : Contract) : Type 0 where
    place : ℕ
    at : k ≡ length (counted d offered) + place
    original : Contract
    is : slice_get outcome place ≡ Some original
    same : contract ≡ record { trade = original.trade; price = e *ℤ original.price }

  pool_cases : (k : ℕ) (contract : Contract) → slice_get pool k ≡ Some contract → IsFront k contract ⊎ IsLate k contract
  pool_cases k contract at = elim (append_cases (counted d offered) (counted e outcome) k contract at) [
    | inl front ↦
        let from = counted_at d offered k contract front.0 in
        inl (record { original = from.0; is = from.1; same = from.2 })
    | inr behind ↦
        let from = counted_at e outcome behind.place contract behind.is in
        inr (record { place = behind.place; at = behind.at; original = from.0; is = from.1; same = from.2 })
  ]

  front_trade : (k : ℕ) (contract : Contract) (front : IsFront k contract) → contract.trade ≡ front.original.trade
  front_trade k contract front = ap (λ (c : Contract). c.trade) front.same

  late_trade : (k : ℕ) (contract : Contract) (late : IsLate k contract) → contract.trade ≡ late.original.trade
  late_trade k contract late = ap (λ (c : Contract). c.trade) late.same

  -- no offered trade is in the set
  apart : (j k : ℕ) (one other : Contract) → slice_get offered j ≡ Some one → slice_get outcome k ≡ Some other
      → one.trade ≡ other.trade → ⊥
  apart j k one other one_is other_is same =
      let offer = offered_are.signed j one one_is in
      differ (sym (outcome_are.signed k other other_is).there ∙ ap (has set) (sym same)
      ∙ (are.more_in one.trade offer.below offer.there).1)

  -- and none of the set is offered
  set_apart : (u : ℕ) → u < count → has set u ≡ true → has more u ≡ false
  set_apart u below there = elim (cases_Bool (has more u)) [
    | inr away ↦ away
    | inl offer ↦ absurd (differ (sym there ∙ (are.more_in u below offer).1))
  ]

  -- so it has each trade of both once, at its price
  pub pool_are : AreContractsOf count all (price_together d e more more_price set_price) (together e offered d outcome)
  pool_are = record {
    signed = λ k contract at. elim (pool_cases k contract at) [
      | inl front ↦
          let there = offered_are.signed k front.original front.is in
          subst (IsSigned all pool_price count) (sym front.same) (record {
            below = there.below;
            there = (are.more_in front.original.trade there.below there.there).0;
            price = ap (λ (z : ℤ). d *ℤ z) there.price
                ∙ sym (ap (λ (b : Bool). if b then d *ℤ more_price front.original.trade
                else e *ℤ set_price front.original.trade) there.there);
          })
      | inr late ↦
          let there = outcome_are.signed late.place late.original late.is in
          subst (IsSigned all pool_price count) (sym late.same) (record {
            below = there.below;
            there = are.set_in late.original.trade there.below there.there;
            price = ap (λ (z : ℤ). e *ℤ z) there.price
                ∙ sym (ap (λ (b : Bool). if b then d *ℤ more_price late.original.trade
                else e *ℤ set_price late.original.trade) (set_apart late.original.trade there.below there.there));
          })
    ];
    found = λ t below there. elim (cases_Bool (has set t)) [
      | inl signed ↦
          let found = outcome_are.found t below signed in (
            length (counted d offered) + found.0,
            record { trade = found.1.trade; price = e *ℤ found.1.price },
            append_behind (counted d offered) (counted e outcome) found.0 (length (counted d offered) + found.0)
                (record { trade = found.1.trade; price = e *ℤ found.1.price }) refl
                (slice_get-map (λ (c : Contract). let one : Contract = record { trade = c.trade; price = e *ℤ c.price } in one)
                outcome found.0
                ∙ ap (option_map (λ (c : Contract). let one : Contract = record { trade = c.trade; price = e *ℤ c.price } in one))
                found.2),
            found.3,
          )
      | inr away ↦
          let found = offered_are.found t below (are.rest t below there away) in (
            found.0,
            record { trade = found.1.trade; price = d *ℤ found.1.price },
            offer_in_pool e d offered outcome found.0 found.1 found.2,
            found.3,
          )
    ];
    once = λ j k one other one_is other_is same. elim (pool_cases j one one_is) [
      | inl first ↦ elim (pool_cases k other other_is) [
        | inl second ↦ offered_are.once j k first.original second.original first.is second.is
            (sym (front_trade j one first) ∙ same ∙ front_trade k other second)
        | inr second ↦ absurd (apart j second.place first.original second.original first.is second.is
            (sym (front_trade j one first) ∙ same ∙ late_trade k other second))
      ]
      | inr first ↦ elim (pool_cases k other other_is) [
        | inl second ↦ absurd (apart k first.place second.original first.original second.is first.is
            (sym (front_trade k other second) ∙ sym same ∙ late_trade j one first))
        | inr second ↦
            let places = outcome_are.once first.place second.place first.original second.original first.is second.is
            (sym (late_trade j one first) ∙ same ∙ late_trade k other second) in
            let first_at = first.at in
            let second_at = second.at in
            omega (arith, places, first_at, second_at)
      ]
    ];
  }

-- ---- what choices from a list say of best counts

-- unit contracts of a set, whose trades are kinds at the prices of these
pub record AreOfKinds (trades others : List UnitTrade) (kind : ℕ → ℕ) (prices : ℕ → ℤ) (all : ℕ) (all_price : ℕ → ℤ)
    (contracts : List Contract) : Type 0 where
  pub contracts_of : AreContractsOf (length (unit_trades trades)) all all_price contracts
  pub within : all < 2 ^ length (unit_trades trades)
  pub signed_in : (u : ℕ) → u < unit_count trades → has all u ≡ true → kind u < length others
  pub in_signed : (u : ℕ) → u < unit_count trades → kind u < length others → has all u ≡ true
  pub priced : (u : ℕ) → u < unit_count trades → kind u < length others → all_price u ≡ prices (kind u)

module _ (firms : List CountFirm) (trades : List UnitTrade) (fit : FitByCounts firms trades) (f : ℕ) (firm : CountFirm)
    (is : slice_get firms f ≡ Some firm) (fellows : List CountFirm) (others : List UnitTrade)
    (fellows_fit : FitByCounts fellows others) (fellow : CountFirm) (fellow_is : slice_get fellows f ≡ Some fellow)
    (kind : ℕ → ℕ) (kinds : AreKinds trades others kind) (prices : ℕ → ℤ) (all : ℕ) (all_price : ℕ → ℤ)
    (contracts : List Contract) (of : AreOfKinds trades others kind prices all all_price contracts)
    (worths : (x : ℕ) → IsOfKinds trades others kind f x
    → fellow.worth (kinds_of trades kind f x) ≡ firm.worth (counts_of trades f x)) (scale : ℤ) where
  abbrev n : ℕ
  n = own_units trades f

  feasible : IsFeasible (unit_trades trades) contracts
  feasible = set_feasible all all_price (unit_trades trades) contracts of.contracts_of

  signer : IsSigner (unit_firms trades firms) (unit_trades trades) contracts f (unit_firm trades f firm)
  signer = record {
    network = fits_network firms trades fit;
    feasible = feasible;
    is = unit_firm_at trades 0 firms f f firm (omega arith) is;
  }

  -- the firm's bundle of all that is signed
  abbrev given : ℕ
  given = signed_bundle (unit_trades trades) contracts f (unit_firm trades f firm)

  given_is : signed_bundle (unit_trades trades) contracts f (unit_firm trades f firm) ≡ part (unit_trades trades) f n all
  given_is = ap (λ (s : ℕ). part (unit_trades trades) f (own_units trades f) s)
      (set_signed all all_price (length (unit_trades trades)) contracts of.within of.contracts_of)

  has_given : (k : ℕ) → k < n → has given k ≡ has all (own (unit_trades trades) f k)
  has_given k below = ap (λ (x : ℕ). has x k) given_is ∙ has-set_of (λ i. has all (own (unit_trades trades) f i)) n k
      ∙ ap (λ (b : Bool). b && has all (own (unit_trades trades) f k)) (lt-ltb k n below)

  of_signed : (x : ℕ) → IsSubset x given → IsOfKinds trades others kind f x
  of_signed x inside k below there =
      of.signed_in (own (unit_trades trades) f k) (own_below firms trades fit f firm is k below)
      (sym (has_given k below) ∙ inside k there)

  signed_of : (x : ℕ) → x < 2 ^ n → IsOfKinds trades others kind f x → IsSubset x given
  signed_of x within x_of k there =
      let below = has_below x n k within there in
      has_given k below
      ∙ of.in_signed (own (unit_trades trades) f k) (own_below firms trades fit f firm is k below) (x_of k below there)

  priced : (u : ℕ) → u < unit_count trades → kind u < length others → signed_price contracts u ≡ prices (kind u)
  priced u below inside =
      let long = length-units trades (unit_count trades) in
      set_priced all all_price (length (unit_trades trades)) contracts of.contracts_of u (omega (arith, below, long))
      (of.in_signed u below inside) ∙ of.priced u below inside

  module _ (counts : ℕ → ℕ) (value : ℤ) (best : IsBestCount others (count_utility others scale prices f fellow) counts value)
    where
      -- best counts are those of a bundle
      abbrev chosen : ℕ
      chosen = first_kinds firms trades fit f firm is fellows others fellows_fit fellow fellow_is kind kinds counts

      abbrev z : ℕ
      z = part (unit_trades trades) f n chosen

      z_within : z < 2 ^ n
      z_within = set_of_within (λ k. has chosen (own (unit_trades trades) f k)) n

      z_has : (s : ℕ) → s < length others → kinds_on trades kind chosen s ≡ counts s
      z_has = first_have firms trades fit f firm is fellows others fellows_fit fellow fellow_is kind kinds counts best.within

      z_of : IsOfKinds trades others kind f z
      z_of = first_of_kinds firms trades fit f firm is fellows others fellows_fit fellow fellow_is kind kinds counts

      z_best : IsBestOfKinds trades others kind f
          (utility_at (unit_trades trades) scale (signed_price contracts) f (unit_firm trades f firm)) z value
      z_best =
          (best_by_kinds firms trades fit f firm is fellows others fellows_fit fellow fellow_is kind kinds scale prices
          (signed_price contracts) priced worths chosen counts value z_has z_of).0 best

      -- which a part has
      abbrev part_of : ℕ
      part_of = wanted_part (unit_trades trades) f contracts (is_in (unit_trades trades) f n z)

      part_bundle_is : bundle_by (unit_trades trades) f n contracts part_of ≡ z
      part_bundle_is =
          part_bundle (unit_firms trades firms) (unit_trades trades) contracts f (unit_firm trades f firm) signer
          (is_in (unit_trades trades) f n z) z z_within
          (λ i below. with_signed (has z i) (is_signed contracts (own (unit_trades trades) f i))
          (λ there. sym (has-signed_bundle (unit_firms trades firms) (unit_trades trades) (fits_network firms trades fit)
          contracts f i (unit_firm trades f firm) signer.is below) ∙ signed_of z z_within z_of i there)
          ∙ ap (λ (b : Bool). b && is_signed contracts (own (unit_trades trades) f i))
          (sym (in_is (unit_firms trades firms) (unit_trades trades) (fits_network firms trades fit) f
          (unit_firm trades f firm) signer.is z i below)))
        where
          with_signed : (b c : Bool) → (b ≡ true → c ≡ true) → b ≡ (b && c)
          with_signed true c h = sym (h refl)
          with_signed false c h = refl

      -- and that is a choice
      part_choice : IsChoice (unit_trades trades) scale f (unit_firm trades f firm) contracts part_of
      part_choice = record {
        part = wanted_is_part (unit_trades trades) contracts feasible f (is_in (unit_trades trades) f n z);
        value = value;
        is = part_is_bundle (unit_firms trades firms) (unit_trades trades) scale contracts f (unit_firm trades f firm) signer
            part_of (wanted_is_part (unit_trades trades) contracts feasible f (is_in (unit_trades trades) f n z))
            ∙ ap (contract_utility (unit_trades trades) scale contracts f (unit_firm trades f firm)) part_bundle_is ∙ z_best.is;
        most = λ w other w_part w_is.
            z_best.most (bundle_by (unit_trades trades) f n contracts w) other
            (of_signed (bundle_by (unit_trades trades) f n contracts w)
            (bundle_signed (unit_firms trades firms) (unit_trades trades) contracts f (unit_firm trades f firm) signer w))
            (sym (part_is_bundle (unit_firms trades firms) (unit_trades trades) scale contracts f (unit_firm trades f firm)
            signer w w_part) ∙ w_is);
      }

      -- each choice takes a contract on this trade
      record IsTaken (u : ℕ) : Type 0 where
        place : ℕ
        contract : Contract
        at : slice_get contracts place ≡ Some contract
        on : contract.trade ≡ u
        taken : (x : ℕ) → IsChoice (unit_trades trades) scale f (unit_firm trades f firm) contracts x → has x place ≡ true

      has_taken : (u : ℕ) → u < unit_count trades → is_own trades f (trade_of trades u) ≡ true → IsTaken u
          → has chosen u ≡ true
      has_taken u below mine there =
          let p_below = place_within firms trades fit f firm is u below mine in
          let p_is = own_here firms trades fit f firm is u below mine in
          let traded = traded_by contracts part_of (own (unit_trades trades) f (place_of trades f u)) (length contracts)
          there.place there.contract (slice_get_within contracts there.place there.contract there.at)
          (there.taken part_of part_choice) there.at (there.on ∙ sym p_is) in
          let in_bundle = has-set_of (λ k. is_traded contracts part_of (own (unit_trades trades) f k) (length contracts)) n
          (place_of trades f u) ∙ ap₂ (λ (a b : Bool). a && b) (lt-ltb (place_of trades f u) n p_below) traded in
          ap (has chosen) (sym p_is)
          ∙ (and_parts (nat_lt (place_of trades f u) n) (has chosen (own (unit_trades trades) f (place_of trades f u)))
          (sym (has-set_of (λ k. has chosen (own (unit_trades trades) f k)) n (place_of trades f u))
          ∙ ap (λ (w : ℕ). has w (place_of trades f u)) (sym part_bundle_is) ∙ in_bundle)).1

      -- where each choice takes all contracts of a kind of the firm, best counts have all of it
      pub all_taken : (s : ℕ) → s < length others
          → ((u : ℕ) → u < unit_count trades → kind u ≡ s → (is_own trades f (trade_of trades u) ≡ true)
          × ((place : ℕ) × (contract : Contract) × (slice_get contracts place ≡ Some contract) × (contract.trade ≡ u)
          × ((x : ℕ) → IsChoice (unit_trades trades) scale f (unit_firm trades f firm) contracts x → has x place ≡ true)))
          → counts s ≡ (trade_at others s).units
      all_taken s below each =
          sym (z_has s below)
          ∙ count-same (λ u. has chosen u && s == kind u) (λ u. s == kind u) (unit_count trades)
          (λ u inside. by u inside (s == kind u) refl)
          ∙ kinds.size s below
        where
          by : (u : ℕ) → u < unit_count trades → (b : Bool) → (s == kind u) ≡ b → (has chosen u && b) ≡ b
          by u inside false test = none (has chosen u)
            where
              none : (c : Bool) → (c && false) ≡ false
              none true = refl
              none false = refl
          by u inside true test =
              let found = each u inside (sym (eqb-true s (kind u) test)) in
              ap (λ (c : Bool). c && true) (has_taken u inside found.0 (record {
                place = found.1.0;
                contract = found.1.1;
                at = found.1.2;
                on = found.1.3;
                taken = found.1.4;
              }))
