-- Whatever contracts of unit trades block the unit contracts of an outcome, on unsigned twins, are offers by counts of one
-- unit each that block the outcome: each of them, with its one twin, is a kind of unit trades.
use Rattle.std.proofs.Common.{◌≡◌, ℕ, zero, suc, ◌+◌, ◌-◌, ◌^◌, ◌<◌, Bool, true, false, ◌==◌, ◌&&◌, ◌||◌, nat_lt, if◌then◌else◌, List, [], ◌∷◌, ◌++◌, length, get_or, slice_get, Option, Some, option_map, inl, inr, refl, sym, ap, ap₂, ◌∙◌, subst, arith, length-append, ℤ, pos, ◌*ℤ◌}
use Rattle.std.specs.Prelude.{unwrap_or}
use Rattle.std.proofs.lemmas.Bool.{and_parts, cases_Bool, cases_eq, cases_lt, eq-eqb, eqb-true, lt-ltb, ne_eqb, or_cases, or_left, or_right}
use Rattle.std.proofs.lemmas.List.{get_or-append-add, get_or_append_left, length-map}
use Rattle.std.proofs.lemmas.Option.{get_or_from_slice_get, same_Some, slice_get-get_or, slice_get-map, slice_get_within}
use Rattle.tn_base.specs.Sets.{has, union}
use Rattle.tn_base.proofs.SetLemmas.{has-set_of, has-union, set_of_within, union_within}
use Rattle.tn_model.specs.declared.contract.Contract.{Contract}
use Rattle.tn_model.specs.declared.ends.Ends.{Ends}
use Rattle.tn_model.specs.Choices.{Blocks, IsFeasible, is_end, is_of, together}
use Rattle.tn_model.specs.Network.{own}
use Rattle.tn_market.specs.Signed.{is_signed, signed, signed_price}
use Rattle.tn_network_laws.proofs.PoolLemmas.{AreContractsOf, append_cases, offer_in_pool}
use Rattle.tn_outcome_laws.proofs.SignedLemmas.{contract_on, price_of_contract, signed_by}
use Rattle.tn_counts.specs.Counts.{CountFirm, IsBestCount, count_utility, trade_at}
use Rattle.tn_counts.specs.Outcomes.{AreUnitContracts, BlocksByCounts, HasEnd, contract_at, joined, prices_beside, signed_units, split_firms, split_trades, together as together_units, units_of}
use Rattle.tn_counts.specs.declared.contract.UnitContract.{UnitContract}
use Rattle.tn_counts.specs.declared.trade.UnitTrade.{UnitTrade}
use Rattle.tn_unit_laws.specs.Laws.{FitByCounts}
use Rattle.tn_unit_laws.specs.Outcomes.{signed_twins, single_offers, split_of, split_price, unit_contracts}
use Rattle.tn_unit_laws.specs.Units.{count_below, counts_of, is_own, own_units, trade_of, twins_before, unit_count, unit_firm, unit_firms, unit_trades}
use Rattle.tn_unit_laws.proofs.CountLemmas.{count-at, count-most, count-none, count-plus, count-same, count-twins, eqb-turned, one, trade_of-within}
use Rattle.tn_unit_laws.proofs.UnitLemmas.{length-units, unit_at, unit_firm_at}
use Rattle.tn_unit_laws.proofs.EquilibriumLemmas.{first_have}
use Rattle.tn_unit_laws.proofs.PaymentLemmas.{own_below}
use Rattle.tn_unit_laws.proofs.SplitLemmas.{joined_of, signed-append, signed-cons, split_signed, split_free}
use Rattle.tn_unit_laws.proofs.UnitContractLemmas.{are_contracts, each_has, kind_on, kind_off, on_within, split_sized, split_trade}
use Rattle.tn_unit_laws.proofs.KindLemmas.{AreKinds, IsOfKinds, kinds_of}
use Rattle.tn_unit_laws.proofs.OutcomeLemmas.{fellow_is, split_fit, split_from}
use Rattle.tn_unit_laws.proofs.TogetherLemmas.{AreAll, AreOfKinds, all_taken, count_price, pool_are, price_behind, price_front, price_is, price_together}

differ : true ≡ false → ⊥
differ e = absurd (cc)

-- ---- offers, of which no two are on one twin

-- the place of the offer on a unit trade
place_on : List Contract → ℕ → ℕ
place_on [] u = 0
place_on (offer ∷ offers) u = if offer.trade == u then 0 else suc (place_on offers u)

abbrev AreOnce : List Contract → Type 0
AreOnce offers = (j k : ℕ) (one other : Contract) → slice_get offers j ≡ Some one → slice_get offers k ≡ Some other
    → one.trade ≡ other.trade → j ≡ k

once_later : (offer : Contract) (offers : List Contract) → AreOnce (offer ∷ offers) → AreOnce offers
once_later offer offers once j k one other one_is other_is same =
    let e = once (suc j) (suc k) one other one_is other_is same in omega (arith, e)

place_is : (offers : List Contract) → AreOnce offers → (k : ℕ) (offer : Contract) → slice_get offers k ≡ Some offer
    → place_on offers offer.trade ≡ k
unfolding place_on
place_is [] once k offer is = absurd (cc is)
place_is (first ∷ offers) once zero offer is =
    ap (λ (b : Bool). if b then 0 else suc (place_on offers offer.trade))
    (eq-eqb first.trade offer.trade (ap (λ (c : Contract). c.trade) (same_Some first offer is)))
place_is (first ∷ offers) once (suc k) offer is = elim (cases_Bool (first.trade == offer.trade)) [
  | inl same ↦ absurd (let e = once 0 (suc k) first offer refl is (eqb-true first.trade offer.trade same) in
      omega (arith, e))
  | inr apart ↦
      ap (λ (b : Bool). if b then 0 else suc (place_on offers offer.trade)) apart
      ∙ ap suc (place_is offers (once_later first offers once) k offer is)
]

-- as many units of a trade are offered as twins
offered_units : (trades : List UnitTrade) (offers : List Contract) → AreOnce offers
    → ((k : ℕ) (offer : Contract) → slice_get offers k ≡ Some offer → offer.trade < unit_count trades) → (t : ℕ)
    → signed_units (single_offers trades offers) t
    ≡ count_below (λ u. is_signed offers u && t == trade_of trades u) (unit_count trades)
offered_units trades [] once known t = sym (count-none (λ u. false && t == trade_of trades u) (unit_count trades) (λ u below. refl))
offered_units trades (offer ∷ offers) once known t =
    let sum = signed-cons (record { trade = trade_of trades offer.trade; units = 1; price = offer.price })
    (single_offers trades offers) t in
    let rest = offered_units trades offers (once_later offer offers once) (λ k one at. known (suc k) one at) t in
    let here = count-at (λ u. t == trade_of trades u) offer.trade (unit_count trades) (known 0 offer refl) in
    let both = count-plus (λ u. offer.trade == u && t == trade_of trades u)
    (λ u. is_signed offers u && t == trade_of trades u)
    (λ u. (offer.trade == u || is_signed offers u) && t == trade_of trades u) (unit_count trades)
    (λ u below. by (offer.trade == u) (is_signed offers u) (t == trade_of trades u) (alone u)) in
    let test = ap one (eqb-turned (trade_of trades offer.trade) t) in
    omega (arith, sum, rest, here, both, test)
  where
    alone : (u : ℕ) → (offer.trade == u) ≡ true → is_signed offers u ≡ true → ⊥
    alone u here there =
        let found = contract_on offers u there in
        let e = once 0 (suc found.place) offer found.contract refl found.is (eqb-true offer.trade u here ∙ sym found.trade) in
        absurd (omega (arith, e))

    by : (a b c : Bool) → (a ≡ true → b ≡ true → ⊥) → one (a && c) + one (b && c) ≡ one ((a || b) && c)
    by true true c apart = absurd (apart refl refl)
    by true false true apart = refl
    by true false false apart = refl
    by false b c apart = omega arith

-- contracts that can be signed together are those of their trades
contracts_of_feasible : (trades : List Ends) (offers : List Contract) → IsFeasible trades offers
    → AreContractsOf (length trades) (signed (length trades) offers) (signed_price offers) offers
contracts_of_feasible trades offers feasible = record {
  signed = λ k offer at. record {
    below = feasible.known k offer at;
    there = has-set_of (is_signed offers) (length trades) offer.trade
        ∙ ap₂ (λ (a b : Bool). a && b) (lt-ltb offer.trade (length trades) (feasible.known k offer at))
        (signed_by offers k offer.trade offer at refl);
    price = sym (price_of_contract offers feasible.once k offer at);
  };
  found = λ t below there.
      let on = contract_on offers t (and_parts (nat_lt t (length trades)) (is_signed offers t)
      (sym (has-set_of (is_signed offers) (length trades) t) ∙ there)).1 in
      (on.place, on.contract, on.is, on.trade);
  once = feasible.once;
}

module _ (firms : List CountFirm) (trades : List UnitTrade) (fit : FitByCounts firms trades) (d : ℤ)
    (contracts : List UnitContract) (before : AreUnitContracts trades contracts) (e : ℤ) (offers : List Contract)
    (feasible : IsFeasible (unit_trades trades) offers)
    (unsigned : (k : ℕ) (offer : Contract) → slice_get offers k ≡ Some offer
    → has (signed_twins trades contracts) offer.trade ≡ false) where
  abbrev count : ℕ
  count = length (unit_trades trades)

  long : count ≡ unit_count trades
  long = length-units trades (unit_count trades)

  abbrev singles : List UnitContract
  singles = single_offers trades offers

  abbrev both : List UnitContract
  both = contracts ++ singles

  abbrev null : ℕ
  null = length both + length trades

  -- the twins that are signed, that are offered, and all of them
  abbrev set : ℕ
  set = signed_twins trades contracts

  abbrev more : ℕ
  more = signed count offers

  abbrev all : ℕ
  all = union set more

  singles_long : length singles ≡ length offers
  singles_long = length-map offers (λ (offer : Contract).
      let one : UnitContract = record { trade = trade_of trades offer.trade; units = 1; price = offer.price } in one)

  sized : length both ≡ length contracts + length offers
  sized = length-append contracts singles ∙ ap (λ (n : ℕ). length contracts + n) singles_long

  single_at : (k : ℕ) (offer : Contract) → slice_get offers k ≡ Some offer
      → slice_get singles k ≡ Some (record { trade = trade_of trades offer.trade; units = 1; price = offer.price })
  single_at k offer is =
      slice_get-map (λ (offer : Contract).
      let one : UnitContract = record { trade = trade_of trades offer.trade; units = 1; price = offer.price } in one) offers k
      ∙ ap (option_map (λ (offer : Contract).
      let one : UnitContract = record { trade = trade_of trades offer.trade; units = 1; price = offer.price } in one)) is

  both_at : (k : ℕ) (offer : Contract) → slice_get offers k ≡ Some offer
      → contract_at both (length contracts + k)
      ≡ record { trade = trade_of trades offer.trade; units = 1; price = offer.price }
  both_at k offer is =
      get_or-append-add contracts singles k (record { trade = 0; units = 0; price = pos 0 })
      ∙ get_or_from_slice_get singles k (record { trade = trade_of trades offer.trade; units = 1; price = offer.price })
      (record { trade = 0; units = 0; price = pos 0 }) (single_at k offer is)

  from_single : (k : ℕ) (single : UnitContract) → slice_get singles k ≡ Some single
      → (offer : Contract) × (slice_get offers k ≡ Some offer)
      × (record { trade = trade_of trades offer.trade; units = 1; price = offer.price } ≡ single)
  from_single k single at =
      let below = slice_get_within singles k single at in
      let many = singles_long in
      let none : Contract = record { trade = 0; price = pos 0 } in
      let offer_is = slice_get-get_or offers k none (omega (arith, below, many)) in (
        get_or offers k none,
        offer_is,
        same_Some (record {
          trade = trade_of trades (get_or offers k none).trade;
          units = 1;
          price = (get_or offers k none).price;
        }) single (sym (single_at k (get_or offers k none) offer_is) ∙ at),
      )

  known_twin : (k : ℕ) (offer : Contract) → slice_get offers k ≡ Some offer → offer.trade < unit_count trades
  known_twin k offer is = let below = feasible.known k offer is in omega (arith, below, long)

  has_more : (u : ℕ) → u < unit_count trades → has more u ≡ is_signed offers u
  has_more u below = has-set_of (is_signed offers) count u
      ∙ ap (λ (b : Bool). b && is_signed offers u) (lt-ltb u count (omega (arith, below, long)))

  are_all : AreAll count set more all
  are_all = record {
    set_in = λ u below there. has-union set more u ∙ or_left (has set u) (has more u) there;
    more_in = λ u below there. (has-union set more u ∙ or_right (has set u) (has more u) there, away u below there);
    rest = λ u below there out. elim (or_cases (has set u) (has more u) (sym (has-union set more u) ∙ there)) [
      | inl signed ↦ absurd (differ (sym signed ∙ out))
      | inr offered ↦ offered
    ];
  }
    where
      away : (u : ℕ) → u < length (unit_trades trades) → has more u ≡ true → has set u ≡ false
      away u below there =
          let found = contract_on offers u (sym (has_more u (omega (arith, below, long))) ∙ there) in
          ap (has set) (sym found.trade) ∙ unsigned found.place found.contract found.is

  -- ---- what is signed and offered can be signed together

  beside : AreUnitContracts trades both
  beside = record {
    known = λ k contract at. elim (append_cases contracts singles k contract at) [
      | inl front ↦ before.known k contract front.0
      | inr behind ↦ known_single behind.place contract behind.is
    ];
    within = λ t below.
        let sum = signed-append contracts singles t in
        let mine = first_have trades (signed_units contracts) before.within t below in
        let theirs = offered_units trades offers feasible.once known_twin t in
        let two = count-plus (λ u. has set u && t == trade_of trades u) (λ u. is_signed offers u && t == trade_of trades u)
        (λ u. (has set u || is_signed offers u) && t == trade_of trades u) (unit_count trades)
        (λ u inside. by (has set u) (is_signed offers u) (t == trade_of trades u) (never_both u)) in
        let most = count-most (λ u. (has set u || is_signed offers u) && t == trade_of trades u) (λ u. t == trade_of trades u)
        (unit_count trades) (λ u inside there. (and_parts (has set u || is_signed offers u) (t == trade_of trades u) there).1)
        in
        let twins = count-twins trades t in
        omega (arith, sum, mine, theirs, two, most, twins);
  }
    where
      known_single : (k : ℕ) (contract : UnitContract) → slice_get singles k ≡ Some contract
          → contract.trade < length trades
      known_single k contract at =
          let from = from_single k contract at in
          let inside = trade_of-within trades from.0.trade (known_twin k from.0 from.1) in
          let same = ap (λ (c : UnitContract). c.trade) from.2 in
          omega (arith, inside, same)

      never_both : (u : ℕ) → has set u ≡ true → is_signed offers u ≡ true → ⊥
      never_both u there offered =
          let found = contract_on offers u offered in
          differ (sym there ∙ ap (has set) (sym found.trade) ∙ unsigned found.place found.contract found.is)

      by : (a b c : Bool) → (a ≡ true → b ≡ true → ⊥) → one (a && c) + one (b && c) ≡ one ((a || b) && c)
      by true true c apart = absurd (apart refl refl)
      by true false true apart = refl
      by true false false apart = refl
      by false b c apart = omega arith

  -- ---- the trades of the split network as kinds of unit trades

  kind : ℕ → ℕ
  kind u = if has set u then split_of contracts (trade_of trades u) (twins_before trades u)
      else (if has more u then length contracts + place_on offers u else null)

  -- a signed twin is of its contract, an offered one of its offer, and all others are left out
  data IsKind (u : ℕ) : Type 0 where
    OfContract : has set u ≡ true → kind u ≡ split_of contracts (trade_of trades u) (twins_before trades u)
        → kind u < length contracts → IsKind u
    OfOffer : (k : ℕ) (offer : Contract) → slice_get offers k ≡ Some offer → offer.trade ≡ u → has more u ≡ true
        → kind u ≡ length contracts + k → IsKind u
    OfNone : has set u ≡ false → has more u ≡ false → kind u ≡ null → IsKind u

  kind_of : (u : ℕ) → u < unit_count trades → IsKind u
  unfolding kind
  kind_of u below = elim (cases_Bool (has set u)) [
    | inl there ↦
        let same : kind u ≡ split_of contracts (trade_of trades u) (twins_before trades u) =
        ap (λ (b : Bool). if b then split_of contracts (trade_of trades u) (twins_before trades u)
        else (if has more u then length contracts + place_on offers u else null)) there in
        let inside = kind_on trades contracts before u below there in
        OfContract there same (omega (arith, same, inside))
    | inr out ↦
        let first : kind u ≡ (if has more u then length contracts + place_on offers u else null) =
        ap (λ (b : Bool). if b then split_of contracts (trade_of trades u) (twins_before trades u)
        else (if has more u then length contracts + place_on offers u else null)) out in
        elim (cases_Bool (has more u)) [
          | inl offered ↦
              let found = contract_on offers u (sym (has_more u below) ∙ offered) in
              OfOffer found.place found.contract found.is found.trade offered
              (first ∙ ap (λ (b : Bool). if b then length contracts + place_on offers u else null) offered
              ∙ ap (λ (n : ℕ). length contracts + n) (ap (place_on offers) (sym found.trade)
              ∙ place_is offers feasible.once found.place found.contract found.is))
          | inr neither ↦
              OfNone out neither
              (first ∙ ap (λ (b : Bool). if b then length contracts + place_on offers u else null) neither)
        ]
  ]

  abbrev split : List UnitTrade
  split = split_trades trades both (λ t. 0)

  split_long : length split ≡ null
  split_long = split_sized trades both (λ t. 0)

  front_at : (k : ℕ) → k < length contracts → contract_at both k ≡ contract_at contracts k
  front_at k below = get_or_append_left contracts singles (record { trade = 0; units = 0; price = pos 0 }) k below

  offer_below : (k : ℕ) (offer : Contract) → slice_get offers k ≡ Some offer → length contracts + k < length both
  offer_below k offer is = let below = slice_get_within offers k offer is in let long = sized in omega (arith, below, long)

  -- what isn't left out is of a contract or of an offer
  kind_both : (u : ℕ) → u < unit_count trades → kind u < length split → kind u < length both
  kind_both u below inside = by (kind_of u below)
    where
      by : IsKind u → kind u < length both
      by (OfContract there same front) = let long = sized in omega (arith, front, long)
      by (OfOffer k offer is on there same) = let late = offer_below k offer is in omega (arith, late, same)
      by (OfNone out neither same) = let long = split_long in absurd (omega (arith, inside, same, long))

  -- on the trade that it is of
  kind_trade : (u : ℕ) → u < unit_count trades → kind u < length both
      → (contract_at both (kind u)).trade ≡ trade_of trades u
  kind_trade u below inside = by (kind_of u below)
    where
      by : IsKind u → (contract_at both (kind u)).trade ≡ trade_of trades u
      by (OfContract there same front) =
          ap (λ (c : UnitContract). c.trade) (front_at (kind u) front)
          ∙ split_trade contracts (kind u) (trade_of trades u) (twins_before trades u) front (sym same)
      by (OfOffer k offer is on there same) =
          ap (λ (s : ℕ). (contract_at both s).trade) same ∙ ap (λ (c : UnitContract). c.trade) (both_at k offer is)
          ∙ ap (trade_of trades) on
      by (OfNone out neither same) = absurd (omega (arith, inside, same))

  -- and is signed or offered
  kind_all : (u : ℕ) → u < unit_count trades → kind u < length split → has all u ≡ true
  kind_all u below inside = by (kind_of u below)
    where
      by : IsKind u → has all u ≡ true
      by (OfContract there same front) = has-union set more u ∙ or_left (has set u) (has more u) there
      by (OfOffer k offer is on there same) = has-union set more u ∙ or_right (has set u) (has more u) there
      by (OfNone out neither same) = let long = split_long in absurd (omega (arith, inside, same, long))

  all_kind : (u : ℕ) → u < unit_count trades → has all u ≡ true → kind u < length split
  all_kind u below there = by (kind_of u below)
    where
      by : IsKind u → kind u < length split
      by (OfContract in_set same front) =
          let long = split_long in let wide = sized in omega (arith, front, long, wide)
      by (OfOffer k offer is on in_more same) =
          let late = offer_below k offer is in let long = split_long in omega (arith, late, same, long)
      by (OfNone out neither same) =
          absurd (differ (sym there ∙ has-union set more u ∙ ap₂ (λ (a b : Bool). a || b) out neither))

  -- what is of an offer is its twin
  of_offer : (u k : ℕ) → u < unit_count trades → kind u ≡ length contracts + k → k < length offers
      → (offer : Contract) × (slice_get offers k ≡ Some offer) × (offer.trade ≡ u)
  of_offer u k below place inside = by (kind_of u below)
    where
      by : IsKind u → (offer : Contract) × (slice_get offers k ≡ Some offer) × (offer.trade ≡ u)
      by (OfContract there same front) = absurd (omega (arith, front, place))
      by (OfOffer j offer is on there same) =
          let e : j ≡ k = omega (arith, same, place) in
          (offer, ap (slice_get offers) (sym e) ∙ is, on)
      by (OfNone out neither same) = let wide = sized in absurd (omega (arith, same, place, inside, wide))

  offer_kind : (k : ℕ) (offer : Contract) → slice_get offers k ≡ Some offer → kind offer.trade ≡ length contracts + k
  offer_kind k offer is = by (kind_of offer.trade (known_twin k offer is))
    where
      by : IsKind offer.trade → kind offer.trade ≡ length contracts + k
      by (OfContract there same front) = absurd (differ (sym there ∙ unsigned k offer is))
      by (OfOffer j other other_is on there same) =
          let e = feasible.once j k other offer other_is is on in omega (arith, same, e)
      by (OfNone out neither same) =
          absurd (differ (sym (signed_by offers k offer.trade offer is refl)
          ∙ sym (has_more offer.trade (known_twin k offer is)) ∙ neither))

  kinds : AreKinds trades split kind
  kinds = record {
    seller = λ u below inside. ap (λ (t : UnitTrade). t.seller) (ends u below inside);
    buyer = λ u below inside. ap (λ (t : UnitTrade). t.buyer) (ends u below inside);
    size = λ s below. elim (cases_lt s (length contracts)) [
      | inl front ↦
          count-same (λ u. s == kind u)
          (λ u. s == split_of contracts (trade_of trades u) (twins_before trades u)) (unit_count trades)
          (λ u inside. of_front s u inside front (kind_of u inside))
          ∙ each_has trades contracts before s front
          ∙ ap (λ (c : UnitContract). c.units) (sym (front_at s front))
          ∙ sym (ap (λ (t : UnitTrade). t.units)
          (split_signed trades both (λ t. 0) s (let wide = sized in omega (arith, front, wide))))
      | inr past ↦ elim (cases_lt s (length both)) [
        | inl late ↦ of_late s (s - length contracts) (omega (arith, past)) late
        | inr none ↦
            let place : s ≡ length both + (s - length both) = omega (arith, none) in
            let inside : s - length both < length trades = let long = split_long in omega (arith, none, below, long) in
            count-none (λ u. s == kind u) (unit_count trades) (λ u u_below. ne_eqb s (kind u) (λ e.
            let less = kind_both u u_below (omega (arith, e, below)) in omega (arith, e, less, none)))
            ∙ sym (ap (λ (t : UnitTrade). t.units) (ap (trade_at split) place
            ∙ split_free trades both (λ t. 0) (s - length both) inside))
      ]
    ];
  }
    where
      ends : (u : ℕ) → u < unit_count trades → kind u < length split
          → trade_at split (kind u) ≡ units_of trades (trade_of trades u) (contract_at both (kind u)).units
      ends u below inside =
          let in_both = kind_both u below inside in
          split_signed trades both (λ t. 0) (kind u) in_both
          ∙ ap (λ (t : ℕ). units_of trades t (contract_at both (kind u)).units) (kind_trade u below in_both)

      other : (s u : ℕ) → u < unit_count trades → s < length contracts → has set u ≡ false
          → (s == split_of contracts (trade_of trades u) (twins_before trades u)) ≡ false
      other s u below front out =
          let place = kind_off trades contracts before u below out in
          ne_eqb s (split_of contracts (trade_of trades u) (twins_before trades u)) (λ e. omega (arith, e, place, front))

      of_front : (s u : ℕ) → u < unit_count trades → s < length contracts → IsKind u
          → (s == kind u) ≡ (s == split_of contracts (trade_of trades u) (twins_before trades u))
      of_front s u below front (OfContract there same inside) = ap (λ (k : ℕ). s == k) same
      of_front s u below front (OfOffer k offer is on there same) =
          ne_eqb s (kind u) (λ e. omega (arith, e, same, front)) ∙ sym (other s u below front
          ((are_all.more_in u (omega (arith, below, long)) there).1))
      of_front s u below front (OfNone out neither same) =
          ne_eqb s (kind u) (λ e. let wide = sized in omega (arith, e, same, front, wide)) ∙ sym (other s u below front out)

      single : (s k : ℕ) → s ≡ length contracts + k → s < length both → (offer : Contract)
          → slice_get offers k ≡ Some offer
          → count_below (λ u. s == kind u) (unit_count trades) ≡ (trade_at split s).units
      single s k place late offer is =
          count-same (λ u. s == kind u) (λ u. offer.trade == u && true) (unit_count trades) (λ u below. by u below)
          ∙ count-at (λ u. true) offer.trade (unit_count trades) (known_twin k offer is)
          ∙ sym (ap (λ (t : UnitTrade). t.units) (split_signed trades both (λ t. 0) s late)
          ∙ ap (λ (c : UnitContract). c.units) (ap (contract_at both) place ∙ both_at k offer is))
        where
          and_true : (b : Bool) → b ≡ (b && true)
          and_true true = refl
          and_true false = refl

          by : (u : ℕ) → u < unit_count trades → (s == kind u) ≡ (offer.trade == u && true)
          by u below = elim (cases_eq offer.trade u) [
            | inl same ↦
                let here = offer_kind k offer is in
                eq-eqb s (kind u) (place ∙ sym here ∙ ap kind same)
                ∙ sym (eq-eqb offer.trade u same) ∙ and_true (offer.trade == u)
            | inr apart ↦
                ne_eqb s (kind u) (λ e.
                let found = of_offer u k below (omega (arith, e, place)) (slice_get_within offers k offer is) in
                apart (ap (λ (c : Contract). c.trade) (same_Some offer found.0 (sym is ∙ found.1)) ∙ found.2))
                ∙ sym (ne_eqb offer.trade u apart) ∙ and_true (offer.trade == u)
          ]

      of_late : (s k : ℕ) → s ≡ length contracts + k → s < length both
          → count_below (λ u. s == kind u) (unit_count trades) ≡ (trade_at split s).units
      of_late s k place late =
          let k_below : k < length offers = let wide = sized in omega (arith, place, late, wide) in
          let offer_is = slice_get-get_or offers k (record { trade = 0; price = pos 0 }) k_below in
          single s k place late (get_or offers k (record { trade = 0; price = pos 0 })) offer_is

  -- ---- the unit contracts and the offers together, at prices by counts

  abbrev outcome : List Contract
  outcome = unit_contracts trades contracts

  abbrev pool : List Contract
  pool = together e offers d outcome

  abbrev set_price : ℕ → ℤ
  set_price u = split_price trades contracts (λ t. pos 0) u

  abbrev pool_price : ℕ → ℤ
  pool_price = price_together d e more (signed_price offers) set_price

  abbrev count_prices : ℕ → ℤ
  count_prices = prices_beside (together_units d contracts e singles) (λ t. pos 0)

  pool_priced : (u : ℕ) → u < unit_count trades → kind u < length split → pool_price u ≡ count_prices (kind u)
  pool_priced u below inside = by (kind_of u below)
    where
      in_both : kind u < length both
      in_both = kind_both u below inside

      by : IsKind u → pool_price u ≡ count_prices (kind u)
      by (OfContract there same front) =
          ap (λ (b : Bool). if b then d *ℤ signed_price offers u else e *ℤ set_price u) (not_more there)
          ∙ ap (λ (z : ℤ). e *ℤ z) (ap (prices_beside contracts (λ t. pos 0)) (sym same)
          ∙ price_is contracts (λ t. pos 0) (kind u) front)
          ∙ sym (price_front e d contracts singles (kind u) front)
          ∙ sym (count_price e d contracts singles (kind u) in_both)
        where
          not_more : has set u ≡ true → has more u ≡ false
          not_more there = elim (cases_Bool (has more u)) [
            | inr away ↦ away
            | inl offered ↦ absurd (differ (sym there ∙ (are_all.more_in u (omega (arith, below, long)) offered).1))
          ]
      by (OfOffer k offer is on there same) =
          ap (λ (b : Bool). if b then d *ℤ signed_price offers u else e *ℤ set_price u) there
          ∙ ap (λ (z : ℤ). d *ℤ z) (ap (signed_price offers) (sym on) ∙ price_of_contract offers feasible.once k offer is
          ∙ ap (λ (c : UnitContract). c.price) (sym (both_at k offer is))
          ∙ ap (λ (s : ℕ). (contract_at both s).price) (sym same))
          ∙ sym (price_behind e d contracts singles (kind u) (omega (arith, same)) in_both)
          ∙ sym (count_price e d contracts singles (kind u) in_both)
      by (OfNone out neither same) = absurd (omega (arith, in_both, same))

  of_kinds : AreOfKinds trades split kind count_prices all pool_price pool
  of_kinds = record {
    contracts_of = pool_are count set more all are_all set_price (signed_price offers) outcome offers
        (are_contracts trades contracts before) (contracts_of_feasible (unit_trades trades) offers feasible) d e;
    within = union_within set more count
        (subst (λ (n : ℕ). set < 2 ^ n) (sym long) (on_within trades contracts before))
        (set_of_within (is_signed offers) count);
    signed_in = all_kind;
    in_signed = kind_all;
    priced = pool_priced;
  }

  -- ---- one firm

  module _ (f : ℕ) (firm : CountFirm) (is : slice_get firms f ≡ Some firm) where
    abbrev n : ℕ
    n = own_units trades f

    worth_is : (x : ℕ) → IsOfKinds trades split kind f x
        → firm.worth (joined both (kinds_of trades kind f x)) ≡ firm.worth (counts_of trades f x)
    worth_is x of =
        fit.own f firm is (joined both (kinds_of trades kind f x)) (counts_of trades f x)
        (λ t below mine.
        joined_of both (λ k. kind (own (unit_trades trades) f k)) (has x) n t (λ k k_below there.
        kind_both (own (unit_trades trades) f k) (own_below firms trades fit f firm is k k_below) (of k k_below there))
        ∙ count-same (λ k. has x k && t == (contract_at both (kind (own (unit_trades trades) f k))).trade)
        (λ k. has x k && t == trade_of trades (own (unit_trades trades) f k)) n
        (λ k k_below. by t k k_below (has x k) refl))
      where
        by : (t k : ℕ) → k < n → (b : Bool) → has x k ≡ b
            → (b && t == (contract_at both (kind (own (unit_trades trades) f k))).trade)
            ≡ (b && t == trade_of trades (own (unit_trades trades) f k))
        by t k below true there =
            let u_below = own_below firms trades fit f firm is k below in
            ap (λ (s : ℕ). t == s) (kind_trade (own (unit_trades trades) f k) u_below
            (kind_both (own (unit_trades trades) f k) u_below (of k below there)))
        by t k below false away = refl

    -- best counts have each of the firm's offers, where each choice takes it
    takes_single : Blocks (unit_firms trades firms) (unit_trades trades) d outcome e offers → (counts : ℕ → ℕ) (value : ℤ)
        → IsBestCount split (count_utility split (d *ℤ e) count_prices f
        (record { worth = λ counts. firm.worth (joined both counts) })) counts value
        → (k : ℕ) (offer : Contract) → slice_get offers k ≡ Some offer
        → is_own trades f (trade_of trades offer.trade) ≡ true → counts (length contracts + k) ≡ 1
    takes_single blocks counts value best k offer offer_is mine =
        let inside = offer_below k offer offer_is in
        let s_below : length contracts + k < length split = let wide = split_long in omega (arith, inside, wide) in
        all_taken firms trades fit f firm is (split_firms both firms) split (split_fit firms trades fit both beside (λ t. 0))
        (record { worth = λ counts. firm.worth (joined both counts) }) (fellow_is firms trades fit both beside f firm is)
        kind kinds count_prices all pool_price pool of_kinds worth_is (d *ℤ e) counts value best (length contracts + k)
        s_below (λ u below place.
        let found = of_offer u k below place (slice_get_within offers k offer offer_is) in
        let same = ap (λ (c : Contract). c.trade) (same_Some offer found.0 (sym offer_is ∙ found.1)) ∙ found.2 in (
          ap (λ (v : ℕ). is_own trades f (trade_of trades v)) (sym same) ∙ mine,
          (
            k,
            record { trade = offer.trade; price = d *ℤ offer.price },
            offer_in_pool e d offers outcome k offer offer_is,
            same,
            λ x choice. blocks.chosen f (unit_firm trades f firm) x (unit_firm_at trades 0 firms f f firm (omega arith) is)
                choice k offer offer_is of_firm,
          ),
        ))
        ∙ ap (λ (t : UnitTrade). t.units) (split_signed trades both (λ t. 0) (length contracts + k) inside)
        ∙ ap (λ (c : UnitContract). c.units) (both_at k offer offer_is)
      where
        of_firm : is_of (unit_trades trades) f offer ≡ true
        of_firm = ap (λ (o : Option Ends). unwrap_or (option_map (is_end f) o) false)
            (unit_at trades (unit_count trades) offer.trade (known_twin k offer offer_is)) ∙ mine

  -- ---- together

  pub singles_block : Blocks (unit_firms trades firms) (unit_trades trades) d (unit_contracts trades contracts) e offers
      → BlocksByCounts firms trades d contracts e (single_offers trades offers)
  singles_block blocks = record {
    some = let first = blocks.some in let many = singles_long in omega (arith, first, many);
    units = λ k offer offer_is.
        let found = from_single k offer offer_is in
        let units = ap (λ (c : UnitContract). c.units) found.2 in
        omega (arith, units);
    beside = beside;
    chosen = λ f fellow counts value at best k offer offer_is ends.
        let found = from_single k offer offer_is in
        let from = split_from both firms f fellow at in
        takes_single f from.firm from.is blocks counts value
        (subst (λ (one : CountFirm). IsBestCount split (count_utility split (d *ℤ e) count_prices f one) counts value)
        (sym from.same) best) k found.0 found.1
        (subst (λ (c : UnitContract). is_own trades f c.trade ≡ true) (sym found.2) (owned f offer ends))
        ∙ ap (λ (c : UnitContract). c.units) found.2;
  }
    where
      owned : (f : ℕ) (offer : UnitContract) → HasEnd f (trade_at trades offer.trade) → is_own trades f offer.trade ≡ true
      owned f offer (inl sells) =
          or_left ((trade_at trades offer.trade).seller == f) ((trade_at trades offer.trade).buyer == f)
          (eq-eqb (trade_at trades offer.trade).seller f sells)
      owned f offer (inr buys) =
          or_right ((trade_at trades offer.trade).seller == f) ((trade_at trades offer.trade).buyer == f)
          (eq-eqb (trade_at trades offer.trade).buyer f buys)
