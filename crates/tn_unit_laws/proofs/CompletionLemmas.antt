-- Where firms meet exchange, prices of single units that complete the unit contracts of an outcome give prices of units that
-- complete the outcome: of each trade the greatest price among its unsigned twins.
use Rattle.std.proofs.Common.{◌≡◌, ℕ, zero, suc, ◌+◌, ◌-◌, ◌<◌, Bool, true, false, not, ◌==◌, ◌&&◌, nat_lt, if◌then◌else◌, List, length, slice_get, Some, ◌⊎◌, inl, inr, refl, sym, ap, ap₂, ◌∙◌, subst, arith, ℤ, pos, ◌≤ℤ◌}
use Rattle.std.proofs.lemmas.Bool.{and_parts, cases_Bool, cases_eq, eq-eqb, eqb-true, le-ltb}
use Rattle.std.proofs.lemmas.Int.{ints}
use Rattle.tn_base.specs.Sets.{has}
use Rattle.tn_firm_laws.proofs.NestedFamilies.{cases_ltℤ}
use Rattle.tn_model.specs.Network.{own, part}
use Rattle.tn_market.specs.Equilibrium.{HasBest}
use Rattle.tn_market.specs.Signed.{Completes}
use Rattle.tn_network_laws.specs.Laws.{MeetExchange}
use Rattle.tn_network_laws.proofs.PoolLemmas.{signed_at}
use Rattle.tn_counts.specs.Counts.{CountFirm}
use Rattle.tn_counts.specs.Outcomes.{AreUnitContracts, contract_at}
use Rattle.tn_counts.specs.declared.contract.UnitContract.{UnitContract}
use Rattle.tn_counts.specs.declared.trade.UnitTrade.{UnitTrade}
use Rattle.tn_unit_laws.specs.Laws.{CompletableByCounts, FitByCounts}
use Rattle.tn_unit_laws.specs.Outcomes.{signed_twins, split_price, unit_contracts}
use Rattle.tn_unit_laws.specs.Units.{own_units, trade_of, unit_count, unit_firm, unit_firms, unit_trades}
use Rattle.tn_unit_laws.proofs.CountLemmas.{more_or_none}
use Rattle.tn_unit_laws.proofs.UnitLemmas.{comes_from, length-units, unit_firm_at}
use Rattle.tn_unit_laws.proofs.PaymentLemmas.{own_below}
use Rattle.tn_unit_laws.proofs.OnePriceLemmas.{HasPartner, alike_partner, best_again, itself}
use Rattle.tn_unit_laws.proofs.UnitContractLemmas.{all_units_signed, are_contracts, kind_off}
use Rattle.tn_unit_laws.proofs.OutcomeLemmas.{agrees, completed_is_by_counts}

-- a number below n passes a test, or none does
some_or_none : (test : ℕ → Bool) (n : ℕ) → ((u : ℕ) × (u < n) × (test u ≡ true))
    ⊎ ((u : ℕ) → u < n → test u ≡ true → ⊥)
some_or_none test n = elim (more_or_none test (λ u. false) n) [
  | inl found ↦ inl (found.0, found.1, found.2)
  | inr none ↦ inr (λ u below there. absurd (cc (none u below there)))
]

-- the greatest price of the numbers below n that pass a test
record Greatest (test : ℕ → Bool) (prices : ℕ → ℤ) (n : ℕ) : Type 0 where
  price : ℤ
  most : (u : ℕ) → u < n → test u ≡ true → prices u ≤ℤ price
  reached : (u : ℕ) → u < n → test u ≡ true → (v : ℕ) × (v < n) × (test v ≡ true) × (prices v ≡ price)

greatest : (test : ℕ → Bool) (prices : ℕ → ℤ) (n : ℕ) → Greatest test prices n
greatest test prices zero = record {
  price = pos 0;
  most = λ u below passes. absurd (omega (arith, below));
  reached = λ u below passes. absurd (omega (arith, below));
}
greatest test prices (suc n) = by (greatest test prices n) (test n) refl
  where
    -- the last number is the greatest
    last : (before : Greatest test prices n) → test n ≡ true
        → ((u : ℕ) → u < n → test u ≡ true → prices u ≤ℤ prices n) → Greatest test prices (suc n)
    last before passes most = record {
      price = prices n;
      most = λ u below there. elim (cases_eq u n) [
        | inl same ↦ let equal = ap prices same in omega (arith, ints, equal)
        | inr other ↦ most u (omega (arith, below, other)) there
      ];
      reached = λ u below there. (n, omega arith, passes, refl);
    }

    -- or one before it is
    earlier : (before : Greatest test prices n) → (v : ℕ) → v < n → test v ≡ true
        → (test n ≡ true → prices n ≤ℤ before.price) → Greatest test prices (suc n)
    earlier before v v_below v_passes most = record {
      price = before.price;
      most = λ u below there. elim (cases_eq u n) [
        | inl same ↦
            let high = most (ap test (sym same) ∙ there) in
            let equal = ap prices same in
            omega (arith, ints, high, equal)
        | inr other ↦ before.most u (omega (arith, below, other)) there
      ];
      reached = λ u below there.
          let found = before.reached v v_below v_passes in
          (found.0, let inside = found.1 in omega (arith, inside), found.2, found.3);
    }

    none_last : (before : Greatest test prices n) → test n ≡ false → Greatest test prices (suc n)
    none_last before fails = record {
      price = before.price;
      most = λ u below there. elim (cases_eq u n) [
        | inl same ↦ absurd (differ (sym there ∙ ap test same ∙ fails))
        | inr other ↦ before.most u (omega (arith, below, other)) there
      ];
      reached = λ u below there. elim (cases_eq u n) [
        | inl same ↦ absurd (differ (sym there ∙ ap test same ∙ fails))
        | inr other ↦
            let found = before.reached u (omega (arith, below, other)) there in
            (found.0, let inside = found.1 in omega (arith, inside), found.2, found.3)
      ];
    }
      where
        differ : true ≡ false → ⊥
        differ e = absurd (cc)

    by : (before : Greatest test prices n) (b : Bool) → test n ≡ b → Greatest test prices (suc n)
    by before false fails = none_last before fails
    by before true passes = elim (some_or_none test n) [
      | inr none ↦ last before passes (λ u below there. absurd (none u below there))
      | inl found ↦ elim (cases_ltℤ before.price (prices n)) [
        | inl above ↦ last before passes (λ u below there.
            let high = before.most u below there in omega (arith, ints, high, above))
        | inr most ↦ earlier before found.0 found.1 found.2 (λ there. most)
      ]
    ]

module _ (firms : List CountFirm) (trades : List UnitTrade) (fit : FitByCounts firms trades) (over : ℤ)
    (contracts : List UnitContract) (together : AreUnitContracts trades contracts)
    (meet : MeetExchange (unit_firms trades firms)) (from_one : pos 1 ≤ℤ over) (prices : ℕ → ℤ)
    (completes : Completes (unit_firms trades firms) (unit_trades trades) over (unit_contracts trades contracts) prices) where
  abbrev on : ℕ
  on = signed_twins trades contracts

  abbrev is_free : ℕ → ℕ → Bool
  is_free t u = t == trade_of trades u && not (has on u)

  -- of each trade the greatest price of an unsigned twin
  ones : ℕ → ℤ
  ones t = (greatest (is_free t) prices (unit_count trades)).price

  free : (u : ℕ) → has on u ≡ false → is_free (trade_of trades u) u ≡ true
  free u away =
      ap₂ (λ (a b : Bool). a && not b) (eq-eqb (trade_of trades u) (trade_of trades u) refl) away

  -- a signed twin has its contract's price in both
  signed_same : (u : ℕ) → u < unit_count trades → has on u ≡ true → prices u ≡ split_price trades contracts ones u
  signed_same u below there =
      let are = are_contracts trades contracts together in
      let found = are.found u (let long = length-units trades (unit_count trades) in omega (arith, below, long)) there in
      ap prices (sym found.3) ∙ completes.agree found.0 found.1 found.2 ∙ (are.signed found.0 found.1 found.2).price
      ∙ ap (split_price trades contracts (λ t. pos 0)) found.3 ∙ sym (agrees trades contracts together ones u below there)

  -- an unsigned one has its trade's
  free_price : (u : ℕ) → u < unit_count trades → has on u ≡ false → split_price trades contracts ones u ≡ ones (trade_of trades u)
  free_price u below away =
      let place = kind_off trades contracts together u below away in
      let back : length contracts + trade_of trades u - length contracts ≡ trade_of trades u = omega arith in
      ap (λ (s : ℕ). if nat_lt s (length contracts) then (contract_at contracts s).price else ones (s - length contracts)) place
      ∙ ap (λ (b : Bool). if b then (contract_at contracts (length contracts + trade_of trades u)).price
      else ones (length contracts + trade_of trades u - length contracts))
      (le-ltb (length contracts + trade_of trades u) (length contracts) (omega arith))
      ∙ ap ones back

  module _ (f : ℕ) (firm : CountFirm) (is : slice_get firms f ≡ Some firm) where
    abbrev bundle : ℕ
    bundle = part (unit_trades trades) f (own_units trades f) on

    raise : (p : ℕ) → p < own_units trades f
        → HasPartner firms trades fit f firm is bundle p
        (λ z. z ≤ℤ split_price trades contracts ones (own (unit_trades trades) f p)) prices
    unfolding ones
    raise p below = itself firms trades fit f firm is bundle p
        (λ z. z ≤ℤ split_price trades contracts ones (own (unit_trades trades) f p)) prices below
        (elim (cases_Bool (has on (own (unit_trades trades) f p))) [
          | inl there ↦
              let same = signed_same (own (unit_trades trades) f p) (own_below firms trades fit f firm is p below) there in
              omega (arith, ints, same)
          | inr away ↦
              let u_below = own_below firms trades fit f firm is p below in
              let same = free_price (own (unit_trades trades) f p) u_below away in
              let most = (greatest (is_free (trade_of trades (own (unit_trades trades) f p))) prices (unit_count trades)).most
              (own (unit_trades trades) f p) u_below (free (own (unit_trades trades) f p) away) in
              omega (arith, ints, same, most)
        ])

    lower : (p : ℕ) → p < own_units trades f
        → HasPartner firms trades fit f firm is bundle p
        (λ z. split_price trades contracts ones (own (unit_trades trades) f p) ≤ℤ z) prices
    unfolding ones
    lower p below = elim (cases_Bool (has on (own (unit_trades trades) f p))) [
      | inl there ↦
          let same = signed_same (own (unit_trades trades) f p) (own_below firms trades fit f firm is p below) there in
          itself firms trades fit f firm is bundle p
          (λ z. split_price trades contracts ones (own (unit_trades trades) f p) ≤ℤ z) prices below (omega (arith, ints, same))
      | inr away ↦
          let u_below = own_below firms trades fit f firm is p below in
          let same = free_price (own (unit_trades trades) f p) u_below away in
          let top = (greatest (is_free (trade_of trades (own (unit_trades trades) f p))) prices (unit_count trades)).reached
          (own (unit_trades trades) f p) u_below (free (own (unit_trades trades) f p) away) in
          let parts = and_parts (trade_of trades (own (unit_trades trades) f p) == trade_of trades top.0) (not (has on top.0))
          top.2 in
          let price = top.3 in
          alike_partner firms trades fit f firm is on p top.0
          (λ z. split_price trades contracts ones (own (unit_trades trades) f p) ≤ℤ z) prices below top.1
          (sym (eqb-true (trade_of trades (own (unit_trades trades) f p)) (trade_of trades top.0) parts.0))
          (away ∙ sym (off (has on top.0) parts.1)) (omega (arith, ints, same, price))
    ]
      where
        off : (b : Bool) → not b ≡ true → b ≡ false
        off false e = refl
        off true e = absurd (cc e)

    best_there : HasBest (unit_trades trades) over on (split_price trades contracts ones) f (unit_firm trades f firm)
    best_there =
        let there = unit_firm_at trades 0 firms f f firm (omega arith) is in
        let law = meet f (unit_firm trades f firm) there in
        best_again firms trades fit f firm is over on prices (split_price trades contracts ones)
        (omega (arith, ints, from_one)) raise lower law.0 law.1
        (subst (λ (s : ℕ). HasBest (unit_trades trades) over s prices f (unit_firm trades f firm))
        (all_units_signed trades contracts together) (completes.equilibrium f (unit_firm trades f firm) there))

  completes_again : Completes (unit_firms trades firms) (unit_trades trades) over (unit_contracts trades contracts)
      (split_price trades contracts ones)
  completes_again = record {
    agree = λ k contract at.
        let found = signed_at on (split_price trades contracts (λ t. pos 0)) (unit_count trades) k contract at in
        agrees trades contracts together ones contract.trade found.below found.there ∙ sym found.price;
    equilibrium = λ f unit at.
        let from = comes_from trades 0 firms f f unit (omega arith) at in
        subst (λ (s : ℕ). HasBest (unit_trades trades) over s (split_price trades contracts ones) f unit)
        (sym (all_units_signed trades contracts together))
        (subst (HasBest (unit_trades trades) over on (split_price trades contracts ones) f) from.same
        (best_there f from.firm from.is));
  }

pub completable_is_by_counts : CompletableByCounts
completable_is_by_counts firms trades over contracts fit together meet from_one = (
  (λ found. (
    split_price trades contracts found.0,
    (completed_is_by_counts firms trades over contracts found.0 fit together).0 found.1,
  )),
  (λ found. (
    ones firms trades fit over contracts together meet from_one found.0 found.1,
    (completed_is_by_counts firms trades over contracts
        (ones firms trades fit over contracts together meet from_one found.0 found.1) fit together).1
        (completes_again firms trades fit over contracts together meet from_one found.0 found.1),
  )),
)
