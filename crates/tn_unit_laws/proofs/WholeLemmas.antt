-- The outcome of counts at prices: its contracts sign the first units of each trade, the prices of an equilibrium complete
-- it, and so no offers by counts block it.
use Rattle.std.proofs.Common.{◌≡◌, ℕ, zero, suc, ◌+◌, ◌-◌, ◌<◌, ◌≤◌, Bool, if◌then◌else◌, List, length, map, inl, inr, refl, sym, ap, ◌∙◌, subst, arith, ℤ, pos}
use Rattle.std.specs.List.{range_with_len}
use Rattle.std.proofs.Math.Path.{fun_ext}
use Rattle.std.proofs.lemmas.Bool.{cases_lt, eq-eqb, le-ltb, lt-ltb, ne_eqb}
use Rattle.std.proofs.lemmas.List.FromFn.{get_or-map-range_with_len, length-map-range_with_len}
use Rattle.std.proofs.lemmas.Option.{get_or_from_slice_get, slice_get_within}
use Rattle.tn_network_laws.proofs.PoolLemmas.{signed_at}
use Rattle.tn_market.specs.Equilibrium.{IsEquilibrium}
use Rattle.tn_counts.specs.Counts.{AreCounts, CountFirm, IsEquilibriumByCounts}
use Rattle.tn_counts.specs.Outcomes.{AreUnitContracts, CompletesByCounts, IsStableByCounts, contract_at, signed_units}
use Rattle.tn_counts.specs.declared.contract.UnitContract.{UnitContract}
use Rattle.tn_counts.specs.declared.trade.UnitTrade.{UnitTrade}
use Rattle.tn_unit_laws.specs.Laws.{FitByCounts}
use Rattle.tn_unit_laws.specs.Outcomes.{outcome_of, signed_twins, split_of, split_price}
use Rattle.tn_unit_laws.specs.Units.{HasCounts, price_of_unit, trade_of, twins_before, unit_count, unit_firms, unit_trades}
use Rattle.tn_unit_laws.proofs.EquilibriumLemmas.{equilibria_are_equilibria, first_have}
use Rattle.tn_unit_laws.proofs.SplitLemmas.{signed-cons, split_below, split_past}
use Rattle.tn_unit_laws.proofs.UnitContractLemmas.{all_units_signed, split_trade}
use Rattle.tn_unit_laws.proofs.OutcomeLemmas.{agrees, completed_is_by_counts}
use Rattle.tn_unit_laws.proofs.BlockLemmas.{completed_are_stable}

module _ (counts : ℕ → ℕ) (prices : ℕ → ℤ) where
  abbrev contract_of : ℕ → UnitContract
  contract_of t = record { trade = t; units = counts t; price = prices t }

  abbrev contracts_from : ℕ → ℕ → List UnitContract
  contracts_from s n = map (λ t. record { trade = t; units = counts t; price = prices t }) (range_with_len s n)

  -- contracts on later trades sign none of a trade
  none_later : (s n t : ℕ) → t < s → signed_units (contracts_from s n) t ≡ 0
  none_later s zero t later = refl
  none_later s (suc n) t later =
      let sum = signed-cons (contract_of s) (contracts_from (s + 1) n) t in
      let rest = none_later (s + 1) n t (omega (arith, later)) in
      let test = ap (λ (b : Bool). if b then counts s else 0) (ne_eqb s t (λ e. omega (arith, e, later))) in
      omega (arith, sum, rest, test)

  none_past : (s n t : ℕ) → s + n ≤ t → signed_units (contracts_from s n) t ≡ 0
  none_past s zero t past = refl
  none_past s (suc n) t past =
      let sum = signed-cons (contract_of s) (contracts_from (s + 1) n) t in
      let rest = none_past (s + 1) n t (omega (arith, past)) in
      let test = ap (λ (b : Bool). if b then counts s else 0) (ne_eqb s t (λ e. omega (arith, e, past))) in
      omega (arith, sum, rest, test)

  -- and that of the trade its units
  signed_is : (s n t : ℕ) → s ≤ t → t < s + n → signed_units (contracts_from s n) t ≡ counts t
  signed_is s zero t from below = absurd (omega (arith, from, below))
  signed_is s (suc n) t from below =
      let sum = signed-cons (contract_of s) (contracts_from (s + 1) n) t in
      elim (cases_lt s t) [
        | inl later ↦
            let rest = signed_is (s + 1) n t (omega (arith, later)) (omega (arith, below)) in
            let test = ap (λ (b : Bool). if b then counts s else 0) (ne_eqb s t (λ e. omega (arith, e, later))) in
            omega (arith, sum, rest, test)
        | inr here ↦
            let same : s ≡ t = omega (arith, from, here) in
            let rest = none_later (s + 1) n t (omega (arith, same)) in
            let test = ap (λ (b : Bool). if b then counts s else 0) (eq-eqb s t same) in
            let whole = ap counts same in
            omega (arith, sum, rest, test, whole)
      ]

module _ (firms : List CountFirm) (trades : List UnitTrade) (fit : FitByCounts firms trades) (scale : ℤ)
    (counts : ℕ → ℕ) (prices : ℕ → ℤ) (within : AreCounts trades counts) where
  abbrev contracts : List UnitContract
  contracts = outcome_of trades counts prices

  sized : length contracts ≡ length trades
  sized = length-map-range_with_len (contract_of counts prices) 0 (length trades)

  at_is : (k : ℕ) → k < length trades → contract_at contracts k ≡ contract_of counts prices k
  at_is k below = get_or-map-range_with_len (contract_of counts prices) 0 (length trades) k k
      (record { trade = 0; units = 0; price = pos 0 }) below (omega arith)

  signed_here : (t : ℕ) → t < length trades → signed_units contracts t ≡ counts t
  signed_here t below = signed_is counts prices 0 (length trades) t (omega arith) (omega (arith, below))

  together : AreUnitContracts trades contracts
  together = record {
    known = λ k contract at.
        let below = slice_get_within contracts k contract at in
        let long = sized in
        let same = sym (get_or_from_slice_get contracts k contract (record { trade = 0; units = 0; price = pos 0 }) at)
        ∙ at_is k (omega (arith, below, long)) in
        let trade = ap (λ (c : UnitContract). c.trade) same in
        omega (arith, below, long, trade);
    within = λ t below.
        let signed = signed_here t below in
        let few = within t below in
        omega (arith, signed, few);
  }

  have : HasCounts trades (signed_twins trades contracts) counts
  have t below = first_have trades (signed_units contracts) together.within t below ∙ signed_here t below

  -- each twin has the price of its trade, signed or not
  price_is : (u : ℕ) → split_price trades contracts prices u ≡ price_of_unit trades prices u
  price_is u = elim (cases_lt (twins_before trades u) (signed_units contracts (trade_of trades u))) [
    | inl signed ↦
        let inside = split_below contracts (trade_of trades u) (twins_before trades u) signed in
        let long = sized in
        let same = at_is place (omega (arith, inside, long)) in
        ap (λ (b : Bool). if b then (contract_at contracts place).price else prices (place - length contracts))
        (lt-ltb place (length contracts) inside)
        ∙ ap (λ (c : UnitContract). c.price) same
        ∙ ap prices (sym (ap (λ (c : UnitContract). c.trade) same)
        ∙ split_trade contracts place (trade_of trades u) (twins_before trades u) inside refl)
    | inr past ↦
        let behind = split_past contracts (trade_of trades u) (twins_before trades u) past in
        ap (λ (b : Bool). if b then (contract_at contracts place).price else prices (place - length contracts))
        (le-ltb place (length contracts) (omega (arith, behind)))
        ∙ ap prices (let back : place - length contracts ≡ trade_of trades u = omega (arith, behind) in back)
  ]
    where
      place : ℕ
      place = split_of contracts (trade_of trades u) (twins_before trades u)

  prices_are : split_price trades contracts prices ≡ price_of_unit trades prices
  prices_are = fun_ext price_is

  -- so the prices of an equilibrium complete it
  completes : IsEquilibriumByCounts firms trades scale counts prices
      → CompletesByCounts firms trades scale contracts prices
  completes equal =
      (completed_is_by_counts firms trades scale contracts prices fit together).1 (record {
        agree = λ k contract at.
            let found = signed_at (signed_twins trades contracts) (split_price trades contracts (λ t. pos 0))
            (unit_count trades) k contract at in
            agrees trades contracts together prices contract.trade found.below found.there ∙ sym found.price;
        equilibrium =
            subst (λ (on : ℕ). IsEquilibrium (unit_firms trades firms) (unit_trades trades) scale on
            (split_price trades contracts prices)) (sym (all_units_signed trades contracts together))
            (subst (IsEquilibrium (unit_firms trades firms) (unit_trades trades) scale (signed_twins trades contracts))
            (sym prices_are)
            ((equilibria_are_equilibria.any firms trades scale counts prices (signed_twins trades contracts) fit have).0
            equal));
      })

  pub whole_is_stable : IsEquilibriumByCounts firms trades scale counts prices
      → IsStableByCounts firms trades scale (outcome_of trades counts prices)
  whole_is_stable equal =
      completed_are_stable.by_counts firms trades scale contracts prices fit together (completes equal)
