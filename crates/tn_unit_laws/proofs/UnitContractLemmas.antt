-- The unit contracts of an outcome by counts, and the trades of its split network as kinds of unit trades.
use Rattle.std.proofs.Common.{◌≡◌, ℕ, zero, suc, ◌+◌, ◌-◌, ◌^◌, ◌<◌, ◌≤◌, Bool, true, false, ◌==◌, ◌&&◌, nat_lt, if◌then◌else◌, List, [], ◌∷◌, length, slice_get, Some, inl, inr, refl, sym, ap, ap₂, ◌∙◌, subst, arith, ℤ, pos}
use Rattle.std.proofs.lemmas.Bool.{and_parts, cases_Bool, cases_lt, eqb-true, le-ltb, lt-ltb, ltb-true, ltb-false, ne_eqb}
use Rattle.std.proofs.lemmas.List.{get_or_past}
use Rattle.std.proofs.lemmas.List.FromFn.{length-map-range_with_len}
use Rattle.std.proofs.lemmas.Option.{slice_get-get_or}
use Rattle.tn_base.specs.Sets.{has}
use Rattle.tn_base.proofs.SetLemmas.{has-set_of, has_below, same_set, set_of_within}
use Rattle.tn_model.specs.declared.contract.Contract.{Contract}
use Rattle.tn_model.specs.declared.ends.Ends.{Ends}
use Rattle.tn_model.specs.Choices.{IsFeasible}
use Rattle.tn_market.specs.Signed.{is_signed, signed, signed_price}
use Rattle.tn_network_laws.proofs.PoolLemmas.{AreContractsOf, arrangement_has_contracts}
use Rattle.tn_outcome_laws.proofs.SignedLemmas.{contract_on, price_of_contract, signed_by}
use Rattle.tn_counts.specs.Counts.{trade_at}
use Rattle.tn_counts.specs.Outcomes.{AreUnitContracts, all_signed, contract_at, signed_units, split_trades, units_of, unsigned_units}
use Rattle.tn_counts.specs.declared.contract.UnitContract.{UnitContract}
use Rattle.tn_counts.specs.declared.trade.UnitTrade.{UnitTrade}
use Rattle.tn_unit_laws.specs.Outcomes.{signed_twins, split_of, split_price, unit_contracts}
use Rattle.tn_unit_laws.specs.Units.{count_below, trade_of, twins_before, unit_count, unit_trades}
use Rattle.tn_unit_laws.proofs.CountLemmas.{count-first, count-none, count-same, count-twins, trade_of-within}
use Rattle.tn_unit_laws.proofs.UnitLemmas.{length-units}
use Rattle.tn_unit_laws.proofs.SplitLemmas.{AreRanks, free_twins_are, signed-cons, signed_twins_are, split_below, split_ends, split_free, split_past, split_signed}
use Rattle.tn_unit_laws.proofs.KindLemmas.{AreKinds, kinds_on}

differ : true ≡ false → ⊥
differ e = absurd (cc)

both_or_none : (a b : Bool) → (a ≡ true → b ≡ true) → (b ≡ true → a ≡ true) → a ≡ b
both_or_none true b to from = sym (to refl)
both_or_none false true to from = absurd (differ (sym (from refl)))
both_or_none false false to from = refl

-- ---- contracts of a set of trades, in any order

-- their signed trades are the set
pub set_signed : (on : ℕ) (prices : ℕ → ℤ) (n : ℕ) (contracts : List Contract) → on < 2 ^ n
    → AreContractsOf n on prices contracts → signed n contracts ≡ on
set_signed on prices n contracts within are =
    same_set (signed n contracts) on (λ t.
    has-set_of (is_signed contracts) n t
    ∙ both_or_none (nat_lt t n && is_signed contracts t) (has on t)
    (λ there.
    let found = contract_on contracts t (and_parts (nat_lt t n) (is_signed contracts t) there).1 in
    ap (has on) (sym found.trade) ∙ (are.signed found.place found.contract found.is).there)
    (λ there.
    let below = has_below on n t within there in
    let found = are.found t below there in
    ap₂ (λ (a b : Bool). a && b) (lt-ltb t n below) (signed_by contracts found.0 t found.1 found.2 found.3)))

-- a signed trade has its price
pub set_priced : (on : ℕ) (prices : ℕ → ℤ) (n : ℕ) (contracts : List Contract) → AreContractsOf n on prices contracts
    → (t : ℕ) → t < n → has on t ≡ true → signed_price contracts t ≡ prices t
set_priced on prices n contracts are t below there =
    let found = are.found t below there in
    ap (signed_price contracts) (sym found.3) ∙ price_of_contract contracts are.once found.0 found.1 found.2
    ∙ (are.signed found.0 found.1 found.2).price ∙ ap prices found.3

-- and they can be signed together
pub set_feasible : (on : ℕ) (prices : ℕ → ℤ) (trades : List Ends) (contracts : List Contract)
    → AreContractsOf (length trades) on prices contracts → IsFeasible trades contracts
set_feasible on prices trades contracts are = record {
  known = λ k contract at. (are.signed k contract at).below;
  once = are.once;
}

-- ---- split networks

pub split_sized : (trades : List UnitTrade) (contracts : List UnitContract) (free : ℕ → ℕ)
    → length (split_trades trades contracts free) ≡ length contracts + length trades
split_sized trades [] free =
    let all = length-map-range_with_len (λ t. units_of trades t (free t)) 0 (length trades) in
    omega (arith, all)
split_sized trades (contract ∷ contracts) free =
    let rest = split_sized trades contracts free in
    omega (arith, rest)

-- a twin of a contract is one of its trade
pub split_trade : (contracts : List UnitContract) (k t m : ℕ) → k < length contracts → split_of contracts t m ≡ k
    → (contract_at contracts k).trade ≡ t
unfolding split_of
split_trade [] k t m below same = absurd (omega (arith, below))
split_trade (contract ∷ contracts) k t m below same =
    by (contract.trade == t) (nat_lt m contract.units) refl k below same
    (λ j. split_trade contracts j t (if contract.trade == t then m - contract.units else m))
  where
    later : ℕ
    later = split_of contracts t (if contract.trade == t then m - contract.units else m)

    by : (b c : Bool) → (contract.trade == t) ≡ b → (k : ℕ) → k < length (contract ∷ contracts)
        → (if b && c then 0 else suc later) ≡ k
        → ((j : ℕ) → j < length contracts → later ≡ j → (contract_at contracts j).trade ≡ t)
        → (contract_at (contract ∷ contracts) k).trade ≡ t
    by true true test zero below same rest = eqb-true contract.trade t test
    by true true test (suc k) below same rest = absurd (omega (arith, same))
    by true false test zero below same rest = absurd (omega (arith, same))
    by true false test (suc k) below same rest = rest k (omega (arith, below)) (omega (arith, same))
    by false c test zero below same rest = absurd (omega (arith, same))
    by false c test (suc k) below same rest = rest k (omega (arith, below)) (omega (arith, same))

-- nothing is signed of what is no trade
none_signed : (contracts : List UnitContract) (n t : ℕ)
    → ((k : ℕ) (contract : UnitContract) → slice_get contracts k ≡ Some contract → contract.trade < n) → n ≤ t
    → signed_units contracts t ≡ 0
none_signed [] n t known past = refl
none_signed (contract ∷ contracts) n t known past =
    let rest = none_signed contracts n t (λ k one at. known (suc k) one at) past in
    let sum = signed-cons contract contracts t in
    let below = known 0 contract refl in
    let test = ap (λ (b : Bool). if b then contract.units else 0)
    (ne_eqb contract.trade t (λ e. omega (arith, e, below, past))) in
    omega (arith, rest, sum, test)

module _ (trades : List UnitTrade) (contracts : List UnitContract) (together : AreUnitContracts trades contracts) where
  abbrev pub null : ℕ
  null = length contracts + length trades

  known_at : (k : ℕ) → k < length contracts → (contract_at contracts k).trade < length trades
  known_at k below =
      together.known k (contract_at contracts k)
      (slice_get-get_or contracts k (record { trade = 0; units = 0; price = pos 0 }) below)

  -- a trade of the split network has the firms of one of the trades
  module _ (free : ℕ → ℕ) where
    abbrev split : List UnitTrade
    split = split_trades trades contracts free

    pub record HasTrade (s : ℕ) : Type 0 where
      pub trade : ℕ
      pub inside : trade < length trades
      pub seller : (trade_at split s).seller ≡ (trade_at trades trade).seller
      pub buyer : (trade_at split s).buyer ≡ (trade_at trades trade).buyer

    pub has_trade : (s : ℕ) → s < length split → HasTrade s
    has_trade s below = elim (cases_lt s (length contracts)) [
      | inl signed ↦
          let same = split_signed trades contracts free s signed in
          record {
            trade = (contract_at contracts s).trade;
            inside = known_at s signed;
            seller = ap (λ (trade : UnitTrade). trade.seller) same;
            buyer = ap (λ (trade : UnitTrade). trade.buyer) same;
          }
      | inr past ↦
          let sized = split_sized trades contracts free in
          let place : s ≡ length contracts + (s - length contracts) = omega (arith, past) in
          let inside : s - length contracts < length trades = omega (arith, past, below, sized) in
          let same = ap (trade_at split) place ∙ split_free trades contracts free (s - length contracts) inside in
          record {
            trade = s - length contracts;
            inside = inside;
            seller = ap (λ (trade : UnitTrade). trade.seller) same;
            buyer = ap (λ (trade : UnitTrade). trade.buyer) same;
          }
    ]

  -- ---- the trades of the split network as kinds of unit trades

  -- of all unit trades
  abbrev pub kind : ℕ → ℕ
  kind u = split_of contracts (trade_of trades u) (twins_before trades u)

  -- of those that are signed
  abbrev pub signed_kind : ℕ → ℕ
  signed_kind u = if nat_lt (kind u) (length contracts) then kind u else null

  abbrev pub on : ℕ
  on = signed_twins trades contracts

  pub on_within : on < 2 ^ unit_count trades
  on_within = set_of_within (λ u. nat_lt (twins_before trades u) (signed_units contracts (trade_of trades u)))
      (unit_count trades)

  pub has_on : (u : ℕ) → u < unit_count trades
      → has on u ≡ nat_lt (twins_before trades u) (signed_units contracts (trade_of trades u))
  has_on u below =
      has-set_of (λ v. nat_lt (twins_before trades v) (signed_units contracts (trade_of trades v))) (unit_count trades) u
      ∙ ap (λ (b : Bool). b && nat_lt (twins_before trades u) (signed_units contracts (trade_of trades u)))
      (lt-ltb u (unit_count trades) below)

  -- a twin is signed exactly where it is of a contract
  pub kind_on : (u : ℕ) → u < unit_count trades → has on u ≡ true → kind u < length contracts
  kind_on u below there =
      split_below contracts (trade_of trades u) (twins_before trades u)
      (ltb-true (twins_before trades u) (signed_units contracts (trade_of trades u)) (sym (has_on u below) ∙ there))

  pub kind_off : (u : ℕ) → u < unit_count trades → has on u ≡ false → kind u ≡ length contracts + trade_of trades u
  kind_off u below away =
      split_past contracts (trade_of trades u) (twins_before trades u)
      (ltb-false (twins_before trades u) (signed_units contracts (trade_of trades u)) (sym (has_on u below) ∙ away))

  pub on_kind : (u : ℕ) → u < unit_count trades → kind u < length contracts → has on u ≡ true
  on_kind u below inside = elim (cases_Bool (has on u)) [
    | inl there ↦ there
    | inr away ↦ let same = kind_off u below away in absurd (omega (arith, same, inside))
  ]

  pub kind_within : (u : ℕ) → u < unit_count trades → kind u < null
  kind_within u below = elim (cases_Bool (has on u)) [
    | inl there ↦ let inside = kind_on u below there in omega (arith, inside)
    | inr away ↦
        let same = kind_off u below away in
        let inside = trade_of-within trades u below in
        omega (arith, same, inside)
  ]

  pub signed_kind_is : (u : ℕ) → kind u < length contracts → signed_kind u ≡ kind u
  signed_kind_is u inside = ap (λ (b : Bool). if b then kind u else null) (lt-ltb (kind u) (length contracts) inside)

  signed_kind_past : (u : ℕ) → length contracts ≤ kind u → signed_kind u ≡ null
  signed_kind_past u past = ap (λ (b : Bool). if b then kind u else null) (le-ltb (kind u) (length contracts) past)

  -- what is left in is of a contract
  pub left_in : (u : ℕ) → signed_kind u < null → kind u < length contracts
  left_in u inside = elim (cases_lt (kind u) (length contracts)) [
    | inl signed ↦ signed
    | inr past ↦ let same = signed_kind_past u past in absurd (omega (arith, same, inside))
  ]

  ranks : AreRanks (trade_of trades) (unit_count trades) (λ u. true) (twins_before trades) (λ t. (trade_at trades t).units)
  ranks = record {
    first = λ t b few.
        let turned = count-same (λ u. t == trade_of trades u && nat_lt (twins_before trades u) b)
        (λ u. nat_lt (twins_before trades u) b && t == trade_of trades u) (unit_count trades)
        (λ u below. order (t == trade_of trades u) (nat_lt (twins_before trades u) b)) in
        let twins = count-twins trades t in
        elim (count-first (trade_of trades) (λ s. b) t (unit_count trades)) [
          | inl all ↦ let less = all.0 in let same = all.1 in omega (arith, turned, twins, few, less, same)
          | inr full ↦ let same = full.1 in omega (arith, turned, same)
        ];
    all = λ t. count-twins trades t;
  }
    where
      order : (a b : Bool) → (a && b) ≡ (b && a)
      order true true = refl
      order true false = refl
      order false true = refl
      order false false = refl

  signed_fit : (t : ℕ) → signed_units contracts t ≤ (trade_at trades t).units
  signed_fit t = elim (cases_lt t (length trades)) [
    | inl below ↦ together.within t below
    | inr past ↦ let none = none_signed contracts (length trades) t together.known past in omega (arith, none)
  ]

  pub each_has : (k : ℕ) → k < length contracts
      → count_below (λ u. k == kind u) (unit_count trades) ≡ (contract_at contracts k).units
  each_has k below =
      signed_twins_are (trade_of trades) (unit_count trades) contracts (λ u. true) (twins_before trades)
      (λ t. (trade_at trades t).units) ranks signed_fit k below

  pub kinds : AreKinds trades (split_trades trades contracts (unsigned_units trades contracts)) kind
  kinds = record {
    seller = λ u below inside. (split_ends trades contracts (unsigned_units trades contracts) (trade_of trades u)
        (twins_before trades u) (trade_of-within trades u below)).0;
    buyer = λ u below inside. (split_ends trades contracts (unsigned_units trades contracts) (trade_of trades u)
        (twins_before trades u) (trade_of-within trades u below)).1;
    size = λ s below. elim (cases_lt s (length contracts)) [
      | inl signed ↦ each_has s signed
          ∙ sym (ap (λ (trade : UnitTrade). trade.units)
          (split_signed trades contracts (unsigned_units trades contracts) s signed))
      | inr past ↦
          let sized = split_sized trades contracts (unsigned_units trades contracts) in
          let place : s ≡ length contracts + (s - length contracts) = omega (arith, past) in
          let inside : s - length contracts < length trades = omega (arith, past, below, sized) in
          let many = free_twins_are (trade_of trades) (unit_count trades) contracts (λ u. true) (twins_before trades)
          (λ t. (trade_at trades t).units) ranks signed_fit (s - length contracts) in
          let here = ap (λ (k : ℕ). count_below (λ u. k == kind u) (unit_count trades)) place in
          let units = ap (λ (trade : UnitTrade). trade.units)
          (ap (trade_at (split_trades trades contracts (unsigned_units trades contracts))) place
          ∙ split_free trades contracts (unsigned_units trades contracts) (s - length contracts) inside) in
          omega (arith, many, here, units)
    ];
  }

  pub signed_kinds : AreKinds trades (split_trades trades contracts (λ t. 0)) signed_kind
  signed_kinds = record {
    seller = λ u below inside.
        ap (λ (s : ℕ). (trade_at (split_trades trades contracts (λ t. 0)) s).seller) (signed_kind_is u (of_contract u inside))
        ∙ (split_ends trades contracts (λ t. 0) (trade_of trades u) (twins_before trades u)
        (trade_of-within trades u below)).0;
    buyer = λ u below inside.
        ap (λ (s : ℕ). (trade_at (split_trades trades contracts (λ t. 0)) s).buyer) (signed_kind_is u (of_contract u inside))
        ∙ (split_ends trades contracts (λ t. 0) (trade_of trades u) (twins_before trades u)
        (trade_of-within trades u below)).1;
    size = λ s below. elim (cases_lt s (length contracts)) [
      | inl signed ↦
          count-same (λ u. s == signed_kind u) (λ u. s == kind u) (unit_count trades) (λ u inside. same_test s u signed)
          ∙ each_has s signed
          ∙ sym (ap (λ (trade : UnitTrade). trade.units) (split_signed trades contracts (λ t. 0) s signed))
      | inr past ↦
          let sized = split_sized trades contracts (λ t. 0) in
          let place : s ≡ length contracts + (s - length contracts) = omega (arith, past) in
          let inside : s - length contracts < length trades = omega (arith, past, below, sized) in
          count-none (λ u. s == signed_kind u) (unit_count trades) (λ u there. ne_eqb s (signed_kind u) (λ e.
          elim (cases_lt (kind u) (length contracts)) [
            | inl signed ↦ let same = signed_kind_is u signed in omega (arith, e, same, past, signed)
            | inr unsigned ↦ let same = signed_kind_past u unsigned in omega (arith, e, same, below, sized)
          ]))
          ∙ sym (ap (λ (trade : UnitTrade). trade.units)
          (ap (trade_at (split_trades trades contracts (λ t. 0))) place
          ∙ split_free trades contracts (λ t. 0) (s - length contracts) inside))
    ];
  }
    where
      of_contract : (u : ℕ) → signed_kind u < length (split_trades trades contracts (λ t. 0)) → kind u < length contracts
      of_contract u inside = left_in u (let sized = split_sized trades contracts (λ t. 0) in omega (arith, inside, sized))

      same_test : (s u : ℕ) → s < length contracts → (s == signed_kind u) ≡ (s == kind u)
      same_test s u signed = elim (cases_lt (kind u) (length contracts)) [
        | inl inside ↦ ap (λ (k : ℕ). s == k) (signed_kind_is u inside)
        | inr past ↦
            let same = signed_kind_past u past in
            ne_eqb s (signed_kind u) (λ e. omega (arith, e, same, signed))
            ∙ sym (ne_eqb s (kind u) (λ e. omega (arith, e, past, signed)))
      ]

  -- the set of all that is signed has the contracts' units, and none that are unsigned
  pub on_has : (s : ℕ) → kinds_on trades kind on s ≡ all_signed contracts s
  on_has s = elim (cases_lt s (length contracts)) [
    | inl inside ↦
        count-same (λ u. has on u && s == kind u) (λ u. s == kind u) (unit_count trades)
        (λ u below. there u below (s == kind u) refl inside) ∙ each_has s inside
    | inr past ↦
        count-none (λ u. has on u && s == kind u) (unit_count trades) (λ u below. away u below (has on u) refl past)
        ∙ sym (ap (λ (contract : UnitContract). contract.units)
        (get_or_past contracts s (record { trade = 0; units = 0; price = pos 0 }) past))
  ]
    where
      there : (u : ℕ) → u < unit_count trades → (b : Bool) → (s == kind u) ≡ b → s < length contracts → (has on u && b) ≡ b
      there u below true same inside =
          ap (λ (c : Bool). c && true)
          (on_kind u below (let e = eqb-true s (kind u) same in omega (arith, e, inside)))
      there u below false other inside = none (has on u)
        where
          none : (c : Bool) → (c && false) ≡ false
          none true = refl
          none false = refl

      away : (u : ℕ) → u < unit_count trades → (b : Bool) → has on u ≡ b → length contracts ≤ s
          → (b && s == kind u) ≡ false
      away u below true on_u past =
          ne_eqb s (kind u) (λ e. let inside = kind_on u below on_u in omega (arith, e, inside, past))
      away u below false off past = refl

  pub signed_on_has : (s : ℕ) → kinds_on trades signed_kind on s ≡ all_signed contracts s
  signed_on_has s =
      count-same (λ u. has on u && s == signed_kind u) (λ u. has on u && s == kind u) (unit_count trades)
      (λ u below. by u below (has on u) refl) ∙ on_has s
    where
      by : (u : ℕ) → u < unit_count trades → (b : Bool) → has on u ≡ b → (b && s == signed_kind u) ≡ (b && s == kind u)
      by u below true there = ap (λ (k : ℕ). s == k) (signed_kind_is u (kind_on u below there))
      by u below false away = refl

  -- ---- the unit contracts

  -- in the order of the twins
  pub are_contracts : AreContractsOf (length (unit_trades trades)) on (split_price trades contracts (λ t. pos 0))
      (unit_contracts trades contracts)
  are_contracts =
      subst (λ (n : ℕ). AreContractsOf n on (split_price trades contracts (λ t. pos 0)) (unit_contracts trades contracts))
      (sym (length-units trades (unit_count trades)))
      (arrangement_has_contracts (unit_count trades) on (split_price trades contracts (λ t. pos 0)))

  pub feasible : IsFeasible (unit_trades trades) (unit_contracts trades contracts)
  feasible = set_feasible on (split_price trades contracts (λ t. pos 0)) (unit_trades trades)
      (unit_contracts trades contracts) are_contracts

  pub all_units_signed : signed (length (unit_trades trades)) (unit_contracts trades contracts) ≡ on
  all_units_signed =
      set_signed on (split_price trades contracts (λ t. pos 0)) (length (unit_trades trades))
      (unit_contracts trades contracts)
      (subst (λ (n : ℕ). on < 2 ^ n) (sym (length-units trades (unit_count trades))) on_within) are_contracts
