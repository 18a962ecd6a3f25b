-- What is signed of a trade, contract by contract.
use Rattle.std.proofs.Common.{◌≡◌, ℕ, zero, suc, ◌+◌, ◌-◌, ◌<◌, ◌≤◌, ◌⊎◌, inl, inr, Bool, true, false, ◌==◌, if◌then◌else◌, List, [], ◌∷◌, length, map, take, set, Some, slice_get, refl, sym, ap, ◌∙◌, subst, arith, ℤ, pos}
use Rattle.std.specs.Prelude.{filter, sum_by}
use Rattle.std.specs.List.{range_with_len}
use Rattle.std.proofs.lemmas.Bool.{cases_eq, eq-eqb, ne_eqb}
use Rattle.std.proofs.lemmas.List.{get_or-map, get_or-set_other, get_or-set_same}
use Rattle.std.proofs.lemmas.List.FromFn.{get_or-map-range_with_len, length-map-range_with_len}
use Rattle.std.proofs.lemmas.List.Sums.{sum_by-cons}
use Rattle.std.proofs.lemmas.Option.{get_or_from_slice_get, none-some, same_Some, slice_get-get_or, slice_get_within}
use Rattle.std.proofs.Math.ListN.{length-set}
use Rattle.tn_base.specs.Arcs.{IsAtMost}
use Rattle.tn_counts.specs.Counts.{AreCounts, trade_at}
use Rattle.tn_counts.specs.Outcomes.{contract_at, signed_units}
use Rattle.tn_counts.specs.Widths.{most_unit_price, most_unit_trades}
use Rattle.tn_counts.specs.declared.contract.UnitContract.{UnitContract}
use Rattle.tn_counts.specs.declared.trade.UnitTrade.{UnitTrade}
use Rattle.tn_tree.specs.Lists.{count_in, price_in}
use Rattle.tn_unit_judge.specs.Completion.{AreUnsigned, IsPriceOf, IsSignedAt}
use Rattle.tn_unit_judge.specs.Served.{AreServedContracts}

-- ---- what is signed

-- what a contract has of a trade
abbrev pub units_on : UnitContract → ℕ → ℕ
units_on contract t = if contract.trade == t then contract.units else 0

pub signed_cons : (contract : UnitContract) (contracts : List UnitContract) (t : ℕ)
    → signed_units (contract ∷ contracts) t ≡ units_on contract t + signed_units contracts t
signed_cons contract contracts t = by (contract.trade == t) refl
  where
    by : (b : Bool) → (contract.trade == t) ≡ b
        → signed_units (contract ∷ contracts) t ≡ units_on contract t + signed_units contracts t
    by true test =
        let here = ap (λ (c : Bool). if c then contract.units else 0) test in
        let kept = ap (λ (c : Bool). sum_by (λ one. one.units) (if c
        then contract ∷ filter (λ one. one.trade == t) contracts else filter (λ one. one.trade == t) contracts)) test in
        let cons = sum_by-cons (λ (one : UnitContract). one.units) contract (filter (λ one. one.trade == t) contracts) in
        omega (arith, here, kept, cons)
    by false test =
        let here = ap (λ (c : Bool). if c then contract.units else 0) test in
        let kept = ap (λ (c : Bool). sum_by (λ one. one.units) (if c
        then contract ∷ filter (λ one. one.trade == t) contracts else filter (λ one. one.trade == t) contracts)) test in
        omega (arith, here, kept)

-- what the first contracts sign, and one more
signed_more : (contracts : List UnitContract) (j t : ℕ) → j < length contracts
    → signed_units (take (j + 1) contracts) t
    ≡ signed_units (take j contracts) t + units_on (contract_at contracts j) t
signed_more [] j t below = absurd (omega (arith, below))
signed_more (contract ∷ contracts) zero t below =
    let one = signed_cons contract [] t in
    let none : signed_units [] t ≡ 0 = refl in
    omega (arith, one, none)
signed_more (contract ∷ contracts) (suc j) t below =
    let next : suc j + 1 ≡ suc (j + 1) = omega arith in
    let place = ap (λ (n : ℕ). signed_units (take n (contract ∷ contracts)) t) next in
    let rest = signed_more contracts j t (omega (arith, below)) in
    let one = signed_cons contract (take (j + 1) contracts) t in
    let other = signed_cons contract (take j contracts) t in
    omega (arith, place, rest, one, other)

-- the first contracts sign no more than all
signed_most : (contracts : List UnitContract) (j t : ℕ)
    → signed_units (take j contracts) t ≤ signed_units contracts t
signed_most [] zero t = omega arith
signed_most [] (suc j) t = omega arith
signed_most (contract ∷ contracts) zero t = omega arith
signed_most (contract ∷ contracts) (suc j) t =
    let rest = signed_most contracts j t in
    let one = signed_cons contract (take j contracts) t in
    let other = signed_cons contract contracts t in
    omega (arith, rest, one, other)

none_signed : (contracts : List UnitContract) (t : ℕ) → signed_units (take 0 contracts) t ≡ 0
none_signed [] t = refl
none_signed (contract ∷ contracts) t = refl

take_all : (contracts : List UnitContract) (j : ℕ) → length contracts ≤ j → take j contracts ≡ contracts
take_all [] zero past = refl
take_all [] (suc j) past = refl
take_all (contract ∷ contracts) zero past = absurd (omega (arith, past))
take_all (contract ∷ contracts) (suc j) past = ap (λ xs. contract ∷ xs) (take_all contracts j (omega (arith, past)))

-- each contract is signed
pub signed_least : (contracts : List UnitContract) (k : ℕ) (contract : UnitContract)
    → slice_get contracts k ≡ Some contract → contract.units ≤ signed_units contracts contract.trade
signed_least [] k contract at = absurd (none-some contract at)
signed_least (first ∷ contracts) zero contract at =
    let same = same_Some first contract at in
    let cons = signed_cons first contracts contract.trade in
    let own = ap (λ (b : Bool). if b then first.units else 0)
    (eq-eqb first.trade contract.trade (ap (λ (c : UnitContract). c.trade) same)) in
    let units = ap (λ (c : UnitContract). c.units) same in
    omega (arith, cons, own, units)
signed_least (first ∷ contracts) (suc k) contract at =
    let rest = signed_least contracts k contract at in
    let cons = signed_cons first contracts contract.trade in
    omega (arith, rest, cons)

-- ---- what is left of each trade

-- what is left after so many contracts
pub record AreLeft (trades : List UnitTrade) (contracts : List UnitContract) (j : ℕ) (free : List ℕ) : Type 0 where
  pub one_each : length free ≡ length trades
  pub each : (t : ℕ) → t < length trades
      → count_in free t + signed_units (take j contracts) t ≡ (trade_at trades t).units

pub left_first : (trades : List UnitTrade) (contracts : List UnitContract) (free : List ℕ)
    → free ≡ map (λ trade. trade.units) trades → AreLeft trades contracts 0 free
left_first trades contracts free made = record {
  one_each = ap length made ∙ length-units trades;
  each = λ t below.
      let own = ap (λ xs. count_in xs t) made
      ∙ get_or-map (λ (trade : UnitTrade). trade.units) trades t (record { seller = 0; buyer = 0; units = 0 }) 0 below in
      let none = none_signed contracts t in
      omega (arith, own, none);
}
  where
    length-units : (all : List UnitTrade) → length (map (λ trade. trade.units) all) ≡ length all
    length-units [] = refl
    length-units (one ∷ all) = ap suc (length-units all)

-- the next contract has no more than what is left
pub left_within : (trades : List UnitTrade) (contracts : List UnitContract) (j : ℕ) (free : List ℕ) (contract : UnitContract)
    → AreCounts trades (signed_units contracts) → contract ≡ contract_at contracts j → j < length contracts
    → contract.trade < length trades → AreLeft trades contracts j free → contract.units ≤ count_in free contract.trade
left_within trades contracts j free contract within is inside below left =
    let own = left.each contract.trade below in
    let more = signed_more contracts j contract.trade inside in
    let most = signed_most contracts (j + 1) contract.trade in
    let enough = within contract.trade below in
    let units = ap (λ (b : Bool). if b then contract.units else 0) (eq-eqb contract.trade contract.trade refl) in
    let same = ap (λ (c : UnitContract). units_on c contract.trade) is in
    omega (arith, own, more, most, enough, units, same)

pub left_more : (trades : List UnitTrade) (contracts : List UnitContract) (j : ℕ) (free after : List ℕ)
    (contract : UnitContract) → contract ≡ contract_at contracts j → j < length contracts
    → contract.trade < length trades → contract.units ≤ count_in free contract.trade → AreLeft trades contracts j free
    → after ≡ set free contract.trade (count_in free contract.trade - contract.units)
    → AreLeft trades contracts (j + 1) after
left_more trades contracts j free after contract is inside below enough left made = record {
  one_each = ap length made
      ∙ length-set free contract.trade (count_in free contract.trade - contract.units) ∙ left.one_each;
  each = λ t here.
      let own = left.each t here in
      let more = signed_more contracts j t inside in
      let same = ap (λ (c : UnitContract). units_on c t) is in
      let long = left.one_each in
      elim (cases_eq t contract.trade) [
        | inl this ↦
            let read = ap (λ xs. count_in xs t) made
            ∙ ap (λ (i : ℕ). count_in (set free contract.trade (count_in free contract.trade - contract.units)) i) this
            ∙ get_or-set_same free contract.trade (count_in free contract.trade - contract.units) 0
            (omega (arith, below, long)) in
            let units = ap (λ (b : Bool). if b then contract.units else 0) (eq-eqb contract.trade t (sym this)) in
            let moved = ap (count_in free) this in
            omega (arith, own, more, same, read, units, enough, moved)
        | inr other ↦
            let read = ap (λ xs. count_in xs t) made
            ∙ get_or-set_other free contract.trade t (count_in free contract.trade - contract.units) 0 other in
            let units = ap (λ (b : Bool). if b then contract.units else 0)
            (ne_eqb contract.trade t (λ e. other (sym e))) in
            omega (arith, own, more, same, read, units)
      ];
}

pub left_last : (trades : List UnitTrade) (contracts : List UnitContract) (j : ℕ) (free : List ℕ)
    → length contracts ≤ j → AreLeft trades contracts j free → AreUnsigned trades contracts free
left_last trades contracts j free past left = record {
  one_each = left.one_each;
  each = λ t below.
      let own = left.each t below in
      let all = ap (λ xs. signed_units xs t) (take_all contracts j past) in
      omega (arith, own, all);
}

-- ---- contracts that are judged

-- the contracts so far are of known trades, at small prices, and no more than there is
pub record AreServedTo (trades : List UnitTrade) (contracts : List UnitContract) (j : ℕ) (free : List ℕ) : Type 0 where
  pub left : AreLeft trades contracts j free
  pub each : (k : ℕ) (contract : UnitContract) → k < j → slice_get contracts k ≡ Some contract
      → (contract.trade < length trades) × IsAtMost contract.price most_unit_price

pub served_more : (trades : List UnitTrade) (contracts : List UnitContract) (j : ℕ) (free after : List ℕ)
    (contract : UnitContract) → contract ≡ contract_at contracts j → j < length contracts
    → contract.trade < length free → contract.units ≤ count_in free contract.trade
    → IsAtMost contract.price most_unit_price → AreServedTo trades contracts j free
    → after ≡ set free contract.trade (count_in free contract.trade - contract.units)
    → AreServedTo trades contracts (j + 1) after
served_more trades contracts j free after contract is inside known enough small served made =
    let long = served.left.one_each in
    let below : contract.trade < length trades = omega (arith, known, long) in
    record {
      left = left_more trades contracts j free after contract is inside below enough served.left made;
      each = λ k one before at. elim (cases_eq k j) [
        | inl last ↦
            let same : contract ≡ one = is ∙ ap (contract_at contracts) (sym last)
            ∙ get_or_from_slice_get contracts k one (record { trade = 0; units = 0; price = pos 0 }) at in (
              subst (λ (c : UnitContract). c.trade < length trades) same below,
              subst (λ (c : UnitContract). IsAtMost c.price most_unit_price) same small,
            )
        | inr other ↦ served.each k one (omega (arith, before, other)) at
      ];
    }

pub served_last : (trades : List UnitTrade) (contracts : List UnitContract) (j : ℕ) (free : List ℕ)
    → length contracts ≤ most_unit_trades → length contracts ≤ j → AreServedTo trades contracts j free
    → AreServedContracts trades contracts
served_last trades contracts j free few past served = record {
  few = few;
  together = record {
    known = λ k contract at.
        let inside = slice_get_within contracts k contract at in
        (served.each k contract (omega (arith, inside, past)) at).0;
    within = λ t below.
        let own = served.left.each t below in
        let all = ap (λ xs. signed_units xs t) (take_all contracts j past) in
        omega (arith, own, all);
  };
  small = λ k contract at.
      let inside = slice_get_within contracts k contract at in
      (served.each k contract (omega (arith, inside, past)) at).1;
}

-- ---- a price for each trade

-- the prices after so many contracts
pub record ArePriced (trades : ℕ) (contracts : List UnitContract) (beside : List ℤ) (j : ℕ) (prices : List ℤ) : Type
    0 where
  pub one_each : length prices ≡ trades
  pub each : (t : ℕ) → t < trades → IsSignedAt contracts t (price_in prices t)
      ⊎ ((signed_units (take j contracts) t ≡ 0) × (price_in prices t ≡ price_in beside (length contracts + t)))

pub priced_first : (trades : ℕ) (contracts : List UnitContract) (beside prices : List ℤ)
    → prices ≡ map (λ t. price_in beside (length contracts + t)) (range_with_len 0 trades)
    → ArePriced trades contracts beside 0 prices
priced_first trades contracts beside prices made = record {
  one_each = ap length made ∙ length-map-range_with_len (λ t. price_in beside (length contracts + t)) 0 trades;
  each = λ t below. inr (
    none_signed contracts t,
    ap (λ xs. price_in xs t) made
        ∙ get_or-map-range_with_len (λ u. price_in beside (length contracts + u)) 0 trades t t (pos 0) below (omega arith),
  );
}

pub priced_set : (trades : ℕ) (contracts : List UnitContract) (beside : List ℤ) (j : ℕ) (prices after : List ℤ)
    (contract : UnitContract) → contract ≡ contract_at contracts j → j < length contracts → contract.trade < trades
    → 0 < contract.units → ArePriced trades contracts beside j prices → after ≡ set prices contract.trade contract.price
    → ArePriced trades contracts beside (j + 1) after
priced_set trades contracts beside j prices after contract is inside below some priced made = record {
  one_each = ap length made ∙ length-set prices contract.trade contract.price ∙ priced.one_each;
  each = λ t here. elim (cases_eq t contract.trade) [
    | inl this ↦
        let long = priced.one_each in
        let read = ap (λ xs. price_in xs t) made
        ∙ ap (λ (i : ℕ). price_in (set prices contract.trade contract.price) i) this
        ∙ get_or-set_same prices contract.trade contract.price (pos 0) (omega (arith, below, long)) in
        inl (record {
          place = j;
          contract = contract;
          is = slice_get-get_or contracts j (record { trade = 0; units = 0; price = pos 0 }) inside ∙ ap Some (sym is);
          trade = sym this;
          some = some;
          price_is = sym read;
        })
    | inr other ↦
        let read = ap (λ xs. price_in xs t) made
        ∙ get_or-set_other prices contract.trade t contract.price (pos 0) other in
        elim (priced.each t here) [
          | inl theirs ↦ inl (subst (IsSignedAt contracts t) (sym read) theirs)
          | inr none ↦
              let more = signed_more contracts j t inside in
              let units = ap (λ (c : UnitContract). units_on c t) (sym is)
              ∙ ap (λ (b : Bool). if b then contract.units else 0)
              (ne_eqb contract.trade t (λ e. other (sym e))) in
              let before = none.0 in
              inr (omega (arith, more, units, before), read ∙ none.1)
        ]
  ];
}

pub priced_skip : (trades : ℕ) (contracts : List UnitContract) (beside : List ℤ) (j : ℕ) (prices : List ℤ)
    (contract : UnitContract) → contract ≡ contract_at contracts j → j < length contracts → contract.units ≡ 0
    → ArePriced trades contracts beside j prices → ArePriced trades contracts beside (j + 1) prices
priced_skip trades contracts beside j prices contract is inside none priced = record {
  one_each = priced.one_each;
  each = λ t here. elim (priced.each t here) [
    | inl theirs ↦ inl theirs
    | inr unsigned ↦
        let more = signed_more contracts j t inside in
        let units = ap (λ (c : UnitContract). units_on c t) (sym is) ∙ none_on (contract.trade == t) contract.units none in
        let before = unsigned.0 in
        inr (omega (arith, more, units, before), unsigned.1)
  ];
}
  where
    none_on : (b : Bool) (u : ℕ) → u ≡ 0 → (if b then u else 0) ≡ 0
    none_on true u zero_is = zero_is
    none_on false u zero_is = refl

pub priced_last : (trades : ℕ) (contracts : List UnitContract) (beside : List ℤ) (j : ℕ) (prices : List ℤ)
    → length contracts ≤ j → ArePriced trades contracts beside j prices → (t : ℕ) → t < trades
    → IsPriceOf contracts beside t (price_in prices t)
priced_last trades contracts beside j prices past priced t below = elim (priced.each t below) [
  | inl theirs ↦ inl theirs
  | inr none ↦ inr (sym (ap (λ xs. signed_units xs t) (take_all contracts j past)) ∙ none.0, none.1)
]
