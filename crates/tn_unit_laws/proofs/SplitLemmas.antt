-- The twins of the trades of a split network: how many each has, and that their counts join to those of the trades.
use Rattle.std.proofs.Common.{◌≡◌, ℕ, zero, suc, ◌+◌, ◌-◌, ◌<◌, ◌≤◌, Bool, true, false, not, ◌==◌, ◌&&◌, nat_lt, if◌then◌else◌, List, [], ◌∷◌, ◌++◌, length, inl, inr, refl, sym, ap, ◌∙◌, subst, arith}
use Rattle.std.specs.Prelude.{filter, sum_by}
use Rattle.std.specs.List.{enumerate_from}
use Rattle.std.proofs.lemmas.Bool.{cases_eq, cases_lt, eq-eqb, eqb-true, le-ltb, lt-ltb, ne_eqb}
use Rattle.std.proofs.lemmas.List.FromFn.{get_or-map-range_with_len}
use Rattle.std.proofs.lemmas.List.Sums.{sum_by-cons}
use Rattle.tn_counts.specs.Counts.{trade_at}
use Rattle.tn_counts.specs.Outcomes.{contract_at, joined, signed_units, split_trades, units_of}
use Rattle.tn_counts.specs.declared.contract.UnitContract.{UnitContract}
use Rattle.tn_counts.specs.declared.trade.UnitTrade.{UnitTrade}
use Rattle.tn_unit_laws.specs.Outcomes.{split_of}
use Rattle.tn_unit_laws.specs.Units.{count_below}
use Rattle.tn_unit_laws.proofs.CountLemmas.{count-plus, count-same, eqb-turned, one}

-- ---- a contract and those after it

pub signed-cons : (contract : UnitContract) (contracts : List UnitContract) (t : ℕ)
    → signed_units (contract ∷ contracts) t ≡ (if contract.trade == t then contract.units else 0) + signed_units contracts t
signed-cons contract contracts t = by (contract.trade == t)
  where
    kept : List UnitContract
    kept = filter (λ one. one.trade == t) contracts

    by : (b : Bool) → sum_by (λ (one : UnitContract). one.units) (if b then contract ∷ kept else kept)
        ≡ (if b then contract.units else 0) + sum_by (λ (one : UnitContract). one.units) kept
    by true = sum_by-cons (λ (one : UnitContract). one.units) contract kept
    by false = omega arith

-- what is signed of a trade by counts of contracts, of which the first has number i
abbrev signed_from : List UnitContract → (ℕ → ℕ) → ℕ → ℕ → ℕ
signed_from contracts counts i t =
    sum_by (λ entry. if entry.1.trade == t then counts entry.0 else 0) (enumerate_from i contracts)

signed_shift : (contracts : List UnitContract) (counts : ℕ → ℕ) (i t : ℕ)
    → signed_from contracts counts (i + 1) t ≡ signed_from contracts (λ k. counts (suc k)) i t
signed_shift [] counts i t = refl
signed_shift (contract ∷ contracts) counts i t =
    let rest = signed_shift contracts counts (i + 1) t in
    let first = sum_by-cons (λ (entry : ℕ × UnitContract). if entry.1.trade == t then counts entry.0 else 0)
    (i + 1, contract) (enumerate_from (i + 1 + 1) contracts) in
    let second = sum_by-cons (λ (entry : ℕ × UnitContract). if entry.1.trade == t then counts (suc entry.0) else 0)
    (i, contract) (enumerate_from (i + 1) contracts) in
    let place : i + 1 ≡ suc i = omega arith in
    let here = ap (λ (k : ℕ). if contract.trade == t then counts k else 0) place in
    omega (arith, rest, first, second, here)

pub joined-cons : (contract : UnitContract) (contracts : List UnitContract) (counts : ℕ → ℕ) (t : ℕ)
    → joined (contract ∷ contracts) counts t
    ≡ (if contract.trade == t then counts 0 else 0) + joined contracts (λ k. counts (suc k)) t
joined-cons contract contracts counts t =
    let shift = signed_shift contracts counts 0 t in
    let first = sum_by-cons (λ (entry : ℕ × UnitContract). if entry.1.trade == t then counts entry.0 else 0)
    (0, contract) (enumerate_from (0 + 1) contracts) in
    let place : length (contract ∷ contracts) + t ≡ suc (length contracts + t) = omega arith in
    let here = ap counts place in
    omega (arith, shift, first, here)

-- joined counts go by the trade's unsigned units and its contracts alone
pub joined_same : (contracts : List UnitContract) (counts others : ℕ → ℕ) (t : ℕ)
    → counts (length contracts + t) ≡ others (length contracts + t)
    → ((k : ℕ) → k < length contracts → (contract_at contracts k).trade ≡ t → counts k ≡ others k)
    → joined contracts counts t ≡ joined contracts others t
joined_same [] counts others t free signed = ap (λ (n : ℕ). n + 0) free
joined_same (contract ∷ contracts) counts others t free signed =
    let place : length (contract ∷ contracts) + t ≡ suc (length contracts + t) = omega arith in
    let rest = joined_same contracts (λ k. counts (suc k)) (λ k. others (suc k)) t
    (sym (ap counts place) ∙ free ∙ ap others place) (λ k below. signed (suc k) (omega (arith, below))) in
    let first = joined-cons contract contracts counts t in
    let second = joined-cons contract contracts others t in
    let here = by (contract.trade == t) refl in
    omega (arith, rest, first, second, here)
  where
    by : (b : Bool) → (contract.trade == t) ≡ b → (if b then counts 0 else 0) ≡ (if b then others 0 else 0)
    by true same = signed 0 (omega arith) (eqb-true contract.trade t same)
    by false other = refl

-- ---- the trades of a split network

-- a contract's trade has the units of the contract, and the firms of its trade
pub split_signed : (trades : List UnitTrade) (contracts : List UnitContract) (free : ℕ → ℕ) (k : ℕ) → k < length contracts
    → trade_at (split_trades trades contracts free) k
    ≡ units_of trades (contract_at contracts k).trade (contract_at contracts k).units
split_signed trades [] free k below = absurd (omega (arith, below))
split_signed trades (contract ∷ contracts) free zero below = refl
split_signed trades (contract ∷ contracts) free (suc k) below =
    split_signed trades contracts free k (omega (arith, below))

pub split_free : (trades : List UnitTrade) (contracts : List UnitContract) (free : ℕ → ℕ) (t : ℕ) → t < length trades
    → trade_at (split_trades trades contracts free) (length contracts + t) ≡ units_of trades t (free t)
split_free trades [] free t below =
    let place : 0 + t ≡ t = omega arith in
    ap (trade_at (split_trades trades [] free)) place
    ∙ get_or-map-range_with_len (λ s. units_of trades s (free s)) 0 (length trades) t t
    (record { seller = 0; buyer = 0; units = 0 }) below (omega arith)
split_free trades (contract ∷ contracts) free t below =
    let place : length (contract ∷ contracts) + t ≡ suc (length contracts + t) = omega arith in
    ap (trade_at (split_trades trades (contract ∷ contracts) free)) place ∙ split_free trades contracts free t below

-- the trade of a twin has the firms of the twin's trade
pub split_ends : (trades : List UnitTrade) (contracts : List UnitContract) (free : ℕ → ℕ) (t m : ℕ) → t < length trades
    → ((trade_at (split_trades trades contracts free) (split_of contracts t m)).seller ≡ (trade_at trades t).seller)
    × ((trade_at (split_trades trades contracts free) (split_of contracts t m)).buyer ≡ (trade_at trades t).buyer)
unfolding split_of
split_ends trades [] free t m below =
    let same = get_or-map-range_with_len (λ s. units_of trades s (free s)) 0 (length trades) t t
    (record { seller = 0; buyer = 0; units = 0 }) below (omega arith) in
    (ap (λ (trade : UnitTrade). trade.seller) same, ap (λ (trade : UnitTrade). trade.buyer) same)
split_ends trades (contract ∷ contracts) free t m below =
    by (contract.trade == t) (nat_lt m contract.units) refl
    (split_ends trades contracts free t (if contract.trade == t then m - contract.units else m) below)
  where
    split : ℕ → UnitTrade
    split = trade_at (split_trades trades (contract ∷ contracts) free)

    later : ℕ
    later = split_of contracts t (if contract.trade == t then m - contract.units else m)

    by : (b c : Bool) → (contract.trade == t) ≡ b
        → ((trade_at (split_trades trades contracts free) later).seller ≡ (trade_at trades t).seller)
        × ((trade_at (split_trades trades contracts free) later).buyer ≡ (trade_at trades t).buyer)
        → ((split (if b && c then 0 else suc later)).seller ≡ (trade_at trades t).seller)
        × ((split (if b && c then 0 else suc later)).buyer ≡ (trade_at trades t).buyer)
    by true true same rest =
        let here = eqb-true contract.trade t same in
        (ap (λ (s : ℕ). (trade_at trades s).seller) here, ap (λ (s : ℕ). (trade_at trades s).buyer) here)
    by true false same rest = rest
    by false c other rest = rest

-- ---- where a twin is

-- a signed twin is of a contract
pub split_below : (contracts : List UnitContract) (t m : ℕ) → m < signed_units contracts t
    → split_of contracts t m < length contracts
unfolding split_of
split_below [] t m below = absurd (omega (arith, below))
split_below (contract ∷ contracts) t m below =
    by (contract.trade == t) (signed-cons contract contracts t) (split_below contracts t)
  where
    IsBelow : Type 0
    IsBelow = (l : ℕ) → l < signed_units contracts t → split_of contracts t l < length contracts

    first : signed_units (contract ∷ contracts) t ≡ contract.units + signed_units contracts t → IsBelow
        → (if nat_lt m contract.units then 0 else suc (split_of contracts t (m - contract.units)))
        < length (contract ∷ contracts)
    first sum rest = elim (cases_lt m contract.units) [
      | inl less ↦ subst (λ (b : Bool). (if b then 0 else suc (split_of contracts t (m - contract.units)))
          < length (contract ∷ contracts)) (sym (lt-ltb m contract.units less)) (omega arith)
      | inr more ↦ subst (λ (b : Bool). (if b then 0 else suc (split_of contracts t (m - contract.units)))
          < length (contract ∷ contracts)) (sym (le-ltb m contract.units more))
          (let later = rest (m - contract.units) (omega (arith, below, sum, more)) in omega (arith, later))
    ]

    by : (b : Bool) → signed_units (contract ∷ contracts) t ≡ (if b then contract.units else 0) + signed_units contracts t
        → IsBelow
        → (if b && nat_lt m contract.units then 0
        else suc (split_of contracts t (if b then m - contract.units else m))) < length (contract ∷ contracts)
    by true sum rest = first sum rest
    by false sum rest = let later = rest m (omega (arith, below, sum)) in omega (arith, later)

-- an unsigned one is of its trade
pub split_past : (contracts : List UnitContract) (t m : ℕ) → signed_units contracts t ≤ m
    → split_of contracts t m ≡ length contracts + t
unfolding split_of
split_past [] t m past = omega arith
split_past (contract ∷ contracts) t m past =
    by (contract.trade == t) (signed-cons contract contracts t) (split_past contracts t)
  where
    IsPast : Type 0
    IsPast = (l : ℕ) → signed_units contracts t ≤ l → split_of contracts t l ≡ length contracts + t

    by : (b : Bool) → signed_units (contract ∷ contracts) t ≡ (if b then contract.units else 0) + signed_units contracts t
        → IsPast
        → (if b && nat_lt m contract.units then 0
        else suc (split_of contracts t (if b then m - contract.units else m))) ≡ length (contract ∷ contracts) + t
    by true sum rest =
        let later = rest (m - contract.units) (omega (arith, past, sum)) in
        ap (λ (c : Bool). if c then 0 else suc (split_of contracts t (m - contract.units)))
        (le-ltb m contract.units (omega (arith, past, sum))) ∙ omega (arith, later)
    by false sum rest = let later = rest m (omega (arith, past, sum)) in omega (arith, later)

-- what is signed by contracts and by others after them is the sum
pub signed-append : (contracts offers : List UnitContract) (t : ℕ)
    → signed_units (contracts ++ offers) t ≡ signed_units contracts t + signed_units offers t
signed-append [] offers t = omega arith
signed-append (contract ∷ contracts) offers t =
    let rest = signed-append contracts offers t in
    let first = signed-cons contract (contracts ++ offers) t in
    let second = signed-cons contract contracts t in
    omega (arith, rest, first, second)

-- contracts leave the twins of those before them where they are
pub split_front : (contracts offers : List UnitContract) (t m : ℕ) → m < signed_units contracts t
    → split_of (contracts ++ offers) t m ≡ split_of contracts t m
unfolding split_of
split_front [] offers t m below = absurd (omega (arith, below))
split_front (contract ∷ contracts) offers t m below =
    by (contract.trade == t) (signed-cons contract contracts t) (split_front contracts offers t)
  where
    IsFront : Type 0
    IsFront = (l : ℕ) → l < signed_units contracts t → split_of (contracts ++ offers) t l ≡ split_of contracts t l

    by : (b : Bool) → signed_units (contract ∷ contracts) t ≡ (if b then contract.units else 0) + signed_units contracts t
        → IsFront
        → (if b && nat_lt m contract.units then 0
        else suc (split_of (contracts ++ offers) t (if b then m - contract.units else m)))
        ≡ (if b && nat_lt m contract.units then 0 else suc (split_of contracts t (if b then m - contract.units else m)))
    by true sum rest = elim (cases_lt m contract.units) [
      | inl less ↦ ap (λ (c : Bool). if c then 0 else suc (split_of (contracts ++ offers) t (m - contract.units)))
          (lt-ltb m contract.units less)
          ∙ sym (ap (λ (c : Bool). if c then 0 else suc (split_of contracts t (m - contract.units)))
          (lt-ltb m contract.units less))
      | inr more ↦ ap (λ (k : ℕ). if nat_lt m contract.units then 0 else suc k)
          (rest (m - contract.units) (omega (arith, below, sum, more)))
    ]
    by false sum rest = ap suc (rest m (omega (arith, below, sum)))

-- and have their own behind these
pub split_behind : (contracts offers : List UnitContract) (t m : ℕ) → signed_units contracts t ≤ m
    → length contracts ≤ split_of (contracts ++ offers) t m
unfolding split_of
split_behind [] offers t m past = omega arith
split_behind (contract ∷ contracts) offers t m past =
    by (contract.trade == t) (signed-cons contract contracts t) (split_behind contracts offers t)
  where
    IsBehind : Type 0
    IsBehind = (l : ℕ) → signed_units contracts t ≤ l → length contracts ≤ split_of (contracts ++ offers) t l

    by : (b : Bool) → signed_units (contract ∷ contracts) t ≡ (if b then contract.units else 0) + signed_units contracts t
        → IsBehind
        → length (contract ∷ contracts) ≤ (if b && nat_lt m contract.units then 0
        else suc (split_of (contracts ++ offers) t (if b then m - contract.units else m)))
    by true sum rest =
        let later = rest (m - contract.units) (omega (arith, past, sum)) in
        subst (λ (c : Bool). length (contract ∷ contracts)
        ≤ (if c then 0 else suc (split_of (contracts ++ offers) t (m - contract.units))))
        (sym (le-ltb m contract.units (omega (arith, past, sum)))) (omega (arith, later))
    by false sum rest = let later = rest m (omega (arith, past, sum)) in omega (arith, later)

-- ---- how many twins there are

module _ (kind : ℕ → ℕ) (n : ℕ) where
  -- of the numbers that pass a test, those of each kind have the ranks from 0 on, each once
  pub record AreRanks (test : ℕ → Bool) (rank size : ℕ → ℕ) : Type 0 where
    pub first : (t b : ℕ) → b ≤ size t → count_below (λ u. test u && (t == kind u && nat_lt (rank u) b)) n ≡ b
    pub all : (t : ℕ) → count_below (λ u. test u && t == kind u) n ≡ size t

  module _ (test : ℕ → Bool) (rank : ℕ → ℕ) (contract : UnitContract) where
    -- the contract takes a number, and the others have their ranks among what it leaves
    takes : ℕ → Bool
    takes u = contract.trade == kind u && nat_lt (rank u) contract.units

    left : ℕ → Bool
    left u = test u && not (takes u)

    later : ℕ → ℕ
    later u = if contract.trade == kind u then rank u - contract.units else rank u

    -- of the contract's trade it takes some, and of other trades none
    taken : (t : ℕ) → contract.trade ≡ t
        → count_below (λ u. test u && (t == kind u && nat_lt (rank u) contract.units)) n
        + count_below (λ u. left u && t == kind u) n ≡ count_below (λ u. test u && t == kind u) n
    unfolding left takes
    taken t same =
        count-plus (λ u. test u && (t == kind u && nat_lt (rank u) contract.units))
        (λ u. (test u && not (contract.trade == kind u && nat_lt (rank u) contract.units)) && t == kind u)
        (λ u. test u && t == kind u) n
        (λ u below. subst (λ (s : ℕ). one (test u && (t == kind u && nat_lt (rank u) contract.units))
        + one ((test u && not (s == kind u && nat_lt (rank u) contract.units)) && t == kind u)
        ≡ one (test u && t == kind u)) (sym same) (by (test u) (t == kind u) (nat_lt (rank u) contract.units)))
      where
        by : (p d r : Bool) → one (p && (d && r)) + one ((p && not (d && r)) && d) ≡ one (p && d)
        by true true true = refl
        by true true false = refl
        by true false r = refl
        by false d r = refl

    untaken : (t u : ℕ) → contract.trade ≡ t → (t == kind u) ≡ (contract.trade == kind u)
    untaken t u same = ap (λ (s : ℕ). s == kind u) (sym same)

    apart : (t u : ℕ) → (contract.trade ≡ t → ⊥) → (t == kind u) ≡ true → (contract.trade == kind u) ≡ false
    apart t u other here = ne_eqb contract.trade (kind u) (λ e. other (e ∙ sym (eqb-true t (kind u) here)))

    kept : (t : ℕ) → (contract.trade ≡ t → ⊥)
        → count_below (λ u. left u && t == kind u) n ≡ count_below (λ u. test u && t == kind u) n
    unfolding left takes
    kept t other =
        count-same (λ u. (test u && not (contract.trade == kind u && nat_lt (rank u) contract.units)) && t == kind u)
        (λ u. test u && t == kind u) n
        (λ u below. by (test u) (t == kind u) (contract.trade == kind u) (nat_lt (rank u) contract.units)
        (apart t u other))
      where
        by : (p d e r : Bool) → (d ≡ true → e ≡ false) → ((p && not (e && r)) && d) ≡ (p && d)
        by p true e r away = subst (λ (x : Bool). ((p && not (x && r)) && true) ≡ (p && true)) (sym (away refl)) (plain p)
          where
            plain : (p : Bool) → ((p && true) && true) ≡ (p && true)
            plain true = refl
            plain false = refl
        by true false e r away = none (not (e && r))
          where
            none : (x : Bool) → (x && false) ≡ false
            none true = refl
            none false = refl
        by false false e r away = refl

    -- the number of twins of each kind that are left
    rest_of : (ℕ → ℕ) → ℕ → ℕ
    rest_of size t = if contract.trade == t then size t - contract.units else size t

    rest_same : (size : ℕ → ℕ) (t : ℕ) → contract.trade ≡ t → rest_of size t ≡ size t - contract.units
    unfolding rest_of
    rest_same size t same = ap (λ (b : Bool). if b then size t - contract.units else size t) (eq-eqb contract.trade t same)

    rest_other : (size : ℕ → ℕ) (t : ℕ) → (contract.trade ≡ t → ⊥) → rest_of size t ≡ size t
    unfolding rest_of
    rest_other size t other =
        ap (λ (b : Bool). if b then size t - contract.units else size t) (ne_eqb contract.trade t other)

    ranks_next : (size : ℕ → ℕ) → AreRanks test rank size → contract.units ≤ size contract.trade
        → AreRanks left later (rest_of size)
    unfolding left takes later
    ranks_next size are most = record {
      first = λ t b few. elim (cases_eq contract.trade t) [
        | inl same ↦
            let size_is = rest_same size t same in
            let whole = ap size same in
            let sum = count-plus (λ u. test u && (t == kind u && nat_lt (rank u) contract.units))
            (λ u. left u && (t == kind u && nat_lt (later u) b))
            (λ u. test u && (t == kind u && nat_lt (rank u) (contract.units + b))) n
            (λ u below. subst (λ (s : ℕ). one (test u && (t == kind u && nat_lt (rank u) contract.units))
            + one ((test u && not (s == kind u && nat_lt (rank u) contract.units))
            && (t == kind u && nat_lt (if s == kind u then rank u - contract.units else rank u) b))
            ≡ one (test u && (t == kind u && nat_lt (rank u) (contract.units + b)))) (sym same)
            (in_order (test u) (t == kind u) (rank u) contract.units b)) in
            let all = are.first t (contract.units + b) (omega (arith, few, size_is, whole, most)) in
            let taken_first = are.first t contract.units (omega (arith, whole, most)) in
            omega (arith, sum, all, taken_first)
        | inr other ↦
            let size_is = rest_other size t other in
            count-same (λ u. left u && (t == kind u && nat_lt (later u) b))
            (λ u. test u && (t == kind u && nat_lt (rank u) b)) n
            (λ u below. untouched (test u) (t == kind u) (contract.trade == kind u) (rank u) contract.units b
            (apart t u other))
            ∙ are.first t b (omega (arith, few, size_is))
      ];
      all = λ t. elim (cases_eq contract.trade t) [
        | inl same ↦
            let size_is = rest_same size t same in
            let whole = ap size same in
            let sum = taken t same in
            let all = are.all t in
            let first = are.first t contract.units (omega (arith, whole, most)) in
            omega (arith, size_is, sum, all, first)
        | inr other ↦ kept t other ∙ are.all t ∙ sym (rest_other size t other)
      ];
    }
      where
        below_sum : (r c b : ℕ) → one (nat_lt r c) + one (not (nat_lt r c) && nat_lt (r - c) b) ≡ one (nat_lt r (c + b))
        below_sum r c b = elim (cases_lt r c) [
          | inl less ↦ ap (λ (x : Bool). one x + one (not x && nat_lt (r - c) b)) (lt-ltb r c less)
              ∙ sym (ap one (lt-ltb r (c + b) (omega (arith, less))))
          | inr more ↦ ap (λ (x : Bool). one x + one (not x && nat_lt (r - c) b)) (le-ltb r c more)
              ∙ elim (cases_lt (r - c) b) [
                | inl inside ↦ ap (λ (x : Bool). 0 + one x) (lt-ltb (r - c) b inside)
                    ∙ sym (ap one (lt-ltb r (c + b) (omega (arith, more, inside))))
                | inr past ↦ ap (λ (x : Bool). 0 + one x) (le-ltb (r - c) b past)
                    ∙ sym (ap one (le-ltb r (c + b) (omega (arith, more, past))))
              ]
        ]

        in_order : (p d : Bool) (r c b : ℕ) → one (p && (d && nat_lt r c))
            + one ((p && not (d && nat_lt r c)) && (d && nat_lt (if d then r - c else r) b))
            ≡ one (p && (d && nat_lt r (c + b)))
        in_order true true r c b = below_sum r c b
        in_order true false r c b = refl
        in_order false d r c b = refl

        untouched : (p d e : Bool) (r c b : ℕ) → (d ≡ true → e ≡ false)
            → ((p && not (e && nat_lt r c)) && (d && nat_lt (if e then r - c else r) b)) ≡ (p && (d && nat_lt r b))
        untouched p true e r c b away =
            subst (λ (x : Bool). ((p && not (x && nat_lt r c)) && (true && nat_lt (if x then r - c else r) b))
            ≡ (p && (true && nat_lt r b))) (sym (away refl)) (plain p (nat_lt r b))
          where
            plain : (p x : Bool) → ((p && true) && (true && x)) ≡ (p && (true && x))
            plain true x = refl
            plain false x = refl
        untouched true false e r c b away = none (not (e && nat_lt r c))
          where
            none : (x : Bool) → (x && false) ≡ false
            none true = refl
            none false = refl
        untouched false false e r c b away = refl

    -- a number is of the contract where that takes it, and otherwise of a later trade
    here : (contracts : List UnitContract) (u : ℕ) → (0 == split_of (contract ∷ contracts) (kind u) (rank u)) ≡ takes u
    unfolding split_of takes
    here contracts u = by (contract.trade == kind u && nat_lt (rank u) contract.units)
        (split_of contracts (kind u) (if contract.trade == kind u then rank u - contract.units else rank u))
      where
        by : (b : Bool) (k : ℕ) → (0 == (if b then 0 else suc k)) ≡ b
        by true k = eq-eqb 0 0 refl
        by false k = ne_eqb 0 (suc k) (λ e. omega (arith, e))

    there : (contracts : List UnitContract) (s u : ℕ)
        → (test u && suc s == split_of (contract ∷ contracts) (kind u) (rank u))
        ≡ (left u && s == split_of contracts (kind u) (later u))
    unfolding split_of takes left later
    there contracts s u = by (test u) (contract.trade == kind u && nat_lt (rank u) contract.units)
        (split_of contracts (kind u) (if contract.trade == kind u then rank u - contract.units else rank u))
      where
        next : (k : ℕ) → (suc s == suc k) ≡ (s == k)
        next k = elim (cases_eq s k) [
          | inl same ↦ eq-eqb (suc s) (suc k) (omega (arith, same)) ∙ sym (eq-eqb s k same)
          | inr other ↦ ne_eqb (suc s) (suc k) (λ e. other (omega (arith, e))) ∙ sym (ne_eqb s k other)
        ]

        by : (p b : Bool) (k : ℕ) → (p && suc s == (if b then 0 else suc k)) ≡ ((p && not b) && s == k)
        by true true k = ne_eqb (suc s) 0 (λ e. omega (arith, e))
        by true false k = next k
        by false b k = refl

  -- the first of several contracts fits, and the others into what it leaves
  fits : (contract : UnitContract) (contracts : List UnitContract) (test : ℕ → Bool) (rank size : ℕ → ℕ)
      → ((t : ℕ) → signed_units (contract ∷ contracts) t ≤ size t)
      → (contract.units ≤ size contract.trade)
      × ((t : ℕ) → signed_units contracts t ≤ rest_of test rank contract size t)
  fits contract contracts test rank size most = (
    (let sum = signed-cons contract contracts contract.trade in
        let test_is = ap (λ (b : Bool). if b then contract.units else 0) (eq-eqb contract.trade contract.trade refl) in
        let few = most contract.trade in
        omega (arith, sum, test_is, few)),
    (λ t.
        let sum = signed-cons contract contracts t in
        let few = most t in
        elim (cases_eq contract.trade t) [
          | inl same ↦
              let test_is = ap (λ (b : Bool). if b then contract.units else 0) (eq-eqb contract.trade t same) in
              let size_is = rest_same test rank contract size t same in
              omega (arith, sum, few, test_is, size_is)
          | inr other ↦
              let test_is = ap (λ (b : Bool). if b then contract.units else 0) (ne_eqb contract.trade t other) in
              let size_is = rest_other test rank contract size t other in
              omega (arith, sum, few, test_is, size_is)
        ]),
  )

  -- a contract has as many twins as it has units
  pub signed_twins_are : (contracts : List UnitContract) (test : ℕ → Bool) (rank size : ℕ → ℕ) → AreRanks test rank size
      → ((t : ℕ) → signed_units contracts t ≤ size t) → (k : ℕ) → k < length contracts
      → count_below (λ u. test u && k == split_of contracts (kind u) (rank u)) n ≡ (contract_at contracts k).units
  unfolding takes
  signed_twins_are [] test rank size are most k below = absurd (omega (arith, below))
  signed_twins_are (contract ∷ contracts) test rank size are most zero below =
      let sum = signed-cons contract contracts contract.trade in
      let test_is = ap (λ (b : Bool). if b then contract.units else 0) (eq-eqb contract.trade contract.trade refl) in
      let few = most contract.trade in
      count-same (λ u. test u && 0 == split_of (contract ∷ contracts) (kind u) (rank u))
      (λ u. test u && (contract.trade == kind u && nat_lt (rank u) contract.units)) n
      (λ u inside. ap (λ (b : Bool). test u && b) (here test rank contract contracts u))
      ∙ are.first contract.trade contract.units (omega (arith, sum, test_is, few))
  signed_twins_are (contract ∷ contracts) test rank size are most (suc k) below =
      count-same (λ u. test u && suc k == split_of (contract ∷ contracts) (kind u) (rank u))
      (λ u. left test rank contract u && k == split_of contracts (kind u) (later test rank contract u)) n
      (λ u inside. there test rank contract contracts k u)
      ∙ signed_twins_are contracts (left test rank contract) (later test rank contract) (rest_of test rank contract size)
      (ranks_next test rank contract size are (fits contract contracts test rank size most).0)
      (fits contract contracts test rank size most).1 k (omega (arith, below))

  -- and a trade's unsigned units are the others
  pub free_twins_are : (contracts : List UnitContract) (test : ℕ → Bool) (rank size : ℕ → ℕ) → AreRanks test rank size
      → ((t : ℕ) → signed_units contracts t ≤ size t) → (t : ℕ)
      → count_below (λ u. test u && length contracts + t == split_of contracts (kind u) (rank u)) n
      + signed_units contracts t ≡ size t
  unfolding split_of
  free_twins_are [] test rank size are most t =
      let all = are.all t in
      let place : 0 + t ≡ t = omega arith in
      let same = ap (λ (s : ℕ). count_below (λ u. test u && s == kind u) n) place in
      omega (arith, all, same)
  free_twins_are (contract ∷ contracts) test rank size are most t =
      let next : length (contract ∷ contracts) + t ≡ suc (length contracts + t) = omega arith in
      let place = ap (λ (s : ℕ). count_below (λ u. test u && s == split_of (contract ∷ contracts) (kind u) (rank u)) n) next in
      let moved = count-same (λ u. test u && suc (length contracts + t) == split_of (contract ∷ contracts) (kind u) (rank u))
      (λ u. left test rank contract u && length contracts + t == split_of contracts (kind u) (later test rank contract u)) n
      (λ u inside. there test rank contract contracts (length contracts + t) u) in
      let rest = free_twins_are contracts (left test rank contract) (later test rank contract)
      (rest_of test rank contract size)
      (ranks_next test rank contract size are (fits contract contracts test rank size most).0)
      (fits contract contracts test rank size most).1 t in
      let sum = signed-cons contract contracts t in
      let few = most t in
      elim (cases_eq contract.trade t) [
        | inl same ↦
            let test_is = ap (λ (b : Bool). if b then contract.units else 0) (eq-eqb contract.trade t same) in
            let size_is = rest_same test rank contract size t same in
            omega (arith, place, moved, rest, sum, few, test_is, size_is)
        | inr other ↦
            let test_is = ap (λ (b : Bool). if b then contract.units else 0) (ne_eqb contract.trade t other) in
            let size_is = rest_other test rank contract size t other in
            omega (arith, place, moved, rest, sum, few, test_is, size_is)
      ]

  -- ---- counts of twins join to those of trades

  pub joined_counts : (contracts : List UnitContract) (test : ℕ → Bool) (rank : ℕ → ℕ) (t : ℕ)
      → joined contracts (λ s. count_below (λ u. test u && s == split_of contracts (kind u) (rank u)) n) t
      ≡ count_below (λ u. test u && t == kind u) n
  unfolding split_of takes
  joined_counts [] test rank t =
      let place : 0 + t ≡ t = omega arith in
      let same = ap (λ (s : ℕ). count_below (λ u. test u && s == kind u) n) place in
      omega (arith, same)
  joined_counts (contract ∷ contracts) test rank t =
      let parts = joined-cons contract contracts
      (λ s. count_below (λ u. test u && s == split_of (contract ∷ contracts) (kind u) (rank u)) n) t in
      let moved = joined_same contracts
      (λ s. count_below (λ u. test u && suc s == split_of (contract ∷ contracts) (kind u) (rank u)) n)
      (λ s. count_below (λ u. left test rank contract u
      && s == split_of contracts (kind u) (later test rank contract u)) n) t
      (next (length contracts + t)) (λ k below same. next k) in
      let rest = joined_counts contracts (left test rank contract) (later test rank contract) t in
      let first = count-same (λ u. test u && 0 == split_of (contract ∷ contracts) (kind u) (rank u))
      (λ u. test u && (contract.trade == kind u && nat_lt (rank u) contract.units)) n
      (λ u inside. ap (λ (b : Bool). test u && b) (here test rank contract contracts u)) in
      elim (cases_eq contract.trade t) [
        | inl same ↦
            let test_is = ap (λ (b : Bool). if b
            then count_below (λ u. test u && 0 == split_of (contract ∷ contracts) (kind u) (rank u)) n else 0)
            (eq-eqb contract.trade t same) in
            let sum = taken test rank contract t same in
            let turned = ap (λ (s : ℕ). count_below (λ u. test u && (s == kind u && nat_lt (rank u) contract.units)) n) same in
            omega (arith, parts, moved, rest, first, test_is, sum, turned)
        | inr other ↦
            let test_is = ap (λ (b : Bool). if b
            then count_below (λ u. test u && 0 == split_of (contract ∷ contracts) (kind u) (rank u)) n else 0)
            (ne_eqb contract.trade t other) in
            let same = kept test rank contract t other in
            omega (arith, parts, moved, rest, test_is, same)
      ]
    where
      next : (s : ℕ)
          → count_below (λ u. test u && suc s == split_of (contract ∷ contracts) (kind u) (rank u)) n
          ≡ count_below (λ u. left test rank contract u
          && s == split_of contracts (kind u) (later test rank contract u)) n
      next s = count-same (λ u. test u && suc s == split_of (contract ∷ contracts) (kind u) (rank u))
          (λ u. left test rank contract u && s == split_of contracts (kind u) (later test rank contract u)) n
          (λ u inside. there test rank contract contracts s u)

-- ---- and so do counts of numbers by any contracts that they are of

joined-plus : (contracts : List UnitContract) (counts others : ℕ → ℕ) (t : ℕ)
    → joined contracts (λ s. counts s + others s) t ≡ joined contracts counts t + joined contracts others t
joined-plus [] counts others t = omega arith
joined-plus (contract ∷ contracts) counts others t =
    let sum = joined-cons contract contracts (λ s. counts s + others s) t in
    let first = joined-cons contract contracts counts t in
    let second = joined-cons contract contracts others t in
    let rest = joined-plus contracts (λ k. counts (suc k)) (λ k. others (suc k)) t in
    let here = by (contract.trade == t) in
    omega (arith, sum, first, second, rest, here)
  where
    by : (b : Bool) → (if b then counts 0 + others 0 else 0)
        ≡ (if b then counts 0 else 0) + (if b then others 0 else 0)
    by true = refl
    by false = refl

joined-none : (contracts : List UnitContract) (t : ℕ) → joined contracts (λ s. 0) t ≡ 0
joined-none [] t = omega arith
joined-none (contract ∷ contracts) t =
    let sum = joined-cons contract contracts (λ s. 0) t in
    let rest = joined-none contracts t in
    let here = by (contract.trade == t) 0 in
    omega (arith, sum, rest, here)
  where
    by : (b : Bool) (n : ℕ) → (if b then n else n) ≡ n
    by true n = refl
    by false n = refl

-- one of a contract is one of its trade
joined-at : (contracts : List UnitContract) (k t : ℕ) → k < length contracts
    → joined contracts (λ s. one (s == k)) t ≡ one (t == (contract_at contracts k).trade)
joined-at [] k t below = absurd (omega (arith, below))
joined-at (contract ∷ contracts) zero t below =
    let sum = joined-cons contract contracts (λ s. one (s == 0)) t in
    let rest = joined_same contracts (λ s. one (suc s == 0)) (λ s. 0) t (none (length contracts + t)) (λ k inside same. none k)
    ∙ joined-none contracts t in
    let here = by (contract.trade == t) (eqb-turned contract.trade t) in
    omega (arith, sum, rest, here)
  where
    none : (s : ℕ) → one (suc s == 0) ≡ 0
    none s = ap one (ne_eqb (suc s) 0 (λ e. omega (arith, e)))

    by : (b : Bool) → b ≡ (t == contract.trade) → (if b then one (0 == 0) else 0) ≡ one (t == contract.trade)
    by true same = ap one same
    by false same = ap one same
joined-at (contract ∷ contracts) (suc k) t below =
    let sum = joined-cons contract contracts (λ s. one (s == suc k)) t in
    let rest = joined_same contracts (λ s. one (suc s == suc k)) (λ s. one (s == k)) t (next (length contracts + t))
    (λ j inside same. next j) ∙ joined-at contracts k t (omega (arith, below)) in
    let here = by (contract.trade == t) in
    omega (arith, sum, rest, here)
  where
    next : (s : ℕ) → one (suc s == suc k) ≡ one (s == k)
    next s = elim (cases_eq s k) [
      | inl same ↦ ap one (eq-eqb (suc s) (suc k) (omega (arith, same))) ∙ sym (ap one (eq-eqb s k same))
      | inr other ↦ ap one (ne_eqb (suc s) (suc k) (λ e. other (omega (arith, e)))) ∙ sym (ap one (ne_eqb s k other))
    ]

    by : (b : Bool) → (if b then one (0 == suc k) else 0) ≡ 0
    by true = ap one (ne_eqb 0 (suc k) (λ e. omega (arith, e)))
    by false = refl

-- where numbers are of contracts, the counts of these join to how many are of each trade
pub joined_of : (contracts : List UnitContract) (kind : ℕ → ℕ) (test : ℕ → Bool) (n t : ℕ)
    → ((k : ℕ) → k < n → test k ≡ true → kind k < length contracts)
    → joined contracts (λ s. count_below (λ k. test k && s == kind k) n) t
    ≡ count_below (λ k. test k && t == (contract_at contracts (kind k)).trade) n
unfolding count_below
joined_of contracts kind test zero t inside = joined-none contracts t
joined_of contracts kind test (suc n) t inside =
    let sum = joined-plus contracts (λ s. count_below (λ k. test k && s == kind k) n) (λ s. one (test n && s == kind n)) t in
    let before = joined_of contracts kind test n t (λ k below. inside k (omega (arith, below))) in
    let here = by (test n) (inside n (omega arith)) in
    omega (arith, sum, before, here)
  where
    by : (b : Bool) → (b ≡ true → kind n < length contracts)
        → joined contracts (λ s. one (b && s == kind n)) t ≡ one (b && t == (contract_at contracts (kind n)).trade)
    by true below = joined-at contracts (kind n) t (below refl)
    by false below = joined-none contracts t

-- all units of all contracts are those that are signed
pub joined_signed : (contracts : List UnitContract) (t : ℕ)
    → joined contracts (λ k. (contract_at contracts k).units) t ≡ signed_units contracts t
joined_signed [] t = refl
joined_signed (contract ∷ contracts) t =
    let sum = joined-cons contract contracts (λ k. (contract_at (contract ∷ contracts) k).units) t in
    let rest = joined_signed contracts t in
    let all = signed-cons contract contracts t in
    omega (arith, sum, rest, all)
