-- Sums over the trades of a split network are sums over the trades of which they are parts.
use Rattle.std.proofs.Common.{◌≡◌, ℕ, zero, suc, ◌+◌, ◌-◌, ◌<◌, Bool, true, false, ◌==◌, if◌then◌else◌, List, [], ◌∷◌, length, map, get_or, Some, slice_get, refl, sym, ap, ◌∙◌, arith, inl, inr, ℤ, pos, negsuc, ◌+ℤ◌, ◌-ℤ◌, ◌*ℤ◌}
use Rattle.std.specs.Prelude.{sum_by, filter}
use Rattle.std.specs.List.{enumerate_from, range_with_len}
use Rattle.std.proofs.lemmas.Int.{ints}
use Rattle.std.proofs.lemmas.Bool.{cases_eq, cases_lt, eq-eqb, ne_eqb}
use Rattle.std.proofs.lemmas.Option.{get_or_from_slice_get, slice_get-get_or, slice_get_within}
use Rattle.std.proofs.lemmas.List.{get_or-append-add, get_or-map, get_or_append_left, length-append}
use Rattle.std.proofs.lemmas.List.FromFn.{get_or-map-range_with_len, length-map-range_with_len}
use Rattle.std.proofs.lemmas.List.Sums.{sum_by-cons}
use Rattle.std.proofs.Math.IntN.{*ℤ-zero}
use Rattle.tn_base.proofs.SumLemmas.{times-plus}
use Rattle.tn_links.specs.RiseLemmas.{times_suc}
use Rattle.tn_links.specs.Totals.{total}
use Rattle.tn_links.proofs.TotalLemmas.{times-minus, total-first, total-plus, total-same, total-split, total-zero, total_at}
use Rattle.tn_counts.specs.Outcomes.{contract_at, joined, signed_units}
use Rattle.tn_counts.specs.declared.contract.UnitContract.{UnitContract}
use Rattle.tn_unit_judge.specs.Split.{origins}

-- ---- products

pub scale_units : (s p : ℤ) (n : ℕ) → (s *ℤ p) *ℤ pos n ≡ s *ℤ (p *ℤ pos n)
scale_units s p zero =
    let first = *ℤ-zero (s *ℤ p) in
    let second = ap (λ (z : ℤ). s *ℤ z) (*ℤ-zero p) in
    let third = *ℤ-zero s in
    omega (arith, ints, first, second, third)
scale_units s p (suc n) =
    let before = scale_units s p n in
    let first = times_suc (s *ℤ p) n in
    let second = ap (λ (z : ℤ). s *ℤ z) (times_suc p n) in
    let third = times-plus s (p *ℤ pos n) p in
    omega (arith, ints, before, first, second, third)

pub scale_times : (s p z : ℤ) → (s *ℤ p) *ℤ z ≡ s *ℤ (p *ℤ z)
scale_times s p (pos n) = scale_units s p n
scale_times s p (negsuc n) =
    let less : negsuc n ≡ pos 0 -ℤ pos (suc n) = omega (arith, ints) in
    let left = ap (λ (z : ℤ). (s *ℤ p) *ℤ z) less in
    let right = ap (λ (z : ℤ). s *ℤ (p *ℤ z)) less in
    let first = times-minus (s *ℤ p) (pos 0) (pos (suc n)) in
    let none = *ℤ-zero (s *ℤ p) in
    let own = scale_units s p (suc n) in
    let inner = ap (λ (z : ℤ). s *ℤ z) (times-minus p (pos 0) (pos (suc n))) in
    let gone = ap (λ (z : ℤ). s *ℤ (z -ℤ p *ℤ pos (suc n))) (*ℤ-zero p) in
    let second = times-minus s (pos 0) (p *ℤ pos (suc n)) in
    let nothing = *ℤ-zero s in
    omega (arith, ints, left, right, first, none, own, inner, gone, second, nothing)

-- ---- the trades of which parts are

signed_sized : (all : List UnitContract) → length (map (λ contract. contract.trade) all) ≡ length all
signed_sized [] = refl
signed_sized (one ∷ all) = ap suc (signed_sized all)

pub origins_sized : (n : ℕ) (contracts : List UnitContract) → length (origins n contracts) ≡ length contracts + n
origins_sized n contracts =
    let sum = length-append (map (λ contract. contract.trade) contracts) (map (λ t. t) (range_with_len 0 n)) in
    let first = signed_sized contracts in
    let second = length-map-range_with_len (λ t. t) 0 n in
    omega (arith, sum, first, second)

pub origin_signed : (n : ℕ) (contracts : List UnitContract) (k : ℕ) → k < length contracts
    → get_or (origins n contracts) k 0 ≡ (contract_at contracts k).trade
origin_signed n contracts k below =
    let sized = signed_sized contracts in
    get_or_append_left (map (λ contract. contract.trade) contracts) (map (λ t. t) (range_with_len 0 n)) 0 k
    (omega (arith, below, sized))
    ∙ get_or-map (λ contract. contract.trade) contracts k (record { trade = 0; units = 0; price = pos 0 }) 0 below

pub origin_free : (n : ℕ) (contracts : List UnitContract) (t : ℕ) → t < n
    → get_or (origins n contracts) (length contracts + t) 0 ≡ t
origin_free n contracts t below =
    let place : length contracts + t ≡ length (map (λ contract. contract.trade) contracts) + t =
    let sized = signed_sized contracts in omega (arith, sized) in
    ap (λ (k : ℕ). get_or (origins n contracts) k 0) place
    ∙ get_or-append-add (map (λ contract. contract.trade) contracts) (map (λ t. t) (range_with_len 0 n)) t 0
    ∙ get_or-map-range_with_len (λ t. t) 0 n t t 0 below (omega arith)

-- ---- sums

-- what is signed of a trade, by counts of the contracts, the first of which has number i
abbrev pub signed_from : List UnitContract → (ℕ → ℕ) → ℕ → ℕ → ℕ
signed_from contracts counts i t =
    sum_by (λ entry. if entry.1.trade == t then counts entry.0 else 0) (enumerate_from i contracts)

abbrev pub AreKnown : ℕ → List UnitContract → Type 0
AreKnown n contracts = (k : ℕ) (contract : UnitContract) → slice_get contracts k ≡ Some contract → contract.trade < n

pub signed_sum : (r : ℕ → ℤ) (counts : ℕ → ℕ) (n : ℕ) (contracts : List UnitContract) (i : ℕ) → AreKnown n contracts
    → total (λ t. r t *ℤ pos (signed_from contracts counts i t)) n
    ≡ total (λ k. r (contract_at contracts k).trade *ℤ pos (counts (i + k))) (length contracts)
unfolding total
signed_sum r counts n [] i known = total-zero (λ t. r t *ℤ pos 0) n (λ t below. *ℤ-zero (r t))
signed_sum r counts n (contract ∷ contracts) i known =
    let rest = signed_sum r counts n contracts (i + 1) (λ k one at. known (suc k) one at) in
    let one = total_at r (pos (counts i)) contract.trade n (known 0 contract refl) in
    let parts = total-plus (λ t. r t *ℤ (if t == contract.trade then pos (counts i) else pos 0))
    (λ t. r t *ℤ pos (signed_from contracts counts (i + 1) t)) n in
    let same = total-same (λ t. r t *ℤ pos (signed_from (contract ∷ contracts) counts i t))
    (λ t. r t *ℤ (if t == contract.trade then pos (counts i) else pos 0)
    +ℤ r t *ℤ pos (signed_from contracts counts (i + 1) t)) n (λ t below. split t) in
    let first = total-first (λ k. r (contract_at (contract ∷ contracts) k).trade *ℤ pos (counts (i + k))) (length contracts) in
    let place : i + 0 ≡ i = omega arith in
    let here = ap (λ (k : ℕ). r contract.trade *ℤ pos (counts k)) place in
    let later = total-same (λ k. r (contract_at contracts k).trade *ℤ pos (counts (i + 1 + k)))
    (λ k. r (contract_at contracts k).trade *ℤ pos (counts (i + suc k))) (length contracts)
    (λ k below. ap (λ (j : ℕ). r (contract_at contracts k).trade *ℤ pos (counts j)) (next k)) in
    omega (arith, ints, rest, one, parts, same, first, here, later)
  where
    next : (k : ℕ) → i + 1 + k ≡ i + suc k
    next k = omega arith

    turned : (a b m : ℕ) → pos (if a == b then m else 0) ≡ (if b == a then pos m else pos 0)
    turned a b m = elim (cases_eq a b) [
      | inl same ↦
          ap (λ (c : Bool). pos (if c then m else 0)) (eq-eqb a b same)
          ∙ sym (ap (λ (c : Bool). if c then pos m else pos 0) (eq-eqb b a (sym same)))
      | inr other ↦
          ap (λ (c : Bool). pos (if c then m else 0)) (ne_eqb a b other)
          ∙ sym (ap (λ (c : Bool). if c then pos m else pos 0) (ne_eqb b a (λ e. other (sym e))))
    ]

    split : (t : ℕ) → r t *ℤ pos (signed_from (contract ∷ contracts) counts i t)
        ≡ r t *ℤ (if t == contract.trade then pos (counts i) else pos 0)
        +ℤ r t *ℤ pos (signed_from contracts counts (i + 1) t)
    split t =
        let sum = sum_by-cons (λ (entry : ℕ × UnitContract). if entry.1.trade == t then counts entry.0 else 0)
        (i, contract) (enumerate_from (i + 1) contracts) in
        let own = turned contract.trade t (counts i) in
        let whole : pos (signed_from (contract ∷ contracts) counts i t)
        ≡ (if t == contract.trade then pos (counts i) else pos 0) +ℤ pos (signed_from contracts counts (i + 1) t) =
        omega (arith, ints, sum, own) in
        ap (λ (z : ℤ). r t *ℤ z) whole
        ∙ times-plus (r t) (if t == contract.trade then pos (counts i) else pos 0)
        (pos (signed_from contracts counts (i + 1) t))

-- a sum over all parts is one over all trades, of the units of their parts
pub joined_sum : (r : ℕ → ℤ) (counts : ℕ → ℕ) (n : ℕ) (contracts : List UnitContract) → AreKnown n contracts
    → total (λ k. r (get_or (origins n contracts) k 0) *ℤ pos (counts k)) (length contracts + n)
    ≡ total (λ t. r t *ℤ pos (joined contracts counts t)) n
joined_sum r counts n contracts known =
    let split = total-split (λ k. r (get_or (origins n contracts) k 0) *ℤ pos (counts k)) (length contracts) n in
    let first = total-same (λ k. r (get_or (origins n contracts) k 0) *ℤ pos (counts k))
    (λ k. r (contract_at contracts k).trade *ℤ pos (counts (0 + k))) (length contracts)
    (λ k below. ap (λ (t : ℕ). r t *ℤ pos (counts k)) (origin_signed n contracts k below)
    ∙ ap (λ (j : ℕ). r (contract_at contracts k).trade *ℤ pos (counts j)) (from_zero k)) in
    let second = total-same
    (λ t. r (get_or (origins n contracts) (length contracts + t) 0) *ℤ pos (counts (length contracts + t)))
    (λ t. r t *ℤ pos (counts (length contracts + t))) n
    (λ t below. ap (λ (k : ℕ). r k *ℤ pos (counts (length contracts + t))) (origin_free n contracts t below)) in
    let signed = signed_sum r counts n contracts 0 known in
    let parts = total-plus (λ t. r t *ℤ pos (counts (length contracts + t)))
    (λ t. r t *ℤ pos (signed_from contracts counts 0 t)) n in
    let same = total-same (λ t. r t *ℤ pos (joined contracts counts t))
    (λ t. r t *ℤ pos (counts (length contracts + t)) +ℤ r t *ℤ pos (signed_from contracts counts 0 t)) n
    (λ t below. ap (λ (z : ℤ). r t *ℤ z) (sums (counts (length contracts + t)) (signed_from contracts counts 0 t))
    ∙ times-plus (r t) (pos (counts (length contracts + t))) (pos (signed_from contracts counts 0 t))) in
    omega (arith, ints, split, first, second, signed, parts, same)
  where
    from_zero : (k : ℕ) → k ≡ 0 + k
    from_zero k = omega arith

    sums : (a b : ℕ) → pos (a + b) ≡ pos a +ℤ pos b
    sums a b = omega (arith, ints)

-- the units that contracts have of a trade
pub signed_is : (contracts : List UnitContract) (counts : ℕ → ℕ) (i t : ℕ)
    → ((k : ℕ) → k < length contracts → counts (i + k) ≡ (contract_at contracts k).units)
    → signed_from contracts counts i t ≡ signed_units contracts t
signed_is [] counts i t are = refl
signed_is (contract ∷ contracts) counts i t are =
    let rest = signed_is contracts counts (i + 1) t (λ k below.
    let place : i + 1 + k ≡ i + suc k = omega arith in
    ap counts place ∙ are (suc k) (omega (arith, below))) in
    let sum = sum_by-cons (λ (entry : ℕ × UnitContract). if entry.1.trade == t then counts entry.0 else 0)
    (i, contract) (enumerate_from (i + 1) contracts) in
    let place : i ≡ i + 0 = omega arith in
    let own : counts i ≡ contract.units = ap counts place ∙ are 0 (omega arith) in
    by (contract.trade == t) refl sum rest own
  where
    by : (b : Bool) → (contract.trade == t) ≡ b
        → signed_from (contract ∷ contracts) counts i t
        ≡ (if contract.trade == t then counts i else 0) + signed_from contracts counts (i + 1) t
        → signed_from contracts counts (i + 1) t ≡ signed_units contracts t → counts i ≡ contract.units
        → signed_from (contract ∷ contracts) counts i t ≡ signed_units (contract ∷ contracts) t
    by true test sum rest own =
        let here = ap (λ (c : Bool). if c then counts i else 0) test in
        let kept = ap (λ (c : Bool). sum_by (λ one. one.units) (if c
        then contract ∷ filter (λ one. one.trade == t) contracts else filter (λ one. one.trade == t) contracts)) test in
        let cons = sum_by-cons (λ (one : UnitContract). one.units) contract (filter (λ one. one.trade == t) contracts) in
        omega (arith, sum, rest, own, here, kept, cons)
    by false test sum rest own =
        let here = ap (λ (c : Bool). if c then counts i else 0) test in
        let kept = ap (λ (c : Bool). sum_by (λ one. one.units) (if c
        then contract ∷ filter (λ one. one.trade == t) contracts else filter (λ one. one.trade == t) contracts)) test in
        omega (arith, sum, rest, here, kept)

-- each part is of a trade of the network
pub origins_known : (n : ℕ) (contracts : List UnitContract) → AreKnown n contracts → (k t : ℕ)
    → slice_get (origins n contracts) k ≡ Some t → t < n
origins_known n contracts known k t at =
    let inside = slice_get_within (origins n contracts) k t at in
    let long = origins_sized n contracts in
    let read = get_or_from_slice_get (origins n contracts) k t 0 at in
    elim (cases_lt k (length contracts)) [
      | inl signed ↦
          let own = origin_signed n contracts k signed in
          let below = known k (contract_at contracts k)
          (slice_get-get_or contracts k (record { trade = 0; units = 0; price = pos 0 }) signed) in
          omega (arith, read, own, below)
      | inr past ↦
          let j : ℕ = k - length contracts in
          let place : length contracts + j ≡ k = omega (arith, past) in
          let here : j < n = omega (arith, past, inside, long) in
          let own = origin_free n contracts j here in
          let same = ap (λ (i : ℕ). get_or (origins n contracts) i 0) place in
          omega (arith, read, own, same, here)
    ]
