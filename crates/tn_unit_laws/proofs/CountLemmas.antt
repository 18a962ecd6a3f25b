-- How many numbers pass a test, and the twins of each trade.
use Rattle.std.proofs.Common.{◌≡◌, ℕ, zero, suc, ◌+◌, ◌-◌, ◌<◌, ◌≤◌, Bool, true, false, ◌==◌, ◌&&◌, nat_lt, if◌then◌else◌, List, [], ◌∷◌, length, ◌⊎◌, inl, inr, refl, sym, ap, ◌∙◌, subst, arith, ℤ, pos, ◌+ℤ◌, ◌*ℤ◌}
use Rattle.std.proofs.lemmas.Bool.{cases_eq, cases_lt, eq-eqb, le-ltb, lt-ltb, ne_eqb}
use Rattle.std.proofs.lemmas.Int.{ints}
use Rattle.std.proofs.Math.IntN.{*ℤ-zero}
use Rattle.tn_base.specs.Sets.{has, sum_over}
use Rattle.tn_base.proofs.SumLemmas.{times-plus}
use Rattle.tn_links.specs.Totals.{total}
use Rattle.tn_links.proofs.TotalLemmas.{total-plus, total-same, total-zero, total_at}
use Rattle.tn_counts.specs.Counts.{trade_at}
use Rattle.tn_counts.specs.declared.trade.UnitTrade.{UnitTrade}
use Rattle.tn_unit_laws.specs.Units.{count_below, trade_of, unit_count}

-- 1 where a test passes
abbrev pub one : Bool → ℕ
one b = if b then 1 else 0

-- the order of what is compared doesn't matter
pub eqb-turned : (a b : ℕ) → (a == b) ≡ (b == a)
eqb-turned a b = elim (cases_eq a b) [
  | inl same ↦ eq-eqb a b same ∙ sym (eq-eqb b a (sym same))
  | inr other ↦ ne_eqb a b other ∙ sym (ne_eqb b a (λ e. other (sym e)))
]

pub count-same : (f g : ℕ → Bool) (n : ℕ) → ((k : ℕ) → k < n → f k ≡ g k) → count_below f n ≡ count_below g n
unfolding count_below
count-same f g zero same = refl
count-same f g (suc n) same =
    let before : count_below f n ≡ count_below g n = count-same f g n (λ k below. same k (omega (arith, below))) in
    let here : one (f n) ≡ one (g n) = ap one (same n (omega arith)) in
    omega (arith, before, here)

pub count-none : (f : ℕ → Bool) (n : ℕ) → ((k : ℕ) → k < n → f k ≡ false) → count_below f n ≡ 0
unfolding count_below
count-none f zero none = refl
count-none f (suc n) none =
    let before : count_below f n ≡ 0 = count-none f n (λ k below. none k (omega (arith, below))) in
    let here : one (f n) ≡ 0 = ap one (none n (omega arith)) in
    omega (arith, before, here)

pub count-all : (f : ℕ → Bool) (n : ℕ) → ((k : ℕ) → k < n → f k ≡ true) → count_below f n ≡ n
unfolding count_below
count-all f zero all = refl
count-all f (suc n) all =
    let before : count_below f n ≡ n = count-all f n (λ k below. all k (omega (arith, below))) in
    let here : one (f n) ≡ 1 = ap one (all n (omega arith)) in
    omega (arith, before, here)

-- of the numbers that pass a test, one is a given number where it passes
pub count-at : (test : ℕ → Bool) (c n : ℕ) → c < n → count_below (λ u. c == u && test u) n ≡ one (test c)
unfolding count_below
count-at test c zero below = absurd (omega (arith, below))
count-at test c (suc n) below = elim (cases_eq c n) [
  | inl last ↦
      let before = count-none (λ u. c == u && test u) n (λ u inside.
      ap (λ (b : Bool). b && test u) (ne_eqb c u (λ e. omega (arith, e, inside, last)))) in
      let here : one (c == n && test n) ≡ one (test c) =
      ap (λ (b : Bool). one (b && test n)) (eq-eqb c n last) ∙ ap (λ (u : ℕ). one (test u)) (sym last) in
      omega (arith, before, here)
  | inr other ↦
      let before = count-at test c n (omega (arith, below, other)) in
      let here : one (c == n && test n) ≡ 0 = ap (λ (b : Bool). one (b && test n)) (ne_eqb c n other) in
      omega (arith, before, here)
]

-- where one test passes, another does
pub count-most : (f g : ℕ → Bool) (n : ℕ) → ((k : ℕ) → k < n → f k ≡ true → g k ≡ true)
    → count_below f n ≤ count_below g n
unfolding count_below
count-most f g zero most = omega arith
count-most f g (suc n) most =
    let before : count_below f n ≤ count_below g n = count-most f g n (λ k below. most k (omega (arith, below))) in
    let here : one (f n) ≤ one (g n) = by (f n) (g n) (most n (omega arith)) in
    omega (arith, before, here)
  where
    by : (x y : Bool) → (x ≡ true → y ≡ true) → one x ≤ one y
    by true y passes = subst (λ (b : Bool). 1 ≤ one b) (sym (passes refl)) (omega arith)
    by false y passes = omega arith

-- the first test passes somewhere where the second does not, or nowhere
pub more_or_none : (f g : ℕ → Bool) (n : ℕ) → ((k : ℕ) × (k < n) × (f k ≡ true) × (g k ≡ false))
    ⊎ ((k : ℕ) → k < n → f k ≡ true → g k ≡ true)
more_or_none f g zero = inr (λ k below. absurd (omega (arith, below)))
more_or_none f g (suc n) = elim (more_or_none f g n) [
  | inl found ↦ inl (found.0, let p = found.1 in omega (arith, p), found.2, found.3)
  | inr none ↦ by none (f n) (g n) refl refl
]
  where
    differ : true ≡ false → ⊥
    differ e = absurd (cc)

    by : ((k : ℕ) → k < n → f k ≡ true → g k ≡ true) → (x y : Bool) → f n ≡ x → g n ≡ y
        → ((k : ℕ) × (k < suc n) × (f k ≡ true) × (g k ≡ false)) ⊎ ((k : ℕ) → k < suc n → f k ≡ true → g k ≡ true)
    by none true false first second = inl (n, omega arith, first, second)
    by none true true first second = inr (λ k below on. elim (cases_eq k n) [
      | inl last ↦ ap g last ∙ second
      | inr other ↦ none k (omega (arith, below, other)) on
    ])
    by none false y first second = inr (λ k below on. elim (cases_eq k n) [
      | inl last ↦ absurd (differ (sym on ∙ ap f last ∙ first))
      | inr other ↦ none k (omega (arith, below, other)) on
    ])

-- where one test passes another does, and somewhere the other alone
pub count-strict : (f g : ℕ → Bool) (n : ℕ) → ((k : ℕ) → k < n → f k ≡ true → g k ≡ true) → (i : ℕ) → i < n → g i ≡ true
    → f i ≡ false → count_below f n < count_below g n
unfolding count_below
count-strict f g zero most i below on off = absurd (omega (arith, below))
count-strict f g (suc n) most i below on off = elim (cases_eq i n) [
  | inl last ↦
      let before = count-most f g n (λ k inside. most k (omega (arith, inside))) in
      let fewer : one (f n) ≡ 0 = ap one (ap f (sym last) ∙ off) in
      let more : one (g n) ≡ 1 = ap one (ap g (sym last) ∙ on) in
      omega (arith, before, fewer, more)
  | inr other ↦
      let before = count-strict f g n (λ k inside. most k (omega (arith, inside))) i (omega (arith, below, other)) on off in
      let here = by (f n) (g n) (most n (omega arith)) in
      omega (arith, before, here)
]
  where
    by : (x y : Bool) → (x ≡ true → y ≡ true) → one x ≤ one y
    by true y passes = subst (λ (b : Bool). 1 ≤ one b) (sym (passes refl)) (omega arith)
    by false y passes = omega arith

-- so many numbers, and then the others
pub count-split : (f : ℕ → Bool) (m n : ℕ) → count_below f (m + n) ≡ count_below f m + count_below (λ k. f (m + k)) n
unfolding count_below
count-split f m zero = let none : m + 0 ≡ m = omega arith in ap (count_below f) none ∙ omega arith
count-split f m (suc n) =
    let before = count-split f m n in
    let next : m + suc n ≡ suc (m + n) = omega arith in
    let same : count_below f (m + suc n) ≡ count_below f (m + n) + one (f (m + n)) = ap (count_below f) next in
    omega (arith, same, before)

-- where two tests share the numbers that a third passes
pub count-plus : (f g h : ℕ → Bool) (n : ℕ) → ((k : ℕ) → k < n → one (f k) + one (g k) ≡ one (h k))
    → count_below f n + count_below g n ≡ count_below h n
unfolding count_below
count-plus f g h zero each = refl
count-plus f g h (suc n) each =
    let before = count-plus f g h n (λ k below. each k (omega (arith, below))) in
    let here = each n (omega arith) in
    omega (arith, before, here)

-- a sum over members of what depends on their kind alone is one over kinds, times how many there are of each
pub sum_by_kinds : (kind : ℕ → ℕ) (kinds : ℕ) (each : ℕ → ℤ) (x n : ℕ)
    → ((k : ℕ) → k < n → has x k ≡ true → kind k < kinds)
    → sum_over (λ k. each (kind k)) n x
    ≡ total (λ s. each s *ℤ pos (count_below (λ k. has x k && s == kind k) n)) kinds
unfolding sum_over count_below
sum_by_kinds kind kinds each x zero within = sym (total-zero (λ s. each s *ℤ pos 0) kinds (λ s below. *ℤ-zero (each s)))
sum_by_kinds kind kinds each x (suc n) within =
    ap (λ (z : ℤ). z +ℤ (if has x n then each (kind n) else pos 0))
    (sum_by_kinds kind kinds each x n (λ k below. within k (omega (arith, below))))
    ∙ sym (total-same (λ s. each s *ℤ pos (many s + one (has x n && s == kind n)))
    (λ s. each s *ℤ pos (many s) +ℤ each s *ℤ pos (one (has x n && s == kind n))) kinds
    (λ s below. spread s (many s) (one (has x n && s == kind n)))
    ∙ total-plus (λ s. each s *ℤ pos (many s)) (λ s. each s *ℤ pos (one (has x n && s == kind n))) kinds
    ∙ ap (λ (z : ℤ). total (λ s. each s *ℤ pos (many s)) kinds +ℤ z) (by (has x n) (within n (omega arith))))
  where
    many : ℕ → ℕ
    many s = count_below (λ k. has x k && s == kind k) n

    spread : (s a b : ℕ) → each s *ℤ pos (a + b) ≡ each s *ℤ pos a +ℤ each s *ℤ pos b
    spread s a b = ap (λ (z : ℤ). each s *ℤ z) (let sum : pos (a + b) ≡ pos a +ℤ pos b = omega (arith, ints) in sum)
        ∙ times-plus (each s) (pos a) (pos b)

    if_pos : (b : Bool) → pos (one b) ≡ (if b then pos 1 else pos 0)
    if_pos true = refl
    if_pos false = refl

    by : (b : Bool) → (b ≡ true → kind n < kinds)
        → total (λ s. each s *ℤ pos (one (b && s == kind n))) kinds ≡ (if b then each (kind n) else pos 0)
    by true inside =
        total-same (λ s. each s *ℤ pos (one (s == kind n))) (λ s. each s *ℤ (if s == kind n then pos 1 else pos 0)) kinds
        (λ s below. ap (λ (z : ℤ). each s *ℤ z) (if_pos (s == kind n)))
        ∙ total_at each (pos 1) (kind n) kinds (inside refl)
        ∙ (let single : each (kind n) *ℤ pos 1 ≡ each (kind n) = omega (arith, ints) in single)
    by false inside = total-zero (λ s. each s *ℤ pos 0) kinds (λ s below. *ℤ-zero (each s))

-- ---- the first numbers of each kind

-- whichever is less
abbrev pub IsLess : ℕ → ℕ → ℕ → Type 0
IsLess a b least = ((a ≤ b) × (least ≡ a)) ⊎ ((b ≤ a) × (least ≡ b))

-- of the numbers of a kind below n the first so many, or all if there are fewer
pub count-first : (kind : ℕ → ℕ) (most : ℕ → ℕ) (t n : ℕ)
    → IsLess (count_below (λ u. t == kind u) n) (most t)
    (count_below (λ u. nat_lt (count_below (λ v. kind u == kind v) u) (most (kind u)) && t == kind u) n)
unfolding count_below
count-first kind most t zero = inl (omega arith, refl)
count-first kind most t (suc n) = elim (cases_eq t (kind n)) [
  | inl same ↦
      let seen : one (t == kind n) ≡ 1 = ap one (eq-eqb t (kind n) same) in
      let rank : count_below (λ v. kind n == kind v) n ≡ count_below (λ v. t == kind v) n =
      ap (λ (s : ℕ). count_below (λ v. s == kind v) n) (sym same) in
      elim (cases_lt (count_below (λ v. t == kind v) n) (most t)) [
        | inl less ↦
            let there : nat_lt (count_below (λ v. kind n == kind v) n) (most (kind n)) ≡ true =
            lt-ltb (count_below (λ v. kind n == kind v) n) (most (kind n))
            (let limit = ap most same in omega (arith, rank, less, limit)) in
            let taken : one (nat_lt (count_below (λ v. kind n == kind v) n) (most (kind n)) && t == kind n) ≡ 1 =
            ap (λ (b : Bool). one (b && t == kind n)) there ∙ seen in
            elim (count-first kind most t n) [
              | inl all ↦ let few = all.0 in let is = all.1 in
                  inl (omega (arith, less, seen), omega (arith, is, taken, seen))
              | inr full ↦ let many = full.0 in absurd (omega (arith, many, less))
            ]
        | inr many ↦
            let there : nat_lt (count_below (λ v. kind n == kind v) n) (most (kind n)) ≡ false =
            le-ltb (count_below (λ v. kind n == kind v) n) (most (kind n))
            (let limit = ap most same in omega (arith, rank, many, limit)) in
            let taken : one (nat_lt (count_below (λ v. kind n == kind v) n) (most (kind n)) && t == kind n) ≡ 0 =
            ap (λ (b : Bool). one (b && t == kind n)) there in
            elim (count-first kind most t n) [
              | inl all ↦ let few = all.0 in let is = all.1 in
                  inr (omega (arith, many, seen), omega (arith, is, taken, few, many))
              | inr full ↦ let is = full.1 in inr (omega (arith, many, seen), omega (arith, is, taken))
            ]
      ]
  | inr other ↦
      let seen : one (t == kind n) ≡ 0 = ap one (ne_eqb t (kind n) other) in
      let taken : one (nat_lt (count_below (λ v. kind n == kind v) n) (most (kind n)) && t == kind n) ≡ 0 =
      none (nat_lt (count_below (λ v. kind n == kind v) n) (most (kind n))) (t == kind n) (ne_eqb t (kind n) other) in
      elim (count-first kind most t n) [
        | inl all ↦ let few = all.0 in let is = all.1 in
            inl (omega (arith, few, seen), omega (arith, is, taken, seen))
        | inr full ↦ let many = full.0 in let is = full.1 in
            inr (omega (arith, many, seen), omega (arith, is, taken))
      ]
]
  where
    none : (x y : Bool) → y ≡ false → one (x && y) ≡ 0
    none true y e = ap one e
    none false y e = refl

-- ---- the twins of a trade

trade_of-first : (trade : UnitTrade) (trades : List UnitTrade) (u : ℕ) → u < trade.units
    → trade_of (trade ∷ trades) u ≡ 0
unfolding trade_of
trade_of-first trade trades u below =
    ap (λ (b : Bool). if b then 0 else suc (trade_of trades (u - trade.units))) (lt-ltb u trade.units below)

trade_of-rest : (trade : UnitTrade) (trades : List UnitTrade) (u : ℕ)
    → trade_of (trade ∷ trades) (trade.units + u) ≡ suc (trade_of trades u)
unfolding trade_of
trade_of-rest trade trades u =
    let back : trade.units + u - trade.units ≡ u = omega arith in
    ap (λ (b : Bool). if b then 0 else suc (trade_of trades (trade.units + u - trade.units)))
    (le-ltb (trade.units + u) trade.units (omega arith)) ∙ ap (λ (k : ℕ). suc (trade_of trades k)) back

-- each unit trade is a twin of a trade
pub trade_of-within : (trades : List UnitTrade) (u : ℕ) → u < unit_count trades → trade_of trades u < length trades
unfolding unit_count
trade_of-within [] u below = absurd (omega (arith, below))
trade_of-within (trade ∷ trades) u below = elim (cases_lt u trade.units) [
  | inl first ↦ let here = trade_of-first trade trades u first in omega (arith, here)
  | inr later ↦
      let rest = trade_of-within trades (u - trade.units) (omega (arith, below, later)) in
      let place : trade.units + (u - trade.units) ≡ u = omega (arith, later) in
      let here : trade_of (trade ∷ trades) u ≡ suc (trade_of trades (u - trade.units)) =
      ap (trade_of (trade ∷ trades)) (sym place) ∙ trade_of-rest trade trades (u - trade.units) in
      omega (arith, rest, here)
]

-- a trade has as many twins as it has units
pub count-twins : (trades : List UnitTrade) (t : ℕ)
    → count_below (λ u. t == trade_of trades u) (unit_count trades) ≡ (trade_at trades t).units
unfolding count_below unit_count
count-twins [] t = refl
count-twins (trade ∷ trades) zero =
    let parts = count-split (λ u. 0 == trade_of (trade ∷ trades) u) trade.units (unit_count trades) in
    let first = count-all (λ u. 0 == trade_of (trade ∷ trades) u) trade.units
    (λ u below. eq-eqb 0 (trade_of (trade ∷ trades) u) (sym (trade_of-first trade trades u below))) in
    let rest = count-none (λ u. 0 == trade_of (trade ∷ trades) (trade.units + u)) (unit_count trades)
    (λ u below. ne_eqb 0 (trade_of (trade ∷ trades) (trade.units + u))
    (λ e. let next = trade_of-rest trade trades u in omega (arith, next, e))) in
    omega (arith, parts, first, rest)
count-twins (trade ∷ trades) (suc t) =
    let parts = count-split (λ u. suc t == trade_of (trade ∷ trades) u) trade.units (unit_count trades) in
    let first = count-none (λ u. suc t == trade_of (trade ∷ trades) u) trade.units
    (λ u below. ne_eqb (suc t) (trade_of (trade ∷ trades) u)
    (λ e. let here = trade_of-first trade trades u below in omega (arith, here, e))) in
    let rest = count-same (λ u. suc t == trade_of (trade ∷ trades) (trade.units + u)) (λ u. t == trade_of trades u)
    (unit_count trades) (λ u below. later u) in
    let twins = count-twins trades t in
    omega (arith, parts, first, rest, twins)
  where
    later : (u : ℕ) → (suc t == trade_of (trade ∷ trades) (trade.units + u)) ≡ (t == trade_of trades u)
    later u = let next = trade_of-rest trade trades u in elim (cases_eq t (trade_of trades u)) [
      | inl same ↦ eq-eqb (suc t) (trade_of (trade ∷ trades) (trade.units + u)) (omega (arith, next, same))
          ∙ sym (eq-eqb t (trade_of trades u) same)
      | inr other ↦ ne_eqb (suc t) (trade_of (trade ∷ trades) (trade.units + u))
          (λ e. other (omega (arith, next, e))) ∙ sym (ne_eqb t (trade_of trades u) other)
    ]
