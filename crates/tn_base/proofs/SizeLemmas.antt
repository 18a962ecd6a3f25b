-- How many members a set has.
use Rattle.std.proofs.Common.{◌≡◌, ℕ, zero, suc, ◌+◌, ◌-◌, ◌*◌, ◌/◌, ◌%◌, ◌^◌, ◌<◌, ◌≤◌, Bool, true, false, not, ◌==◌, cond, refl, sym, ap, ◌∙◌, subst, arith, inl, inr, if◌then◌else◌, lit<}
use Rattle.std.specs.Int.{bit_at}
use Rattle.std.specs.Int.Count.{ones}
use Rattle.std.proofs.lemmas.Nat.{ones_cat, ones-le, div-add-mod', pow_pos}
use Rattle.std.proofs.lemmas.Nat.Bits.{bit_at_cat_low}
use Rattle.std.proofs.Math.Nat.{mod-lt, div-lt_iff_lt-mul, mod-eq_of_lt, pow-suc}
use Rattle.std.proofs.lemmas.Bool.{cases_eq, cases_lt}
use Rattle.tn_base.specs.Sets.{has, toggle, size_below, size}
use Rattle.tn_base.proofs.SetLemmas.{has_above, digit, has_from_one, has_from_zero, has-toggle_same, has-toggle_other, toggle-toggle, toggle_within}

-- sets with the same members below n have as many there
pub size_below-same : (x y n : ℕ) → ((k : ℕ) → k < n → has x k ≡ has y k) → size_below n x ≡ size_below n y
unfolding size_below
size_below-same x y zero same = refl
size_below-same x y (suc n) same =
    let below : size_below n x ≡ size_below n y = size_below-same x y n (λ k h. same k (omega arith)) in
    let here : has x n ≡ has y n = same n (omega arith) in
    rw (below, here) refl

-- nothing stands above a set of numbers below n
above_all : (x n d : ℕ) → x < 2 ^ n → size_below (n + d) x ≡ size_below n x
unfolding size_below
above_all x n zero below = let e : n + 0 ≡ n = omega arith in rw e refl
above_all x n (suc d) below =
    let there : has x (n + d) ≡ false = has_above x n (n + d) below (omega arith) in
    let step : size_below (suc (n + d)) x ≡ size_below (n + d) x = rw there (omega arith) in
    let e : n + suc d ≡ suc (n + d) = omega arith in
    rw e (step ∙ above_all x n d below)

-- a set of numbers below n may be counted up to n, or to any number above
pub size_below-above : (x n m : ℕ) → x < 2 ^ n → n ≤ m → size_below m x ≡ size_below n x
size_below-above x n m below above =
    let e : n + (m - n) ≡ m = omega (arith, above) in
    subst (λ (k : ℕ). size_below k x ≡ size_below n x) e (above_all x n (m - n) below)

-- a digit as a count
digit_as_count : (x k : ℕ) → bit_at x k ≡ (if has x k then 1 else 0)
digit_as_count x k = elim (digit x k) [
  | inl p ↦ p ∙ sym (ap (λ b. cond b 1 0) (has_from_zero x k p))
  | inr p ↦
      p ∙ sym (ap (λ b. cond b 1 0) (has_from_one x k p))
]

ones_of_digit : (a : ℕ) → a < 2 → ones a ≡ a
unfolding ones
ones_of_digit zero h = refl
ones_of_digit (suc zero) h = refl
ones_of_digit (suc (suc a)) h = absurd (omega (arith, h))

same_digit : (y z k : ℕ) → bit_at y k ≡ bit_at z k → has y k ≡ has z k
unfolding has
same_digit y z k h = ap (λ (d : ℕ). d == 1) h

-- the number of a word's set digits is the number of members
pub ones_is : (n x : ℕ) → x < 2 ^ n → ones x ≡ size_below n x
unfolding size_below ones
ones_is zero x below = let empty : x ≡ 0 = omega (arith, below) in rw empty refl
ones_is (suc n) x below =
    let p : ℕ = 2 ^ n in
    let positive : 0 < 2 ^ n = pow_pos n in
    let e : x / 2 ^ n * 2 ^ n + x % 2 ^ n ≡ x = div-add-mod' x (2 ^ n) in
    let low : x % 2 ^ n < 2 ^ n = mod-lt x positive in
    let high : x / 2 ^ n < 2 =
    (div-lt_iff_lt-mul {k = 2 ^ n} {x = x} {y = 2} positive).1 (omega (arith, below, pow-suc 2 n)) in
    let digit_is : bit_at x n ≡ x / 2 ^ n = mod-eq_of_lt high in
    let lower : size_below n (x % 2 ^ n) ≡ size_below n x =
    size_below-same (x % 2 ^ n) x n (λ k h. same_digit (x % 2 ^ n) x k
    (sym (bit_at_cat_low (x / 2 ^ n) n (x % 2 ^ n) k h) ∙ ap (λ (y : ℕ). bit_at y k) e)) in
    let parts : ones x ≡ ones (x / 2 ^ n) + ones (x % 2 ^ n) = ap ones (sym e) ∙ ones_cat n (x / 2 ^ n) (x % 2 ^ n) low
    in
    let top : ones (x / 2 ^ n) ≡ (if has x n then 1 else 0) =
    ones_of_digit (x / 2 ^ n) high ∙ sym digit_is ∙ digit_as_count x n in
    let rest : ones (x % 2 ^ n) ≡ size_below n x = ones_is n (x % 2 ^ n) low ∙ lower in
    parts ∙ omega (arith, top, rest)

-- a set is below 2 to the power of its own number
pub lt_two_pow : (m : ℕ) → m < 2 ^ m
lt_two_pow zero = lit< tt
lt_two_pow (suc m) = let h = lt_two_pow m in let e = pow-suc 2 m in omega (arith, h, e)

-- the number of members of a set of numbers below n
pub size_at : (n x : ℕ) → x < 2 ^ n → size x ≡ size_below n x
unfolding size
size_at n x below = elim (cases_lt n x) [
  | inl h ↦ size_below-above x n x below (omega (arith, h))
  | inr h ↦ sym (size_below-above x x n (lt_two_pow x) h)
]

pub size_le : (n x : ℕ) → x < 2 ^ n → size x ≤ n
size_le n x below = let e : ones x ≡ size x = ones_is n x below ∙ sym (size_at n x below) in let h = ones-le n x below
    in omega (arith, e, h)

-- what is toggled at n or above doesn't count
pub size_below-toggle_above : (n x i : ℕ) → n ≤ i → size_below n (toggle x i) ≡ size_below n x
size_below-toggle_above n x i above =
    size_below-same (toggle x i) x n (λ k h. has-toggle_other x i k (omega (arith, h, above)))

-- one, if it counts
abbrev one_if : Bool → ℕ
one_if b = if b then 1 else 0

-- one more member after one is moved in
pub size_below-toggle_in : (n x i : ℕ) → i < n → has x i ≡ false → size_below n (toggle x i) ≡ size_below n x + 1
unfolding size_below
size_below-toggle_in zero x i below absent = absurd (omega (arith, below))
size_below-toggle_in (suc n) x i below absent =
    elim (cases_eq i n) [
      | inl e ↦
          let rest : size_below n (toggle x i) ≡ size_below n x = size_below-toggle_above n x i (omega (arith, e)) in
          let new : one_if (has (toggle x i) n) ≡ 1 =
          subst (λ (k : ℕ). one_if (has (toggle x i) k) ≡ 1) e (ap one_if (has-toggle_same x i ∙ ap not absent)) in
          let old : one_if (has x n) ≡ 0 = subst (λ (k : ℕ). one_if (has x k) ≡ 0) e (ap one_if absent) in
          omega (arith, rest, new, old)
      | inr d ↦
          let rest : size_below n (toggle x i) ≡ size_below n x + 1 =
          size_below-toggle_in n x i (omega (arith, below, d)) absent in
          let here : one_if (has (toggle x i) n) ≡ one_if (has x n) =
          ap one_if (has-toggle_other x i n (λ e. d (sym e))) in
          omega (arith, rest, here)
    ]

-- a set and a number have a bound that serves both
within_both : (x i : ℕ) → x < 2 ^ (x + suc i)
within_both x i =
    let h = lt_two_pow (x + suc i) in omega (arith, h)

-- one more member after one is moved in
pub size-toggle_in : (x i : ℕ) → has x i ≡ false → size (toggle x i) ≡ size x + 1
size-toggle_in x i absent =
    let below : x < 2 ^ (x + suc i) = within_both x i in
    let inside : i < x + suc i = omega arith in
    let step = size_below-toggle_in (x + suc i) x i inside absent in
    size_at (x + suc i) (toggle x i) (toggle_within x i (x + suc i) below inside) ∙ step ∙
    ap (λ (m : ℕ). m + 1) (sym (size_at (x + suc i) x below))

-- one member less after one is moved out
pub size-toggle_out : (x i : ℕ) → has x i ≡ true → size x ≡ size (toggle x i) + 1
size-toggle_out x i present = ap size (sym (toggle-toggle x i))
    ∙ size-toggle_in (toggle x i) i (has-toggle_same x i ∙ ap not present)

-- the empty set has no member
pub size-zero : size 0 ≡ 0
unfolding size size_below
size-zero = refl
