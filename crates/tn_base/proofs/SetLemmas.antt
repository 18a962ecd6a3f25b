-- What every proof about sets stands on. Only this file looks at binary digits.
use Rattle.std.proofs.Common.{◌≡◌, ◌≢◌, ℕ, zero, suc, ◌+◌, ◌-◌, ◌*◌, ◌/◌, ◌%◌, ◌^◌, ◌<◌, ◌≤◌, min, Bool, true, false, not, ◌&&◌, ◌||◌, nat_lt, ◌==◌, refl, sym, ap, ◌∙◌, subst, arith, ◌⊎◌, inl, inr, if◌then◌else◌, lit<}
use Rattle.std.specs.Prelude.{bit_xor, ◌↔◌}
use Rattle.std.proofs.Math.Nat.{pow-suc}
use Rattle.std.specs.Int.{bit_at}
use Rattle.std.proofs.lemmas.Nat.Bits.{bit_at-zero, bit_at_and, bit_at_or, bit_at_xor, bit_at-pow_same, bit_at-pow_other, bit_at-lt, same_from_bits, bit_at_above, bit_at_lowest, bit_at-suc, bit_at_cat_low, bit_at_cat_high}
use Rattle.std.proofs.lemmas.Nat.{or_lt, xor_lt, and_le_l, pow_below}
use Rattle.std.proofs.lemmas.Bool.{cases_eq, cases_lt, lt-ltb, ltb-true, le-ltb, and_parts, false≢true, true≢false}
use Rattle.tn_base.specs.Sets.{has, toggle, union, meet, minus, set_of}

-- a binary digit is 0 or 1
pub digit : (x k : ℕ) → (bit_at x k ≡ 0) ⊎ (bit_at x k ≡ 1)
digit x k = let h = bit_at-lt x k in elim (cases_eq (bit_at x k) 0) [
  | inl e ↦ inl e
  | inr e ↦
      inr (omega (arith, h, e))
]

pub has_from_one : (x k : ℕ) → bit_at x k ≡ 1 → has x k ≡ true
unfolding has
has_from_one x k e = ap (λ (d : ℕ). d == 1) e

pub has_from_zero : (x k : ℕ) → bit_at x k ≡ 0 → has x k ≡ false
unfolding has
has_from_zero x k e = ap (λ (d : ℕ). d == 1) e

-- the same members, digit by digit
digit_from_has : (x y k : ℕ) → has x k ≡ has y k → bit_at x k ≡ bit_at y k
digit_from_has x y k e =
    elim (digit x k) [
      | inl p ↦ elim (digit y k) [
        | inl q ↦ p ∙ sym q
        | inr q ↦
            elim (false≢true (sym (has_from_zero x k p) ∙ e ∙ has_from_one y k q)) [ ]
      ]
      | inr p ↦ elim (digit y k) [
        | inl q ↦
            elim (false≢true (sym (has_from_zero y k q) ∙ sym e ∙ has_from_one x k p)) [ ]
        | inr q ↦ p ∙ sym q
      ]
    ]

-- sets with the same members are equal
pub same_set : (x y : ℕ) → ((k : ℕ) → has x k ≡ has y k) → x ≡ y
same_set x y h = same_from_bits x y (λ k. digit_from_has x y k (h k))

pub has-zero : (k : ℕ) → has 0 k ≡ false
has-zero k = has_from_zero 0 k (bit_at-zero k)

pub has-union : (x y k : ℕ) → has (union x y) k ≡ (has x k || has y k)
unfolding has union
has-union x y k =
    ap (λ (d : ℕ). d == 1) (bit_at_or x y k) ∙
    elim (digit x k) [
      | inl p ↦ elim (digit y k) [ inl q ↦ rw (p, q) refl | inr q ↦ rw (p, q) refl ]
      | inr p ↦ elim (digit y k) [ inl q ↦ rw (p, q) refl | inr q ↦ rw (p, q) refl ]
    ]

pub has-meet : (x y k : ℕ) → has (meet x y) k ≡ (has x k && has y k)
unfolding has meet
has-meet x y k =
    ap (λ (d : ℕ). d == 1) (bit_at_and x y k) ∙
    elim (digit x k) [
      | inl p ↦ elim (digit y k) [ inl q ↦ rw (p, q) refl | inr q ↦ rw (p, q) refl ]
      | inr p ↦ elim (digit y k) [ inl q ↦ rw (p, q) refl | inr q ↦ rw (p, q) refl ]
    ]

pub has-minus : (x y k : ℕ) → has (minus x y) k ≡ (has x k && not (has y k))
unfolding has minus
has-minus x y k =
    ap (λ (d : ℕ). d == 1) (bit_at_and x (bit_xor x y) k ∙ ap (min (bit_at x k)) (bit_at_xor x y k)) ∙
    elim (digit x k) [
      | inl p ↦ elim (digit y k) [ inl q ↦ rw (p, q) refl | inr q ↦ rw (p, q) refl ]
      | inr p ↦ elim (digit y k) [ inl q ↦ rw (p, q) refl | inr q ↦ rw (p, q) refl ]
    ]

pub has-toggle_same : (x k : ℕ) → has (toggle x k) k ≡ not (has x k)
unfolding has toggle
has-toggle_same x k =
    ap (λ (d : ℕ). d == 1) (bit_at_xor x (2 ^ k) k ∙ ap (λ (d : ℕ). (bit_at x k + d) % 2) (bit_at-pow_same k)) ∙
    elim (digit x k) [ inl p ↦ rw p refl | inr p ↦ rw p refl ]

pub has-toggle_other : (x k i : ℕ) → i ≢ k → has (toggle x k) i ≡ has x i
unfolding has toggle
has-toggle_other x k i different =
    ap (λ (d : ℕ). d == 1) (bit_at_xor x (2 ^ k) i ∙ ap (λ (d : ℕ). (bit_at x i + d) % 2)
    (bit_at-pow_other k i different)) ∙
    elim (digit x i) [ inl p ↦ rw p refl | inr p ↦ rw p refl ]

-- a set of numbers below n has nothing from n on
pub has_above : (x n k : ℕ) → x < 2 ^ n → n ≤ k → has x k ≡ false
has_above x n k below above = has_from_zero x k (bit_at_above x n k below above)

-- a member of a set of numbers below n is below n
pub has_below : (x n k : ℕ) → x < 2 ^ n → has x k ≡ true → k < n
has_below x n k below e =
    elim (cases_lt k n) [ inl h ↦ h | inr h ↦ elim (false≢true (sym (has_above x n k below h) ∙ e)) [ ] ]

-- sets of numbers below n with the same members below n are equal
pub same_below : (x y n : ℕ) → x < 2 ^ n → y < 2 ^ n → ((k : ℕ) → k < n → has x k ≡ has y k) → x ≡ y
same_below x y n x_below y_below same =
    same_set x y (λ k. elim (cases_lt k n) [
      | inl h ↦ same k h
      | inr h ↦
          has_above x n k x_below h ∙ sym (has_above y n k y_below h)
    ])

pub union_within : (x y n : ℕ) → x < 2 ^ n → y < 2 ^ n → union x y < 2 ^ n
unfolding union
union_within x y n p q = or_lt n x y p q

pub meet_within : (x y n : ℕ) → x < 2 ^ n → meet x y < 2 ^ n
unfolding meet
meet_within x y n p = let h = and_le_l x y in omega (arith, p, h)

pub minus_within : (x y n : ℕ) → x < 2 ^ n → minus x y < 2 ^ n
unfolding minus
minus_within x y n p = let h = and_le_l x (bit_xor x y) in omega (arith, p, h)

pub toggle_within : (x k n : ℕ) → x < 2 ^ n → k < n → toggle x k < 2 ^ n
unfolding toggle
toggle_within x k n below k_below = xor_lt n x (2 ^ k) below (pow_below k n k_below)

pub toggle-toggle : (x k : ℕ) → toggle (toggle x k) k ≡ x
toggle-toggle x k = same_set _ _ (λ i.
    elim (cases_eq i k) [
      | inl e ↦ subst (λ (j : ℕ). has (toggle (toggle x k) k) j ≡ has x j) (sym e) (has-toggle_same (toggle x k) k
          ∙ ap not (has-toggle_same x k) ∙ not_not (has x k))
      | inr d ↦ has-toggle_other (toggle x k) k i d ∙ has-toggle_other x k i d
    ])
  where
    not_not : (b : Bool) → not (not b) ≡ b
    not_not true = refl
    not_not false = refl

-- the order of toggles doesn't matter
pub toggle_comm : (x i j : ℕ) → toggle (toggle x i) j ≡ toggle (toggle x j) i
toggle_comm x i j = elim (cases_eq i j) [
  | inl e ↦ subst (λ (k : ℕ). toggle (toggle x i) k ≡ toggle (toggle x k) i) e refl
  | inr d ↦ same_set _ _ (λ k. at_place x i j k d)
]
  where
    at_place : (x i j k : ℕ) → i ≢ j → has (toggle (toggle x i) j) k ≡ has (toggle (toggle x j) i) k
    at_place x i j k d = elim (cases_eq k i) [
      | inl e ↦ rw e (has-toggle_other (toggle x i) j i d ∙ has-toggle_same x i
          ∙ ap not (sym (has-toggle_other x j i d)) ∙ sym (has-toggle_same (toggle x j) i))
      | inr p ↦ elim (cases_eq k j) [
        | inl e ↦ rw e (has-toggle_same (toggle x i) j ∙ ap not (has-toggle_other x i j (λ q. d (sym q)))
            ∙ sym (has-toggle_same x j) ∙ sym (has-toggle_other (toggle x j) i j (λ q. d (sym q))))
        | inr q ↦ has-toggle_other (toggle x i) j k q ∙ has-toggle_other x i k p ∙ sym (has-toggle_other x j k q)
            ∙ sym (has-toggle_other (toggle x j) i k p)
      ]
    ]

-- adding a number far away doesn't change whether k is below the end
lt_next : (k n : ℕ) → k ≢ n → nat_lt k (suc n) ≡ nat_lt k n
lt_next k n different = elim (cases_lt k n) [
  | inl h ↦ lt-ltb k (suc n) (omega (arith, h)) ∙ sym (lt-ltb k n h)
  | inr h ↦ le-ltb k (suc n) (omega (arith, h, different)) ∙ sym (le-ltb k n h)
]

-- a set of numbers below n is below 2 ^ n
pub set_of_within : (test : ℕ → Bool) (n : ℕ) → set_of test n < 2 ^ n
unfolding set_of
set_of_within test zero = lit< tt
set_of_within test (suc n) =
    let rest = set_of_within test n in
    let step = pow-suc 2 n in
    let more : set_of test n < 2 ^ suc n = omega (arith, rest, step) in
    elim (test n) as (λ b. (if b then toggle (set_of test n) n else set_of test n) < 2 ^ suc n) [
      | true ↦ toggle_within (set_of test n) n (suc n) more (omega arith)
      | false ↦ more
    ]

-- the members are the numbers below n that pass the test
pub has-set_of : (test : ℕ → Bool) (n k : ℕ) → has (set_of test n) k ≡ (nat_lt k n && test k)
unfolding set_of
has-set_of test zero k = has-zero k ∙ sym (ap (λ b. b && test k) (le-ltb k 0 (omega arith)))
has-set_of test (suc n) k =
    let absent : has (set_of test n) n ≡ false = has_above (set_of test n) n n (set_of_within test n) (omega arith) in
    let last : has (set_of test (suc n)) n ≡ test n =
    elim (test n) as (λ b. has (if b then toggle (set_of test n) n else set_of test n) n ≡ b) [
      | true ↦ has-toggle_same (set_of test n) n ∙ ap not absent
      | false ↦ absent
    ] in
    elim (cases_eq k n) [
      | inl e ↦ subst (λ (j : ℕ). has (set_of test (suc n)) j ≡ (nat_lt j (suc n) && test j)) (sym e)
          (last ∙ sym (ap (λ b. b && test n) (lt-ltb n (suc n) (omega arith))))
      | inr d ↦
          let kept : has (set_of test (suc n)) k ≡ has (set_of test n) k =
          elim (test n) as (λ b. has (if b then toggle (set_of test n) n else set_of test n) k
          ≡ has (set_of test n) k) [
            | true ↦ has-toggle_other (set_of test n) n k d
            | false ↦ refl
          ] in
          kept ∙ has-set_of test n k ∙ ap (λ b. b && test k) (sym (lt_next k n d))
    ]

-- the same as a fact
pub member_of_set : (test : ℕ → Bool) (n k : ℕ) → (has (set_of test n) k ≡ true) ↔ ((k < n) × (test k ≡ true))
member_of_set test n k = (
  (λ there.
      let parts = and_parts (nat_lt k n) (test k) (sym (has-set_of test n k) ∙ there) in
      (ltb-true k n parts.0, parts.1)),
  (λ passes. has-set_of test n k ∙ ap (λ b. b && test k) (lt-ltb k n passes.0) ∙ passes.1),
)

-- a set with no member from n on is below 2 ^ n
pub within_from : (x n : ℕ) → ((k : ℕ) → n ≤ k → has x k ≡ false) → x < 2 ^ n
within_from x n none =
    let same : x ≡ set_of (has x) n = same_set x (set_of (has x) n) (λ k. at_place k ∙ sym (has-set_of (has x) n k)) in
    let h = set_of_within (has x) n in
    omega (arith, same, h)
  where
    at_place : (k : ℕ) → has x k ≡ (nat_lt k n && has x k)
    at_place k = elim (cases_lt k n) [
      | inl h ↦ sym (ap (λ b. b && has x k) (lt-ltb k n h))
      | inr h ↦ none k h ∙ sym (ap (λ b. b && has x k) (le-ltb k n h))
    ]

-- where all of x is allowed, nothing is left without what is allowed
pub minus-zero_from : (x allowed : ℕ) → ((k : ℕ) → has x k ≡ true → has allowed k ≡ true) → minus x allowed ≡ 0
minus-zero_from x allowed inside =
    same_set _ _ (λ k. has-minus x allowed k ∙ gone (has x k) (has allowed k) (inside k) ∙ sym (has-zero k))
  where
    gone : (a b : Bool) → (a ≡ true → b ≡ true) → (a && not b) ≡ false
    gone true b h = ap not (h refl)
    gone false b h = refl

-- where nothing is left without what is allowed, all of x is allowed
pub has_from_minus-zero : (x allowed k : ℕ) → minus x allowed ≡ 0 → has x k ≡ true → has allowed k ≡ true
has_from_minus-zero x allowed k e h =
    kept (has x k) (has allowed k) (sym (has-minus x allowed k) ∙ ap (λ (y : ℕ). has y k) e ∙ has-zero k) h
  where
    kept : (a b : Bool) → (a && not b) ≡ false → a ≡ true → b ≡ true
    kept true true p q = refl
    kept true false p q = elim (true≢false p) [ ]
    kept false b p q = elim (false≢true q) [ ]

-- the lowest digit of an even number
pub has-double_lowest : (x : ℕ) → has (2 * x) 0 ≡ false
has-double_lowest x = has_from_zero (2 * x) 0 (bit_at_lowest (2 * x) ∙ omega arith)

-- the lowest digit of an odd number
pub has-double_one_lowest : (x : ℕ) → has (1 + 2 * x) 0 ≡ true
has-double_one_lowest x = has_from_one (1 + 2 * x) 0 (bit_at_lowest (1 + 2 * x) ∙ omega arith)

-- the higher digits of an even number
pub has-double : (x k : ℕ) → has (2 * x) (suc k) ≡ has x k
unfolding has
has-double x k = let half : 2 * x / 2 ≡ x = omega arith in
    ap (λ (d : ℕ). d == 1) (bit_at-suc (2 * x) k ∙ ap (λ (y : ℕ). bit_at y k) half)

-- the higher digits of an odd number
pub has-double_one : (x k : ℕ) → has (1 + 2 * x) (suc k) ≡ has x k
unfolding has
has-double_one x k =
    let half : (1 + 2 * x) / 2 ≡ x = omega arith in
    ap (λ (d : ℕ). d == 1) (bit_at-suc (1 + 2 * x) k ∙ ap (λ (y : ℕ). bit_at y k) half)

-- the lowest n digits of two numbers one after the other
pub has-low : (high n low k : ℕ) → k < n → has (high * 2 ^ n + low) k ≡ has low k
unfolding has
has-low high n low k below = ap (λ (d : ℕ). d == 1) (bit_at_cat_low high n low k below)

-- the digits above them
pub has-high : (high n low k : ℕ) → low < 2 ^ n → has (high * 2 ^ n + low) (n + k) ≡ has high k
unfolding has
has-high high n low k below =
    let e : n + k - n ≡ k = omega arith in
    ap (λ (d : ℕ). d == 1) (bit_at_cat_high high n low (n + k) below (omega arith) ∙ ap (λ (i : ℕ). bit_at high i) e)
