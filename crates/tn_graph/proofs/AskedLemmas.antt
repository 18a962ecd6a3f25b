-- How many positions of a firm are asked for, and how many worths that takes.
use Rattle.std.proofs.Common.{◌≡◌, ℕ, zero, suc, ◌+◌, ◌*◌, ◌^◌, ◌<◌, ◌≤◌, Bool, true, false, ◌&&◌, ◌⊎◌, inl, inr, refl, sym, ap, ◌∙◌, subst, arith, if◌then◌else◌}
use Rattle.std.proofs.lemmas.Bool.{cases_Bool, cases_eq, cases_lt, lt-ltb, le-ltb}
use Rattle.std.proofs.lemmas.Nat.{mul-le}
use Rattle.tn_base.specs.Sets.{has, set_of, size, size_below}
use Rattle.tn_base.proofs.SetLemmas.{has-zero, has-set_of, set_of_within}
use Rattle.tn_base.proofs.SizeLemmas.{size_at, size_le, size_below-same, size-zero}
use Rattle.tn_graph.specs.Reading.{is_asked, block_worths}

-- ---- sizes

-- a set has no more members than one that has all of them
size_below-mono : (x y n : ℕ) → ((k : ℕ) → k < n → has x k ≡ true → has y k ≡ true) → size_below n x ≤ size_below n y
unfolding size_below
size_below-mono x y zero inside = omega arith
size_below-mono x y (suc n) inside =
    let rest = size_below-mono x y n (λ k h. inside k (omega (arith, h))) in
    let here = at (has x n) (has y n) (inside n (omega arith)) in
    omega (arith, rest, here)
  where
    at : (a b : Bool) → (a ≡ true → b ≡ true) → ◌≤◌ (if a then 1 else 0) (if b then 1 else 0)
    at true true h = omega arith
    at true false h = absurd (cc (h refl))
    at false b h = omega arith

pub size-mono : (x y n : ℕ) → x < 2 ^ n → y < 2 ^ n → ((k : ℕ) → has x k ≡ true → has y k ≡ true) → size x ≤ size y
size-mono x y n x_in y_in inside =
    let below = size_below-mono x y n (λ k h. inside k) in
    let x_is = size_at n x x_in in
    let y_is = size_at n y y_in in
    omega (arith, below, x_is, y_is)

-- the members below the next number
pub size_below-next : (n x k : ℕ) → n ≡ k + 1 → size_below n x ≡ size_below k x + (if has x k then 1 else 0)
unfolding size_below
size_below-next n x k is = subst (λ (m : ℕ). size_below m x ≡ size_below k x + (if has x k then 1 else 0))
    (let e : suc k ≡ n = omega (arith, is) in e) refl

pub size_below-none : (x : ℕ) → size_below 0 x ≡ 0
unfolding size_below
size_below-none x = refl

-- a set has a member, or none
pub member_or_none : (x n : ℕ) → x < 2 ^ n → ((k : ℕ) × (k < n) × (has x k ≡ true)) ⊎ (size x ≡ 0)
member_or_none x n within = elim (search n) [
  | inl found ↦ inl found
  | inr none ↦ inr (size_at n x within ∙ size_below-same x 0 n (λ k h. none k h ∙ sym (has-zero k)) ∙ empty n)
]
  where
    search : (m : ℕ) → ((k : ℕ) × (k < m) × (has x k ≡ true)) ⊎ ((k : ℕ) → k < m → has x k ≡ false)
    search zero = inr (λ k h. absurd (omega (arith, h)))
    search (suc m) = elim (cases_Bool (has x m)) [
      | inl there ↦ inl (m, omega arith, there)
      | inr absent ↦ elim (search m) [
        | inl found ↦ inl (found.0, (let below = found.1 in omega (arith, below)), found.2)
        | inr none ↦ inr (λ k h. elim (cases_eq k m) [
          | inl e ↦ ap (has x) e ∙ absent
          | inr d ↦ none k (omega (arith, h, d))
        ])
      ]
    ]

    empty : (m : ℕ) → size_below m 0 ≡ 0
    empty m =
        let positive : 0 < 2 ^ m = (let below = set_of_within (λ k. false) m in omega (arith, below)) in
        sym (size_at m 0 positive) ∙ size-zero

-- ---- rows

-- the worths of the rows before position k: for each position that is asked for as many as there are such positions,
-- and none where one of them can be lowered
pub record AreSpared (asked others before k steps : ℕ) : Type 0 where
  pub most : steps ≤ before + size_below k asked * size asked
  pub spared : (j : ℕ) → j < k → has others j ≡ true → steps + size asked ≤ before + size_below k asked * size asked

pub spared_none : (asked others before : ℕ) → AreSpared asked others before 0 before
spared_none asked others before = record {
  most = omega arith;
  spared = λ j h. absurd (omega (arith, h));
}

next_row : (asked k : ℕ) → has asked k ≡ true
    → size_below (k + 1) asked * size asked ≡ size_below k asked * size asked + size asked
next_row asked k there =
    let next : size_below (k + 1) asked ≡ size_below k asked + 1 =
    size_below-next (k + 1) asked k refl ∙ ap (λ (b : Bool). size_below k asked + (if b then 1 else 0)) there in
    ap (λ (m : ℕ). m * size asked) next ∙ (let e : (size_below k asked + 1) * size asked
    ≡ size_below k asked * size asked + size asked = grind arith in e)

no_row : (asked k : ℕ) → has asked k ≡ false → size_below (k + 1) asked ≡ size_below k asked
no_row asked k absent = size_below-next (k + 1) asked k refl
    ∙ ap (λ (b : Bool). size_below k asked + (if b then 1 else 0)) absent ∙ (let e : size_below k asked + 0
    ≡ size_below k asked = omega arith in e)

-- a row is read, of a position that is asked for and none of the others
pub spared_read : (asked others before k steps more : ℕ) → AreSpared asked others before k steps
    → has asked k ≡ true → has others k ≡ false → more ≤ steps + size asked
    → AreSpared asked others before (k + 1) more
spared_read asked others before k steps more spared there other few =
    let next = next_row asked k there in
    let most = spared.most in
    record {
      most = omega (arith, next, most, few);
      spared = λ j h is. elim (cases_eq j k) [
        | inl e ↦ absurd (let same : has others k ≡ true = ap (has others) (sym e) ∙ is in cc (same, other))
        | inr d ↦ (let rest = spared.spared j (omega (arith, h, d)) is in omega (arith, next, rest, few))
      ];
    }

-- or none is, of one that isn't asked for or is one of the others
pub spared_skipped : (asked others before k steps : ℕ) → AreSpared asked others before k steps
    → (has others k ≡ true → has asked k ≡ true) → AreSpared asked others before (k + 1) steps
spared_skipped asked others before k steps spared inside = by (has asked k) refl
  where
    by : (b : Bool) → has asked k ≡ b → AreSpared asked others before (k + 1) steps
    by true there =
        let next = next_row asked k there in
        let most = spared.most in
        record {
          most = omega (arith, next, most);
          spared = λ j h is. elim (cases_eq j k) [
            | inl e ↦ omega (arith, next, most)
            | inr d ↦ (let rest = spared.spared j (omega (arith, h, d)) is in omega (arith, next, rest))
          ];
        }
    by false absent =
        let same = ap (λ (m : ℕ). m * size asked) (no_row asked k absent) in
        let most = spared.most in
        record {
          most = omega (arith, same, most);
          spared = λ j h is. elim (cases_eq j k) [
            | inl e ↦ absurd (let there = inside (ap (has others) (sym e) ∙ is) in cc (there, absent))
            | inr d ↦ (let rest = spared.spared j (omega (arith, h, d)) is in omega (arith, same, rest))
          ];
        }

-- with the row of null there are no more than one for each two positions that are asked for
pub spared_all : (asked others before n steps last : ℕ) → asked < 2 ^ n → others < 2 ^ n
    → ((k : ℕ) → has others k ≡ true → has asked k ≡ true)
    → AreSpared asked others before n steps → last ≡ steps + size others
    → last ≤ before + size asked * size asked
spared_all asked others before n steps last asked_in others_in inside spared is =
    let whole : size_below n asked * size asked ≡ size asked * size asked =
    ap (λ (m : ℕ). m * size asked) (sym (size_at n asked asked_in)) in
    let few = size-mono others asked n others_in asked_in inside in
    let most = spared.most in
    elim (member_or_none others n others_in) [
      | inl found ↦ (let rest = spared.spared found.0 found.1 found.2 in omega (arith, whole, few, rest, is))
      | inr none ↦ omega (arith, whole, most, none, is)
    ]

-- ---- how many for all trades of a firm

-- where all positions are asked for
pub all_asked : (n asked : ℕ) → asked ≡ set_of (λ k. true) n
    → (asked < 2 ^ n) × (size asked ≤ n) × ((k : ℕ) → k < n → has asked k ≡ true)
all_asked n asked is =
    let within = subst (λ (z : ℕ). z < 2 ^ n) (sym is) (set_of_within (λ k. true) n) in (
      within,
      size_le n asked within,
      λ k below. ap (λ (z : ℕ). has z k) is ∙ has-set_of (λ k. true) n k
          ∙ ap (λ (b : Bool). b && true) (lt-ltb k n below),
    )

pub block_fits : (size n : ℕ) → size ≤ n → block_worths size ≤ (n + 1) * (n + 1)
block_fits size n few =
    let most = mul-le size size n n few few in
    let e : (n + 1) * (n + 1) ≡ n * n + 2 * n + 1 = grind arith in
    omega (arith, most, e)

-- a block and a line together
pub block_and_line_fit : (size n : ℕ) → size ≤ n → 1 ≤ size → block_worths size + (size + 1) ≤ (n + 1) * (n + 1)
block_and_line_fit size n few some =
    let most = mul-le size size n n few few in
    let e : (n + 1) * (n + 1) ≡ n * n + 2 * n + 1 = grind arith in
    omega (arith, most, e, few, some)

pub line_fits : (size n : ℕ) → size ≤ n → size + 1 ≤ (n + 1) * (n + 1)
line_fits size n few =
    let e : (n + 1) * (n + 1) ≡ n * n + 2 * n + 1 = grind arith in
    omega (arith, e, few)

-- ---- places that are asked for

pub asked_own : (n asked k : ℕ) → k < n → is_asked n asked k ≡ true → has asked k ≡ true
asked_own n asked k below is = sym (ap (λ (b : Bool). if b then has asked k else true) (lt-ltb k n below)) ∙ is

pub asked_from_own : (n asked k : ℕ) → (k < n → has asked k ≡ true) → is_asked n asked k ≡ true
asked_from_own n asked k has_it = elim (cases_lt k n) [
  | inl below ↦ ap (λ (b : Bool). if b then has asked k else true) (lt-ltb k n below) ∙ has_it below
  | inr past ↦ ap (λ (b : Bool). if b then has asked k else true) (le-ltb k n past)
]
