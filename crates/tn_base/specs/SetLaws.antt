-- That the operations on numbers are those of sets.
use Rattle.std.specs.Prelude.{◌≡◌, ◌≢◌, ℕ, ◌+◌, ◌/◌, ◌%◌, ◌^◌, ◌<◌, ◌≤◌, List, get_or, Bool, true, false, not, ◌&&◌, ◌||◌, ◌↔◌, ℤ, pos, ◌+ℤ◌, ◌-ℤ◌}
use Rattle.tn_base.specs.Sets.{has, toggle, union, meet, minus, size, size_below, sum_over, set_of}
use Rattle.tn_base.specs.Limbs.{joined}

pub record AreSets : Type 0 where
  -- sets with the same members are equal
  pub same : (x y : ℕ) → ((k : ℕ) → has x k ≡ has y k) → x ≡ y
  pub empty : (k : ℕ) → has 0 k ≡ false
  pub toggled : (x k : ℕ) → has (toggle x k) k ≡ not (has x k)
  pub others : (x k i : ℕ) → i ≢ k → has (toggle x k) i ≡ has x i
  pub either : (x y k : ℕ) → has (union x y) k ≡ (has x k || has y k)
  pub both : (x y k : ℕ) → has (meet x y) k ≡ (has x k && has y k)
  pub without : (x y k : ℕ) → has (minus x y) k ≡ (has x k && not (has y k))
  -- the set that a test makes has the numbers below n that pass it, and no others
  pub made : (test : ℕ → Bool) (n k : ℕ) → (has (set_of test n) k ≡ true) ↔ ((k < n) × (test k ≡ true))
  -- the number of a set of numbers below n is below 2^n, and its members may be counted up to n
  pub counted : (n x : ℕ) → x < 2 ^ n → size x ≡ size_below n x
  -- the set that words of 64 bits make together has the members of each word, 64 apart
  pub worded : (limbs : List ℕ) (k : ℕ) → ((i : ℕ) → get_or limbs i 0 < 2 ^ 64)
      → has (joined limbs) k ≡ has (get_or limbs (k / 64) 0) (k % 64)

-- A toggle moves one member in or out, and the count of members with it.
pub record TogglesAreCounted : Type 0 where
  pub none : size 0 ≡ 0
  pub more : (x k : ℕ) → has x k ≡ false → size (toggle x k) ≡ size x + 1
  pub less : (x k : ℕ) → has x k ≡ true → size x ≡ size (toggle x k) + 1

-- A sum over the members below n has one term for each of them.
pub record TogglesAreSummed : Type 0 where
  pub none : (c : ℕ → ℤ) (n : ℕ) → sum_over c n 0 ≡ pos 0
  pub more : (c : ℕ → ℤ) (n x k : ℕ) → k < n → has x k ≡ false → sum_over c n (toggle x k) ≡ sum_over c n x +ℤ c k
  pub less : (c : ℕ → ℤ) (n x k : ℕ) → k < n → has x k ≡ true → sum_over c n (toggle x k) ≡ sum_over c n x -ℤ c k
  -- what stands at n or above doesn't count
  pub above : (c : ℕ → ℤ) (n x k : ℕ) → n ≤ k → sum_over c n (toggle x k) ≡ sum_over c n x
