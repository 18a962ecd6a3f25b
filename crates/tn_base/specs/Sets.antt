-- Sets of small numbers. A set is one number whose binary digits are its members, so a set is at the same
-- time its own number in the order of bundles, and no definition knows how wide a machine word is.
use Rattle.std.specs.Prelude.{ℕ, zero, suc, ◌+◌, ◌^◌, Bool, ◌==◌, bit_and, bit_or, bit_xor, if◌then◌else◌}
use Rattle.std.specs.Int.{bit_at}
use Rattle.std.specs.Prelude.{ℤ, pos, ◌+ℤ◌}

-- whether k is a member
unfoldable pub has : ℕ → ℕ → Bool
has x k = bit_at x k == 1

-- the set with k moved in or out
unfoldable pub toggle : ℕ → ℕ → ℕ
toggle x k = bit_xor x (2 ^ k)

-- the members of either
unfoldable pub union : ℕ → ℕ → ℕ
union x y = bit_or x y

-- the members of both
unfoldable pub meet : ℕ → ℕ → ℕ
meet x y = bit_and x y

-- the members of x that are not in y
unfoldable pub minus : ℕ → ℕ → ℕ
minus x y = bit_and x (bit_xor x y)

-- how many numbers below n are members
unfoldable pub size_below : ℕ → ℕ → ℕ
size_below zero x = 0
size_below (suc n) x = size_below n x + (if has x n then 1 else 0)

-- how many members there are: each of them is below the number of the set
unfoldable pub size : ℕ → ℕ
size x = size_below x x

-- the sum of c over the members below n
unfoldable pub sum_over : (ℕ → ℤ) → ℕ → ℕ → ℤ
sum_over c zero x = pos 0
sum_over c (suc n) x = sum_over c n x +ℤ (if has x n then c n else pos 0)

-- the set of the numbers below n that pass a test
unfoldable pub set_of : (ℕ → Bool) → ℕ → ℕ
set_of test zero = 0
set_of test (suc n) = if test n then toggle (set_of test n) n else set_of test n
