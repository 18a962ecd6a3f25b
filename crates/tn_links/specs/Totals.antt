-- Sums over the first numbers.
use Rattle.std.specs.Prelude.{ℕ, zero, suc, ℤ, pos, ◌+ℤ◌}

-- the sum of c over the numbers below n
unfoldable pub total : (ℕ → ℤ) → ℕ → ℤ
total c zero = pos 0
total c (suc n) = total c n +ℤ c n
