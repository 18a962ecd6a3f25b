-- Sizes of products and of sums.
use Rattle.std.proofs.Common.{◌≡◌, ℕ, zero, suc, ◌+◌, ◌*◌, ◌<◌, ◌≤◌, Bool, true, false, if◌then◌else◌, sym, subst, arith, ℤ, pos, negsuc, ◌+ℤ◌, ◌*ℤ◌}
use Rattle.std.specs.Int.RustNames.{unsigned_abs}
use Rattle.std.proofs.lemmas.Int.{ints, unsigned_abs-mul}
use Rattle.std.proofs.lemmas.Nat.{mul-le}
use Rattle.tn_base.specs.Arcs.{IsAtMost}
use Rattle.tn_base.specs.Sets.{has, sum_over}

-- a number is within a limit exactly where its size is
pub abs_small : (z : ℤ) (limit : ℕ) → IsAtMost z limit → unsigned_abs z ≤ limit
abs_small (pos n) limit small = omega (arith, ints, small.high)
abs_small (negsuc n) limit small = omega (arith, ints, small.low)

pub small_abs : (z : ℤ) (limit : ℕ) → unsigned_abs z ≤ limit → IsAtMost z limit
small_abs (pos n) limit below = record { low = omega (arith, ints, below); high = omega (arith, ints, below) }
small_abs (negsuc n) limit below = record { low = omega (arith, ints, below); high = omega (arith, ints, below) }

-- a product is at most the product of the sizes
pub times_small : (a b : ℤ) (m n : ℕ) → IsAtMost a m → IsAtMost b n → IsAtMost (a *ℤ b) (m * n)
times_small a b m n small_a small_b =
    let size = mul-le (unsigned_abs a) (unsigned_abs b) m n (abs_small a m small_a) (abs_small b n small_b) in
    small_abs (a *ℤ b) (m * n) (subst (λ (k : ℕ). k ≤ m * n) (sym (unsigned_abs-mul a b)) size)

-- a sum over a set is no larger than the count of its terms allows
pub sum_over_small : (c : ℕ → ℤ) (n x limit : ℕ) → ((k : ℕ) → k < n → IsAtMost (c k) limit)
    → IsAtMost (sum_over c n x) (n * limit)
unfolding sum_over
sum_over_small c zero x limit small = record { low = omega (arith, ints); high = omega (arith, ints) }
sum_over_small c (suc n) x limit small =
    let rest = sum_over_small c n x limit (λ k below. small k (omega (arith, below))) in
    let last = small n (omega arith) in
    next (has x n) (c n) (sum_over c n x) (n * limit) (suc n * limit) (omega arith) rest last
  where
    next : (b : Bool) (term sum : ℤ) (before after : ℕ) → after ≡ before + limit → IsAtMost sum before
        → IsAtMost term limit
        → IsAtMost (sum +ℤ (if b then term else pos 0)) after
    next true term sum before after step sum_small small = record {
      low = omega (arith, ints, step, sum_small.low, small.low);
      high = omega (arith, ints, step, sum_small.high, small.high);
    }
    next false term sum before after step sum_small small = record {
      low = omega (arith, ints, step, sum_small.low);
      high = omega (arith, ints, step, sum_small.high);
    }
