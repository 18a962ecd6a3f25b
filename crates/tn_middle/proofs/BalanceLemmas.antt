-- The balance of a bundle, position by position.
use Rattle.std.proofs.Common.{◌≡◌, ℕ, ◌+◌, ◌*◌, add-one, refl, arith, if◌then◌else◌, Option, Some, ℤ, pos, ◌+ℤ◌}
use Rattle.std.proofs.lemmas.Int.{ints}
use mir.Syntax.{w128}
use mir.Val.{of_z, to_z}
use Rattle.tn_base.specs.Arcs.{IsAtMost}
use Rattle.tn_middle.specs.Pairs.{by_counts}
use Rattle.tn_base.specs.Sets.{has, sum_over}
use Rattle.tn_base.specs.Widths.{most_amount}
use Rattle.tn_market.specs.Widths.{most_own}

-- one more term of a sum
pub sum_over-next : (c : ℕ → ℤ) (k x : ℕ) → sum_over c (k + 1) x ≡ sum_over c k x +ℤ (if has x k then c k else pos 0)
unfolding sum_over
sum_over-next c k x = rw add-one refl

-- what the code computes
pub kept_is : (number balance : ℤ) → IsAtMost number most_amount → IsAtMost balance (most_own * most_amount)
    → to_z w128 (of_z w128 (to_z w128 (of_z w128 number) +ℤ to_z w128 (of_z w128 balance))) ≡ number +ℤ balance
kept_is number balance first second =
    let a = first.low in
    let b = first.high in
    let c = second.low in
    let d = second.high in
    omega (arith, ints, a, b, c, d)

-- a purchase alone that may be kept
pub kept_worth : (purchases sales : ℕ) (keep : Option ℤ) (number balance sum : ℤ) → purchases ≡ 1 → sales ≡ 0
    → keep ≡ Some number → balance ≡ sum
    → Some (number +ℤ balance) ≡ by_counts purchases sales keep sum
kept_worth purchases sales keep number balance sum one none there is = rw (one, none, there, is) refl
