-- The first number that isn't a member.
use Rattle.std.proofs.Common.{◌≡◌, ℕ, suc, ◌+◌, ◌-◌, ◌<◌, true, refl, ap, ◌∙◌, arith}
use Rattle.tn_base.specs.Sets.{has}
use Rattle.tn_read_parts.specs.Lists.{first_without}

pub first_without-next : (named t n : ℕ) → t < n → has named t ≡ true
    → first_without named t (n - t) ≡ first_without named (t + 1) (n - (t + 1))
first_without-next named t n h member =
    let left : n - t ≡ suc (n - (t + 1)) = omega arith in
    ap (first_without named t) left ∙ rw member refl
