-- The sum of the constants of sets, set by set.
use Rattle.std.proofs.Common.{◌≡◌, ℕ, zero, suc, ◌+◌, ◌<◌, List, [], ◌∷◌, length, drop, get_or, sym, ap, ◌∙◌, arith, ◌+ℤ◌}
use Rattle.tn_counts.specs.Laminar.{constants}
use Rattle.tn_counts.specs.declared.set.CountSet.{CountSet}

pub constants_more : (sets : List CountSet) (k : ℕ) (set : CountSet) → k < length sets → set ≡ get_or sets k set
    → constants (drop k sets) ≡ set.constant +ℤ constants (drop (k + 1) sets)
constants_more [] k set inside at = absurd (omega (arith, inside))
constants_more (first ∷ sets) zero set inside at =
    ap (λ (s : CountSet). s.constant +ℤ constants sets) (sym at)
constants_more (first ∷ sets) (suc k) set inside at =
    let next : suc (k + 1) ≡ suc k + 1 = omega arith in
    constants_more sets k set (omega (arith, inside)) at
    ∙ ap (λ (n : ℕ). set.constant +ℤ constants (drop n (first ∷ sets))) next
