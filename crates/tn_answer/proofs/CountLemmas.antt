-- What counts have in their data: each trade with units an item.
use Rattle.std.proofs.Common.{◌≡◌, ◌==◌, ℕ, suc, Bool, false, if◌then◌else◌, List, [], ◌∷◌, ◌++◌, ne_eqb, ap, arith}
use Rattle.tn_answer.specs.AnswerText.{count_data, counts_from}

pub is_some : (n : ℕ) → (suc n == 0) ≡ false
is_some n = ne_eqb (suc n) 0 (λ e. omega (arith, e))

pub counts-more : (names : List (List ℕ)) (k n : ℕ) (counts : List ℕ)
    → counts_from names k (suc n ∷ counts) ≡ count_data names k (suc n) ∷ counts_from names (suc k) counts
counts-more names k n counts =
    ap (λ (none : Bool). (if none then [] else count_data names k (suc n) ∷ []) ++ counts_from names (suc k) counts)
    (is_some n)
