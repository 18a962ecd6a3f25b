-- What several writes added together.
use Rattle.std.proofs.Common.{◌≡◌, ℕ, ◌+◌, List, ◌++◌, take, drop, None, Some, sym, ap, subst, ◌∙◌, append_assoc, ◌-◌, ◌≤◌, length, arith, length-drop}
use Rattle.std.proofs.Math.Seq.{take-add, take_all}
use Rattle.std.specs.Prelude.{Option}
use Rattle.tn_io.specs.Sink.{Grows}

-- one write after another
pub Grows-trans : (a b c : Option (List ℕ)) (xs ys : List ℕ) → Grows a b xs → Grows b c ys → Grows a c (xs ++ ys)
Grows-trans a b None xs ys p q = tt
Grows-trans a None (Some w) xs ys p q = absurd q
Grows-trans None (Some v) (Some w) xs ys p q = absurd p
Grows-trans (Some u) (Some v) (Some w) xs ys p q = q ∙ ap (λ l. l ++ ys) p ∙ append_assoc u xs ys

-- the first m bytes, and then the first n of the rest
pub Grows-more : (a b c : Option (List ℕ)) (bytes : List ℕ) (m n : ℕ) → Grows a b (take m bytes)
    → Grows b c (take n (drop m bytes))
    → Grows a c (take (m + n) bytes)
Grows-more a b c bytes m n p q =
    subst (Grows a c) (sym (take-add m n bytes)) (Grows-trans a b c (take m bytes) (take n (drop m bytes)) p q)

-- the rest of the bytes as the code slices it
rest-drop : (bytes : List ℕ) (m : ℕ) → take (length bytes - m) (drop m bytes) ≡ drop m bytes
rest-drop bytes m = take_all (length bytes - m) (drop m bytes) (omega (arith, length-drop m bytes))

-- the same of the slice that begins at m
pub Grows-slice : (a b c : Option (List ℕ)) (bytes : List ℕ) (m n : ℕ) → Grows a b (take m bytes)
    → Grows b c (take n (take (length bytes - m) (drop m bytes))) → Grows a c (take (m + n) bytes)
Grows-slice a b c bytes m n p q = Grows-more a b c bytes m n p (subst (λ l. Grows b c (take n l)) (rest-drop bytes m) q)

-- a part of that slice ends within the bytes
pub slice-within : (bytes : List ℕ) (m n : ℕ) → m ≤ length bytes → n ≤ length (take (length bytes - m) (drop m bytes))
    → m + n ≤ length bytes
slice-within bytes m n start part = omega (arith, length-drop m bytes, ap length (rest-drop bytes m))
