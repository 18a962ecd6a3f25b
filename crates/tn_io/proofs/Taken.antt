-- What several reads took together.
use Rattle.std.proofs.Common.{◌≡◌, ℕ, ◌+◌, ◌≤◌, List, ◌++◌, length, take, drop, None, Some, refl, sym, ap, subst, ◌∙◌, arith, length-append}
use Rattle.std.proofs.Math.Seq.{drop-append_seam, length-take-le}
use Rattle.std.specs.Prelude.{Option}
use Rattle.std.specs.Io.KnownBytes.{Consumes}
use Rattle.std.proofs.KnownBytes.{Consumes-trans}
use Rattle.tn_io.specs.Source.{TakesFirst, TakesAtMost}

-- what was consumed was taken from the front
pub Consumes-TakesFirst : (a b : Option (List ℕ)) (bytes : List ℕ) → Consumes a b bytes → TakesFirst a b (length bytes)
Consumes-TakesFirst None b bytes p = tt
Consumes-TakesFirst (Some xs) None bytes p = absurd p
Consumes-TakesFirst (Some xs) (Some ys) bytes p = (
  subst (λ l. length bytes ≤ length l) (sym p) (omega (arith, length-append bytes ys)),
  sym (drop-append_seam bytes ys) ∙ ap (drop (length bytes)) (sym p),
)

-- the bytes of earlier reads, and then the first n of what the last one gave
pub TakesFirst-more : (a b c : Option (List ℕ)) (bytes piece : List ℕ) (n total : ℕ) → Consumes a b bytes
    → Consumes b c (take n piece)
    → n ≤ length piece → length bytes + n ≡ total → TakesFirst a c total
TakesFirst-more a b c bytes piece n total earlier last within sums =
    let all : length (bytes ++ take n piece) ≡ total = omega (
      arith,
      length-append bytes (take n piece),
      length-take-le n piece within,
      sums,
    ) in
    subst (TakesFirst a c) all (Consumes-TakesFirst a c (bytes ++ take n piece)
    (Consumes-trans a b c bytes (take n piece) earlier last))

-- the same, as a bound
pub TakesAtMost-more : (a b c : Option (List ℕ)) (bytes piece : List ℕ) (n limit : ℕ) → Consumes a b bytes
    → Consumes b c (take n piece)
    → n ≤ length piece → length bytes + n ≤ limit → TakesAtMost a c limit
TakesAtMost-more a b c bytes piece n limit earlier last within fits =
    (length bytes + n, fits, TakesFirst-more a b c bytes piece n (length bytes + n) earlier last within refl)
