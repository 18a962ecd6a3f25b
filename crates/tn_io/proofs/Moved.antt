-- What a call of an end in memory moves.
use Rattle.std.proofs.Common.{◌≡◌, ℕ, ◌<◌, ◌≤◌, List, [], ◌++◌, length, take, drop, sym, ap, ◌∙◌, arith, take-append-drop, length-take}
use Rattle.std.proofs.lemmas.List.{take-append-le, take_all}
use Rattle.std.proofs.Math.ListN.{drop_of_length-le}
use Rattle.std.specs.Io.KnownBytes.{Consumes}
use Rattle.std.specs.Prelude.{Some}
use Rattle.tn_io.specs.Ends.{moved_count, filled}

-- the front of a filled slice is what was put there
take-filled : (into bytes : List ℕ) (n : ℕ) → n ≤ length bytes → take n (filled into bytes n) ≡ take n bytes
take-filled into bytes n within =
    let front : length (take n bytes) ≡ n = omega (arith, length-take n bytes) in
    take-append-le n (take n bytes) (drop n into) (omega arith) ∙ take_all n (take n bytes) (omega arith)

-- what a call moves from the bytes is what is gone from them
pub filled-Consumes : (into bytes : List ℕ) (n : ℕ) → n ≤ length bytes
    → Consumes (Some bytes) (Some (drop n bytes)) (take n (filled into bytes n))
filled-Consumes into bytes n within =
    sym (take-append-drop n bytes) ∙ ap (λ l. l ++ drop n bytes) (sym (take-filled into bytes n within))

-- a call moves nothing only where nothing is left, or there is no room
pub moved-none : (chunk : ℕ) (bytes : List ℕ) (n room : ℕ) → 0 < chunk → n ≡ moved_count chunk bytes room → n ≡ 0
    → 0 < room → drop n bytes ≡ []
moved-none chunk bytes n room some is none space = drop_of_length-le bytes (omega arith)
