-- Steps that are joined, and steps that are turned round.
use Rattle.std.proofs.Common.{◌≡◌, ℕ, ◌+◌, ◌-◌, refl, ap, arith, List, [], ◌∷◌, ◌++◌, ℤ, pos, neg_ℤ, ◌+ℤ◌, ◌-ℤ◌}
use Rattle.std.specs.Prelude.{◌*ℤ◌, min, map, reverse}
use Rattle.std.proofs.lemmas.Int.{ints}
use Rattle.std.proofs.lemmas.Grind.{reverse_onto}
use Rattle.std.proofs.Math.IntN.{*ℤ-zero, *ℤ_comm}
use Rattle.tn_base.proofs.SumLemmas.{times-plus}
use Rattle.tn_links.specs.Links.{rise, room}
use Rattle.tn_links.specs.declared.link.Step.{Step}
use Rattle.tn_read_units.specs.Documents.{turned}

pub room-append : (xs ys : List Step) → room (xs ++ ys) ≡ room xs + room ys
room-append [] ys = omega arith
room-append (x ∷ xs) ys = omega (arith, room-append xs ys)

pub rise-append : (xs ys : List Step) (n : ℕ) → rise (xs ++ ys) n ≡ rise xs n +ℤ rise ys (n - room xs)
rise-append [] ys n = let same : rise ys (n - 0) ≡ rise ys n = ap (rise ys) (omega arith) in omega (arith, ints, same)
rise-append (x ∷ xs) ys n =
    let before = rise-append xs ys (n - x.units) in
    let same : rise ys (n - x.units - room xs) ≡ rise ys (n - (x.units + room xs)) = ap (rise ys) (omega arith) in
    omega (arith, ints, before, same)

-- all steps, from the last to the first, turned round
abbrev pub back : List Step → List Step
back steps = reverse (map turned steps)

pub back-cons : (x : Step) (xs : List Step) → back (x ∷ xs) ≡ back xs ++ turned x ∷ []
back-cons x xs = reverse_onto (map turned xs) (turned x) []

pub room-back : (xs : List Step) → room (back xs) ≡ room xs
room-back [] = refl
room-back (x ∷ xs) =
    let split = ap room (back-cons x xs) in
    omega (arith, split, room-append (back xs) (turned x ∷ []), room-back xs)

times-minus_one : (e : ℤ) (n : ℕ) → neg_ℤ e *ℤ pos n ≡ neg_ℤ (e *ℤ pos n)
times-minus_one e n =
    let one = *ℤ_comm (neg_ℤ e) (pos n) in
    let other = *ℤ_comm e (pos n) in
    let sum = times-plus (pos n) e (neg_ℤ e) in
    let zero_sum : e +ℤ neg_ℤ e ≡ pos 0 = omega (arith, ints) in
    let none : pos n *ℤ (e +ℤ neg_ℤ e) ≡ pos n *ℤ pos 0 = ap (λ (z : ℤ). pos n *ℤ z) zero_sum in
    omega (arith, ints, one, other, sum, none, *ℤ-zero (pos n))

-- what units less sold take away
pub rise-back : (xs : List Step) (n : ℕ) → rise (back xs) n ≡ rise xs (room xs - n) -ℤ rise xs (room xs)
rise-back [] n = refl
rise-back (x ∷ xs) n =
    let split = ap (λ (steps : List Step). rise steps n) (back-cons x xs) in
    let parts = rise-append (back xs) (turned x ∷ []) n in
    let before = rise-back xs n in
    let one : rise (turned x ∷ []) (n - room (back xs)) ≡ rise (turned x ∷ []) (n - room xs) =
    ap (λ (r : ℕ). rise (turned x ∷ []) (n - r)) (room-back xs) in
    let more = times-minus_one x.each (min (n - room xs) x.units) in
    let all = times-plus x.each (pos (min (x.units + room xs - n) x.units)) (pos (min (n - room xs) x.units)) in
    let units : pos (min (x.units + room xs - n) x.units) +ℤ pos (min (n - room xs) x.units)
    ≡ pos (min (x.units + room xs) x.units) = omega (arith, ints) in
    let whole = ap (λ (z : ℤ). x.each *ℤ z) units in
    let low : rise xs (x.units + room xs - n - x.units) ≡ rise xs (room xs - n) = ap (rise xs) (omega arith) in
    let high : rise xs (x.units + room xs - x.units) ≡ rise xs (room xs) = ap (rise xs) (omega arith) in
    omega (arith, ints, split, parts, before, one, more, all, whole, low, high)
