-- Lists of numbers without a positive second difference are concave functions.
use Rattle.std.proofs.Common.{◌≡◌, ℕ, zero, suc, ◌+◌, ◌-◌, ◌<◌, refl, ap, ◌∙◌, arith, ℤ, pos, ◌+ℤ◌, ◌-ℤ◌, List, length, get_or}
use Rattle.std.specs.Prelude.{◌≤ℤ◌, ◌*ℤ◌, negsuc, Some}
use Rattle.std.proofs.lemmas.Option.{none-some, slice_get_within, slice_get-get_or, get_or_from_slice_get}
use Rattle.std.proofs.lemmas.Int.{ints}
use Rattle.tn_firm_laws.specs.Nested.{IsConcave, at_place, listed_from, IsConcaveList}

-- the difference at a later place is no greater
falling : (g : ℕ → ℤ) (n : ℕ) → ((k : ℕ) → k + 2 < n → (g k +ℤ g (k + 2)) ≤ℤ (pos 2 *ℤ g (k + 1))) → (p d : ℕ)
    → p + d + 1 < n
    → (g (p + d + 1) +ℤ g p) ≤ℤ (g (p + 1) +ℤ g (p + d))
falling g n concave p zero inside =
    let e : p + 0 ≡ p = omega arith in
    rw e (omega (arith, ints))
falling g n concave p (suc d) inside =
    let before : (g (p + d + 1) +ℤ g p) ≤ℤ (g (p + 1) +ℤ g (p + d)) = falling g n concave p d (omega (arith, inside)) in
    let here : (g (p + d) +ℤ g (p + d + 2)) ≤ℤ (pos 2 *ℤ g (p + d + 1)) = concave (p + d) (omega (arith, inside)) in
    let next : g (p + suc d + 1) ≡ g (p + d + 2) = ap g (omega arith) in
    let now : g (p + suc d) ≡ g (p + d + 1) = ap g (omega arith) in
    omega (arith, ints, before, here, next, now)

-- the number at a place of the list, by the place
from_place : (numbers : List ℤ) (z u : ℤ) → at_place numbers z ≡ Some u → (k : ℕ) × (z ≡ pos k) × (k < length numbers)
    × (get_or numbers k (pos 0) ≡ u)
from_place numbers (pos k) u is = (
  k,
  refl,
  slice_get_within numbers k u is,
  get_or_from_slice_get numbers k u (pos 0) is,
)
from_place numbers (negsuc k) u is = absurd (none-some u is)

-- a place within the list has its number
to_place : (numbers : List ℤ) (z : ℤ) (k : ℕ) → z ≡ pos k → k < length numbers
    → at_place numbers z ≡ Some (get_or numbers k (pos 0))
to_place numbers z k e inside = ap (at_place numbers) e ∙ slice_get-get_or numbers k (pos 0) inside

-- a concave list is a concave function, wherever it begins
pub concave-listed : (low : ℤ) (numbers : List ℤ) → IsConcaveList numbers → IsConcave (listed_from low numbers)
concave-listed low numbers concave a b u v a_is b_is below =
    let first = from_place numbers (a -ℤ low) u a_is in
    let second = from_place numbers (b -ℤ low) v b_is in
    let p : ℕ = first.0 in
    let q : ℕ = second.0 in
    let p_is : a -ℤ low ≡ pos p = first.1 in
    let q_is : b -ℤ low ≡ pos q = second.1 in
    let order : p < q = omega (arith, ints, p_is, q_is, below) in
    let q_inside : q < length numbers = second.2 in
    let d : ℕ = q - (p + 1) in
    let d_is : p + d + 1 ≡ q = omega (arith, order) in
    let e_is : p + d ≡ q - 1 = omega (arith, order) in
    let falls : (get_or numbers (p + d + 1) (pos 0) +ℤ get_or numbers p (pos 0))
    ≤ℤ (get_or numbers (p + 1) (pos 0) +ℤ get_or numbers (p + d) (pos 0)) =
    falling (λ k. get_or numbers k (pos 0)) (length numbers) concave p d (omega (arith, d_is, q_inside)) in
    let last : get_or numbers (p + d + 1) (pos 0) ≡ v = ap (λ (k : ℕ). get_or numbers k (pos 0)) d_is ∙ second.3 in
    let before_last : get_or numbers (p + d) (pos 0) ≡ get_or numbers (q - 1) (pos 0) =
    ap (λ (k : ℕ). get_or numbers k (pos 0)) e_is in
    let start = first.3 in
    record {
      first = get_or numbers (p + 1) (pos 0);
      second = get_or numbers (q - 1) (pos 0);
      first_is = to_place numbers ((a +ℤ pos 1) -ℤ low) (p + 1) (omega (arith, ints, p_is))
          (omega (arith, order, q_inside));
      second_is = to_place numbers ((b -ℤ pos 1) -ℤ low) (q - 1) (omega (arith, ints, q_is, order))
          (omega (arith, q_inside));
      enough = omega (arith, ints, falls, last, before_last, start);
    }
