-- How far the gain of a flow is from what no flow gains.
use Rattle.std.proofs.Common.{◌≡◌, ℕ, zero, suc, ◌+◌, ◌-◌, ◌*◌, ◌<◌, ◌≤◌, refl, ap, ◌∙◌, arith, inl, inr, List, [], ◌∷◌, length, drop, ℤ, pos, ◌+ℤ◌, ◌-ℤ◌, ◌≤ℤ◌, Some}
use Rattle.std.specs.Prelude.{◌<ℤ◌, slice_get}
use Rattle.std.specs.Int.RustNames.{unsigned_abs}
use Rattle.std.proofs.Math.IntN.{negsuc}
use Rattle.std.proofs.Math.Nat.{mul-le-mul_right}
use Rattle.std.proofs.lemmas.Int.{ints}
use Rattle.std.proofs.lemmas.Bool.{cases_lt}
use Rattle.std.proofs.lemmas.Option.{none-some, same_Some}
use Rattle.tn_base.specs.Arcs.{IsAtMost}
use Rattle.tn_links.specs.declared.link.Link.{Link}
use Rattle.tn_links.specs.Flows.{AreWithin, IsKeptFlow, gain, total_gain}
use Rattle.tn_links.specs.Links.{AddAtMost, ArePlain, IsLink, rise, room}
use Rattle.tn_links.specs.RiseLemmas.{rise_at_most}
use Rattle.tn_links.specs.Widths.{most_each, most_units}

-- what the gain of a flow lacks to what no links of that number gain
abbrev pub gain_left : List Link → List ℕ → ℕ
gain_left links levels = unsigned_abs (pos (length links * (most_units * most_each)) -ℤ total_gain links levels)

-- a flow gains no more than so many units at the limit
pub gain_at_most : (limit units : ℕ) (link : Link) (level : ℕ) → AddAtMost limit link.steps.items
    → link.back ≤ units → level ≤ units → IsAtMost (gain link level) (units * limit)
gain_at_most limit units link level small back within = elim (cases_lt level link.back) [
  | inl below ↦
      let added = rise_at_most limit link.steps.items level (link.back - level) small in
      let same : rise link.steps.items (level + (link.back - level)) ≡ rise link.steps.items link.back =
      ap (rise link.steps.items) (omega (arith, below)) in
      let more : (link.back - level) * limit ≤ units * limit = mul-le-mul_right limit (omega (arith, back)) in
      record {
        low = omega (arith, ints, added.high, same, more);
        high = omega (arith, ints, added.low, same, more);
      }
  | inr above ↦
      let added = rise_at_most limit link.steps.items link.back (level - link.back) small in
      let same : rise link.steps.items (link.back + (level - link.back)) ≡ rise link.steps.items level =
      ap (rise link.steps.items) (omega (arith, above)) in
      let more : (level - link.back) * limit ≤ units * limit = mul-le-mul_right limit (omega (arith, within)) in
      record {
        low = omega (arith, ints, added.low, same, more);
        high = omega (arith, ints, added.high, same, more);
      }
]

gain_small : (nodes : ℕ) (link : Link) (level : ℕ) → IsLink nodes link → level ≤ room link.steps.items
    → gain link level ≤ℤ pos (most_units * most_each)
gain_small nodes link level is within =
    let back = is.steps.back_within in
    let few = is.steps.few_units in
    let small = gain_at_most most_each most_units link level is.steps.slight (omega (arith, back, few))
    (omega (arith, within, few)) in
    omega (arith, ints, small.high)

total_small : (nodes : ℕ) (links : List Link) (levels : List ℕ)
    → ((j : ℕ) (link : Link) → slice_get links j ≡ Some link → IsLink nodes link) → AreWithin links levels
    → total_gain links levels ≤ℤ pos (length links * (most_units * most_each))
total_small nodes [] levels each within = omega (arith, ints)
total_small nodes (link ∷ links) [] each within = omega (arith, ints)
total_small nodes (link ∷ links) (level ∷ levels) each within =
    let rest = total_small nodes links levels (λ j one is. each (suc j) one is)
    (λ j n one link_is level_is. within (suc j) n one link_is level_is) in
    let own = gain_small nodes link level (each 0 link refl) (within 0 level link refl refl) in
    omega (arith, ints, rest, own)

abs_is : (z : ℤ) → pos 0 ≤ℤ z → pos (unsigned_abs z) ≡ z
abs_is (pos n) above = refl
abs_is (negsuc n) above = absurd (omega (arith, ints, above))

left_falls : (bound : ℕ) (x y : ℤ) → x <ℤ y → y ≤ℤ pos bound → unsigned_abs (pos bound -ℤ y) < unsigned_abs (pos bound -ℤ x)
left_falls bound x y more within =
    let first = abs_is (pos bound -ℤ x) (omega (arith, ints, more, within)) in
    let second = abs_is (pos bound -ℤ y) (omega (arith, ints, within)) in
    omega (arith, ints, more, first, second)

-- a kept flow that gains more lacks less
pub gain_rises : (nodes : ℕ) (links : List Link) (levels after : List ℕ) → ArePlain nodes links → IsKeptFlow links after
    → total_gain links levels <ℤ total_gain links after → gain_left links after < gain_left links levels
gain_rises nodes links levels after plain kept more =
    left_falls (length links * (most_units * most_each)) (total_gain links levels) (total_gain links after) more
    (total_small nodes links after plain.each kept.within)

-- the gain of the link at a place, and what those after it gain
pub total_gain-more : (links : List Link) (levels : List ℕ) (j level : ℕ) (link : Link) → slice_get links j ≡ Some link
    → slice_get levels j ≡ Some level
    → total_gain (drop j links) (drop j levels) ≡ gain link level +ℤ total_gain (drop (j + 1) links) (drop (j + 1) levels)
total_gain-more [] levels j level link link_is level_is = absurd (none-some link link_is)
total_gain-more (first ∷ links) [] j level link link_is level_is = absurd (none-some level level_is)
total_gain-more (first ∷ links) (here ∷ levels) zero level link link_is level_is =
    ap (λ (l : Link). gain l here +ℤ total_gain links levels) (same_Some first link link_is)
    ∙ ap (λ (n : ℕ). gain link n +ℤ total_gain links levels) (same_Some here level level_is)
total_gain-more (first ∷ links) (here ∷ levels) (suc j) level link link_is level_is =
    let next : suc (j + 1) ≡ suc j + 1 = omega arith in
    total_gain-more links levels j level link link_is level_is
    ∙ ap (λ (k : ℕ). gain link level +ℤ total_gain (drop k (first ∷ links)) (drop k (here ∷ levels))) next
