-- Gains whose units add less and less are concave.
use Rattle.std.proofs.Common.{◌≡◌, ◌≢◌, ℕ, zero, suc, ◌+◌, ◌-◌, ◌<◌, ◌≤◌, refl, sym, ap, ◌∙◌, arith, inl, inr, List, [], ◌∷◌, ℤ, pos, ◌+ℤ◌, ◌-ℤ◌, ◌≤ℤ◌, Some, Bool, true, if◌then◌else◌, nat_le}
use Rattle.std.specs.Prelude.{slice_get}
use Rattle.std.proofs.lemmas.Int.{ints}
use Rattle.std.proofs.lemmas.Bool.{cases_lt, eq-eqb, ne_eqb, leb-true}
use Rattle.std.proofs.lemmas.Option.{same_Some}
use Rattle.tn_links.specs.declared.link.Link.{Link}
use Rattle.tn_links.specs.declared.link.Step.{Step}
use Rattle.tn_links.specs.Links.{AreFalling, ArePlain, joins, rise, room}
use Rattle.tn_links.specs.Lots.{less_cost, link_arc, lot_cost, more_cost}
use Rattle.tn_links.specs.LotLemmas.{HasEnds, arc_of, ends_of, joins_by, some_only}
use Rattle.tn_links.specs.RiseLemmas.{rise-suc, slope, slope_in, slope_past}

-- no unit adds more than a limit where no step does
slope_most : (limit : ℤ) (steps : List Step) → ((k : ℕ) (one : Step) → slice_get steps k ≡ Some one → one.each ≤ℤ limit)
    → (n : ℕ) → n < room steps → slope steps n ≤ℤ limit
slope_most limit [] most n below = absurd (omega (arith, below))
slope_most limit (step ∷ steps) most n below = elim (cases_lt n step.units) [
  | inl inside ↦ let e = slope_in step steps n inside in let f = most 0 step refl in omega (arith, ints, e, f)
  | inr past ↦
      let e = slope_past step steps n past in
      let rest = slope_most limit steps (λ k one is. most (suc k) one is) (n - step.units) (omega (arith, below, past)) in
      omega (arith, ints, e, rest)
]

-- later units add no more
pub slope_falls : (steps : List Step) → AreFalling steps → (a b : ℕ) → a ≤ b → b < room steps
    → slope steps b ≤ℤ slope steps a
slope_falls [] falling a b order below = absurd (omega (arith, below))
slope_falls (step ∷ steps) falling a b order below = elim (cases_lt b step.units) [
  | inl inside ↦
      let second = slope_in step steps b inside in
      let first = slope_in step steps a (omega (arith, order, inside)) in
      omega (arith, ints, first, second)
  | inr past ↦
      let second = slope_past step steps b past in
      elim (cases_lt a step.units) [
        | inl inside ↦
            let first = slope_in step steps a inside in
            let most = slope_most step.each steps (λ k one is. falling 0 (suc k) step one (omega arith) refl is)
            (b - step.units) (omega (arith, below, past)) in
            omega (arith, ints, first, second, most)
        | inr later ↦
            let first = slope_past step steps a later in
            let rest = slope_falls steps
            (λ i k one other less at_i at_k. falling (suc i) (suc k) one other (omega (arith, less)) at_i at_k)
            (a - step.units) (b - step.units) (omega (arith, order, later, past)) (omega (arith, below, past)) in
            omega (arith, ints, first, second, rest)
      ]
]

-- so many units add no more where they come later
pub rise_later : (steps : List Step) → AreFalling steps → (a b d : ℕ) → a ≤ b → b + d ≤ room steps
    → (rise steps (b + d) -ℤ rise steps b) ≤ℤ (rise steps (a + d) -ℤ rise steps a)
rise_later steps falling a b zero order within =
    let first : rise steps (a + 0) ≡ rise steps a = ap (rise steps) (omega arith) in
    let second : rise steps (b + 0) ≡ rise steps b = ap (rise steps) (omega arith) in
    omega (arith, ints, first, second)
rise_later steps falling a b (suc d) order within =
    let before = rise_later steps falling a b d order (omega (arith, within)) in
    let first : rise steps (a + suc d) ≡ rise steps (a + d + 1) = ap (rise steps) (omega arith) in
    let second : rise steps (b + suc d) ≡ rise steps (b + d + 1) = ap (rise steps) (omega arith) in
    let falls = slope_falls steps falling (a + d) (b + d) (omega (arith, order)) (omega (arith, within)) in
    omega (arith, ints, before, first, second, rise-suc steps (a + d), rise-suc steps (b + d), falls)

-- a lot there and back costs at least 0
more_and_less : (link : Link) (level lot : ℕ) (more less : ℤ) → AreFalling link.steps.items
    → more_cost link level lot ≡ Some more → less_cost link level lot ≡ Some less → pos 0 ≤ℤ (more +ℤ less)
more_and_less link level lot more less falling more_is less_is =
    let steps = link.steps.items in
    let up = some_only (nat_le (level + lot) (room steps)) (rise steps level -ℤ rise steps (level + lot)) more more_is in
    let down = some_only (nat_le lot level) (rise steps level -ℤ rise steps (level - lot)) less less_is in
    let enough : lot ≤ level = leb-true lot level down.0 in
    let inside : level + lot ≤ room steps = leb-true (level + lot) (room steps) up.0 in
    let same : rise steps (level - lot + lot) ≡ rise steps level = ap (rise steps) (omega (arith, enough)) in
    let later = rise_later steps falling (level - lot) level lot (omega arith) inside in
    omega (arith, ints, later, same, up.1, down.1)

pub from_tail : (link : Link) (level lot u : ℕ) → link.tail ≡ u → lot_cost link level lot u ≡ more_cost link level lot
from_tail link level lot u is =
    ap (λ (t : Bool). if t then more_cost link level lot else less_cost link level lot) (eq-eqb link.tail u is)

pub from_head : (link : Link) (level lot u : ℕ) → link.tail ≢ u → lot_cost link level lot u ≡ less_cost link level lot
from_head link level lot u other =
    ap (λ (t : Bool). if t then more_cost link level lot else less_cost link level lot) (ne_eqb link.tail u other)

pub there_and_back : (nodes : ℕ) (links : List Link) (levels : List ℕ) (lot u v : ℕ) (first second : ℤ)
    → ArePlain nodes links → link_arc links levels lot u v ≡ Some first → link_arc links levels lot v u ≡ Some second
    → pos 0 ≤ℤ (first +ℤ second)
there_and_back nodes links levels lot u v first second plain first_is second_is =
    let there = arc_of links levels lot u v first first_is in
    let back = arc_of links levels lot v u second second_is in
    let swapped : joins back.link u v ≡ true = joins_by back.link u v (swap back.link (ends_of back.link v u back.joined)) in
    let place : back.place ≡ there.place =
    plain.single back.place there.place u v back.link there.link back.link_is there.link_is swapped there.joined in
    let link : back.link ≡ there.link = same_Some back.link there.link
    (sym back.link_is ∙ ap (slice_get links) place ∙ there.link_is) in
    let level : back.level ≡ there.level = same_Some back.level there.level
    (sym back.level_is ∙ ap (slice_get levels) place ∙ there.level_is) in
    let back_cost : lot_cost there.link there.level lot v ≡ Some second =
    ap (λ (n : ℕ). lot_cost there.link n lot v) (sym level) ∙ ap (λ (l : Link). lot_cost l back.level lot v) (sym link)
    ∙ back.cost_is in
    let is = plain.each there.place there.link there.link_is in
    elim (ends_of there.link u v there.joined) [
      | inl ends ↦ more_and_less there.link there.level lot first second is.steps.falling
          (sym (from_tail there.link there.level lot u ends.0) ∙ there.cost_is)
          (sym (from_head there.link there.level lot v (λ e. is.apart (e ∙ sym ends.1))) ∙ back_cost)
      | inr ends ↦
          let sum = more_and_less there.link there.level lot second first is.steps.falling
          (sym (from_tail there.link there.level lot v ends.0) ∙ back_cost)
          (sym (from_head there.link there.level lot u (λ e. is.apart (e ∙ sym ends.1))) ∙ there.cost_is) in
          omega (arith, ints, sum)
    ]
  where
    swap : (link : Link) → HasEnds link v u → HasEnds link u v
    swap link ends = elim ends [
      | inl is ↦ inr is
      | inr is ↦ inl is
    ]
