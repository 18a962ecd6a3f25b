-- What flows into the nodes, link by link.
use Rattle.std.proofs.Common.{◌≡◌, ℕ, zero, suc, ◌+◌, ◌*◌, ◌^◌, ◌<◌, ◌≤◌, Bool, true, false, ◌==◌, if◌then◌else◌, List, [], ◌∷◌, length, get_or, Some, slice_get, drop, refl, ap, ◌∙◌, arith, inl, inr, ℤ, pos, ◌+ℤ◌, ◌-ℤ◌}
use Rattle.std.specs.Prelude.{set}
use Rattle.std.proofs.lemmas.Bool.{cases_eq, eq-eqb, ne_eqb}
use Rattle.std.proofs.lemmas.Int.{ints}
use Rattle.std.proofs.lemmas.List.{get_or-set_other, get_or-set_same}
use Rattle.std.proofs.lemmas.Option.{none-some, same_Some}
use Rattle.tn_base.specs.Arcs.{IsAtMost}
use Rattle.tn_links.specs.declared.link.Link.{Link}
use Rattle.tn_links.specs.Flows.{balance, brought, flow_at}

-- a number of a list that another is added to
pub added : (xs : List ℤ) (p v : ℕ) (z : ℤ) → p < length xs
    → get_or (set xs p (get_or xs p (pos 0) +ℤ z)) v (pos 0)
    ≡ get_or xs v (pos 0) +ℤ (if v == p then z else pos 0)
added xs p v z inside = elim (cases_eq v p) [
  | inl same ↦
      let here = ap (λ (k : ℕ). get_or (set xs p (get_or xs p (pos 0) +ℤ z)) k (pos 0)) same
      ∙ get_or-set_same xs p (get_or xs p (pos 0) +ℤ z) (pos 0) inside in
      let before = ap (λ (k : ℕ). get_or xs k (pos 0)) same in
      let test = ap (λ (b : Bool). if b then z else pos 0) (eq-eqb v p same) in
      omega (arith, ints, here, before, test)
  | inr other ↦
      let there = get_or-set_other xs p v (get_or xs p (pos 0) +ℤ z) (pos 0) other in
      let test = ap (λ (b : Bool). if b then z else pos 0) (ne_eqb v p other) in
      omega (arith, ints, there, test)
]

turned : (b : Bool) (z : ℤ) → (if b then pos 0 -ℤ z else pos 0) ≡ pos 0 -ℤ (if b then z else pos 0)
turned true z = refl
turned false z = refl

-- a flow added at the head of a link and taken at its tail
pub brought_by : (before middle after : List ℤ) (link : Link) (flow : ℤ) (v : ℕ) → link.head < length before
    → link.tail < length middle
    → middle ≡ set before link.head (get_or before link.head (pos 0) +ℤ flow)
    → after ≡ set middle link.tail (get_or middle link.tail (pos 0) -ℤ flow)
    → get_or after v (pos 0) ≡ get_or before v (pos 0) +ℤ brought link flow v
brought_by before middle after link flow v head tail first second =
    let one = ap (λ (xs : List ℤ). get_or xs v (pos 0)) first ∙ added before link.head v flow head in
    let two = ap (λ (xs : List ℤ). get_or xs v (pos 0)) (second ∙ ap (set middle link.tail) same)
    ∙ added middle link.tail v (pos 0 -ℤ flow) tail in
    let less = turned (v == link.tail) flow in
    omega (arith, ints, one, two, less)
  where
    same : get_or middle link.tail (pos 0) -ℤ flow ≡ get_or middle link.tail (pos 0) +ℤ (pos 0 -ℤ flow)
    same = omega (arith, ints)

-- what the link at a place brings, and what those after it bring
pub balance-more : (links : List Link) (levels : List ℕ) (j level : ℕ) (link : Link) (v : ℕ) → slice_get links j ≡ Some link
    → slice_get levels j ≡ Some level
    → balance (drop j links) (drop j levels) v
    ≡ brought link (flow_at link level) v +ℤ balance (drop (j + 1) links) (drop (j + 1) levels) v
balance-more [] levels j level link v link_is level_is = absurd (none-some link link_is)
balance-more (first ∷ links) [] j level link v link_is level_is = absurd (none-some level level_is)
balance-more (first ∷ links) (here ∷ levels) zero level link v link_is level_is =
    ap (λ (l : Link). brought l (flow_at l here) v +ℤ balance links levels v) (same_Some first link link_is)
    ∙ ap (λ (n : ℕ). brought link (flow_at link n) v +ℤ balance links levels v) (same_Some here level level_is)
balance-more (first ∷ links) (here ∷ levels) (suc j) level link v link_is level_is =
    let next : suc (j + 1) ≡ suc j + 1 = omega arith in
    balance-more links levels j level link v link_is level_is
    ∙ ap (λ (k : ℕ). brought link (flow_at link level) v +ℤ balance (drop k (first ∷ links)) (drop k (here ∷ levels)) v) next

-- after the last one nothing is brought
pub balance-done : (links : List Link) (levels : List ℕ) (j v : ℕ) → length links ≤ j
    → balance (drop j links) (drop j levels) v ≡ pos 0
balance-done [] levels zero v over = refl
balance-done [] levels (suc j) v over = refl
balance-done (first ∷ links) levels zero v over = absurd (omega (arith, over))
balance-done (first ∷ links) [] (suc j) v over = none (drop j links)
  where
    none : (rest : List Link) → balance rest [] v ≡ pos 0
    none [] = refl
    none (link ∷ rest) = refl
balance-done (first ∷ links) (here ∷ levels) (suc j) v over = balance-done links levels j v (omega (arith, over))

within : (b : Bool) (x : ℤ) → IsAtMost x (2 ^ 32) → IsAtMost (if b then x else pos 0) (2 ^ 32)
within true x small = small
within false x small = record { low = omega (arith, ints); high = omega (arith, ints) }

-- a link brings little
pub brought_small : (link : Link) (level v : ℕ) → level < 2 ^ 32 → link.back < 2 ^ 32
    → IsAtMost (brought link (flow_at link level) v) (2 ^ 34)
brought_small link level v few back =
    let flow : IsAtMost (flow_at link level) (2 ^ 32) = record {
      low = omega (arith, ints, few, back);
      high = omega (arith, ints, few, back);
    } in
    let head = within (v == link.head) (flow_at link level) flow in
    let tail = within (v == link.tail) (flow_at link level) flow in
    record {
      low = omega (arith, ints, head.low, head.high, tail.low, tail.high);
      high = omega (arith, ints, head.low, head.high, tail.low, tail.high);
    }

-- so so many do, and one more
pub small_more : (before after : List ℤ) (link : Link) (level j v : ℕ) → level < 2 ^ 32 → link.back < 2 ^ 32
    → IsAtMost (get_or before v (pos 0)) (j * 2 ^ 34)
    → get_or after v (pos 0) ≡ get_or before v (pos 0) +ℤ brought link (flow_at link level) v
    → IsAtMost (get_or after v (pos 0)) ((j + 1) * 2 ^ 34)
small_more before after link level j v few back small made =
    let own = brought_small link level v few back in
    record {
      low = omega (arith, ints, small.low, small.high, own.low, own.high, made);
      high = omega (arith, ints, small.low, small.high, own.low, own.high, made);
    }
