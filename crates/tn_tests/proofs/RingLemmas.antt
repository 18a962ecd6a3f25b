-- Labels of 0 on the ring of the tests.
use Rattle.std.proofs.Common.{◌≡◌, ◌≢◌, ℕ, ◌+◌, refl, sym, ap, ◌∙◌, subst, arith, List, Bool, true, false, ◌&&◌, ◌||◌, ◌==◌, nat_lt, if◌then◌else◌, ℤ, pos, ◌≤ℤ◌, ◌+ℤ◌, Option, Some, None}
use Rattle.std.specs.Prelude.{negsuc}
use Rattle.std.proofs.lemmas.Int.{ints}
use Rattle.std.proofs.lemmas.Bool.{and_parts, ne_eqb, eqb-true, false≢true}
use Rattle.std.proofs.lemmas.Option.{same_Some, none-some}
use Rattle.tn_base.specs.Sets.{has}
use Rattle.tn_base.specs.Walks.{arcs_among, is_admitted, KeepsArcs}
use Rattle.tn_cycle.specs.Answers.{AreNear, label_in}
use Rattle.tn_cycle.specs.GraphLemmas.{some_if}
use Rattle.tn_tests.specs.Ring.{ring}
use Rattle.tn_cycle.specs.Widths.{most_label}

-- without the first node no arc gains
pub zeros_keep : (null admitted nodes : ℕ) (gains : Bool) → 0 ≢ null → has admitted 0 ≡ false
    → KeepsArcs (arcs_among (is_admitted null admitted) (ring nodes gains)) (λ _. pos 0)
zeros_keep null admitted nodes gains other lacks u v cost e =
    let among = some_if (is_admitted null admitted u && is_admitted null admitted v) (ring nodes gains u v) cost e in
    let passes : is_admitted null admitted v ≡ true =
    (and_parts (is_admitted null admitted u) (is_admitted null admitted v) among.0).1 in
    by (v == u + 1) (v == 0) refl (u + 1 == nodes) gains (some_if (nat_lt u nodes && nat_lt v nodes) _ cost among.1).1
    passes
  where
    first_isnt : is_admitted null admitted 0 ≡ false
    first_isnt = ap (λ (s : Bool). s || has admitted 0) (ne_eqb 0 null other) ∙ lacks

    by : (next first : Bool) → (v == 0) ≡ first → (last gain : Bool)
        → (if next then Some (pos 2) else (if first && last then Some (if gain then negsuc 9 else pos 1) else None))
        ≡ Some cost
        → is_admitted null admitted v ≡ true → pos 0 ≤ℤ (pos 0 +ℤ cost)
    by true first is last gain q passes = let s : pos 2 ≡ cost = same_Some (pos 2) cost q in omega (arith, ints, s)
    by false true is last gain q passes =
        let zero : v ≡ 0 = eqb-true v 0 is in
        absurd (false≢true (sym first_isnt ∙ subst (λ (w : ℕ). is_admitted null admitted w ≡ true) zero passes))
    by false false is last gain q passes = absurd (none-some cost q)

-- a ring that doesn't gain has no arc that does
pub zeros_keep_all : (nodes : ℕ) → KeepsArcs (ring nodes false) (λ _. pos 0)
zeros_keep_all nodes u v cost e =
    by (v == u + 1) (v == 0 && u + 1 == nodes) (some_if (nat_lt u nodes && nat_lt v nodes) _ cost e).1
  where
    by : (next last : Bool) → (if next then Some (pos 2) else (if last then Some (pos 1) else None)) ≡ Some cost
        → pos 0 ≤ℤ (pos 0 +ℤ cost)
    by true last q = let s : pos 2 ≡ cost = same_Some (pos 2) cost q in omega (arith, ints, s)
    by false true q = let s : pos 1 ≡ cost = same_Some (pos 1) cost q in omega (arith, ints, s)
    by false false q = absurd (none-some cost q)

pub zeros_keep_among : (test : ℕ → Bool) (nodes : ℕ) → KeepsArcs (arcs_among test (ring nodes false)) (λ _. pos 0)
zeros_keep_among test nodes u v cost e =
    zeros_keep_all nodes u v cost (some_if (test u && test v) (ring nodes false u v) cost e).1

-- labels that are all 0
pub all_zero_keep : (arc : ℕ → ℕ → Option ℤ) (labels : List ℤ) → ((v : ℕ) → label_in labels v ≡ pos 0)
    → KeepsArcs arc (λ _. pos 0) → KeepsArcs arc (label_in labels)
all_zero_keep arc labels zero keeps u v cost is = let kept : pos 0 ≤ℤ (pos 0 +ℤ cost) = keeps u v cost is in
    omega (arith, ints, kept, zero u, zero v)

pub all_zero_near : (labels : List ℤ) → ((v : ℕ) → label_in labels v ≡ pos 0) → AreNear most_label labels
all_zero_near labels zero v inside = record { low = omega (arith, ints, zero v); high = omega (arith, ints, zero v) }
