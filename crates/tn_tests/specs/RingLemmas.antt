-- What the ring of the tests needs for its impl: arcs between nodes, and small costs.
use Rattle.std.proofs.Common.{◌≡◌, ℕ, ◌+◌, arith, Bool, true, false, ◌&&◌, ◌==◌, nat_lt, if◌then◌else◌, ℤ, pos, Some, None}
use Rattle.std.specs.Prelude.{negsuc}
use Rattle.std.proofs.lemmas.Int.{ints}
use Rattle.std.proofs.lemmas.Bool.{and_parts, ltb-true}
use Rattle.std.proofs.lemmas.Option.{same_Some}
use Rattle.tn_base.specs.Arcs.{AreBetweenNodes, AreSmall, IsAtMost}
use Rattle.tn_base.specs.Widths.{most_cost}
use Rattle.tn_cycle.specs.GraphLemmas.{some_if}
use Rattle.tn_tests.specs.Ring.{ring}

pub between-ring : (nodes : ℕ) (gains : Bool) → AreBetweenNodes nodes (ring nodes gains)
between-ring nodes gains a b cost e =
    let inside = and_parts (nat_lt a nodes) (nat_lt b nodes) (some_if (nat_lt a nodes && nat_lt b nodes) _ cost e).0 in
    (ltb-true a nodes inside.0, ltb-true b nodes inside.1)

pub small-ring : (nodes : ℕ) (gains : Bool) → AreSmall (ring nodes gains) most_cost
small-ring nodes gains a b cost e =
    by (b == a + 1) (b == 0 && a + 1 == nodes) gains (some_if (nat_lt a nodes && nat_lt b nodes) _ cost e).1
  where
    at_most : (z : ℤ) → z ≡ cost → IsAtMost z most_cost → IsAtMost cost most_cost
    at_most z s small = record { low = omega (arith, ints, s, small.low); high = omega (arith, ints, s, small.high) }

    by : (next last gain : Bool) → (if next then Some (pos 2)
        else (if last then Some (if gain then negsuc 9 else pos 1) else None)) ≡ Some cost → IsAtMost cost most_cost
    by true last gain q =
        at_most (pos 2) (same_Some (pos 2) cost q) (record { low = omega (arith, ints); high = omega (arith, ints) })
    by false true true q =
        at_most (negsuc 9) (same_Some (negsuc 9) cost q) (record {
          low = omega (arith, ints);
          high =
              omega (arith, ints);
        })
    by false true false q =
        at_most (pos 1) (same_Some (pos 1) cost q) (record { low = omega (arith, ints); high = omega (arith, ints) })
    by false false gain q = absurd (cc)
