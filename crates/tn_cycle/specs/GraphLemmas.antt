-- That graphs made from a graph have arcs between their nodes, and small costs.
use Rattle.std.proofs.Common.{◌≡◌, ℕ, ◌+◌, ◌<◌, refl, arith, ℤ, pos, Option, Some, None, Bool, true, false, ◌&&◌, ◌==◌, if◌then◌else◌, nat_lt}
use Rattle.std.proofs.lemmas.Int.{ints}
use Rattle.std.proofs.lemmas.Bool.{ltb-true, eqb-true}
use Rattle.std.proofs.lemmas.Option.{none-some, same_Some}
use Rattle.tn_base.specs.Arcs.{AreBetweenNodes, AreSmall, IsAtMost}
use Rattle.tn_base.specs.Walks.{arcs_among}
use Rattle.tn_cycle.specs.Graphs.{with_sink, turned}

-- a number that is there only under a test
pub some_if : (b : Bool) (o : Option ℤ) (z : ℤ) → (if b then o else None) ≡ Some z → (b ≡ true) × (o ≡ Some z)
some_if true o z e = (refl, e)
some_if false o z e = absurd (none-some z e)

pub between-arcs_among : (test : ℕ → Bool) (nodes : ℕ) (arc : ℕ → ℕ → Option ℤ) → AreBetweenNodes nodes arc
    → AreBetweenNodes nodes (arcs_among test arc)
between-arcs_among test nodes arc between a b cost e = between a b cost (some_if (test a && test b) (arc a b) cost e).1

pub small-arcs_among : (test : ℕ → Bool) (limit : ℕ) (arc : ℕ → ℕ → Option ℤ) → AreSmall arc limit
    → AreSmall (arcs_among test arc) limit
small-arcs_among test limit arc small a b cost e = small a b cost (some_if (test a && test b) (arc a b) cost e).1

pub between-turned : (nodes : ℕ) (arc : ℕ → ℕ → Option ℤ) → AreBetweenNodes nodes arc
    → AreBetweenNodes nodes (turned arc)
between-turned nodes arc between a b cost e = let two = between b a cost e in (two.1, two.0)

pub small-turned : (limit : ℕ) (arc : ℕ → ℕ → Option ℤ) → AreSmall arc limit → AreSmall (turned arc) limit
small-turned limit arc small a b cost e = small b a cost e

pub between-with_sink : (nodes : ℕ) (arc : ℕ → ℕ → Option ℤ) → AreBetweenNodes nodes arc
    → AreBetweenNodes (nodes + 1) (with_sink nodes arc)
between-with_sink nodes arc between a b cost e =
    let inside = some_if (nat_lt a nodes) (if b == nodes then Some (pos 0) else arc a b) cost e in
    let first : a < nodes = ltb-true a nodes inside.0 in
    (omega (arith, first), by (b == nodes) refl inside.1)
  where
    by : (t : Bool) → (b == nodes) ≡ t → (if t then Some (pos 0) else arc a b) ≡ Some cost → b < nodes + 1
    by true same q = let s : b ≡ nodes = eqb-true b nodes same in omega (arith, s)
    by false other q = let s : b < nodes = (between a b cost q).1 in omega (arith, s)

pub small-with_sink : (nodes limit : ℕ) (arc : ℕ → ℕ → Option ℤ) → AreSmall arc limit
    → AreSmall (with_sink nodes arc) limit
small-with_sink nodes limit arc small a b cost e =
    by (b == nodes) (some_if (nat_lt a nodes) (if b == nodes then Some (pos 0) else arc a b) cost e).1
  where
    by : (t : Bool) → (if t then Some (pos 0) else arc a b) ≡ Some cost → IsAtMost cost limit
    by true q = let s : pos 0 ≡ cost = same_Some (pos 0) cost q in
        record { low = omega (arith, ints, s); high = omega (arith, ints, s) }
    by false q = small a b cost q
