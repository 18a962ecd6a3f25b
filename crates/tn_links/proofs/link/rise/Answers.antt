-- What shows the clauses of `rise` of `src/link.rt`.
use Rattle.std.proofs.Common.{◌≡◌, ◌≤◌, ◌-◌, ◌+◌, ◌∙◌, ap, sym, pos, ◌+ℤ◌, arith, get_or, drop, min, ℕ, ℤ}
use Rattle.std.specs.Prelude.{◌*ℤ◌}
use Rattle.std.proofs.lemmas.Int.{ints, to_z-of_z}
use mir.Syntax.{w64}
use mir.Val.{SFits}
use Rattle.tn_links.specs.Links.{rise}
use Rattle.tn_links.specs.RiseLemmas.{rise_more, slight_at, times_small}
use Rattle.tn_links.specs.Widths.{most_each}
use Rattle.tn_links.proofs.link.rise.Goals as goal

pub added-sum-requires : goal.added-sum-requires
added-sum-requires c =
    let small = slight_at c.args.steps.now c.loop-step.step-index (record { units = 0; each = pos 0 }) c.requires
    c.loop-step-test.true in
    record { low = omega (arith, ints, small.low, small.high); high = omega (arith, ints, small.low, small.high) }

pub overflow_add-sum : goal.overflow_add-sum
overflow_add-sum c =
    let step = get_or c.args.steps.now c.loop-step.step-index (record { units = 0; each = pos 0 }) in
    let small = slight_at c.args.steps.now c.loop-step.step-index (record { units = 0; each = pos 0 }) c.requires
    c.loop-step-test.true in
    let fits : SFits w64 step.each = omega (arith, ints, small.low, small.high) in
    let sum = simp to_z-of_z at c.added-sum.ensures in
    let own = times_small step.each c.min-part.result most_each small in
    let part : c.min-part.result ≤ c.args.units = omega (arith, c.min-part.ensures, c.loop-step.invariant.fewer) in
    omega (
      arith,
      ints,
      sum,
      own.low,
      own.high,
      part,
      c.ranges.units.fits,
      c.loop-step.invariant.small.low,
      c.loop-step.invariant.small.high,
    )

pub loop-step-preserved : goal.loop-step-preserved
loop-step-preserved c =
    let step = get_or c.args.steps.now c.loop-step.step-index (record { units = 0; each = pos 0 }) in
    let small = slight_at c.args.steps.now c.loop-step.step-index (record { units = 0; each = pos 0 }) c.requires
    c.loop-step-test.true in
    let fits : SFits w64 step.each = omega (arith, ints, small.low, small.high) in
    let sum = simp to_z-of_z at c.added-sum.ensures in
    let own = times_small step.each c.min-part.result most_each small in
    let less : c.min-part.result ≤ c.loop-step.left = omega (arith, c.min-part.ensures) in
    let fewer = c.loop-step.invariant.fewer in
    let more = rise_more c.args.steps.now c.loop-step.step-index c.loop-step.left (record { units = 0; each = pos 0 })
    c.loop-step.sum (rise c.args.steps.now c.args.units) c.loop-step-test.true
    (c.loop-step.invariant.rise ∙ ap (λ (z : ℤ). z +ℤ rise (drop c.loop-step.step-index c.args.steps.now) c.loop-step.left)
    c.loop-step.sum-is) in
    let same : step.each *ℤ pos (min c.loop-step.left step.units) ≡ step.each *ℤ pos c.min-part.result =
    ap (λ (k : ℕ). step.each *ℤ pos k) (sym c.min-part.ensures) in
    let rest : rise (drop (c.loop-step.step-index + 1) c.args.steps.now) (c.loop-step.left - min c.loop-step.left step.units)
    ≡ rise (drop (c.loop-step.step-index + 1) c.args.steps.now) (c.loop-step.left - c.min-part.result) =
    ap (λ (k : ℕ). rise (drop (c.loop-step.step-index + 1) c.args.steps.now) (c.loop-step.left - k)) (sym c.min-part.ensures)
    in
    let low = c.loop-step.invariant.small.low in
    let high = c.loop-step.invariant.small.high in
    record {
      fewer = omega (arith, fewer);
      rise = omega (
        arith,
        ints,
        more,
        same,
        rest,
        sum,
        own.low,
        own.high,
        less,
        fewer,
        low,
        high,
        c.ranges.units.fits,
        c.loop-step.sum-is,
      );
      small = record {
        low = omega (arith, ints, sum, own.low, own.high, less, fewer, low, high, c.ranges.units.fits);
        high = omega (arith, ints, sum, own.low, own.high, less, fewer, low, high, c.ranges.units.fits);
      };
    }
