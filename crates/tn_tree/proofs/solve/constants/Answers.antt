-- What shows the clauses of `constants` of `src/solve.rt`.
use Rattle.std.proofs.Common.{length, arith, refl}
use Rattle.std.proofs.lemmas.Int.{ints, to_z-of_z}
use Rattle.std.proofs.lemmas.Option.{slice_get_read}
use mir.Syntax.{w64}
use mir.Val.{SFits}
use Rattle.tn_tree.proofs.ConstantLemmas.{constants_more}
use Rattle.tn_tree.proofs.solve.constants.Goals as goal

pub loop-set-preserved : goal.loop-set-preserved
loop-set-preserved c =
    let set = c.set-item.result in
    let at = slice_get_read c.args.sets.now (length c.args.sets.now) c.loop-set.set-index set refl c.loop-set-test.true
    c.set-item.is in
    let small = c.requires.small c.loop-set.set-index set at in
    let fits : SFits w64 set.constant = omega (arith, ints, small.low, small.high) in
    let own = simp to_z-of_z at c.from-sum.ensures in
    let more = constants_more c.args.sets.now c.loop-set.set-index set c.loop-set-test.true c.set-item.is in
    let before = c.loop-set.invariant in
    let few = c.requires.few in
    record {
      sum = omega (arith, ints, before.sum, more, own, small.low, small.high, before.small.low, before.small.high, few);
      small = record {
        low = omega (arith, ints, own, small.low, small.high, before.small.low, before.small.high, few);
        high = omega (arith, ints, own, small.low, small.high, before.small.low, before.small.high, few);
      };
    }
