-- What shows the clauses of `cycle_kept` of `src/kept_cycles.rt`.
use Rattle.std.proofs.Common.{arith}
use Rattle.std.proofs.lemmas.Int.{ints}
use Rattle.tn_cycle.proofs.kept_cycles.cycle_kept.Goals as goal

pub returns-in-All-clause-near : goal.returns-in-All-clause-near
returns-in-All-clause-near g c reach near v inside =
    let far = c.find_kept.ensures.near reach near v inside in
    let sized = c.args.looked.now.among.last in
    record {
      low = omega (arith, ints, far.low, sized, c.requires.labels_sized);
      high = omega (arith, ints, far.high, sized, c.requires.labels_sized);
    }
