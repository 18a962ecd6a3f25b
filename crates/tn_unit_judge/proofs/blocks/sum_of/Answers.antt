-- What shows the clauses of `sum_of` of `src/blocks.rt`.
use Rattle.std.proofs.Common.{refl, arith}
use Rattle.tn_unit_judge.proofs.OfferLemmas.{sum_first, sum_more}
use Rattle.tn_unit_judge.proofs.blocks.sum_of.Goals as goal

pub loop-t-init : goal.loop-t-init
loop-t-init c = (sum_first c.args.units.now, omega arith)

pub loop-t-preserved : goal.loop-t-preserved
loop-t-preserved c =
    let single = c.requires.single c.loop-t.t in
    let most = c.loop-t.invariant.1 in (
      sum_more c.args.units.now c.loop-t.t c.loop-t.sum _ refl c.loop-t.invariant.0,
      omega (arith, single, most),
    )
