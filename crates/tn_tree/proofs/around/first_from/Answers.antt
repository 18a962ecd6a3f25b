-- What shows the clauses of `first_from` of `src/around.rt`.
use Rattle.std.proofs.Common.{sym, ◌∙◌, arith}
use Rattle.tn_tree.proofs.AroundLemmas.{first_skips}
use Rattle.tn_tree.proofs.around.first_from.Goals as goal

pub loop-i-preserved : goal.loop-i-preserved
loop-i-preserved c = record {
  from = omega arith;
  same = c.loop-i.invariant.same
      ∙ first_skips c.args.sets.now c.args.firm c.args.trade c.args.root c.loop-i.i c.index-sets-i.result
      c.loop-i-test.true c.index-sets-i.is (sym c.is_around.ensures ∙ c.if-is_around.false);
}
