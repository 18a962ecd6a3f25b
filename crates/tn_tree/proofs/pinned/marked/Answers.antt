-- What shows the clauses of `marked` of `src/pinned.rt`.
use Rattle.std.proofs.Common.{refl, arith}
use Rattle.tn_tree.proofs.BesideLemmas.{none_marked}
use Rattle.tn_tree.proofs.SolveLemmas.{sized_by}
use Rattle.tn_tree.proofs.pinned.marked.Goals as goal

pub loop-node-init : goal.loop-node-init
loop-node-init c = record {
  sized = sized_by (λ t. 0) c.in_ok-passed.passed.items c.args.trades c.args.trades c.in_ok-passed.ensures refl;
  single = λ t. none_marked c.in_ok-passed.passed.items c.args.trades t c.in_ok-passed.ensures;
  own = λ t i below none same. absurd (omega (arith, none));
}
