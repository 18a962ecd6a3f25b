-- What shows the clauses of `none_of` of `src/drops.rt`.
use Rattle.std.proofs.Common.{refl}
use Rattle.tn_tree.proofs.ListLemmas.{items_more}
use Rattle.tn_unit_judge.proofs.drops.none_of.Goals as goal

pub loop-preserved : goal.loop-preserved
loop-preserved c =
    items_more (λ t. 0) c.loop.numbers.items c.push.new.self.items 0 c.loop.counter c.in_ok-push.ensures.items
    c.loop.invariant refl
