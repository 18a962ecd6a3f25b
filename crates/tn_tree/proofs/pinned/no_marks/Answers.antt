-- What shows the clauses of `no_marks` of `src/pinned.rt`.
use Rattle.std.proofs.Common.{refl}
use Rattle.tn_tree.proofs.ListLemmas.{items_more}
use Rattle.tn_tree.proofs.pinned.no_marks.Goals as goal

pub loop-preserved : goal.loop-preserved
loop-preserved c =
    items_more (λ t. 0) c.loop.passed.items c.push.new.self.items 0 c.loop.counter c.in_ok-push.ensures.items
    c.loop.invariant refl
