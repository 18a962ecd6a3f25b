-- What shows the clauses of `levels_from` of `src/solve.rt`.
use Rattle.std.proofs.Common.{◌+◌, get_or, refl}
use Rattle.tn_tree.proofs.ListLemmas.{items_more}
use Rattle.tn_tree.proofs.solve.levels_from.Goals as goal

pub loop-t-preserved : goal.loop-t-preserved
loop-t-preserved c =
    items_more (λ t. get_or c.args.levels.now (c.args.place + t) 0) c.loop-t.counts.items c.push.new.self.items
    (get_or c.args.levels.now (c.args.place + c.loop-t.t) 0) c.loop-t.t c.in_ok-push.ensures.items c.loop-t.invariant refl
