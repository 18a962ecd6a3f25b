-- What shows the clauses of `add_pin_levels` of `src/flow.rt`.
use Rattle.std.proofs.Common.{refl}
use Rattle.tn_counts.specs.Widths.{unbounded}
use Rattle.tn_tree.proofs.ListLemmas.{append_more}
use Rattle.tn_tree.proofs.flow.add_pin_levels.Goals as goal

pub loop-preserved : goal.loop-preserved
loop-preserved c =
    append_more (λ k. unbounded) c.args.levels.now.items c.loop.levels.items c.push.new.self.items unbounded c.loop.counter
    c.in_ok-push.ensures.items c.loop.invariant refl
