-- What shows the clauses of `add_set_levels` of `src/flow.rt`.
use Rattle.tn_tree.specs.Levels.{set_level}
use Rattle.tn_tree.proofs.ListLemmas.{append_more}
use Rattle.tn_tree.proofs.flow.add_set_levels.Goals as goal

pub loop-i-preserved : goal.loop-i-preserved
loop-i-preserved c =
    append_more (set_level c.args.market.now c.args.nets.now) c.args.levels.now.items c.loop-i.levels.items
    c.push.new.self.items c.set_level.result c.loop-i.i c.in_ok-push.ensures.items c.loop-i.invariant c.set_level.ensures
