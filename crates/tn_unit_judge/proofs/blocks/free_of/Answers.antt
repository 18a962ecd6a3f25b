-- What shows the clauses of `free_of` of `src/blocks.rt`.
use Rattle.tn_tree.proofs.ListLemmas.{items_more}
use Rattle.tn_unit_judge.specs.Blocks.{free_one}
use Rattle.tn_unit_judge.proofs.blocks.free_of.Goals as goal

pub loop-t-preserved : goal.loop-t-preserved
loop-t-preserved c =
    items_more (free_one c.args.signed c.args.passed.now c.args.unsigned.now) c.loop-t.free.items c.push.new.self.items
    c.min.result c.loop-t.t c.in_ok-push.ensures.items c.loop-t.invariant c.min.ensures
