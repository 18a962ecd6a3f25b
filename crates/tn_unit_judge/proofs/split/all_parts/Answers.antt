-- What shows the clauses of `all_parts` of `src/split.rt`.
use Rattle.std.proofs.Common.{map}
use Rattle.tn_counts.specs.Outcomes.{units_of}
use Rattle.tn_tree.specs.Lists.{count_in}
use Rattle.tn_tree.proofs.ListLemmas.{append_more}
use Rattle.tn_unit_judge.proofs.split.all_parts.Goals as goal

pub loop-t-preserved : goal.loop-t-preserved
loop-t-preserved c =
    append_more (λ t. units_of c.args.trades.now t (count_in c.args.free.now t))
    (map (λ contract. units_of c.args.trades.now contract.trade contract.units) c.args.contracts.now)
    c.loop-t.parts.items c.push.new.self.items c.part_of.result c.loop-t.t c.in_ok-push.ensures.items c.loop-t.invariant
    c.part_of.ensures
