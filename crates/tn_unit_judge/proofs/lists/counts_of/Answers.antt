-- What shows the clauses of `counts_of` of `src/lists.rt`.
use Rattle.std.proofs.Common.{map, refl}
use Rattle.tn_tree.proofs.ListLemmas.{append_more}
use Rattle.tn_unit_judge.proofs.lists.counts_of.Goals as goal

pub loop-preserved : goal.loop-preserved
loop-preserved c =
    append_more (λ t. 0) (map (λ contract. contract.units) c.args.contracts.now) c.loop.counts.items c.push.new.self.items 0
    c.loop.counter c.in_ok-push.ensures.items c.loop.invariant refl
