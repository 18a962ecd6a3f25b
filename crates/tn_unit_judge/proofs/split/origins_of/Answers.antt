-- What shows the clauses of `origins_of` of `src/split.rt`.
use Rattle.std.proofs.Common.{map, refl}
use Rattle.tn_tree.proofs.ListLemmas.{append_more}
use Rattle.tn_unit_judge.proofs.split.origins_of.Goals as goal

pub loop-t-preserved : goal.loop-t-preserved
loop-t-preserved c =
    append_more (λ t. t) (map (λ contract. contract.trade) c.args.contracts.now) c.loop-t.from.items c.push.new.self.items
    c.loop-t.t c.loop-t.t c.in_ok-push.ensures.items c.loop-t.invariant refl
