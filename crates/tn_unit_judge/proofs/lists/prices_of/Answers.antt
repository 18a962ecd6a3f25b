-- What shows the clauses of `prices_of` of `src/lists.rt`.
use Rattle.std.proofs.Common.{map, pos, refl}
use Rattle.tn_tree.proofs.ListLemmas.{append_more}
use Rattle.tn_unit_judge.proofs.lists.prices_of.Goals as goal

pub loop-preserved : goal.loop-preserved
loop-preserved c =
    append_more (λ t. pos 0) (map (λ contract. contract.price) c.args.contracts.now) c.loop.prices.items
    c.push.new.self.items (pos 0) c.loop.counter c.in_ok-push.ensures.items c.loop.invariant refl
