-- What shows the clauses of `firm_counts` of `src/held.rt`.
use Rattle.std.proofs.Common.{get_or, None}
use Rattle.tn_tree.specs.Held.{firm_count}
use Rattle.tn_tree.proofs.ListLemmas.{items_more}
use Rattle.tn_tree.proofs.held.firm_counts.Goals as goal

pub firm_count-requires-clause-utility : goal.firm_count-requires-clause-utility
firm_count-requires-clause-utility c = λ value is. c.requires.utilities c.loop-f.f value is

pub firm_count-requires-clause-best : goal.firm_count-requires-clause-best
firm_count-requires-clause-best c = λ value is. c.requires.bests c.loop-f.f value is

pub loop-f-preserved : goal.loop-f-preserved
loop-f-preserved c =
    items_more (λ f. firm_count (get_or c.args.worths.now f None) (get_or c.args.utilities.now f None)
    (get_or c.args.bests.now f None)) c.loop-f.firms.items c.push.new.self.items c.firm_count.result c.loop-f.f
    c.in_ok-push.ensures.items c.loop-f.invariant c.firm_count.ensures
