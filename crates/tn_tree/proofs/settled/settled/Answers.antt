-- What shows the clauses of `settled` of `src/settled.rt`.
use Rattle.std.proofs.Common.{length, drop, sym, subst, arith}
use Rattle.tn_cycle.specs.Answers.{AreLabels}
use Rattle.tn_links.specs.Flows.{IsKeptFlow}
use Rattle.tn_links.specs.Lots.{link_arc}
use Rattle.tn_tree.proofs.ListLemmas.{take_whole}
use Rattle.tn_tree.proofs.settled.settled.Goals as goal

pub returns-clause-kept : goal.returns-clause-kept
returns-clause-kept c =
    let new_sized = c.settle_near.ensures.kept.one_each in
    let old_sized = c.in_ok-levels.ensures.one_each in
    let len_is = c.in_ok-levels.levels.ok.0 in
    subst (IsKeptFlow c.args.links.now.links.items)
    (sym (take_whole c.settle_near.new.levels (drop (length c.settle_near.new.levels) c.in_ok-levels.levels.items)
    c.in_ok-levels.levels.len (omega (arith, new_sized, old_sized, len_is)))) c.settle_near.ensures.kept

pub returns-clause-labelled : goal.returns-clause-labelled
returns-clause-labelled c =
    let new_sized = c.settle_near.ensures.kept.one_each in
    let old_sized = c.in_ok-levels.ensures.one_each in
    let len_is = c.in_ok-levels.levels.ok.0 in
    subst (λ levels. AreLabels c.args.nodes (link_arc c.args.links.now.links.items levels 1) c.settle_near.new.finder.labels)
    (sym (take_whole c.settle_near.new.levels (drop (length c.settle_near.new.levels) c.in_ok-levels.levels.items)
    c.in_ok-levels.levels.len (omega (arith, new_sized, old_sized, len_is))))
    (subst (λ n. AreLabels n (link_arc c.args.links.now.links.items c.settle_near.new.levels 1) c.settle_near.new.finder.labels)
    c.requires.sized c.settle_near.ensures.settled)
