-- What shows the clauses of `set_end` of `src/nets.rt`.
use Rattle.std.proofs.Common.{◌∙◌, sym, ap}
use Rattle.std.specs.Prelude.{Option}
use Rattle.std.proofs.lemmas.Option.{slice_get_within}
use Rattle.tn_counts.specs.Tree.{LinkShape, set_shape}
use Rattle.tn_counts.specs.declared.set.CountSet.{CountSet}
use Rattle.tn_counts.proofs.ClimbLemmas.{above_in}
use Rattle.tn_counts.proofs.PlaceLemmas.{item_at, shaped_at}
use Rattle.tn_tree.proofs.nets.set_end.Goals as goal

pub ends-requires : goal.ends-requires
ends-requires c =
    let found = item_at c.args.market.now.sets.items c.args.i c.requires.known in
    let there = shaped_at c.args.links.now.links.items c.args.i (set_shape c.args.market.now c.args.i found.0)
    (c.requires.tree.sets c.args.i found.0 found.1) in
    slice_get_within c.args.links.now.links.items c.args.i there.link there.is

pub returns-clause-node : goal.returns-clause-node
returns-clause-node c =
    let found = item_at c.args.market.now.sets.items c.args.i c.requires.known in
    let there = shaped_at c.args.links.now.links.items c.args.i (set_shape c.args.market.now c.args.i found.0)
    (c.requires.tree.sets c.args.i found.0 found.1) in
    (c.ends.ensures.ends there.link there.is).1
    ∙ ap (λ (s : LinkShape). s.head) there.shape_is
    ∙ sym (ap (λ (o : Option CountSet). above_in c.args.market.now c.args.i o) found.1)
