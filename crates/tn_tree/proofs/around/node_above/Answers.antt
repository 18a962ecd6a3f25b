-- What shows the clauses of `node_above` of `src/around.rt`.
use Rattle.std.proofs.Common.{◌≡◌, ◌<◌, length, refl, sym, ◌∙◌, subst, arith}
use Rattle.std.proofs.lemmas.Bool.{eqb-true, eqb-false}
use Rattle.std.proofs.lemmas.Option.{same_Some, slice_get_read}
use Rattle.tn_counts.specs.Tree.{node_above}
use Rattle.tn_counts.specs.declared.set.CountSet.{CountSet}
use Rattle.tn_tree.proofs.AroundLemmas.{above_first, above_none}
use Rattle.tn_tree.proofs.around.node_above.Goals as goal

pub root_node-root-requires-clause-known : goal.root_node-root-requires-clause-known
root_node-root-requires-clause-known c =
    let at = slice_get_read c.args.market.now.sets.items (length c.args.market.now.sets.items) c.args.i
    c.index-set.result.now refl c.requires.inside c.index-set.ensures in
    (c.requires.market.each c.args.i c.index-set.result.now at).known

pub returns-then-is_empty : goal.returns-then-is_empty
returns-then-is_empty c set at =
    let here = slice_get_read c.args.market.now.sets.items (length c.args.market.now.sets.items) c.args.i
    c.index-set.result.now refl c.requires.inside c.index-set.ensures in
    let same = same_Some c.index-set.result.now set (sym here ∙ at) in
    let sized = c.index-set.result.now.members.ok.0 in
    let none = eqb-true c.index-set.result.now.members.len 0 (sym c.is_empty.ensures ∙ c.if-is_empty.true) in
    c.root_node-root.ensures
    ∙ above_none c.args.market.now c.args.i c.index-set.result.now.firm c.index-set.result.now.members.items
    (omega (arith, sized, none))
    ∙ subst (λ (s : CountSet). node_above c.args.market.now c.args.i c.index-set.result.now.firm
    c.index-set.result.now.members.items ≡ node_above c.args.market.now c.args.i s.firm s.members.items) same refl

pub returns : goal.returns
returns c set at =
    let here = slice_get_read c.args.market.now.sets.items (length c.args.market.now.sets.items) c.args.i
    c.index-set.result.now refl c.requires.inside c.index-set.ensures in
    let same = same_Some c.index-set.result.now set (sym here ∙ at) in
    let sized = c.index-set.result.now.members.ok.0 in
    let some : 0 < length c.index-set.result.now.members.items = omega (
      arith,
      sized,
      eqb-false c.index-set.result.now.members.len 0 (sym c.is_empty.ensures ∙ c.if-is_empty.false),
    ) in
    let own = above_first c.args.market.now c.args.i c.index-set.result.now.firm c.index-set.result.now.members.items
    c.deref.result.now c.index.result.now c.root_node-root.result c.first_from.result c.first_from.ensures
    c.deref.ensures.value c.root_node-root.ensures c.index.ensures some in
    subst (λ (s : CountSet). c.first_from.result ≡ node_above c.args.market.now c.args.i s.firm s.members.items) same own
