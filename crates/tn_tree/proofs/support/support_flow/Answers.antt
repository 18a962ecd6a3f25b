-- What shows the clauses of `support_flow` of `src/support.rt`.
use Rattle.std.proofs.Common.{rules, suc, ◌-◌, ◌∙◌, List, ℕ, ap, get_or, length, subst, sym, arith}
use Rattle.std.specs.Prelude.{All, ◌<◌}
use Rattle.std.proofs.lemmas.Int.{to_z-of_z}
use mir.Syntax.{w128}
use mir.Val.{SFits}
use Rattle.tn_counts.specs.Tree.{null_node, sold_at}
use Rattle.tn_tree.specs.Steps.{entered}
use Rattle.tn_tree.specs.Supports.{AreGain}
use Rattle.tn_tree.proofs.SolveLemmas.{labels_small}
use Rattle.tn_tree.proofs.SupportLemmas.{gains, inside_of, supports}
use Rattle.tn_tree.proofs.support.support_flow.Goals as goal

pub prices_by-requires-clause-small : goal.prices_by-requires-clause-small
prices_by-requires-clause-small c =
    labels_small c.args.links.now.nodes c.args.links.now.nodes c.args.links.now.links.items c.args.levels.now
    c.unit_labels.new.finder.labels c.args.links.now.plain c.args.links.now.few_nodes c.in-Feasible.ensures.answer.1

pub returns-in-Feasible : goal.returns-in-Feasible
returns-in-Feasible c =
    let nodes = c.requires.nodes in
    supports c.args.market.now c.args.links.now.links.items c.args.levels.now c.unit_labels.new.finder.labels
    c.args.links.now.nodes c.in_ok-prices_by-in-Feasible.field-0.items c.requires.market c.requires.links c.requires.kept
    c.in-Feasible.ensures.answer.1 (omega (arith, nodes)) c.in_ok-prices_by-in-Feasible.ensures

pub steps_round-requires-clause-inside : goal.steps_round-requires-clause-inside
steps_round-requires-clause-inside c =
    subst (All (λ v. v < suc (null_node c.args.market.now))) (sym c.listed.ensures)
    (inside_of c.args.market.now c.args.links.now.links.items c.args.levels.now c.unit_labels.new.finder.listed
    c.args.links.now.nodes c.in-Negative.length c.in-Negative.cost c.requires.market c.requires.links c.requires.kept
    c.in-Negative.ensures.answer.0)

pub returns : goal.returns
returns c =
    let found = gains c.args.market.now c.args.links.now.links.items c.args.levels.now c.unit_labels.new.finder.listed
    c.args.links.now.nodes c.in-Negative.length c.in-Negative.cost c.in_ok-steps_round-in-Negative.field-0.items
    c.requires.market c.requires.links c.requires.kept c.in-Negative.ensures.answer.0
    (c.in_ok-steps_round-in-Negative.ensures
    ∙ ap (λ (xs : List ℕ). entered c.args.market.now (get_or xs (length xs - 1) 0) xs) c.listed.ensures) in
    let fits : SFits w128 c.in-Negative.cost = search rules in (
      subst (AreGain c.args.market.now (sold_at c.args.market.now c.args.levels.now)
          c.in_ok-steps_round-in-Negative.field-0.items) (sym (to_z-of_z w128 c.in-Negative.cost fits)) found.0,
      found.1,
    )
