-- What shows the clauses of `support_beside` of `src/pinned.rt`.
use Rattle.std.proofs.Common.{◌≡◌, List, ℕ, length, subst, arith}
use Rattle.tn_links.specs.Lots.{link_arc}
use Rattle.tn_cycle.specs.Answers.{AreLabels, IsNegative}
use Rattle.tn_counts.specs.Tree.{trade_node}
use Rattle.tn_tree.specs.Lists.{count_in}
use Rattle.tn_tree.specs.Pinned.{MarksTrades}
use Rattle.tn_tree.proofs.BesideLemmas.{negative_beside}
use Rattle.tn_tree.proofs.PinnedLemmas.{labels_beside}
use Rattle.tn_tree.proofs.SolveLemmas.{labels_small}
use Rattle.tn_tree.proofs.pinned.support_beside.Goals as goal

pub prices_by-requires-clause-small : goal.prices_by-requires-clause-small
prices_by-requires-clause-small c =
    labels_small c.in_ok-links.links.nodes c.in_ok-links.links.nodes c.in_ok-links.links.links.items c.deref.result.now
    c.unit_labels.new.finder.labels c.in_ok-links.links.plain c.in_ok-links.links.few_nodes c.in-Feasible.ensures.answer.1

pub returns-in-Feasible : goal.returns-in-Feasible
returns-in-Feasible c =
    let nodes = c.in_ok-links.ensures.nodes in
    labels_beside c.args.market.now c.args.pins.now c.in_ok-links.links.links.items c.in_ok-levels.levels.items
    c.unit_labels.new.finder.labels c.in_ok-links.links.nodes _ c.in_ok-prices_by-in-Feasible.field-0.items
    c.requires.market c.requires.pins c.in_ok-links.ensures.links c.in_ok-levels.ensures.kept c.in_ok-levels.ensures.counts
    (subst (λ (xs : List ℕ). AreLabels c.in_ok-links.links.nodes (link_arc c.in_ok-links.links.links.items xs 1)
    c.unit_labels.new.finder.labels) c.deref.ensures.value c.in-Feasible.ensures.answer.1) (omega (arith, nodes))
    c.in_ok-prices_by-in-Feasible.ensures

-- the marks of the nodes that are listed, of all trades
marks_by : (first place trades count : ℕ) (lent listed passed : List ℕ) → place ≡ first → count ≡ trades → lent ≡ listed
    → MarksTrades place count lent passed → MarksTrades first trades listed passed
marks_by first place trades count lent listed passed at sized same marks =
    subst (λ (xs : List ℕ). MarksTrades first trades xs passed) same
    (subst (λ (n : ℕ). MarksTrades first n lent passed) sized
    (subst (λ (n : ℕ). MarksTrades n count lent passed) at marks))

pub returns : goal.returns
returns c =
    let sized = c.args.market.now.trades.ok.0 in
    let count = c.len-in-Negative.ensures in
    negative_beside c.args.market.now c.args.pins.now c.in_ok-links.links.links.items c.in_ok-levels.levels.items
    c.unit_labels.new.finder.listed c.in_ok-marked-in-Negative.field-0.items c.in_ok-links.links.nodes c.in-Negative.length
    c.in-Negative.cost (count_in c.args.counts.now) c.requires.market c.requires.pins c.in_ok-links.ensures.links
    c.in_ok-levels.ensures.kept c.in_ok-levels.ensures.counts
    (subst (λ (xs : List ℕ). IsNegative c.in_ok-links.links.nodes (link_arc c.in_ok-links.links.links.items xs 1)
    c.unit_labels.new.finder.listed c.in-Negative.cost c.in-Negative.length) c.deref.ensures.value
    c.in-Negative.ensures.answer.0)
    (marks_by (trade_node c.args.market.now 0) c.trade_node.result (length c.args.market.now.trades.items)
    c.len-in-Negative.result c.listed.result.now c.unit_labels.new.finder.listed
    c.in_ok-marked-in-Negative.field-0.items c.trade_node.ensures (omega (arith, sized, count)) c.listed.ensures
    c.in_ok-marked-in-Negative.ensures)
