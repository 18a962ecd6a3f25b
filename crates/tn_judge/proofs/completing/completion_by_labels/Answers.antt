-- What shows the clauses of `completion_by_labels` of `src/completing.rt`.
use Rattle.std.proofs.Common.{rules, ◌≡◌, ◌+◌, ℤ, length, map, sym, subst, arith}
use Rattle.std.proofs.lemmas.Int.{to_z-of_z}
use mir.Syntax.{w128}
use mir.Val.{SFits}
use Rattle.tn_graph.specs.Blocks.{arcs_of}
use Rattle.tn_cycle.specs.Answers.{AreLabels, IsNegative}
use Rattle.tn_market.specs.Signed.{signed}
use Rattle.tn_outcome_laws.proofs.SignedLemmas.{signed_within}
use Rattle.tn_residual.proofs.MakingLemmas.{outcome_feasible}
use Rattle.tn_judge.specs.Fixing.{raised_fixed, ArePriced, CanBeFixed}
use Rattle.tn_judge.proofs.CompletionLemmas.{possible_outcome, can_be_fixed, labels_small, labels_complete, cycle_incomplete}
use Rattle.tn_judge.proofs.completing.completion_by_labels.Goals as goal

pub node_prices-requires : goal.node_prices-requires
node_prices-requires g c = record {
  known = λ t there.
      let below = signed_within c.args.market.now.trades c.args.outcome.now.contracts
      (outcome_feasible c.args.market.now.trades c.args.outcome.now.over c.args.outcome.now.contracts
      c.requires.outcome) t there in
      let count = c.trades-null.ensures.count in
      omega (arith, below, count);
}

pub invariant_of-fixed : goal.invariant_of-fixed
invariant_of-fixed g c =
    let over : SFits w128 c.args.outcome.now.over = search rules in
    record {
      fits = subst (λ (z : ℤ). CanBeFixed c.args.graph.now z c.trades-null.result c.deref.result.now)
          (sym (to_z-of_z w128 c.args.outcome.now.over over))
          (can_be_fixed g.V.Valuation.firm g.V.Valuation.limit c.args.market.now c.args.outcome.now.over
          c.args.outcome.now.contracts c.trades-null.ensures.network
          (λ v. (g.met.V.Valuation.lawful v).within) c.requires.limits c.requires.outcome
          (signed (length c.args.market.now.trades) c.args.outcome.now.contracts)
          c.args.graph.now c.requires.graph c.trades-null.result c.trades-null.ensures.count c.deref.result.now
          (subst (ArePriced c.args.outcome.now.contracts (c.trades-null.result + 1)) (sym c.deref.ensures.value)
          c.in_ok-prices.ensures));
    }

pub completing_prices-requires-clause-small : goal.completing_prices-requires-clause-small
completing_prices-requires-clause-small g c =
    let over : SFits w128 c.args.outcome.now.over = search rules in
    let sized : c.in_ok-finder.finder.nodes ≡ c.trades-null.result + 1 = search rules in
    let count = c.trades-null.ensures.count in
    let few = c.requires.limits.few_trades in
    labels_small c.in_ok-finder.finder.nodes c.args.graph.now c.args.outcome.now.over c.trades-null.result
    c.deref.result.now c.labels.new.self.labels
    (omega (arith, sized, count, few))
    (can_be_fixed g.V.Valuation.firm g.V.Valuation.limit c.args.market.now c.args.outcome.now.over
    c.args.outcome.now.contracts c.trades-null.ensures.network
    (λ v. (g.met.V.Valuation.lawful v).within) c.requires.limits c.requires.outcome
    (signed (length c.args.market.now.trades) c.args.outcome.now.contracts)
    c.args.graph.now c.requires.graph c.trades-null.result c.trades-null.ensures.count c.deref.result.now
    (subst (ArePriced c.args.outcome.now.contracts (c.trades-null.result + 1)) (sym c.deref.ensures.value)
    c.in_ok-prices.ensures))
    (subst (λ (z : ℤ). AreLabels c.in_ok-finder.finder.nodes
    (raised_fixed z c.deref.result.now c.trades-null.result (arcs_of c.args.graph.now)) c.labels.new.self.labels)
    (to_z-of_z w128 c.args.outcome.now.over over) c.in-Feasible.ensures.answer.1)

pub returns-in-Feasible : goal.returns-in-Feasible
returns-in-Feasible g c =
    let over : SFits w128 c.args.outcome.now.over = search rules in
    let sized : c.in_ok-finder.finder.nodes ≡ c.trades-null.result + 1 = search rules in
    let count = c.trades-null.ensures.count in
    let few = c.requires.limits.few_trades in
    let labels =
    subst (λ (z : ℤ). AreLabels c.in_ok-finder.finder.nodes
    (raised_fixed z c.deref.result.now c.trades-null.result (arcs_of c.args.graph.now)) c.labels.new.self.labels)
    (to_z-of_z w128 c.args.outcome.now.over over) c.in-Feasible.ensures.answer.1 in
    let one_each = labels.one_each in
    labels_complete (map g.V.Valuation.firm c.args.market.now.firms) c.args.market.now.trades c.args.outcome.now.over
    c.args.outcome.now.contracts
    (possible_outcome g.V.Valuation.firm c.args.market.now.firms c.args.market.now.trades c.args.outcome.now.over
    c.args.outcome.now.contracts c.trades-null.ensures.network
    g.met.V.Valuation.lawful c.requires.outcome c.requires.possible) c.requires.outcome.contracts.small c.args.graph.now
    c.requires.graph c.trades-null.result count c.deref.result.now
    (subst (ArePriced c.args.outcome.now.contracts (c.trades-null.result + 1)) (sym c.deref.ensures.value)
    c.in_ok-prices.ensures) c.labels.new.self.labels labels.keeps
    (labels_small c.in_ok-finder.finder.nodes c.args.graph.now c.args.outcome.now.over c.trades-null.result
    c.deref.result.now c.labels.new.self.labels (omega (arith, sized, count, few))
    (can_be_fixed g.V.Valuation.firm g.V.Valuation.limit c.args.market.now c.args.outcome.now.over
    c.args.outcome.now.contracts c.trades-null.ensures.network
    (λ v. (g.met.V.Valuation.lawful v).within) c.requires.limits c.requires.outcome
    (signed (length c.args.market.now.trades) c.args.outcome.now.contracts)
    c.args.graph.now c.requires.graph c.trades-null.result count c.deref.result.now
    (subst (ArePriced c.args.outcome.now.contracts (c.trades-null.result + 1)) (sym c.deref.ensures.value)
    c.in_ok-prices.ensures)) labels)
    (omega (arith, one_each, sized, count)) c.in_ok-prices-in-Feasible.prices c.in_ok-prices-in-Feasible.ensures

pub returns : goal.returns
returns g c =
    let over : SFits w128 c.args.outcome.now.over = search rules in
    cycle_incomplete (map g.V.Valuation.firm c.args.market.now.firms) c.args.market.now.trades c.args.outcome.now.over
    c.args.outcome.now.contracts
    (possible_outcome g.V.Valuation.firm c.args.market.now.firms c.args.market.now.trades c.args.outcome.now.over
    c.args.outcome.now.contracts c.trades-null.ensures.network
    g.met.V.Valuation.lawful c.requires.outcome c.requires.possible) c.args.graph.now c.requires.graph
    c.trades-null.result c.trades-null.ensures.count c.deref.result.now
    (subst (ArePriced c.args.outcome.now.contracts (c.trades-null.result + 1)) (sym c.deref.ensures.value)
    c.in_ok-prices.ensures)
    c.in_ok-finder.finder.nodes c.labels.new.self.listed c.in-Negative.cost c.in-Negative.length
    (subst (λ (z : ℤ). IsNegative c.in_ok-finder.finder.nodes
    (raised_fixed z c.deref.result.now c.trades-null.result (arcs_of c.args.graph.now)) c.labels.new.self.listed
    c.in-Negative.cost c.in-Negative.length)
    (to_z-of_z w128 c.args.outcome.now.over over) c.in-Negative.ensures.answer.0)
