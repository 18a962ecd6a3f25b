-- What shows the clauses of `answer_unit_support` of `src/support.rt`.
use Rattle.std.proofs.Common.{◌≡◌, map, sym, ap, ◌∙◌, subst, arith}
use Rattle.std.proofs.lemmas.Int.{ints, to_z-of_z}
use mir.Syntax.{w128}
use mir.Val.{SFits}
use Rattle.tn_answer.specs.Kept.{IsWithinClaims}
use Rattle.tn_said.specs.declared.said.Said.TheVariants.{CycleByCounts, SupportedByCounts}
use Rattle.tn_tree.specs.Lists.{count_in}
use Rattle.tn_tree.specs.Supports.{SupportsByCounts}
use Rattle.tn_unit_answers.specs.Solve.{unit_ends}
use Rattle.tn_unit_answers.specs.Steps.{said_steps}
use Rattle.tn_unit_answers.specs.Support.{SupportsCounts}
use Rattle.tn_unit_answers.proofs.SolutionLemmas.{counts_short}
use Rattle.tn_unit_answers.proofs.SupportedLemmas.{cycle_told, first_told, if_ok, prices_told, prices_within}
use Rattle.tn_unit_answers.proofs.support.answer_unit_support.Goals as goal

pub returns-in-Supported-clause-answer : goal.returns-in-Supported-clause-answer
returns-in-Supported-clause-answer c =
    let told = subst (SupportsByCounts c.in_ok-market.market (count_in c.args.counts.now)) c.in-Supported.is
    c.in_ok-support.ensures in
    if_ok (SupportsCounts c.args.document.now c.args.counts.now) c.supported.result
    (SupportedByCounts c.args.counts.now c.in-Supported.prices.items (map unit_ends c.args.document.now.head.trades))
    (prices_told c.args.document.now c.in_ok-market.market (record {
      document_is = c.trades-trades.ensures.kept;
      market_is = c.in_ok-market.ensures.market;
      firms = c.in_ok-market.ensures.firms;
      trades = c.in_ok-market.ensures.trades;
      worths = c.in_ok-market.ensures.worths;
    }) c.args.counts.now c.requires c.in-Supported.prices.items told) c.supported.ensures

pub returns-in-Supported-clause-within : goal.returns-in-Supported-clause-within
returns-in-Supported-clause-within c =
    let told = subst (SupportsByCounts c.in_ok-market.market (count_in c.args.counts.now)) c.in-Supported.is
    c.in_ok-support.ensures in
    if_ok IsWithinClaims c.supported.result
    (SupportedByCounts c.args.counts.now c.in-Supported.prices.items (map unit_ends c.args.document.now.head.trades)) (
      counts_short c.args.document.now c.args.counts.now c.trades-trades.ensures.kept c.requires.within
          c.requires.counted,
      prices_within c.in-Supported.prices.items told.small,
    ) c.supported.ensures

pub returns-in-Impossible-clause-answer : goal.returns-in-Impossible-clause-answer
returns-in-Impossible-clause-answer c =
    first_told c.args.document.now c.in_ok-market.market (record {
      document_is = c.trades-trades.ensures.kept;
      market_is = c.in_ok-market.ensures.market;
      firms = c.in_ok-market.ensures.firms;
      trades = c.in_ok-market.ensures.trades;
      worths = c.in_ok-market.ensures.worths;
    }) c.args.counts.now c.requires c.in-Impossible.firm
    (subst (SupportsByCounts c.in_ok-market.market (count_in c.args.counts.now)) c.in-Impossible.is
    c.in_ok-support.ensures)

pub returns-in_ok-nodes-in-Cycle-clause-answer : goal.returns-in_ok-nodes-in-Cycle-clause-answer
returns-in_ok-nodes-in-Cycle-clause-answer c =
    let told = subst (SupportsByCounts c.in_ok-market.market (count_in c.args.counts.now)) c.in-Cycle.is
    c.in_ok-support.ensures in
    let small = told.0.small in
    let fit : SFits w128 c.in-Cycle.cost = omega (arith, ints, small.low, small.high) in
    let same : c.in_ok-nodes-in-Cycle.nodes ≡ said_steps c.in-Cycle.nodes.items =
    c.in_ok-nodes-in-Cycle.ensures ∙ ap said_steps c.deref.ensures.value in
    simp to_z-of_z (subst (λ nodes. SupportsCounts c.args.document.now c.args.counts.now (CycleByCounts nodes
    c.in-Cycle.cost)) (sym same) (cycle_told c.args.document.now c.in_ok-market.market (record {
      document_is = c.trades-trades.ensures.kept;
      market_is = c.in_ok-market.ensures.market;
      firms = c.in_ok-market.ensures.firms;
      trades = c.in_ok-market.ensures.trades;
      worths = c.in_ok-market.ensures.worths;
    }) c.args.counts.now c.requires c.in-Cycle.nodes.items c.in-Cycle.cost told))
