-- What shows the clauses of `reduced_cost` of `src/graph.rt`.
use Rattle.std.proofs.Common.{◌∙◌, option_map, sym, ap, ap₂, map, arith}
use Rattle.std.proofs.lemmas.List.{length-map}
use Rattle.std.proofs.lemmas.Option.{slice_get-map}
use Rattle.tn_chain.specs.Moves.{move_between}
use Rattle.tn_chain.proofs.CostLemmas.{item_move, move_cost_is, no_move_cost}
use Rattle.tn_chain.proofs.graph.reduced_cost.Goals as goal

pub kept_of-before-requires : goal.kept_of-before-requires
kept_of-before-requires g c =
    let moved = item_move g.V.Valuation.firm c.args.market.now.firms c.args.market.now.trades c.requires.network
    c.args.u c.args.v c.in-Some.moved.0 c.in-Some.moved.1
    (sym (c.move_between.ensures ∙ ap₂ move_between c.ends_of.ensures.ends c.ends_of-2.ensures.ends) ∙ c.in-Some.is) in
    let inside = moved.inside in
    let counted = c.requires.kept.counted in
    let mapped = length-map c.args.market.now.firms g.V.Valuation.firm in
    omega (arith, inside, counted, mapped)

pub reduced_loss-requires-clause-firm : goal.reduced_loss-requires-clause-firm
reduced_loss-requires-clause-firm g c =
    (item_move g.V.Valuation.firm c.args.market.now.firms c.args.market.now.trades c.requires.network
    c.args.u c.args.v c.in-Some.moved.0 c.in-Some.moved.1
    (sym (c.move_between.ensures ∙ ap₂ move_between c.ends_of.ensures.ends c.ends_of-2.ensures.ends) ∙ c.in-Some.is)).inside

pub reduced_loss-requires-clause-own : goal.reduced_loss-requires-clause-own
reduced_loss-requires-clause-own g c =
    (item_move g.V.Valuation.firm c.args.market.now.firms c.args.market.now.trades c.requires.network
    c.args.u c.args.v c.in-Some.moved.0 c.in-Some.moved.1
    (sym (c.move_between.ensures ∙ ap₂ move_between c.ends_of.ensures.ends c.ends_of-2.ensures.ends) ∙ c.in-Some.is)).within

pub reduced_loss-requires-clause-kept : goal.reduced_loss-requires-clause-kept
reduced_loss-requires-clause-kept g c = λ v is.
    c.requires.kept.each c.in-Some.moved.0 (g.V.Valuation.firm v) c.kept_of-before.result.now
    (slice_get-map g.V.Valuation.firm c.args.market.now.firms c.in-Some.moved.0
    ∙ ap (option_map g.V.Valuation.firm) is) c.kept_of-before.ensures

pub returns-in-Some : goal.returns-in-Some
returns-in-Some g c =
    let moved = item_move g.V.Valuation.firm c.args.market.now.firms c.args.market.now.trades c.requires.network
    c.args.u c.args.v c.in-Some.moved.0 c.in-Some.moved.1
    (sym (c.move_between.ensures ∙ ap₂ move_between c.ends_of.ensures.ends c.ends_of-2.ensures.ends) ∙ c.in-Some.is) in
    record {
      cost = move_cost_is g.V.Valuation.firm c.args.market.now.firms c.args.market.now.trades c.args.outcome.now.over
          c.args.outcome.now.contracts c.args.u c.args.v
          c.in-Some.moved.0 c.in-Some.moved.1 moved.item c.reduced_loss.result c.requires.from c.requires.to
          (sym (c.move_between.ensures ∙ ap₂ move_between c.ends_of.ensures.ends c.ends_of-2.ensures.ends)
          ∙ c.in-Some.is)
          moved.is (c.reduced_loss.ensures.loss moved.item moved.is);
    }

pub returns-in-None : goal.returns-in-None
returns-in-None g c = record {
  cost = no_move_cost (map g.V.Valuation.firm c.args.market.now.firms) c.args.market.now.trades c.args.outcome.now.over
      c.args.outcome.now.contracts c.args.u c.args.v c.requires.from c.requires.to
      (sym (c.move_between.ensures ∙ ap₂ move_between c.ends_of.ensures.ends c.ends_of-2.ensures.ends) ∙ c.in-None.is);
}
