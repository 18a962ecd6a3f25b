-- What shows the clauses of `kept_worth` of `src/kept.rt`.
use Rattle.std.proofs.Common.{◌∙◌, ℤ, Some, sym, ap, arith}
use Rattle.std.proofs.lemmas.Int.{ints, to_z-of_z}
use mir.Syntax.{w128}
use mir.Val.{SFits}
use Rattle.tn_base.specs.Arcs.{IsAtMost}
use Rattle.tn_base.specs.Widths.{most_cost}
use Rattle.tn_market.specs.Reduced.{reduced}
use Rattle.tn_chain.proofs.MoveLemmas.{meet_empty, item_small, found_small}
use Rattle.tn_chain.proofs.kept.kept_worth.Goals as goal

pub reduced_best_beside-requires-clause-unsigned : goal.reduced_best_beside-requires-clause-unsigned
reduced_best_beside-requires-clause-unsigned g c = λ v is. meet_empty c.empty.result _ c.empty.ensures

small_fits : (z : ℤ) → IsAtMost z most_cost → SFits w128 z
small_fits z small = let low = small.low in let high = small.high in omega (arith, ints, low, high)

pub returns : goal.returns
returns g c = record {
  worth = λ v is.
      let small = item_small g.V.Valuation.firm g.V.Valuation.limit c.args.market.now c.args.outcome.now.over
      c.args.outcome.now.contracts c.requires.limits c.requires.outcome
      (λ v. (g.met.V.Valuation.lawful v).within) c.args.f v is in
      let firm = reduced c.args.market.now.trades c.args.outcome.now.over c.args.outcome.now.contracts c.args.f
      (g.V.Valuation.firm v) in
      let found = found_small firm.worth c.empty.result c.reduced_best_beside.result c.in_ok-worth.field-0-0
      c.in_ok-worth.worth small (c.reduced_best_beside.ensures.worth v is) (c.in_ok-worth.was) in
      ap (λ (z : ℤ). Some z) (to_z-of_z w128 c.in_ok-worth.worth (small_fits c.in_ok-worth.worth found.0))
      ∙ sym (ap firm.worth (sym c.empty.ensures) ∙ found.1);
}
