-- What shows the clauses of `drop_at` of `src/drops.rt`.
use Rattle.std.proofs.Common.{rules, ◌∙◌, ℤ, sym, map, option_map, subst, arith, inl, inr, ap}
use Rattle.std.proofs.lemmas.Int.{to_z-of_z}
use mir.Syntax.{w128}
use mir.Val.{SFits}
use Rattle.std.proofs.lemmas.Option.{slice_get_cases, slice_get-map, same_Some}
use Rattle.tn_base.specs.Firm.{Firm}
use Rattle.tn_residual.proofs.MakingLemmas.{outcome_feasible}
use Rattle.tn_judge.specs.Drops.{FindsDrop, TellsDrop}
use Rattle.tn_judge.proofs.DropLemmas.{finds_drop}
use Rattle.tn_judge.proofs.drops.drop_at.Goals as goal

pub returns : goal.returns
returns g c = λ firm is. elim (slice_get_cases c.args.market.now.firms c.args.f).1 [
  | inr past ↦ absurd (let above = past.0 in let inside = c.requires.firm in omega (arith, above, inside))
  | inl item ↦
      let listed = slice_get-map g.V.Valuation.firm c.args.market.now.firms c.args.f
      ∙ ap (option_map g.V.Valuation.firm) item.2 in
      subst (λ (z : Firm). FindsDrop c.args.market.now.trades c.args.outcome.now.over c.args.outcome.now.contracts
      c.args.f z c.drop_from.result) (same_Some _ _ (sym listed ∙ is))
      (finds_drop (map g.V.Valuation.firm c.args.market.now.firms) c.args.market.now.trades c.args.outcome.now.over
      c.args.outcome.now.contracts c.args.f (g.V.Valuation.firm item.0)
      (record {
        network = c.requires.network;
        feasible =
            outcome_feasible c.args.market.now.trades c.args.outcome.now.over c.args.outcome.now.contracts
            c.requires.outcome;
        is = listed;
      })
      c.best_kept-keeps.result.0 c.best_kept-keeps.result.1 (c.best_kept-keeps.ensures.best item.0 item.2)
      c.own_utility.result (c.own_utility.ensures.value item.0 item.2) c.drop_from.result
      (let fits : SFits w128 c.best_kept-keeps.result.1 = search rules in
      subst (λ (value : ℤ). TellsDrop c.best_kept-keeps.result.0 value c.own_utility.result c.drop_from.result)
      (to_z-of_z w128 c.best_kept-keeps.result.1 fits) c.drop_from.ensures))
]
