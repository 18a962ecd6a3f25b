-- Steps of a market as they are said.
use Rattle.std.proofs.Common.{◌≡◌, ℕ, suc, ◌<◌, List, [], ◌∷◌, length, slice_get, Option, Some, None, option_map, refl, sym, ap, ◌∙◌, pos, ◌+ℤ◌}
use Rattle.std.specs.Prelude.{IfSome}
use Rattle.std.proofs.lemmas.List.Elements.{All-cons, All-nil}
use Rattle.tn_counts.specs.declared.trade.UnitTrade.{UnitTrade}
use Rattle.tn_said.specs.declared.units.UnitStep.{UnitStep}
use Rattle.tn_tree.specs.declared.steps.UnitStep.{UnitStep as MarketStep}
use Rattle.tn_tree.specs.Steps.{units_by}
use Rattle.tn_unit_answers.specs.Steps.{AreStepsOf, market_steps, said_step, said_steps}

pub steps_back : (steps : List (Option MarketStep)) → market_steps (said_steps steps) ≡ steps
steps_back [] = refl
steps_back (None ∷ steps) = ap (λ (xs : List (Option MarketStep)). None ∷ xs) (steps_back steps)
steps_back (Some step ∷ steps) = ap (λ (xs : List (Option MarketStep)). Some step ∷ xs) (steps_back steps)

-- they add as many units
pub units_said : (steps : List (Option MarketStep)) (k before now : ℕ) → pos now ≡ pos before +ℤ units_by steps k
    → pos now ≡ pos before +ℤ units_by (market_steps (said_steps steps)) k
units_said steps k before now is =
    is ∙ ap (λ (xs : List (Option MarketStep)). pos before +ℤ units_by xs k) (sym (steps_back steps))

pub steps_known : (trades : List UnitTrade) (steps : List (Option MarketStep))
    → ((k : ℕ) (step : MarketStep) → slice_get steps k ≡ Some (Some step) → step.trade < length trades)
    → AreStepsOf trades (said_steps steps)
steps_known trades [] known = All-nil (λ (node : Option UnitStep). IfSome node (λ step. step.trade < length trades))
steps_known trades (first ∷ steps) known =
    All-cons (λ (node : Option UnitStep). IfSome node (λ step. step.trade < length trades)) (option_map said_step first)
    (said_steps steps) (by first (λ step is. known 0 step (ap Some is)))
    (steps_known trades steps (λ k step at. known (suc k) step at))
  where
    by : (node : Option MarketStep) → ((step : MarketStep) → node ≡ Some step → step.trade < length trades)
        → IfSome (option_map said_step node) (λ step. step.trade < length trades)
    by None each = tt
    by (Some step) each = each step refl
