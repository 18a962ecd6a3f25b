-- Steps as they are said: one unit more or fewer of a trade, or null.
use Rattle.std.specs.Prelude.{◌<◌, List, map, length, All, IfSome, Option, option_map}
use Rattle.tn_said.specs.declared.units.UnitStep.{UnitStep}
use Rattle.tn_counts.specs.declared.trade.UnitTrade.{UnitTrade}
use Rattle.tn_tree.specs.declared.steps.UnitStep.{UnitStep as MarketStep}

abbrev pub said_step : MarketStep → UnitStep
said_step step = record { trade = step.trade; more = step.more }

abbrev pub said_steps : List (Option MarketStep) → List (Option UnitStep)
said_steps steps = map (option_map said_step) steps

-- and back
abbrev pub market_step : UnitStep → MarketStep
market_step step = record { trade = step.trade; more = step.more }

abbrev pub market_steps : List (Option UnitStep) → List (Option MarketStep)
market_steps steps = map (option_map market_step) steps

-- the steps of a walk are steps of trades, or null
abbrev pub AreStepsOf : List UnitTrade → List (Option UnitStep) → Type 0
AreStepsOf trades steps = All (λ node. IfSome node (λ step. step.trade < length trades)) steps
