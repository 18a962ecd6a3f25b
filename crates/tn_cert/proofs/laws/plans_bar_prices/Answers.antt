-- What shows the clauses of `plans_bar_prices` of `src/laws.rt`.
use Rattle.tn_cert.proofs.PlanLaw.{plans_bar}
use Rattle.tn_cert.proofs.laws.plans_bar_prices.Goals as goal

pub returns : goal.returns
returns c = plans_bar
