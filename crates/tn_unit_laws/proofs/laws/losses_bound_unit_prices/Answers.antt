-- What shows the clause of `losses_bound_unit_prices` of `src/laws.rt`.
use Rattle.tn_unit_laws.proofs.BoundLemmas.{losses_bound}
use Rattle.tn_unit_laws.proofs.laws.losses_bound_unit_prices.Goals as goal

pub returns : goal.returns
returns c = losses_bound
