-- What shows the clause of `twins_cost_the_same` of `src/laws.rt`.
use Rattle.tn_unit_laws.proofs.TwinLemmas.{twins_same}
use Rattle.tn_unit_laws.proofs.laws.twins_cost_the_same.Goals as goal

pub returns : goal.returns
returns c = twins_same
