-- What shows the clause of `units_make_networks` of `src/laws.rt`.
use Rattle.tn_unit_laws.proofs.UnitLemmas.{units_network}
use Rattle.tn_unit_laws.proofs.laws.units_make_networks.Goals as goal

pub returns : goal.returns
returns c = units_network
