-- What shows the clauses of `equilibria_are_efficient` of `src/welfare.rt`.
use Rattle.tn_network_laws.proofs.WelfareLemmas.{equilibrium_is_efficient}
use Rattle.tn_network_laws.proofs.welfare.equilibria_are_efficient.Goals as goal

pub returns : goal.returns
returns c = equilibrium_is_efficient
