-- What shows the clauses of `equilibria_are_stable` of `src/stability.rt`.
use Rattle.tn_network_laws.proofs.BlockLemmas.{equilibrium_is_stable}
use Rattle.tn_network_laws.proofs.stability.equilibria_are_stable.Goals as goal

pub returns : goal.returns
returns c = λ firms trades scale on prices network from_one equilibrium. equilibrium_is_stable firms trades scale on
    prices network equilibrium
