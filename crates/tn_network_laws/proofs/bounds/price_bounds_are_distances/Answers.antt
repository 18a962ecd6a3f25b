-- What shows the clauses of `price_bounds_are_distances` of `src/bounds.rt`.
use Rattle.tn_network_laws.proofs.BoundLemmas.{price_bounds_are_distances}
use Rattle.tn_network_laws.proofs.bounds.price_bounds_are_distances.Goals as goal

pub returns : goal.returns
returns c = price_bounds_are_distances
