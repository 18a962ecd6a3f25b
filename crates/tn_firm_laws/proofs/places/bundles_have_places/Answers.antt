-- What shows the clauses of `bundles_have_places` of `src/places.rt`.
use Rattle.tn_firm_laws.proofs.PlaceLemmas.{places}
use Rattle.tn_firm_laws.proofs.places.bundles_have_places.Goals as goal

pub returns : goal.returns
returns c = places
