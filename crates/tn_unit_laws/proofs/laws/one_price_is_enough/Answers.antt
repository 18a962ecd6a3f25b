-- What shows the clause of `one_price_is_enough` of `src/laws.rt`.
use Rattle.tn_unit_laws.proofs.OnePriceLemmas.{one_price}
use Rattle.tn_unit_laws.proofs.laws.one_price_is_enough.Goals as goal

pub returns : goal.returns
returns c = one_price
