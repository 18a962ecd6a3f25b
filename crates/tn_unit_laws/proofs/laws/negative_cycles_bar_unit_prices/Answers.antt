-- What shows the clause of `negative_cycles_bar_unit_prices` of `src/laws.rt`.
use Rattle.tn_unit_laws.proofs.StableLemmas.{cycles_bar_units}
use Rattle.tn_unit_laws.proofs.laws.negative_cycles_bar_unit_prices.Goals as goal

pub returns : goal.returns
returns c = cycles_bar_units
