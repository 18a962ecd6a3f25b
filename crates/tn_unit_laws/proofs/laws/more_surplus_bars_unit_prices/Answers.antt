-- What shows the clause of `more_surplus_bars_unit_prices` of `src/laws.rt`.
use Rattle.tn_unit_laws.proofs.StableLemmas.{more_bars}
use Rattle.tn_unit_laws.proofs.laws.more_surplus_bars_unit_prices.Goals as goal

pub returns : goal.returns
returns c = more_bars
