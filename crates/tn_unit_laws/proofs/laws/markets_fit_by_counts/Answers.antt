-- What shows the clause of `markets_fit_by_counts` of `src/laws.rt`.
use Rattle.tn_unit_laws.proofs.MarketLemmas.{markets_fit}
use Rattle.tn_unit_laws.proofs.laws.markets_fit_by_counts.Goals as goal

pub returns : goal.returns
returns c = markets_fit
