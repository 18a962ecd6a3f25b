-- What shows the clause of `exchange_by_counts` of `src/laws.rt`.
use Rattle.tn_unit_laws.proofs.ExchangeLemmas.{exchange_is_by_counts}
use Rattle.tn_unit_laws.proofs.laws.exchange_by_counts.Goals as goal

pub returns : goal.returns
returns c = exchange_is_by_counts
