-- What shows the clauses of `exchange_is_what_no_triple_fails` of `src/laws.rt`.
use Rattle.tn_base.proofs.ExchangeLemmas.{exchange_from_none_fails, none_fails_from_exchange}
use Rattle.tn_base.proofs.laws.exchange_is_what_no_triple_fails.Goals as goal

pub returns : goal.returns
returns c = record {
  holds = exchange_from_none_fails;
  none_fails = none_fails_from_exchange;
}
