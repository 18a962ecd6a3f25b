-- What shows the clauses of `two_exchange` of `src/quads.rt`.
use Rattle.std.proofs.Common.{sym, ◌∙◌}
use Rattle.std.proofs.lemmas.Bool.{false≢true}
use Rattle.tn_local.proofs.quads.two_exchange.Goals as goal

pub returns-then-not-pair_exchanges : goal.returns-then-not-pair_exchanges
returns-then-not-pair_exchanges c = (
  (λ t. absurd (false≢true t)),
  λ both. sym c.if-not-pair_exchanges.true ∙ c.pair_exchanges.ensures.1 both.0,
)

pub returns : goal.returns
returns c = (
  (λ t. (c.pair_exchanges.ensures.0 c.if-not-pair_exchanges.false, c.thirds_exchange.ensures.0 t)),
  λ both. c.thirds_exchange.ensures.1 both.1,
)
