-- What shows the clauses of `fails` of `src/exchange.rt`.
use Rattle.tn_cert.proofs.ExchangeLemmas.{none_fails_of_kind}
use Rattle.tn_cert.proofs.exchange.fails.Goals as goal

pub returns-in-Laminar : goal.returns-in-Laminar
returns-in-Laminar c = (
  (λ yes. absurd (cc yes)),
  λ fails. absurd (none_fails_of_kind c.args.firm.now c.in-Laminar.is c.args.x c.args.y c.args.at fails),
)

pub returns-in-Laminar-2 : goal.returns-in-Laminar-2
returns-in-Laminar-2 c = (
  (λ yes. absurd (cc yes)),
  λ fails. absurd (none_fails_of_kind c.args.firm.now c.in-Laminar.is c.args.x c.args.y c.args.at fails),
)

pub returns-in-Laminar-3 : goal.returns-in-Laminar-3
returns-in-Laminar-3 c = (
  (λ yes. absurd (cc yes)),
  λ fails. absurd (none_fails_of_kind c.args.firm.now c.in-Laminar.is c.args.x c.args.y c.args.at fails),
)
