-- What shows the clauses of `run_market` of `src/top.rt`.
use Rattle.tn_run.proofs.top.run_market.Goals as goal

pub returns-clause-answer : goal.returns-clause-answer
returns-clause-answer g c = rw c.request_of.ensures.request at c.run_request.ensures.answer

pub returns-clause-headline : goal.returns-clause-headline
returns-clause-headline g c = rw c.request_of.ensures.request at c.run_request.ensures.headline
