-- What shows the clauses of `run_request` of `src/top.rt`.
use Rattle.tn_run.proofs.CompleteLemmas.{complete_run}
use Rattle.tn_run.proofs.HeadlineLemmas.{headline_on}
use Rattle.tn_run.proofs.top.run_request.Goals as goal

pub returns-clause-answer : goal.returns-clause-answer
returns-clause-answer g c = (
  c.run_with-run.result.1,
  c.run_with-run.ensures.said,
  λ all told quiet_source quiet_sink.
      complete_run g.S.Source.left g.S.Source.faults c.args.request all
      c.args.source.now c.run_with-run.new.source (g.K.Sink.written c.args.sink.now)
      (g.K.Sink.written c.run_with-run.new.sink) (g.K.Sink.faults c.args.sink.now)
      (g.K.Sink.faults c.run_with-run.new.sink) c.run_with-run.result.1 c.run_with-run.result.0.said
      c.run_with-run.result.0.status told quiet_source quiet_sink c.run_with-run.ensures.said
      c.run_with-run.ensures.written,
  c.run_with-run.ensures.written,
)

pub returns-clause-headline : goal.returns-clause-headline
returns-clause-headline g c =
    headline_on g.S.Source.left g.S.Source.faults c.args.request c.args.source.now
    c.run_with-run.new.source c.run_with-run.result.1 c.run_with-run.result.0.said c.run_with-run.ensures.said
