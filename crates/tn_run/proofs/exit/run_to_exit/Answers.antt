-- What shows the clauses of `run_to_exit` of `src/exit.rt`.
use Rattle.std.proofs.Common.{ℕ, sym, subst, ap, ◌∙◌, map, string_bytes}
use Rattle.tn_run.specs.Complete.{AnswersAll}
use Rattle.tn_run.specs.Request.{layout_of, lines_command, request_of}
use Rattle.tn_run.specs.Run.{IsWritten}
use Rattle.tn_run.proofs.LinedLemmas.{complete_as_asked, lined_as_asked}
use Rattle.tn_run.proofs.exit.run_to_exit.Goals as goal

pub returns-in-Some-clause-lines : goal.returns-in-Some-clause-lines
returns-in-Some-clause-lines g c =
    lined_as_asked (lines_command (request_of (map string_bytes c.args.words.now))) c.in-Some.command
    (g.S.Source.left c.args.source.now) (g.S.Source.left c.run_lines.new.source) (g.K.Sink.written c.args.sink.now) (g.K.Sink.written c.run_lines.new.sink)
    (record {
      source_first = g.S.Source.faults c.args.source.now;
      source_last = g.S.Source.faults c.run_lines.new.source;
      sink_first = g.K.Sink.faults c.args.sink.now;
      sink_middle = g.K.Sink.faults c.args.sink.now;
      sink_last = g.K.Sink.faults c.run_lines.new.sink;
    })
    c.run_lines.result _
    (ap lines_command (sym c.request_of-request.ensures.request) ∙ sym c.lines_command.ensures ∙ c.in-Some.is) c.from.ensures
    c.run_lines.ensures

pub returns-in-Some-clause-all_lines : goal.returns-in-Some-clause-all_lines
returns-in-Some-clause-all_lines g c =
    complete_as_asked (lines_command (request_of (map string_bytes c.args.words.now)))
    (g.S.Source.left c.args.source.now) (g.S.Source.left c.run_lines.new.source) (g.K.Sink.written c.args.sink.now) (g.K.Sink.written c.run_lines.new.sink)
    (record {
      source_first = g.S.Source.faults c.args.source.now;
      source_last = g.S.Source.faults c.run_lines.new.source;
      sink_first = g.K.Sink.faults c.args.sink.now;
      sink_middle = g.K.Sink.faults c.args.sink.now;
      sink_last = g.K.Sink.faults c.run_lines.new.sink;
    }) _ (returns-in-Some-clause-lines g c)

pub returns-in-None-clause-answer : goal.returns-in-None-clause-answer
returns-in-None-clause-answer g c =
    let run = c.run_request.result in
    let answers = rw c.request_of-request.ensures.request at c.run_request.ensures.answer in
    let request = request_of (map string_bytes c.args.words.now) in
    λ _. (
      run.said,
      answers.0,
      answers.1,
      rw c.request_of-request.ensures.request at c.run_request.ensures.headline,
      λ all told quiet_source quiet_sink.
          subst (λ (status : ℕ). AnswersAll request all (g.K.Sink.written c.args.sink.now)
          (g.K.Sink.written c.run_request.new.sink) answers.0 run.said status)
          (sym (c.from-in-None.ensures ∙ c.into_status.ensures)) (answers.2 all told quiet_source quiet_sink),
      c.run_request.ensures.within,
      subst
          (λ (status : ℕ). IsWritten (g.K.Sink.written c.args.sink.now) (g.K.Sink.written c.run_request.new.sink)
          (g.K.Sink.faults c.args.sink.now) (g.K.Sink.faults c.run_request.new.sink) (layout_of request) answers.0
          run.said status)
          (sym (c.from-in-None.ensures ∙ c.into_status.ensures)) answers.3,
    )
