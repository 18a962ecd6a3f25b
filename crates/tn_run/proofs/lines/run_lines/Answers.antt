-- What shows the clauses of `run_lines` of `src/lines.rt`.
use Rattle.std.proofs.Common.{ap, arith, ◌∙◌, inl, refl, sym}
use Rattle.tn_answer.specs.declared.layout.Layout.TheVariants.{Object}
use Rattle.tn_names.specs.Names.{no_names}
use Rattle.tn_run.specs.Lined.{with_status}
use Rattle.tn_run.proofs.LinedLemmas.{Rose_later, all_turns, at_end, may_run_out, one_more, read_failed, whole_answer, write_failed}
use Rattle.tn_run.proofs.lines.run_lines.Goals as goal

pub returns-then-answer-write_failed : goal.returns-then-answer-write_failed
returns-then-answer-write_failed g c = rw (c.if-answer-write_failed.true ∙ c.number-write_failed.ensures)
    (write_failed c.args.command _ _ _ _ _ _ _ c.next_answer.new.reader _ _ _
    (record {
      source_first = g.S.Source.faults c.args.source.now;
      source_last = g.S.Source.faults c.next_answer.new.source;
      sink_first = g.K.Sink.faults c.args.sink.now;
      sink_middle = g.K.Sink.faults c.loop-turn.sink;
      sink_last = g.K.Sink.faults c.tell.new.sink;
    })
    c.in-Ok-Some.names c.tell.result.said c.loop-turn.invariant.so_far
    (may_run_out c.args.command _ _ c.in-Ok-Some.names c.in-Ok-Some.said c.tell.result.said
    (rw c.in-Ok-Some.field-0-is at c.in-Ok-Some.ensures.answer) c.tell.ensures.said)
    refl c.loop-turn.invariant.sink_later c.tell.ensures.written
    (sym c.into_status-answer.ensures ∙ c.if-answer-write_failed.true ∙ c.number-write_failed.ensures))

pub returns-in-Err : goal.returns-in-Err
returns-in-Err g c = read_failed c.args.command _ _ _ _ _ _ _ _ _
    (record {
      source_first = g.S.Source.faults c.args.source.now;
      source_last = g.S.Source.faults c.next_answer.new.source;
      sink_first = g.K.Sink.faults c.args.sink.now;
      sink_middle = g.K.Sink.faults c.loop-turn.sink;
      sink_last = g.K.Sink.faults c.write_line.new.sink;
    })
    c.loop-turn.invariant.so_far (Rose_later _ _ _ c.loop-turn.invariant.source_later c.in-Err.ensures.failed)
    c.in-Err.ensures.part c.loop-turn.invariant.sink_later
    (rw c.into_status.ensures (c.write_line.ensures.written Object no_names (c.read_fault_text.ensures Object no_names)))

pub loop-turn-preserved : goal.loop-turn-preserved
loop-turn-preserved g c =
    let whole = whole_answer _ _ _ _ c.in-Ok-Some.names c.tell.result.said c.tell.result.status
    c.tell.ensures.written (λ is.
    c.if-answer-write_failed.false (c.into_status-answer.ensures ∙ is ∙ sym c.number-write_failed.ensures)) in
    record {
      so_far = one_more c.args.command _ _ _ c.in-Ok-Some.names c.tell.result.said _ _ _ _ _ _
          c.loop-turn.invariant.so_far
          (may_run_out c.args.command _ _ c.in-Ok-Some.names c.in-Ok-Some.said c.tell.result.said
          (rw c.in-Ok-Some.field-0-is at c.in-Ok-Some.ensures.answer) c.tell.ensures.said)
          whole.grown (c.with_status-status.ensures
          ∙ ap (with_status c.loop-turn.status) (c.into_status-answer.ensures ∙ whole.status_is));
      source_later = omega arith;
      sink_later = omega arith;
    }

pub returns : goal.returns
returns g c =
    inl (all_turns c.args.command _ _ c.loop-turn.reader _ _ _ _ c.loop-turn.invariant.so_far (omega (arith, c.loop-turn-test.false)))

pub returns-in-Ok-None : goal.returns-in-Ok-None
returns-in-Ok-None g c = inl
    (at_end c.args.command _ _ _ _ _ _ _ c.loop-turn.invariant.so_far
    (rw c.in-Ok-None.field-0-is at c.in-Ok-None.ensures.end)
    (rw c.in-Ok-None.field-0-is at c.in-Ok-None.ensures.rest))
