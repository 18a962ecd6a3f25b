-- What the loops of `run_lines` of `src/lines.rt` keep.
use Rattle.std.proofs.Common.{◌≤◌}
use Rattle.std.specs.Io.KnownBytes.{prepend_known}
use Rattle.tn_run.proofs.LinedLemmas.{SoFar}
use Rattle.tn_run.proofs.lines.run_lines.Given as goal

abbrev pub invariant-loop-turn : goal.invariant-loop-turn
invariant-loop-turn g l = record {
  so_far : SoFar l.command (g.S.Source.left l.initial.source) (prepend_known l.reader (g.S.Source.left l.source))
      (g.K.Sink.written l.initial.sink) (g.K.Sink.written l.sink) l._turn l.status;
  source_later : g.S.Source.faults l.initial.source ≤ g.S.Source.faults l.source;
  sink_later : g.K.Sink.faults l.initial.sink ≤ g.K.Sink.faults l.sink;
}
