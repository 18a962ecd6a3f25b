-- What the loops of `write_all` of `src/writing.rt` keep.
use Rattle.std.proofs.Common.{length, ◌-◌, ◌≤◌, take}
use Rattle.tn_io.specs.Sink.{Grows}
use Rattle.tn_io.proofs.writing.write_all.Given as goal

abbrev pub invariant-loop-done : goal.invariant-loop-done
invariant-loop-done g l = record {
  within : l.done ≤ length l.bytes;
  grown : Grows (g.K.Sink.written l.initial.sink) (g.K.Sink.written l.sink) (take l.done l.bytes);
  later : g.K.Sink.faults l.initial.sink ≤ g.K.Sink.faults l.sink;
}

-- how many bytes are still to be written
abbrev pub decreases-loop-done : goal.decreases-loop-done
decreases-loop-done g l = length l.bytes - l.done
