-- What the loops of `LineReader::next_line` of `src/lines.rt` keep.
use Rattle.std.proofs.Common.{◌≤◌, ◌-◌, length}
use Rattle.std.specs.Io.KnownBytes.{Consumes, prepend_known}
use Rattle.tn_io.specs.Lines.{IsUnbroken}
use Rattle.tn_io.proofs.lines.LineReader.next_line.Given as goal

abbrev pub invariant-loop-line : goal.invariant-loop-line
invariant-loop-line g l = record {
  within : length l.line.items ≤ l.limit;
  plain : IsUnbroken l.line.items;
  taken : Consumes (prepend_known l.initial.self (g.S.Source.left l.initial.source))
      (prepend_known l.self (g.S.Source.left l.source)) l.line.items;
  later : g.S.Source.faults l.initial.source ≤ g.S.Source.faults l.source;
}

-- how many bytes the line may still get
abbrev pub decreases-loop-line : goal.decreases-loop-line
decreases-loop-line g l = l.limit - length l.line.items
