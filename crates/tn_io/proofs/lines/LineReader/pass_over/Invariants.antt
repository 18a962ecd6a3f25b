-- What the loops of `LineReader::pass_over` of `src/lines.rt` keep.
use Rattle.std.proofs.Common.{◌≤◌}
use Rattle.std.specs.Io.KnownBytes.{prepend_known}
use Rattle.tn_io.proofs.LineLemmas.{Passed}
use Rattle.tn_io.proofs.lines.LineReader.pass_over.Given as goal

abbrev pub invariant-loop-turn : goal.invariant-loop-turn
invariant-loop-turn g l = record {
  passed : Passed (prepend_known l.initial.self (g.S.Source.left l.initial.source))
      (prepend_known l.self (g.S.Source.left l.source)) l._turn;
  later : g.S.Source.faults l.initial.source ≤ g.S.Source.faults l.source;
}
