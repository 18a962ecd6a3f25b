-- What the loops of `draw_trades` of `src/network.rt` keep.
use Rattle.std.proofs.Common.{◌≡◌, ◌*◌}
use Rattle.tn_drill.specs.Draws.{state_after}
use Rattle.tn_drill.specs.Drill.{drawn_ends, draws_of}
use Rattle.tn_drill.proofs.network.draw_trades.Given as goal

abbrev pub invariant-loop-i : goal.invariant-loop-i
invariant-loop-i l = record {
  trades : l.trades.items ≡ drawn_ends l.start l.i;
  draws : l.draws.items ≡ draws_of l.start l.i;
  state : l.generator.state ≡ state_after l.start (3 * l.i);
}
