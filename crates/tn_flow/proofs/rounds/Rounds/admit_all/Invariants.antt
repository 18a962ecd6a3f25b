-- What the loops of `Rounds::admit_all` of `src/rounds.rt` keep.
use Rattle.std.proofs.Common.{◌+◌, ◌*◌, ◌≤◌, length, map}
use Rattle.tn_cycle.specs.Answers.{AreNear}
use Rattle.tn_cycle.specs.Widths.{label_step}
use Rattle.tn_market.specs.Graph.{graph_worths}
use Rattle.tn_flow.specs.Underway.{AreUnderWay, AreAdmittedBelow}
use Rattle.tn_flow.proofs.rounds.Rounds.admit_all.Given as goal

abbrev pub invariant-loop-t : goal.invariant-loop-t
invariant-loop-t g l = record {
  under_way : AreUnderWay (map g.V.Valuation.firm l.market.firms) l.market.trades l.self.graph l.self.finder
      l.self.allowed l.self.on;
  near : AreNear (l.t * label_step (length l.market.trades + 1)) l.self.finder.labels;
  below : AreAdmittedBelow l.admitted l.t l.self.allowed;
  asked : l.steps ≤ l.initial.steps + l.t * graph_worths (map g.V.Valuation.firm l.market.firms);
}
