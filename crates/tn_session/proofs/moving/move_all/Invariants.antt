-- What the loop of `move_all` of `src/moving.rt` keeps.
use Rattle.std.proofs.Common.{◌+◌, ◌*◌, ◌≤◌, length, map}
use Rattle.tn_cycle.specs.Answers.{AreNear}
use Rattle.tn_cycle.specs.Widths.{label_step}
use Rattle.tn_market.specs.Graph.{graph_worths}
use Rattle.tn_flow.specs.Underway.{AreUnderWay}
use Rattle.tn_session.specs.Widths.{most_path}
use Rattle.tn_session.proofs.StandingLemmas.{AreMovedBelow}
use Rattle.tn_session.proofs.moving.move_all.Given as goal

abbrev pub invariant-loop-t : goal.invariant-loop-t
invariant-loop-t g l = record {
  under_way : AreUnderWay (map g.V.Valuation.firm l.market.firms) l.market.trades l.rounds.graph l.rounds.finder
      l.rounds.allowed l.rounds.on;
  near : AreNear (most_path + l.t * label_step (length l.market.trades + 1)) l.rounds.finder.labels;
  below : AreMovedBelow l.wanted l.t l.rounds.allowed;
  asked : l.steps ≤ l.initial.steps + l.t * graph_worths (map g.V.Valuation.firm l.market.firms);
}
