-- What the loops of `make_each` of `src/session.rt` keep.
use Rattle.std.proofs.Common.{◌+◌, ◌*◌, ◌≤◌, map, take}
use Rattle.tn_firm.specs.Firms.{firm_of}
use Rattle.tn_market.specs.Graph.{graph_worths}
use Rattle.tn_commands.proofs.EditLemmas.{AreBelowAfter}
use Rattle.tn_commands.proofs.session.make_each.Given as goal

abbrev pub invariant-loop-t : goal.invariant-loop-t
invariant-loop-t l = record {
  below : AreBelowAfter l.market.firms l.market.trades (take l.k l.edits) l.edit l.t l.kept l.session;
  asked : l.steps ≤ l.initial.steps + l.t * graph_worths (map firm_of l.market.firms);
}
