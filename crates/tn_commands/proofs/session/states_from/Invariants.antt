-- What the loops of `states_from` of `src/session.rt` keep.
use Rattle.std.proofs.Common.{◌+◌, ◌*◌, ◌≤◌, map, take, All}
use Rattle.tn_answer.specs.Kept.{IsWithinState}
use Rattle.tn_firm.specs.Firms.{firm_of}
use Rattle.tn_commands.specs.Session.{StandsAfter, edit_worths}
use Rattle.tn_commands.proofs.EditLemmas.{AreStatesBefore}
use Rattle.tn_commands.proofs.session.states_from.Given as goal

abbrev pub invariant-loop-k : goal.invariant-loop-k
invariant-loop-k l = record {
  before : AreStatesBefore l.market.firms l.market.trades l.edits l.k l.states.items;
  stands : StandsAfter l.market.firms l.market.trades (take l.k l.edits) l.kept l.session;
  within : All IsWithinState l.states.items;
  asked : l.steps ≤ l.initial.steps + l.k * edit_worths (map firm_of l.market.firms) l.market.trades;
}
