-- What the loops of `Rounds::toggle_nodes` of `src/rounds.rt` keep.
use Rattle.std.proofs.Common.{◌≡◌, take}
use Rattle.tn_network_laws.specs.Along.{along}
use Rattle.tn_flow.proofs.rounds.Rounds.toggle_nodes.Given as goal

abbrev pub invariant-loop-k : goal.invariant-loop-k
invariant-loop-k g l = l.self ≡ record l.initial.self {
  on =
      along l.null l.initial.self.on (take l.k l.initial.self.finder.listed);
}
