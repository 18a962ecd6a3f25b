-- What the loops of `go_round` of `src/cycles.rt` keep.
use Rattle.std.proofs.Common.{map}
use Rattle.tn_cert.specs.Claims.{node_of}
use Rattle.tn_cert.proofs.RoundLemmas.{AreWalked}
use Rattle.tn_cert.proofs.cycles.go_round.Given as goal

abbrev pub invariant-loop-k : goal.invariant-loop-k
invariant-loop-k g l = AreWalked (g.C.Costs.arc l.costs) (map (node_of l.null) l.nodes) l.k l.total
