-- What the loops of `first_trades` of `src/solver.rt` keep.
use Rattle.std.proofs.Common.{◌≡◌, true}
use Rattle.tn_base.specs.Sets.{set_of}
use Rattle.tn_flow.proofs.solver.first_trades.Given as goal

abbrev pub invariant-loop-t : goal.invariant-loop-t
invariant-loop-t g l = l.first ≡ set_of (λ t. true) l.t
