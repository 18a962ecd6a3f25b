-- What the loops of `bundle_of` of `src/positions.rt` keep.
use Rattle.std.proofs.Common.{◌≡◌}
use Rattle.tn_model.specs.Network.{part}
use Rattle.tn_model.proofs.positions.bundle_of.Given as goal

abbrev pub invariant-loop-k : goal.invariant-loop-k
invariant-loop-k g l = l.bundle ≡ part l.ends l.f l.k l.on
