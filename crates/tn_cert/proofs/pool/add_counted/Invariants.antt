-- What the loops of `add_counted` of `src/pool.rt` keep.
use Rattle.std.proofs.Common.{◌≡◌, ◌++◌, take}
use Rattle.tn_model.specs.Choices.{counted}
use Rattle.tn_cert.proofs.pool.add_counted.Given as goal

abbrev pub invariant-loop-k : goal.invariant-loop-k
invariant-loop-k l = l.pool.items ≡ l.fn.pool.items ++ counted l.times (take l.k l.contracts)
