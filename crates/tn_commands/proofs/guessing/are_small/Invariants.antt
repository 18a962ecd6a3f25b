-- What the loops of `are_small` of `src/guessing.rt` keep.
use Rattle.std.proofs.Common.{ℕ, ℤ, ◌<◌, get_or}
use Rattle.tn_base.specs.Arcs.{IsAtMost}
use Rattle.tn_model.specs.Limits.{most_price}
use Rattle.tn_commands.proofs.guessing.are_small.Given as goal

abbrev pub invariant-loop-t : goal.invariant-loop-t
invariant-loop-t l = (k : ℕ) (missing : ℤ) → k < l.t → IsAtMost (get_or l.prices k missing) most_price
