-- What the loops of `all_positions` of `src/ascent.rt` keep.
use Rattle.std.proofs.Common.{◌≡◌, true}
use Rattle.tn_base.specs.Sets.{set_of}
use Rattle.tn_market.proofs.ascent.all_positions.Given as goal

abbrev pub invariant-loop-k : goal.invariant-loop-k
invariant-loop-k l = l.all ≡ set_of (λ k. true) l.k
