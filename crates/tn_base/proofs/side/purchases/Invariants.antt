-- What the loops of `purchases` of `src/side.rt` keep.
use Rattle.std.proofs.Common.{◌≡◌}
use Rattle.tn_base.specs.Sets.{has, set_of}
use Rattle.tn_base.specs.Table.{buys_of}
use Rattle.tn_base.proofs.side.purchases.Given as goal

abbrev pub invariant-loop-k : goal.invariant-loop-k
invariant-loop-k l = l.buys ≡ set_of (has (buys_of l.sides)) l.k
