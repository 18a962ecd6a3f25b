-- What the loops of `positions_in` of `src/market.rt` keep.
use Rattle.std.proofs.Common.{◌≡◌, get_or}
use Rattle.tn_base.specs.Sets.{has, set_of}
use Rattle.tn_market.proofs.market.positions_in.Given as goal

abbrev pub invariant-loop-k : goal.invariant-loop-k
invariant-loop-k g l = l.bundle ≡ set_of (λ k. has l.on (get_or l.own k 0)) l.k
