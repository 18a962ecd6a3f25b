-- What the loops of `sum` of `src/worth.rt` keep.
use Rattle.std.proofs.Common.{◌≡◌, ◌*◌, ◌^◌}
use Rattle.tn_base.specs.Arcs.{IsAtMost}
use Rattle.tn_base.specs.Sets.{sum_over}
use Rattle.tn_market.specs.OwnNumbers.{own_number}
use Rattle.tn_dealer.proofs.worth.sum.Given as goal

abbrev pub invariant-loop-k : goal.invariant-loop-k
invariant-loop-k l = record {
  sum : l.total ≡ sum_over (own_number l.numbers) l.k l.x;
  small : IsAtMost l.total (l.k * 2 ^ 63);
}
