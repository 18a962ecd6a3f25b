-- What the loops of `PathNumbers::sum_to` of `src/row.rt` keep.
use Rattle.std.proofs.Common.{◌≡◌, ◌*◌, ◌^◌}
use Rattle.tn_base.specs.Arcs.{IsAtMost}
use Rattle.tn_base.specs.Sets.{sum_over}
use Rattle.tn_dealer.specs.Paths.{own_number_to}
use Rattle.tn_dealer.proofs.row.PathNumbers.sum_to.Given as goal

abbrev pub invariant-loop-k : goal.invariant-loop-k
invariant-loop-k l = record {
  sum : l.total ≡ sum_over (own_number_to l.self.bought_rise l.buys l.path.distance l.self.near l.self.far) l.k l.x;
  small : IsAtMost l.total (l.k * 2 ^ 64);
}
